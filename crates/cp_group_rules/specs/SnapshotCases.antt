-- Cases worked out by hand: snapshots of the member's own and of another, and reads without entries.
use Rattle.std.specs.Prelude.{true, Bool, List, [], ◌∷◌, Ok, Err, if◌then◌else◌}
use Rattle.cp_answers.specs.declared.refusal.Refusal.TheVariants as refusal
use Rattle.cp_base.specs.declared.identifier.Invocation.{Invocation}
use Rattle.cp_object_ops.specs.declared.long_op.LongOp.TheVariants as long
use Rattle.cp_ops.specs.declared.op.Op.{Op}
use Rattle.cp_ops.specs.declared.op.Op.TheVariants as op
use Rattle.cp_ops.specs.Ops.{op_grammar}
use Rattle.cp_log_rules.specs.Persistent.{PersistentState}
use Rattle.cp_rules.specs.Local.{Body, Snapshot, Confirm}
use Rattle.cp_rules.specs.Persistent.{after_part}
use Rattle.cp_rules.specs.Spelling.{snapshot_bytes}
use Rattle.cp_rules.specs.Volatile.{Look, no_reads, started}
use Rattle.cp_group_rules.specs.declared.attempt.Attempt.{Attempt}
use Rattle.cp_group_rules.specs.Machines.{Machine}
use Rattle.cp_group_rules.specs.Groups.{VolatileGroup, Said, Refuses, Tells}
use Rattle.cp_group_rules.specs.Events.{Gets}
use Rattle.cp_group_rules.specs.Steps.{GroupStep, group_step}
use Rattle.cp_group_rules.specs.Worked.{counter, queue, far, near, by_rounds, three, call, tick, asks, add_entry, led, leading, holds}
use Rattle.cp_group_rules.specs.TimeCases.{one, wait_since}

-- ---- a snapshot behind two entries, and a start after it

abbrev pub stored : PersistentState
stored = led one (add_entry ∷ [])

abbrev pub writes_snapshot : GroupStep
writes_snapshot = group_step counter near 1 stored (holds (leading 2) []) (tick 2500)

abbrev pub snapped : PersistentState
snapped = after_part writes_snapshot.part stored

-- ---- a snapshot that comes, on whose machine a call waits, and one that restores no machine

abbrev pub restores : Bool → Machine (List Invocation)
restores is_good = record queue { restored = λ bytes. if is_good then Ok (call 1 ∷ []) else Err 0 }

abbrev pub chunk : Body
chunk = Snapshot 2 5 0 true (snapshot_bytes (record { term = 1; config = record { index = 0; plan = 0; members = three } }) (7 ∷ []))

abbrev pub follows : VolatileGroup
follows = record (holds (record (started 0 2000) { commit = 1 }) []) { running = wait_since 300 ∷ [] }

abbrev pub gets_snapshot : Bool → GroupStep
gets_snapshot is_good = group_step (restores is_good) far 2 (led three []) follows (Gets 1 chunk)

-- ---- reads

abbrev pub get : Op
get = op.Long (97 ∷ []) long.Get

-- Who leads alone answers at once.
abbrev pub reads_alone : GroupStep
reads_alone = group_step counter by_rounds 1 (led one []) (holds (leading 1) []) (asks 1 get)

-- Who leads three asks for a round.
abbrev pub begins_to_read : GroupStep
begins_to_read = group_step counter by_rounds 1 (led three []) (holds (leading 1) []) (asks 1 get)

abbrev pub reader : Attempt
reader = record { call = call 1; number = 1; from = 17; index = 1 }

abbrev pub look : Look
look = record { call = call 1; attempt = 1; index = 1; round = 1; op = op_grammar.spelling get }

abbrev pub reading : VolatileGroup
reading = record (holds (record (leading 1) { reads = record no_reads { round = 1; looks = look ∷ [] } }) []) { reading = reader ∷ [] }

-- member 2 confirms the round, or knows a greater term
abbrev pub hears : Body → GroupStep
hears body = group_step counter by_rounds 1 (led three []) reading (Gets 2 body)

abbrev pub rounds_asked : List Said
rounds_asked = Tells 2 (Confirm 1 1) ∷ Tells 3 (Confirm 1 1) ∷ []

abbrev pub read_lost : List Said
read_lost = Refuses 17 (call 1) 1 refusal.Lost ∷ []

-- Where reads go by entries, it is an entry.
abbrev pub reads_by_an_entry : GroupStep
reads_by_an_entry = group_step counter far 1 (led one []) (holds (leading 1) []) (asks 1 get)

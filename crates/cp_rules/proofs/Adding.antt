-- A second member is added to a group of one whose snapshot covers what it lacks, act by act.
use Rattle.std.proofs.Common.{◌≡◌, ℕ, true, false, List, [], ◌∷◌, refl, ap, ◌∙◌, Some, None}
use Rattle.cp_codec.specs.Fields.{big_endian}
use Rattle.cp_grammar.specs.Grammar.{whole}
use Rattle.cp_grammar.specs.Fields.{mark_reading, number_reading}
use Rattle.cp_grammar.specs.Lists.{items_spelling, items_reading}
use Rattle.cp_grammar.specs.Common.{index, client_id, thread_no, invocation, member_after, members}
use Rattle.cp_parts.specs.declared.log_entry.LogEntry.{LogEntry}
use Rattle.cp_parts.specs.Configs.{config_grammar, members_entry, config_in}
use Rattle.cp_parts.specs.Heads.{head_grammar, head_of}
use Rattle.cp_log_rules.specs.Persistent.{PersistentState}
use Rattle.cp_log_rules.specs.Configurations.{config_after}
use Rattle.cp_rules.specs.declared.peer.Peer.{Peer}
use Rattle.cp_rules.specs.declared.role.Role.TheVariants.{Leader}
use Rattle.cp_rules.specs.Volatile.{VolatileState, no_votes, no_reads, new_peer, started}
use Rattle.cp_rules.specs.Local.{Body, Append, AppendReply, Snapshot, SnapshotReply, Tick, Got, Propose, ChangeMembers}
use Rattle.cp_rules.specs.Worked.{Group, Mail, Act, At, Deliver, mail, group_after, configured, nothing_stored, new_group, empty, entry, call, tick, add, addition, added}
use Rattle.cp_rules.proofs.Standing.{Told, Stands, Takes, then_one, then_deliver_one, then_deliver_two}

-- ---- bytes and members as they are

-- the snapshot of index 5
abbrev bytes : List ℕ
bytes = 0 ∷ 0 ∷ 0 ∷ 0 ∷ 0 ∷ 0 ∷ 0 ∷ 1 ∷ 0 ∷ 0 ∷ 0 ∷ 0 ∷ 0 ∷ 0 ∷ 0 ∷ 0 ∷ 0 ∷ 0 ∷ 0 ∷ 0 ∷ 0 ∷ 0 ∷ 0 ∷ 0 ∷ 0 ∷ 0 ∷ 0 ∷ 1 ∷ 1 ∷ 8 ∷ 8 ∷ []

-- the entry that sets members 1 and 2
abbrev setting : LogEntry
setting = record { term = 1; bytes = 4 ∷ 0 ∷ 0 ∷ 0 ∷ 0 ∷ 0 ∷ 0 ∷ 0 ∷ 0 ∷ 0 ∷ 0 ∷ 0 ∷ 0 ∷ 2 ∷ 1 ∷ 2 ∷ [] }

abbrev grown : List LogEntry → PersistentState
grown log = record (nothing_stored (1 ∷ [])) { term = 1; vote = 1; log = log }

-- with the snapshot
abbrev compacted : ℕ → List LogEntry → PersistentState
compacted vote log = record { term = 1; vote = vote; base = 5; base_term = 1; base_config = configured 0 (1 ∷ []); snapshot = bytes; log = log }

-- what the leader keeps of the second member
abbrev peers : ℕ → ℕ → List Peer
peers next matched =
    let p = new_peer 1 in
    p ∷ p ∷ record { next = next; matched = matched; offset = 0 } ∷ p ∷ p ∷ p ∷ p ∷ p ∷ p ∷ p ∷ []

abbrev leads : ℕ → ℕ → List Peer → VolatileState
leads clock commit others = record { role = Leader; leader = 1; clock = clock; heard = 2000; beat = clock; votes = no_votes; peers = others; commit = commit; received = None; reads = no_reads }

abbrev follows : ℕ → VolatileState
follows commit = record (started 0 0) { leader = 1; commit = commit }

abbrev told : PersistentState → VolatileState → Told
told stored state = record { stored = stored; state = state }

abbrev asked : LogEntry
asked = entry 1 call

-- ---- what is sent

abbrev append : Body
append = Append 1 5 1 5 (setting ∷ [])

abbrev lacks : Body
lacks = AppendReply 1 false 0

abbrev chunk : Body
chunk = Snapshot 1 5 0 true bytes

abbrev done : Body
done = SnapshotReply 1 5 true 0

abbrev holds : Body
holds = AppendReply 1 true 6

-- ---- the members after each act

abbrev one0 : Told
one0 = told (nothing_stored (1 ∷ [])) (started 0 0)

abbrev one1 : Told
one1 = told (grown (empty 1 ∷ [])) (leads 2000 1 (peers 1 0))

abbrev one2 : Told
one2 = told (grown (empty 1 ∷ asked ∷ [])) (leads 2000 2 (peers 1 0))

abbrev one3 : Told
one3 = told (grown (empty 1 ∷ asked ∷ asked ∷ [])) (leads 2000 3 (peers 1 0))

abbrev one4 : Told
one4 = told (grown (empty 1 ∷ asked ∷ asked ∷ asked ∷ [])) (leads 2000 4 (peers 1 0))

abbrev one5 : Told
one5 = told (grown (empty 1 ∷ asked ∷ asked ∷ asked ∷ asked ∷ [])) (leads 2000 5 (peers 1 0))

abbrev one6 : Told
one6 = told (compacted 1 []) (leads 3000 5 (peers 1 0))

abbrev one7 : Told
one7 = told (compacted 1 (setting ∷ [])) (leads 3000 5 (peers 6 0))

abbrev one9 : Told
one9 = told (compacted 1 (setting ∷ [])) (leads 3000 5 (peers 1 0))

abbrev one11 : Told
one11 = told (compacted 1 (setting ∷ [])) (leads 3000 5 (peers 6 5))

abbrev one13 : Told
one13 = told (compacted 1 (setting ∷ [])) (leads 3000 6 (peers 7 6))

abbrev two0 : Told
two0 = told (nothing_stored (1 ∷ [])) (started 0 0)

abbrev two8 : Told
two8 = told (record (nothing_stored (1 ∷ [])) { term = 1 }) (follows 0)

abbrev two10 : Told
two10 = told (compacted 0 []) (follows 5)

abbrev two12 : Told
two12 = told (compacted 0 (setting ∷ [])) (follows 5)

-- ---- each step

takes1 : Takes 1 one0 (tick 2000) one1 []
unfolding big_endian whole mark_reading number_reading items_spelling items_reading index client_id thread_no invocation member_after members config_grammar members_entry config_in head_grammar head_of config_after
takes1 = record { stored = refl; state = refl; sends = refl }

takes2 : Takes 1 one1 (Propose call) one2 []
unfolding big_endian whole mark_reading number_reading items_spelling items_reading index client_id thread_no invocation member_after members config_grammar members_entry config_in head_grammar head_of config_after
takes2 = record { stored = refl; state = refl; sends = refl }

takes3 : Takes 1 one2 (Propose call) one3 []
unfolding big_endian whole mark_reading number_reading items_spelling items_reading index client_id thread_no invocation member_after members config_grammar members_entry config_in head_grammar head_of config_after
takes3 = record { stored = refl; state = refl; sends = refl }

takes4 : Takes 1 one3 (Propose call) one4 []
unfolding big_endian whole mark_reading number_reading items_spelling items_reading index client_id thread_no invocation member_after members config_grammar members_entry config_in head_grammar head_of config_after
takes4 = record { stored = refl; state = refl; sends = refl }

takes5 : Takes 1 one4 (Propose call) one5 []
unfolding big_endian whole mark_reading number_reading items_spelling items_reading index client_id thread_no invocation member_after members config_grammar members_entry config_in head_grammar head_of config_after
takes5 = record { stored = refl; state = refl; sends = refl }

takes6 : Takes 1 one5 (Tick 3000 true None (Some (8 ∷ 8 ∷ []))) one6 []
unfolding big_endian whole mark_reading number_reading items_spelling items_reading index client_id thread_no invocation member_after members config_grammar members_entry config_in head_grammar head_of config_after
takes6 = record { stored = refl; state = refl; sends = refl }

takes7 : Takes 1 one6 (ChangeMembers (add 2 0) 0 None) one7 (mail 1 2 append ∷ [])
unfolding big_endian whole mark_reading number_reading items_spelling items_reading index client_id thread_no invocation member_after members config_grammar members_entry config_in head_grammar head_of config_after
takes7 = record { stored = refl; state = refl; sends = refl }

takes8 : Takes 2 two0 (Got 1 append) two8 (mail 2 1 lacks ∷ [])
unfolding big_endian whole mark_reading number_reading items_spelling items_reading index client_id thread_no invocation member_after members config_grammar members_entry config_in head_grammar head_of config_after
takes8 = record { stored = refl; state = refl; sends = refl }

takes9 : Takes 1 one7 (Got 2 lacks) one9 (mail 1 2 chunk ∷ [])
unfolding big_endian whole mark_reading number_reading items_spelling items_reading index client_id thread_no invocation member_after members config_grammar members_entry config_in head_grammar head_of config_after
takes9 = record { stored = refl; state = refl; sends = refl }

takes10 : Takes 2 two8 (Got 1 chunk) two10 (mail 2 1 done ∷ [])
unfolding big_endian whole mark_reading number_reading items_spelling items_reading index client_id thread_no invocation member_after members config_grammar members_entry config_in head_grammar head_of config_after
takes10 = record { stored = refl; state = refl; sends = refl }

takes11 : Takes 1 one9 (Got 2 done) one11 (mail 1 2 append ∷ [])
unfolding big_endian whole mark_reading number_reading items_spelling items_reading index client_id thread_no invocation member_after members config_grammar members_entry config_in head_grammar head_of config_after
takes11 = record { stored = refl; state = refl; sends = refl }

takes12 : Takes 2 two10 (Got 1 append) two12 (mail 2 1 holds ∷ [])
unfolding big_endian whole mark_reading number_reading items_spelling items_reading index client_id thread_no invocation member_after members config_grammar members_entry config_in head_grammar head_of config_after
takes12 = record { stored = refl; state = refl; sends = refl }

takes13 : Takes 1 one11 (Got 2 holds) one13 []
unfolding big_endian whole mark_reading number_reading items_spelling items_reading index client_id thread_no invocation member_after members config_grammar members_entry config_in head_grammar head_of config_after
takes13 = record { stored = refl; state = refl; sends = refl }

-- ---- one after another

abbrev sent0 : List Mail
sent0 = []

abbrev sent1 : List Mail
sent1 = mail 1 2 append ∷ []

abbrev sent2 : List Mail
sent2 = mail 1 2 append ∷ mail 2 1 lacks ∷ []

abbrev sent3 : List Mail
sent3 = mail 1 2 append ∷ mail 2 1 lacks ∷ mail 1 2 chunk ∷ []

abbrev sent4 : List Mail
sent4 = mail 1 2 append ∷ mail 2 1 lacks ∷ mail 1 2 chunk ∷ mail 2 1 done ∷ []

abbrev sent5 : List Mail
sent5 = mail 1 2 append ∷ mail 2 1 lacks ∷ mail 1 2 chunk ∷ mail 2 1 done ∷ mail 1 2 append ∷ []

abbrev sent6 : List Mail
sent6 = mail 1 2 append ∷ mail 2 1 lacks ∷ mail 1 2 chunk ∷ mail 2 1 done ∷ mail 1 2 append ∷ mail 2 1 holds ∷ []

abbrev from13 : List Act
from13 = []

abbrev from12 : List Act
from12 = Deliver 6 ∷ from13

abbrev from11 : List Act
from11 = Deliver 5 ∷ from12

abbrev from10 : List Act
from10 = Deliver 4 ∷ from11

abbrev from9 : List Act
from9 = Deliver 3 ∷ from10

abbrev from8 : List Act
from8 = Deliver 2 ∷ from9

abbrev from7 : List Act
from7 = Deliver 1 ∷ from8

abbrev from6 : List Act
from6 = At 1 (ChangeMembers (add 2 0) 0 None) ∷ from7

abbrev from5 : List Act
from5 = At 1 (Tick 3000 true None (Some (8 ∷ 8 ∷ []))) ∷ from6

abbrev from4 : List Act
from4 = At 1 (Propose call) ∷ from5

abbrev from3 : List Act
from3 = At 1 (Propose call) ∷ from4

abbrev from2 : List Act
from2 = At 1 (Propose call) ∷ from3

abbrev from1 : List Act
from1 = At 1 (Propose call) ∷ from2

abbrev from0 : List Act
from0 = At 1 (tick 2000) ∷ from1

pub record Ends (g : Group) : Type 0 where
  pub messages : g.sent ≡ addition
  pub leader : (g.seats 1).state.commit ≡ 6
  pub member : (g.seats 2).stored.base ≡ 5

spelled : sent6 ≡ addition
unfolding big_endian whole mark_reading number_reading items_spelling items_reading index client_id thread_no invocation member_after members config_grammar members_entry config_in head_grammar head_of config_after
spelled = refl

ends13 : (g : Group) → Stands g one13 two12 sent6 → Ends (group_after g from13)
ends13 g h = record { messages = h.sent_is ∙ spelled; leader = ap (λ (v : VolatileState). v.commit) h.state_one; member = ap (λ (p : PersistentState). p.base) h.stored_two }

ends12 : (g : Group) → Stands g one11 two12 sent6 → Ends (group_after g from12)
ends12 g h = then_deliver_one Ends from13 g one11 two12 sent6 h 6 2 holds one13 [] refl takes13 ends13

ends11 : (g : Group) → Stands g one11 two10 sent5 → Ends (group_after g from11)
ends11 g h = then_deliver_two Ends from12 g one11 two10 sent5 h 5 1 append two12 (mail 2 1 holds ∷ []) refl takes12 ends12

ends10 : (g : Group) → Stands g one9 two10 sent4 → Ends (group_after g from10)
ends10 g h = then_deliver_one Ends from11 g one9 two10 sent4 h 4 2 done one11 (mail 1 2 append ∷ []) refl takes11 ends11

ends9 : (g : Group) → Stands g one9 two8 sent3 → Ends (group_after g from9)
ends9 g h = then_deliver_two Ends from10 g one9 two8 sent3 h 3 1 chunk two10 (mail 2 1 done ∷ []) refl takes10 ends10

ends8 : (g : Group) → Stands g one7 two8 sent2 → Ends (group_after g from8)
ends8 g h = then_deliver_one Ends from9 g one7 two8 sent2 h 2 2 lacks one9 (mail 1 2 chunk ∷ []) refl takes9 ends9

ends7 : (g : Group) → Stands g one7 two0 sent1 → Ends (group_after g from7)
ends7 g h = then_deliver_two Ends from8 g one7 two0 sent1 h 1 1 append two8 (mail 2 1 lacks ∷ []) refl takes8 ends8

ends6 : (g : Group) → Stands g one6 two0 sent0 → Ends (group_after g from6)
ends6 g h = then_one Ends from7 g one6 two0 sent0 h (ChangeMembers (add 2 0) 0 None) one7 (mail 1 2 append ∷ []) takes7 ends7

ends5 : (g : Group) → Stands g one5 two0 sent0 → Ends (group_after g from5)
ends5 g h = then_one Ends from6 g one5 two0 sent0 h (Tick 3000 true None (Some (8 ∷ 8 ∷ []))) one6 [] takes6 ends6

ends4 : (g : Group) → Stands g one4 two0 sent0 → Ends (group_after g from4)
ends4 g h = then_one Ends from5 g one4 two0 sent0 h (Propose call) one5 [] takes5 ends5

ends3 : (g : Group) → Stands g one3 two0 sent0 → Ends (group_after g from3)
ends3 g h = then_one Ends from4 g one3 two0 sent0 h (Propose call) one4 [] takes4 ends4

ends2 : (g : Group) → Stands g one2 two0 sent0 → Ends (group_after g from2)
ends2 g h = then_one Ends from3 g one2 two0 sent0 h (Propose call) one3 [] takes3 ends3

ends1 : (g : Group) → Stands g one1 two0 sent0 → Ends (group_after g from1)
ends1 g h = then_one Ends from2 g one1 two0 sent0 h (Propose call) one2 [] takes2 ends2

ends0 : (g : Group) → Stands g one0 two0 sent0 → Ends (group_after g from0)
ends0 g h = then_one Ends from1 g one0 two0 sent0 h (tick 2000) one1 [] takes1 ends1

-- the group before the first act
begins : Stands (new_group (1 ∷ [])) one0 two0 sent0
begins = record { stored_one = refl; state_one = refl; stored_two = refl; state_two = refl; sent_is = refl }

pub ends : Ends added
ends = ends0 (new_group (1 ∷ [])) begins

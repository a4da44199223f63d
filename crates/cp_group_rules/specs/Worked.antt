-- Small machines, and groups that start with nothing: for steps that are worked out by hand.
use Rattle.std.specs.Prelude.{ℕ, suc, pos, ◌-◌, if◌then◌else◌, true, false, List, [], ◌∷◌, ◌++◌, map, Option, Some, None, Result, Ok, Err, slice_get}
use Rattle.std.specs.List.{list_any}
use Rattle.cp_base.specs.Identifiers.{replay_id}
use Rattle.cp_base.specs.declared.identifier.Invocation.{Invocation}
use Rattle.cp_agreement_facts.specs.Clusters.{put}
use Rattle.cp_answers.specs.declared.answer.Answer.{Answer}
use Rattle.cp_answers.specs.declared.answer.Answer.TheVariants as answer
use Rattle.cp_grammar.specs.Grammar.{whole}
use Rattle.cp_machine.specs.Machines.{Stepped}
use Rattle.cp_machine.specs.declared.timer.Timed.TheVariants as timed
use Rattle.cp_object_ops.specs.declared.long_op.LongOp.TheVariants as long
use Rattle.cp_ops.specs.declared.entry.Entry.{Entry}
use Rattle.cp_ops.specs.declared.entry.Entry.TheVariants as entry
use Rattle.cp_ops.specs.declared.op.Op.{Op}
use Rattle.cp_ops.specs.declared.op.Op.TheVariants as op
use Rattle.cp_ops.specs.declared.session_op.SessionOp.TheVariants as session
use Rattle.cp_ops.specs.Entries.{entry_grammar}
use Rattle.cp_parts.specs.declared.log_entry.LogEntry.{LogEntry}
use Rattle.cp_log_rules.specs.Persistent.{PersistentState, new_group}
use Rattle.cp_rules.specs.declared.log_end.LogEnd.{LogEnd}
use Rattle.cp_rules.specs.declared.role.Role.TheVariants.{Leader}
use Rattle.cp_rules.specs.Persistent.{after_part}
use Rattle.cp_rules.specs.Spelling.{empty_entry}
use Rattle.cp_rules.specs.Volatile.{VolatileState, started}
use Rattle.cp_group_rules.specs.declared.attempt.Attempt.{Attempt}
use Rattle.cp_group_rules.specs.Machines.{Machine}
use Rattle.cp_group_rules.specs.Times.{same_call}
use Rattle.cp_group_rules.specs.Groups.{VolatileGroup, Said, Replies, Tells, begun}
use Rattle.cp_group_rules.specs.Events.{Event, Ticks, Gets, Asks, Settings, entry_bytes}
use Rattle.cp_group_rules.specs.Steps.{GroupStep, group_step}

-- ---- a machine that counts

abbrev pub counts : ℕ → Result Entry ℕ → Stepped ℕ
counts n (Ok (entry.Call call o)) = record { view = suc n; answers = (call, answer.Value (pos (suc n))) ∷ [] }
counts n other = record { view = n; answers = [] }

abbrev pub count_in : List ℕ → Result ℕ ℕ
count_in (n ∷ []) = Ok n
count_in other = Err 0

-- Each call counts one more, and is answered how many they are by then.
abbrev pub counter : Machine ℕ
counter = record {
  first = 0;
  step = λ n index bytes. counts n (whole entry_grammar bytes);
  timers = λ n. [];
  written = λ n. n ∷ [];
  restored = count_in;
  looked = λ n bytes. Some (answer.Value (pos n));
}

-- ---- a machine on which calls wait

abbrev pub waits_on : List Invocation → Result Entry ℕ → Stepped (List Invocation)
waits_on calls (Ok (entry.Call call o)) = record { view = if list_any (same_call call) calls then calls else calls ++ call ∷ []; answers = [] }
waits_on calls (Ok (entry.WaitsExpired over)) = record { view = []; answers = map (λ call. (call, answer.TimedOut)) over }
waits_on calls other = record { view = calls; answers = [] }

-- Each call waits for 500 ms; an expiry answers those that it names, and no call waits on.
abbrev pub queue : Machine (List Invocation)
queue = record {
  first = [];
  step = λ calls index bytes. waits_on calls (whole entry_grammar bytes);
  timers = λ calls. map (λ call. record { what = timed.Wait call; after = 500 }) calls;
  written = λ calls. [];
  restored = λ bytes. Ok [];
  looked = λ calls bytes. None;
}

-- ---- a machine with sessions

abbrev pub goes_by_sessions : ℕ → List (ℕ × ℕ) → Result Entry ℕ → Stepped (List (ℕ × ℕ))
goes_by_sessions index sessions (Ok (entry.Call call (op.Session session.Open))) = record { view = sessions ++ (index, 0) ∷ []; answers = (call, answer.Session index) ∷ [] }
goes_by_sessions index sessions (Ok (entry.SessionsExpired pairs)) = record { view = []; answers = [] }
goes_by_sessions index sessions other = record { view = sessions; answers = [] }

-- A session has the index of its entry as its number, and lasts for 300,000 ms; an expiry ends all.
abbrev pub registry : Machine (List (ℕ × ℕ))
registry = record {
  first = [];
  step = λ sessions index bytes. goes_by_sessions index sessions (whole entry_grammar bytes);
  timers = λ sessions. map (λ s. record { what = timed.Session s.0 s.1; after = 300000 }) sessions;
  written = λ sessions. [];
  restored = λ bytes. Ok [];
  looked = λ sessions bytes. None;
}

-- ---- a group, and all that is said

pub record Seat : Type 0 where
  pub stored : PersistentState
  pub group : VolatileGroup

pub record Letter : Type 0 where
  pub from : ℕ
  pub said : Said

pub record Cluster : Type 0 where
  pub seats : ℕ → Seat
  pub sent : List Letter

-- an event at a member; the delivery of the n-th letter, counted from 1
pub data Act : Type 0 where
  At : (member : ℕ) (event : Event) → Act
  Deliver : (number : ℕ) → Act

abbrev pub letter : ℕ → Said → Letter
letter from said = record { from = from; said = said }

abbrev pub seat_after : Seat → GroupStep → Seat
seat_after x s = record { stored = after_part s.part x.stored; group = s.group }

abbrev pub with_step : Cluster → ℕ → GroupStep → Cluster
with_step c me s = record { seats = put c.seats me (seat_after (c.seats me) s); sent = c.sent ++ map (letter me) (s.replies ++ s.sends) }

module _ {V : Type 0} (m : Machine V) (settings : Settings) where
  abbrev pub with_event : Cluster → ℕ → Event → Cluster
  with_event c me event = with_step c me (group_step m settings me (c.seats me).stored (c.seats me).group event)

  abbrev pub with_said : Cluster → ℕ → Said → Cluster
  with_said c from (Tells to body) = with_event c to (Gets from body)
  with_said c from other = c

  abbrev pub with_delivery : Cluster → Option Letter → Cluster
  with_delivery c None = c
  with_delivery c (Some x) = with_said c x.from x.said

  abbrev pub with_act : Cluster → Act → Cluster
  with_act c (At member event) = with_event c member event
  with_act c (Deliver number) = with_delivery c (slice_get c.sent (number - 1))

  abbrev pub after_acts : Cluster → List Act → Cluster
  after_acts c [] = c
  after_acts c (act ∷ acts) = after_acts (with_act c act) acts

  abbrev pub seated : PersistentState → Seat
  seated p = record { stored = p; group = begun m p 0 }

  abbrev pub first_cluster : List ℕ → Cluster
  first_cluster members = record { seats = λ x. seated (new_group members); sent = [] }

-- ---- words

abbrev pub far : Settings
far = record { distance = 1000; rounds = false }

abbrev pub near : Settings
near = record { distance = 2; rounds = false }

abbrev pub by_rounds : Settings
by_rounds = record { distance = 1000; rounds = true }

abbrev pub three : List ℕ
three = 1 ∷ 2 ∷ 3 ∷ []

-- the call of this number of thread 1 of client 1, whose address is 17
abbrev pub call : ℕ → Invocation
call number = record { client = replay_id (record { 0 = 1 }); thread = record { 0 = 1 }; number = number }

abbrev pub add : Op
add = op.Long (97 ∷ []) (long.Add (pos 1))

abbrev pub tick : ℕ → Event
tick clock = Ticks clock true

-- It comes as the attempt of the same number.
abbrev pub asks : ℕ → Op → Event
asks number o = Asks 17 (call number) number o

abbrev pub replied : ℕ → Answer → Said
replied attempt a = Replies 17 (call 1) attempt a

abbrev pub end_at : ℕ → ℕ → LogEnd
end_at index term = record { term = term; index = index }

abbrev pub empty_at : ℕ → LogEntry
empty_at term = record { term = term; bytes = empty_entry }

abbrev pub entry_at : ℕ → Entry → LogEntry
entry_at term e = record { term = term; bytes = entry_bytes e }

abbrev pub add_entry : LogEntry
add_entry = entry_at 1 (entry.Call (call 1) add)

-- ---- a leader that is written out

-- what a leader in term 1 has stored, whose first entry is its empty one
abbrev pub led : List ℕ → List LogEntry → PersistentState
led members entries = record (new_group members) { term = 1; vote = 1; log = empty_at 1 ∷ entries }

-- at 2,000 ms, with this commit
abbrev pub leading : ℕ → VolatileState
leading commit = record (started 0 2000) { role = Leader; leader = 1; beat = 2000; commit = commit }

abbrev pub holds : VolatileState → List Attempt → VolatileGroup
holds v pending = record { raft = v; pending = pending; reading = []; running = [] }

-- an attempt of the first call
abbrev pub attempt : ℕ → ℕ → Attempt
attempt number index = record { call = call 1; number = number; from = 17; index = index }

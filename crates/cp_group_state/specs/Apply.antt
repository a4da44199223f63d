-- What one entry does: the one-thread machine.
use Rattle.std.specs.Prelude.{ℕ, ◌+◌, Bool, true, false, ◌&&◌, ◌==◌, List, [], ◌∷◌, ◌++◌, length, map, Option, Some, None, if◌then◌else◌, nat_lt}
use Rattle.cp_op_values.specs.declared.kind.Kind.TheVariants as kind
use Rattle.cp_base.specs.declared.identifier.GroupId.{GroupId}
use Rattle.cp_base.specs.declared.identifier.Invocation.{Invocation}
use Rattle.cp_answers.specs.declared.answer.Answer.{Answer}
use Rattle.cp_answers.specs.declared.answer.Answer.TheVariants as answer
use Rattle.cp_ops.specs.declared.op.Op.{Op}
use Rattle.cp_ops.specs.declared.op.Op.TheVariants as op
use Rattle.cp_ops.specs.declared.entry.Entry.{Entry}
use Rattle.cp_ops.specs.declared.entry.Entry.TheVariants as entry
use Rattle.cp_group_state.specs.Rows.{find, most, holder_cmp}
use Rattle.cp_group_state.specs.Waiters.{Waiter, Ended, same_client, same_call, stands}
use Rattle.cp_group_state.specs.Memory.{MemoryRow, remember}
use Rattle.cp_group_state.specs.Sessions.{is_open_for, unchanged_since}
use Rattle.cp_group_state.specs.Atomics.{long_step, ref_step}
use Rattle.cp_group_state.specs.Maps.{map_step}
use Rattle.cp_group_state.specs.GroupState.{GroupState}
use Rattle.cp_group_state.specs.Changes.{Change, stay, for_each, end_all}
use Rattle.cp_group_state.specs.Serving.{serve_left, serve_each_left}
use Rattle.cp_group_state.specs.Closing.{close}
use Rattle.cp_group_state.specs.Outcomes.{Reply, Outcome, answered, Answered, Waits}
use Rattle.cp_group_state.specs.Destroying.{destroy_rule, object_of, names_gone}
use Rattle.cp_group_state.specs.LockRules.{lock_rule}
use Rattle.cp_group_state.specs.SemaphoreRules.{sem_rule}
use Rattle.cp_group_state.specs.LatchRules.{latch_rule}
use Rattle.cp_group_state.specs.SessionRules.{session_rule}
use Rattle.cp_group_state.specs.ValueRules.{on_longs, on_refs, on_maps}
use Rattle.cp_group_state.specs.Protected.{session_in}

-- the rule of each operation; those on groups and members never come here
abbrev pub rule : ℕ → Invocation → Op → GroupState → Outcome
rule index call (op.Long name o) s = on_longs (long_step s.longs name o) s
rule index call (op.Ref name o) s = on_refs (ref_step s.refs name o) s
rule index call (op.Map name o) s = on_maps (map_step s.maps name o) s
rule index call (op.Lock name o) s = lock_rule index call name o s
rule index call (op.Sem name o) s = sem_rule call (name, kind.Sem) o s
rule index call (op.Jsem name o) s = sem_rule call (name, kind.Jsem) o s
rule index call (op.Latch name o) s = latch_rule call name o s
rule index call (op.Session o) s = session_rule index call o s
rule index call (op.Destroy which name) s = destroy_rule which name s
rule index call (op.Group o) s = answered answer.Ok s
rule index call (op.Member o) s = answered answer.Ok s
rule index call (op.Change o) s = answered answer.Ok s

-- an operation on a destroyed object does nothing else than to say so
abbrev pub outcome : ℕ → Invocation → Op → GroupState → Outcome
outcome index call o s = if names_gone s (object_of o) then answered answer.ObjectDestroyed s else rule index call o s

-- the state after an entry, and the answers that it gives
pub record Applied : Type 0 where
  pub state : GroupState
  pub answers : List (Invocation × Answer)

abbrev pub told : List Ended → List (Invocation × Answer)
told ended = map (λ e. (e.waiter.call, e.answer)) ended

-- the answers of a change come before those of what follows
abbrev pub after_change : Change → (GroupState → Applied) → Applied
after_change c f = record { state = (f c.state).state; answers = told c.ended ++ (f c.state).answers }

-- a call that names a session is remembered by its thread's row
abbrev pub remembered : Option ℕ → Invocation → Option Answer → GroupState → GroupState
remembered None call answer s = s
remembered (Some session) call answer s = record s { memory = remember s.memory session call.thread call.number answer }

-- the own answer of a call comes before those of the waits that it ended
abbrev pub settle_answer : Option ℕ → Invocation → Answer → Change → Applied
settle_answer session call a c = record { state = remembered session call (Some a) c.state; answers = (call, a) ∷ told c.ended }

abbrev pub join : Waiter → GroupState → GroupState
join w s = record s { waiters = s.waiters ++ w ∷ [] }

-- A call waits behind the others, where there is room. One that waits already stays where it stands, and is not answered.
abbrev pub settle_wait : Option ℕ → Invocation → Waiter → GroupState → Applied
settle_wait session call w s = if stands call s.waiters
    then record { state = s; answers = [] }
    else if nat_lt (length s.waiters) most
    then record { state = remembered session call None (join w s); answers = [] }
    else settle_answer session call (answer.TableFull most) (stay s)

abbrev pub settle : Option ℕ → Invocation → Reply → Change → Applied
settle session call (Answered a) c = settle_answer session call a c
settle session call (Waits w) c = after_change c (settle_wait session call w)

-- what a call does that is neither repeated nor late
abbrev pub perform : ℕ → Invocation → Op → GroupState → Applied
perform index call o s = let result = outcome index call o s in settle (session_in o) call result.reply result.change

abbrev pub give_again : Invocation → Option Answer → List (Invocation × Answer)
give_again call None = []
give_again call (Some a) = (call, a) ∷ []

-- The last call of the thread is answered as before, or still waits; an older one is late.
abbrev pub by_memory : ℕ → Invocation → Op → Option MemoryRow → GroupState → Applied
by_memory index call o None s = perform index call o s
by_memory index call o (Some row) s = if row.number == call.number
    then record { state = s; answers = give_again call row.answer }
    else if nat_lt call.number row.number
    then record { state = s; answers = (call, answer.Stale row.number) ∷ [] }
    else perform index call o s

-- a session that is named must be open, and the caller's
abbrev pub by_session : ℕ → Invocation → Op → Option ℕ → GroupState → Applied
by_session index call o None s = perform index call o s
by_session index call o (Some session) s = if is_open_for s.sessions session call.client
    then by_memory index call o (find holder_cmp s.memory (session, call.thread.0)) s
    else record { state = s; answers = (call, answer.SessionExpired session) ∷ [] }

abbrev pub is_older : Invocation → Waiter → Bool
is_older call w = same_client call.client w.call.client && ((call.thread.0 == w.call.thread.0) && nat_lt w.call.number call.number)

-- the older waits of the caller's thread end
abbrev pub supersede : Invocation → GroupState → Change
supersede call s = serve_each_left (end_all (is_older call) (λ w. answer.WaitCancelled call.number) s)

-- what is asked of other groups does nothing here
abbrev pub is_elsewhere : Op → Bool
is_elsewhere (op.Group _) = true
is_elsewhere (op.Member _) = true
is_elsewhere (op.Change _) = true
is_elsewhere o = false

abbrev pub apply_call : ℕ → Invocation → Op → GroupState → Applied
apply_call index call o s = if s.destroyed_group.0 == 0
    then after_change (supersede call s) (by_session index call o (session_in o))
    else record { state = s; answers = (call, answer.GroupDestroyed s.destroyed_group) ∷ [] }

abbrev pub changed : Change → Applied
changed c = record { state = c.state; answers = told c.ended }

abbrev pub time_out : Invocation → GroupState → Change
time_out call s = end_all (λ w. same_call call w.call) (λ w. answer.TimedOut) s

-- a group that is destroyed stays so, under its first number
abbrev pub destroy_group : GroupId → GroupState → Change
destroy_group group s =
    end_all (λ w. true) (λ w. answer.GroupDestroyed group)
    (record s { destroyed_group = if s.destroyed_group.0 == 0 then group else s.destroyed_group })

abbrev pub members_answer : Option Invocation → List (Invocation × Answer)
members_answer None = []
members_answer (Some call) = (call, answer.Ok) ∷ []

-- What the entry at this index does.
abbrev pub apply : ℕ → Entry → GroupState → Applied
apply index entry.Empty s = record { state = s; answers = [] }
apply index (entry.Call call o) s = if is_elsewhere o then record { state = s; answers = [] } else apply_call index call o s
apply index (entry.SessionsExpired pairs) s = changed (close index (unchanged_since s.sessions pairs) s)
apply index (entry.WaitsExpired calls) s = changed (serve_left (for_each time_out calls s))
apply index (entry.Members call plan members) s = record { state = s; answers = members_answer call }
apply index (entry.Destroy group) s = changed (destroy_group group s)
apply index (entry.Destroyed group) s = record { state = s; answers = [] }
apply index (entry.Moved group at members) s = record { state = s; answers = [] }
apply index (entry.Left member) s = record { state = s; answers = [] }

-- what the entries from this index on do
abbrev pub run : ℕ → List Entry → GroupState → List Applied
run index [] s = []
run index (e ∷ es) s = apply index e s ∷ run (index + 1) es (apply index e s).state

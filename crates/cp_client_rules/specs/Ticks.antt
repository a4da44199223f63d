-- The clock of a client moves.
use Rattle.cp_base.specs.declared.limits.TheConstants.{LAST_NUMBER}
use Rattle.std.specs.Prelude.{ℕ, ◌+◌, ◌-◌, Bool, false, not, ◌&&◌, List, [], ◌∷◌, Option, Some, None, if◌then◌else◌, nat_lt}
use Rattle.std.specs.Ordering.{nat_cmp}
use Rattle.cp_base.specs.declared.identifier.ClientId.{ClientId}
use Rattle.cp_base.specs.declared.identifier.ThreadNo.{ThreadNo}
use Rattle.cp_answers.specs.declared.answer.Answer.TheVariants as answer
use Rattle.cp_answers.specs.declared.ended_by.EndedBy.TheVariants as ended_by
use Rattle.cp_ops.specs.declared.op.Op.TheVariants as op
use Rattle.cp_ops.specs.declared.session_op.SessionOp.TheVariants as session
use Rattle.cp_group_state.specs.Rows.{put}
use Rattle.cp_client_rules.specs.declared.rows.Purpose.TheVariants as purpose
use Rattle.cp_client_rules.specs.declared.rows.Task.TheVariants as task
use Rattle.cp_client_rules.specs.Clients.{Client, Did, Sessions, OwnSession, Pending, answers, and_then, ask, idle, nothing, thread_at}

abbrev pub is_past : ℕ → Option ℕ → Bool
is_past clock None = false
is_past clock (Some deadline) = not (nat_lt clock deadline)

abbrev pub is_late : ℕ → Option Pending → Bool
is_late clock None = false
is_late clock (Some now) = is_past clock now.deadline

-- a call whose deadline is reached returns, and nobody knows whether it took effect
abbrev pub end_late : ThreadNo → Client → Did
end_late t c = if is_late c.clock (thread_at c t).pending
    then record (nothing (idle t c)) { returns = answers t (thread_at c t).number (answer.Indeterminate ended_by.Deadline) }
    else nothing c

abbrev pub end_each : List ThreadNo → Client → Did
end_each [] c = nothing c
end_each (t ∷ threads) c = and_then (end_late t c) (end_each threads)

-- the threads that users have
abbrev pub user_thread : ℕ → ThreadNo
user_thread n = record { 0 = n }

abbrev pub user_threads : List ThreadNo
user_threads = user_thread 1 ∷ user_thread 2 ∷ user_thread 3 ∷ user_thread 4 ∷ user_thread 5 ∷ user_thread 6 ∷ user_thread 7 ∷ user_thread 8 ∷ []

-- the client's own thread, which sends beats
abbrev pub own_thread : ThreadNo
own_thread = record { 0 = 0 }

-- how long a session goes without a beat
abbrev pub beat_after : ℕ
beat_after = 5000

-- A beat is due where the last one, or the opening, is that long ago. Numbers of requests end at 2 ^ 62.
abbrev pub is_due : OwnSession → Client → Bool
is_due own c = not (nat_lt (c.clock - own.beat) beat_after) && nat_lt (thread_at c own_thread).number LAST_NUMBER

module _ (me : ClientId) where
  -- the beat of the session of a group
  abbrev pub beat : ℕ → OwnSession → Client → Did
  beat g own c = ask me own_thread (record { group = record { 0 = g }; task = task.Beats own.id; purpose = purpose.ForItself own.id; deadline = None }) (op.Session (session.Beat own.id))
      (record c { sessions = put nat_cmp c.sessions g (record { id = own.id; beat = c.clock }) })

  abbrev pub beat_if_due : ℕ → OwnSession → Client → Did
  beat_if_due g own c = if is_due own c then beat g own c else nothing c

  abbrev pub beat_each : Sessions → Client → Did
  beat_each [] c = nothing c
  beat_each (row ∷ sessions) c = and_then (beat_if_due row.0 row.1 c) (beat_each sessions)

  abbrev pub beats : Client → Did
  beats c = beat_each c.sessions c

  -- First calls end at their deadlines, thread by thread. Then the beats that are due are asked, by group.
  abbrev pub tick_client : ℕ → Client → Did
  tick_client ms c = and_then (end_each user_threads (record c { clock = c.clock + ms })) beats

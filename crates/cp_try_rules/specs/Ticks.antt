-- The clock of a client moves: calls end at their deadlines, and beats are due.
use Rattle.cp_base.specs.declared.limits.TheConstants.{LAST_NUMBER}
use Rattle.std.specs.Prelude.{ℕ, ◌+◌, ◌-◌, Bool, false, not, ◌&&◌, List, [], ◌∷◌, Option, Some, None, if◌then◌else◌, nat_lt}
use Rattle.std.specs.Ordering.{nat_cmp}
use Rattle.cp_base.specs.declared.identifier.ClientId.{ClientId}
use Rattle.cp_base.specs.declared.identifier.ThreadNo.{ThreadNo}
use Rattle.cp_answers.specs.declared.ended_by.EndedBy.TheVariants as ended_by
use Rattle.cp_ops.specs.declared.op.Op.TheVariants as op
use Rattle.cp_ops.specs.declared.session_op.SessionOp.TheVariants as session
use Rattle.cp_group_state.specs.Rows.{put}
use Rattle.cp_client_rules.specs.declared.rows.Task.TheVariants as task
use Rattle.cp_client_rules.specs.Ticks.{beat_after, is_past}
pub use Rattle.cp_client_rules.specs.Ticks.{own_thread, user_thread, user_threads}
use Rattle.cp_try_rules.specs.declared.rows.Purpose.TheVariants as purpose
use Rattle.cp_try_rules.specs.Clients.{Client, Did, Sessions, OwnSession, Pending, and_then, ask, nothing, thread_at}
use Rattle.cp_try_rules.specs.Groups.{group_number}
use Rattle.cp_try_rules.specs.Answers.{end_unknown}

abbrev pub is_late : ℕ → Option Pending → Bool
is_late clock None = false
is_late clock (Some now) = is_past clock now.deadline

-- a call whose deadline is reached returns
abbrev pub end_late : ThreadNo → Client → Did
end_late t c = if is_late c.clock (thread_at c t).pending then end_unknown t ended_by.Deadline c else nothing c

abbrev pub end_each : List ThreadNo → Client → Did
end_each [] c = nothing c
end_each (t ∷ threads) c = and_then (end_late t c) (end_each threads)

-- the clock moves, and calls end at their deadlines, thread by thread
abbrev pub late_calls : ℕ → Client → Did
late_calls ms c = end_each user_threads (record c { clock = c.clock + ms })

-- A beat is due where the last one, or the opening, is that long ago, and the thread's number has not come to its end.
abbrev pub is_due : OwnSession → Client → Bool
is_due own c = not (nat_lt (c.clock - own.beat) beat_after) && nat_lt (thread_at c own_thread).number LAST_NUMBER

abbrev pub beat_of : ℕ → OwnSession → Pending
beat_of g own = record { group = group_number g; op = op.Session (session.Beat own.id); task = task.Beats own.id; purpose = purpose.ForItself own.id; deadline = None }

-- the session's last beat is now
abbrev pub beaten : ℕ → OwnSession → Client → Client
beaten g own c = record c { sessions = put nat_cmp c.sessions g (record { id = own.id; beat = c.clock }) }

module _ (me : ClientId) where
  -- the beat of the session of a group
  abbrev pub beat : ℕ → OwnSession → Client → Did
  beat g own c = ask me own_thread (beat_of g own) (beaten g own c)

  abbrev pub beat_if_due : ℕ → OwnSession → Client → Did
  beat_if_due g own c = if is_due own c then beat g own c else nothing c

  abbrev pub beat_each : Sessions → Client → Did
  beat_each [] c = nothing c
  beat_each (row ∷ sessions) c = and_then (beat_if_due row.0 row.1 c) (beat_each sessions)

  abbrev pub beats : Client → Did
  beats c = beat_each c.sessions c

  -- First calls end at their deadlines, thread by thread. Then the beats that are due are asked, by group.
  abbrev pub tick_client : ℕ → Client → Did
  tick_client ms c = and_then (late_calls ms c) beats

-- What holds of every schedule without members.
use Rattle.std.specs.Prelude.{◌≡◌, ◌≤◌, ◌+◌, ◌*◌, ◌^◌, ℕ, Bool, true, false, List, [], length, Some}
use Rattle.cp_base.specs.declared.identifier.ClientNo.{ClientNo}
use Rattle.cp_base.specs.declared.identifier.Invocation.{Invocation}
use Rattle.cp_base.specs.declared.identifier.ThreadNo.{ThreadNo}
use Rattle.cp_answers.specs.declared.answer.Answer.{Answer}
use Rattle.cp_events.specs.declared.event.Event.{Event}
use Rattle.cp_events.specs.declared.plan.Plan.{Plan}
use Rattle.cp_events.specs.declared.schedule.Schedule.{Schedule}
use Rattle.cp_client_rules.specs.declared.rows.Pending.{Pending}
use Rattle.cp_client_rules.specs.declared.rows.Purpose.{Purpose}
use Rattle.cp_client_rules.specs.declared.rows.Purpose.TheVariants as purpose
use Rattle.cp_client_rules.specs.Clients.{thread_at}
use Rattle.cp_world_rules.specs.World.{World, begin, client_at, hand_on, new_world, world_after}
use Rattle.cp_world_rules.specs.Bounds.{AllWithin}
use Rattle.cp_world_rules.specs.Execution.{IsAllowed, Outcomes, events_of, execution_of}
use Rattle.cp_world_rules.specs.Headline.{Headline}

abbrev pub HeadlineHolds : Type 0
HeadlineHolds = (s : Schedule) (outcomes : Outcomes) → IsAllowed s outcomes → length (events_of s.lines) ≤ 2 ^ 61 → Headline s.plan s.lines (execution_of s outcomes)

-- the request is for the task itself
abbrev pub is_for_itself : Purpose → Bool
is_for_itself purpose.ForSession = false
is_for_itself purpose.ForRound = false
is_for_itself (purpose.ForItself s) = true

-- Nothing that an event began is left over.
pub record IsSettled (w : World) : Type 0 where
  pub queue : w.queue ≡ []
  pub open_requests : (me : ClientNo) (t : ThreadNo) (now : Pending) → (thread_at (client_at w me) t).pending ≡ Some now → is_for_itself now.purpose ≡ true

abbrev pub NothingWaits : Type 0
NothingWaits = (plan : Plan) (events : List Event) → IsSettled (world_after plan new_world events) × (length (world_after plan new_world events).history ≤ 2 * length events)

-- An event is one more, also while it is under way.
pub record ClientsStayWithin : Type 0 where
  pub begins : (plan : Plan) (e : Event) (w : World) (n : ℕ) → AllWithin n w → AllWithin (n + 1) (begin plan e w)
  pub hands_on : (plan : Plan) (a : Invocation × Answer) (w : World) (n : ℕ) → AllWithin n w → AllWithin n (hand_on plan a w)
  pub after : (plan : Plan) (events : List Event) → AllWithin (length events) (world_after plan new_world events)

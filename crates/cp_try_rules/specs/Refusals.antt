-- A member refuses a request.
use Rattle.std.specs.Prelude.{ℕ, ◌==◌, Bool, ◌&&◌, Option, Some, None, if◌then◌else◌}
use Rattle.cp_answers.specs.declared.refusal.Refusal.{Refusal}
use Rattle.cp_answers.specs.declared.refusal.Refusal.TheVariants as refusal
use Rattle.cp_base.specs.declared.identifier.ClientId.{ClientId}
use Rattle.cp_base.specs.declared.identifier.GroupId.{GroupId}
use Rattle.cp_base.specs.declared.identifier.ThreadNo.{ThreadNo}
use Rattle.cp_events.specs.declared.effects.Ending.TheVariants as ending
use Rattle.cp_events.specs.declared.plan.Plan.{Plan}
use Rattle.cp_try_rules.specs.declared.choices.Turn.{Turn}
use Rattle.cp_try_rules.specs.declared.choices.Turn.TheVariants as turn
use Rattle.cp_try_rules.specs.Answers.{end_call, is_open}
use Rattle.cp_try_rules.specs.Clients.{Client, nothing, open_at}
use Rattle.cp_try_rules.specs.Steps.{Step, quietly, stays, try_thread}
use Rattle.cp_try_rules.specs.Tries.{Tries, pause, tried_at, turned, with_target}
use Rattle.cp_try_rules.specs.Welcomes.{lose_open}

-- what a refusal has its request do
abbrev pub turn_of : Refusal → Turn
turn_of (refusal.NotLeader m) = if m == 0 then turn.Moves else turn.Follows m
turn_of refusal.NoGroup = turn.Moves
turn_of (refusal.Overloaded n) = turn.Waits
turn_of (refusal.IndexEnd i) = turn.Waits
turn_of refusal.Lost = turn.Loses
turn_of why = turn.Ends

module _ (plan : Plan) (me : ClientId) where
  abbrev pub take_turn : Turn → ThreadNo → GroupId → Refusal → Client → Tries → Step
  take_turn (turn.Follows m) t g why c tries = try_thread me t c (with_target g m tries)
  take_turn turn.Moves t g why c tries = stays c (pause c.clock t (turned plan.members g tries))
  take_turn turn.Waits t g why c tries = stays c (pause c.clock t tries)
  take_turn turn.Loses t g why c tries = lose_open (turned plan.members g) (open_at me t c) c tries
  take_turn turn.Ends t g why c tries = quietly (end_call t (ending.Refused why) c) tries

  -- A beat is never repeated: what is learned of the leader is for the next one.
  abbrev pub beat_turn : Turn → GroupId → Client → Tries → Step
  beat_turn (turn.Follows m) g c tries = stays c (with_target g m tries)
  beat_turn turn.Moves g c tries = stays c (turned plan.members g tries)
  beat_turn other g c tries = stays c tries

  -- A refusal counts for the last attempt of its thread, while the request is open.
  abbrev pub refuse_step : ThreadNo → ℕ → GroupId → ℕ → Refusal → Client → Tries → Step
  refuse_step t k g n why c tries = if is_open t g n c && ((tried_at tries t).attempt == k)
      then (if t.0 == 0 then beat_turn (turn_of why) g c tries else take_turn (turn_of why) t g why c tries)
      else stays c tries

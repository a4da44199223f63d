-- What is promised of each execution.
use Rattle.std.specs.Prelude.{◌≡◌, List}
use Rattle.cp_base.specs.declared.identifier.GroupId.{GroupId}
use Rattle.cp_events.specs.declared.plan.Plan.{Plan}
use Rattle.cp_events.specs.declared.schedule.Line.{Line}
use Rattle.cp_world_rules.specs.Execution.{Execution, history}
use Rattle.cp_world_rules.specs.Requests.{AsksItselfOnce, CallsStand, EndsOnce, NumbersRise, Requested, ReturnsOnce, RoundsAreTold}
use Rattle.cp_world_rules.specs.Entries.{EntriesAreAsked, HistoriesStand, HistoryIsGood, LengthsAreTrue, RowsAreInOrder}
use Rattle.cp_world_rules.specs.Answers.{AllAnswered, GoesOn}
use Rattle.cp_world_rules.specs.Returns.{AllReturnsTell}
use Rattle.cp_world_rules.specs.Telling.{EventsTell, FollowsLines}
use Rattle.cp_world_rules.specs.Judging.{ClientsAct}
use Rattle.cp_world_rules.specs.Prompt.{IsPrompt}

pub record Headline (plan : Plan) (lines : List Line) (x : Execution) : Type 0 where
  -- each group has one history, in which all is in order, and protected calls act at most once
  pub one_each : HistoriesStand x.histories
  pub histories : (g : GroupId) → HistoryIsGood (history x g)
  -- each entry was asked for
  pub entries : EntriesAreAsked plan x
  pub lengths : LengthsAreTrue x
  pub order : RowsAreInOrder x
  -- by a call that stands printed, or by a client's clock
  pub calls : CallsStand x
  pub requests : Requested plan x
  pub itself_once : AsksItselfOnce plan x
  pub numbers : NumbersRise x.requests
  pub rounds : RoundsAreTold x
  -- each answer is the one-thread machine's, was committed between its request and the end of that, and has its cause
  pub answers : AllAnswered plan x
  pub ends_once : EndsOnce x.ends
  -- one that gives a call what it needs lets it go on
  pub goes_on : GoesOn plan x
  -- a call returns once, with such an answer, or with what a client says by itself, which has its cause
  pub returns_once : ReturnsOnce plan x
  pub returns : AllReturnsTell plan x
  -- the events are those of the lines, and what is printed of each is what it did
  pub follows : FollowsLines lines x
  pub events : EventsTell x
  pub clients : ClientsAct plan x
  pub prompt : plan.members ≡ 0 → IsPrompt plan lines x

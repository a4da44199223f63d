-- What is promised of executions without members beside: all happens at once.
use Rattle.std.specs.Prelude.{◌≡◌, ℕ, List, ◌∷◌, map, Option, Some, None, slice_get, Contains}
use Rattle.cp_events.specs.declared.effects.Effects.{Effects}
use Rattle.cp_events.specs.declared.effects.Ignored.{Ignored}
use Rattle.cp_events.specs.declared.effects.Ignored.TheVariants as ignored
use Rattle.cp_events.specs.declared.event.Event.{Event}
use Rattle.cp_events.specs.declared.event.Event.TheVariants as event
use Rattle.cp_events.specs.declared.plan.Plan.{Plan}
use Rattle.cp_events.specs.declared.schedule.Line.{Line}
use Rattle.cp_group_state.specs.History.{Given, answers_of}
use Rattle.cp_client_rules.specs.Asking.{default_group}
use Rattle.cp_world_rules.specs.Rows.{Committed, Request, committed_of, entries_of}
use Rattle.cp_world_rules.specs.Execution.{Execution, events_of, history}
use Rattle.cp_world_rules.specs.Answers.{IsCommittedAt}
use Rattle.cp_world_rules.specs.Judging.{CallIsIgnored, IsOver, TickIsIgnored}

module _ (plan : Plan) (x : Execution) (number : ℕ) where
  -- There is no member, and no message was ever sent.
  abbrev pub IsIgnoredSo : Event → Option Ignored → Type 0
  IsIgnoredSo event.Open cause = cause ≡ None
  IsIgnoredSo (event.Call c t o) cause = CallIsIgnored plan x number c t cause
  IsIgnoredSo (event.ClientTick c ms) cause = TickIsIgnored plan x number c ms cause
  IsIgnoredSo (event.Deliver k) cause = cause ≡ Some (ignored.NoMessage 0)
  IsIgnoredSo (event.Tick m ms) cause = cause ≡ Some ignored.NoSuchMember
  IsIgnoredSo (event.Crash m) cause = cause ≡ Some ignored.NoSuchMember
  IsIgnoredSo (event.CrashAfter m calls choice) cause = cause ≡ Some ignored.NoSuchMember
  IsIgnoredSo (event.Start m) cause = cause ≡ Some ignored.NoSuchMember

pub record IsPrompt (plan : Plan) (lines : List Line) (x : Execution) : Type 0 where
  -- no `settle` line stands for an event
  pub events : map (λ (shown : Effects). shown.event) x.effects ≡ event.Open ∷ events_of lines
  -- an event is ignored exactly where it has a cause
  pub ignored : (number : ℕ) (shown : Effects) → slice_get x.effects number ≡ Some shown → IsIgnoredSo plan x number shown.event shown.ignored
  -- each request is committed once, in its own event, in the history of the group `default`
  pub group : (r : Request) → Contains x.requests r → r.group ≡ default_group
  pub committed : history x default_group ≡ map committed_of x.requests
  -- an answer is handed on in the event that gave it, unless its request was over
  pub answered : (g : Given) (c : Committed) → Contains (answers_of (entries_of (history x default_group))) g → IsCommittedAt (history x default_group) g.index c
      → IsOver x c.event g.call

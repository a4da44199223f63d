-- A client: what each event gives, with members and without.
use Rattle.std.specs.Prelude.{ℕ, ◌==◌, List, [], ◌∷◌, if◌then◌else◌}
use Rattle.cp_answers.specs.declared.answer.Answer.{Answer}
use Rattle.cp_answers.specs.declared.refusal.Refusal.{Refusal}
use Rattle.cp_base.specs.declared.identifier.ClientId.{ClientId}
use Rattle.cp_base.specs.declared.identifier.GroupId.{GroupId}
use Rattle.cp_base.specs.declared.identifier.ThreadNo.{ThreadNo}
use Rattle.cp_events.specs.declared.plan.Plan.{Plan}
use Rattle.cp_events.specs.declared.user_op.UserOp.{UserOp}
use Rattle.cp_try_rules.specs.declared.event.Event.{Event}
use Rattle.cp_try_rules.specs.declared.event.Event.TheVariants as event
use Rattle.cp_try_rules.specs.Answers.{answer_client}
use Rattle.cp_try_rules.specs.Calls.{call_client}
use Rattle.cp_try_rules.specs.Clients.{Client, new_client}
use Rattle.cp_try_rules.specs.Refusals.{refuse_step}
use Rattle.cp_try_rules.specs.Retries.{pass_step}
use Rattle.cp_try_rules.specs.Steps.{Step, quietly, stays, with_tries}
use Rattle.cp_try_rules.specs.Ticks.{tick_client}
use Rattle.cp_try_rules.specs.Tries.{Tries, no_tries}
use Rattle.cp_try_rules.specs.Welcomes.{welcome_step}

-- A client in its two layers.
pub record ClientState : Type 0 where
  pub calls : Client
  pub tries : Tries

abbrev pub first_state : ClientState
first_state = record { calls = new_client; tries = no_tries }

abbrev pub state_after : Step → ClientState
state_after s = record { calls = s.did.client; tries = s.tries }

module _ (plan : Plan) (me : ClientId) where
  abbrev pub with_members : Event → Client → Tries → Step
  with_members (event.Calls t o) c tries = with_tries (call_client plan me t o c) tries
  with_members (event.Passes ms) c tries = pass_step plan me ms c tries
  with_members (event.Welcomed m r) c tries = welcome_step me m r c tries
  with_members (event.Answered t g n a) c tries = with_tries (answer_client plan me t g n a c) tries
  with_members (event.Refused t k g n why) c tries = refuse_step plan me t k g n why c tries

  -- Each request is committed at once, so nothing is tried.
  abbrev pub without_members : Event → Client → Tries → Step
  without_members (event.Calls t o) c tries = quietly (call_client plan me t o c) tries
  without_members (event.Passes ms) c tries = quietly (tick_client me ms c) tries
  without_members (event.Answered t g n a) c tries = quietly (answer_client plan me t g n a c) tries
  without_members other c tries = stays c tries

  abbrev pub client_step : ClientState → Event → Step
  client_step s e = if plan.members == 0 then without_members e s.calls s.tries else with_members e s.calls s.tries

  abbrev pub client_after : ClientState → List Event → ClientState
  client_after s [] = s
  client_after s (e ∷ events) = client_after (state_after (client_step s e)) events

  -- what each event gives, one by one
  abbrev pub client_steps : ClientState → List Event → List Step
  client_steps s [] = []
  client_steps s (e ∷ events) = client_step s e ∷ client_steps (state_after (client_step s e)) events

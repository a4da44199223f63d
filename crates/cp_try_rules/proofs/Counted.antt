-- Over every list of events, the attempts of a thread are numbered one by one.
use Rattle.std.proofs.Common.{◌≡◌, ℕ, ◌+◌, Bool, true, false, List, [], ◌∷◌, ◌++◌, Some, None, Option, refl, if◌then◌else◌}
use Rattle.std.specs.Prelude.{◌==◌}
use Rattle.cp_base.specs.declared.identifier.ClientId.{ClientId}
use Rattle.cp_events.specs.declared.plan.Plan.{Plan}
use Rattle.cp_try_rules.specs.declared.event.Event.{Event}
use Rattle.cp_try_rules.specs.declared.event.Says.TheVariants as says
use Rattle.cp_try_rules.specs.declared.rows.Try.TheVariants as how
use Rattle.cp_try_rules.specs.Clients.{Client, Did}
use Rattle.cp_try_rules.specs.Events.{ClientState, client_after, client_step, client_steps, state_after, with_members, without_members}
use Rattle.cp_try_rules.specs.Laws.{sent_in}
use Rattle.cp_try_rules.specs.Steps.{Step, with_tries}
use Rattle.cp_try_rules.specs.Tries.{Tries, told_each, tried_at, try_request}
use Rattle.cp_try_rules.proofs.Counting.{Counts, counts-begin-each, counts-hello, counts-row, counts-then, counts-told-each, counts-try}
use Rattle.cp_try_rules.proofs.EventWalk.{walk-if, walk-with, walk-without}
use Rattle.cp_try_rules.proofs.Walk.{KeptCalls, KeptTries, after_clock, asking, doing, ending_call, gives, idling}

abbrev StepCounts : Client → Tries → Step → Type 0
StepCounts c x s = Counts x s.sent s.tries

counts-gives : (b : Bool) (d : Did) (x : Tries) (c : Client) → StepCounts c x (gives b d x)
counts-gives true d x c = counts-then x (told_each d.ended x) (with_tries d x).tries [] (with_tries d x).sent (counts-told-each d.ended x) (counts-begin-each d.client.clock d.asked (told_each d.ended x))
counts-gives false d x c = λ t. refl

counts-calls : (me : ClientId) (e : Event) (b : Bool) → KeptCalls me e b StepCounts
counts-calls me e b = record {
  rests = λ c x t. refl;
  follows = λ c x s f first rest. counts-then x s.tries (f s.did.client s.tries).tries s.sent (f s.did.client s.tries).sent first (rest s.did.client s.tries);
  lates = λ c x t late u. refl;
  asks = λ c x l t now timed. counts-gives b (asking me t now l c) x c;
  does = λ c x l t. counts-gives b (doing t l c) x c;
  ends = λ c x l t last tells. counts-gives b (ending_call t last l c) x c;
  idles = λ c x l t. counts-gives b (idling t l c) x c;
}

counts-tries : (me : ClientId) (e : Event) → KeptTries me e StepCounts
counts-tries me e = record {
  knows = λ c x restarts targets s h. h;
  tries = λ c x a held ready. counts-try c.clock a x;
  pauses = λ c x a held bounced. counts-row x a.call.thread (record (tried_at x a.call.thread) { paused = Some c.clock }) refl;
  knocks = λ c x a m r held went. counts-hello x a.call.thread (record (tried_at x a.call.thread) { last = Some (how.Attempt m r c.clock) }) (record { to = m; says = says.Hello }) refl refl;
  loses = λ c x a held otherwise cause t. refl;
  greets = λ c x m t. refl;
  refuses = λ c x t why u. refl;
}

module _ (plan : Plan) (me : ClientId) where
  step-counts : (s : ClientState) (e : Event) → Counts s.tries (client_step plan me s e).sent (client_step plan me s e).tries
  step-counts s e = walk-if StepCounts (after_clock e s.calls) s.tries (plan.members == 0) (without_members plan me e s.calls s.tries) (with_members plan me e s.calls s.tries)
      (λ alone. walk-without plan me e StepCounts (counts-calls me e false) e refl s.calls s.tries)
      (λ members. walk-with plan me e StepCounts (counts-calls me e true) (counts-tries me e) e refl s.calls s.tries)

  pub attempts-counted : (events : List Event) (s : ClientState) → Counts s.tries (sent_in (client_steps plan me s events)) (client_after plan me s events).tries
  attempts-counted [] s = λ t. refl
  attempts-counted (e ∷ events) s = let next = state_after (client_step plan me s e) in
      counts-then s.tries next.tries (client_after plan me next events).tries (client_step plan me s e).sent (sent_in (client_steps plan me next events)) (step-counts s e) (attempts-counted events next)

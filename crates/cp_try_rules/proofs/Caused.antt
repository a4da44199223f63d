-- Over every list of events: attempts that are apart, and causes of `lost`.
use Rattle.std.proofs.Common.{◌≡◌, ℕ, ◌+◌, ◌⊎◌, inl, inr, Bool, true, false, List, [], ◌∷◌, ◌++◌, Some, None, Option, refl, sym, subst, ap, ◌∙◌, arith, if◌then◌else◌}
use Rattle.std.specs.Prelude.{◌==◌, ◌<◌, Contains}
use Rattle.std.proofs.lemmas.List.{append-nil, append_assoc}
use Rattle.std.proofs.lemmas.List.Elements.{Contains-append_left, Contains-push}
use Rattle.cp_answers.specs.declared.answer.Answer.TheVariants as answer
use Rattle.cp_answers.specs.declared.ended_by.EndedBy.TheVariants as ended_by
use Rattle.cp_base.specs.declared.identifier.ClientId.{ClientId}
use Rattle.cp_base.specs.declared.identifier.ThreadNo.{ThreadNo}
use Rattle.cp_events.specs.declared.plan.Plan.{Plan}
use Rattle.cp_try_rules.specs.declared.event.Event.{Event}
use Rattle.cp_try_rules.specs.declared.event.Sent.{Sent}
use Rattle.cp_try_rules.specs.Again.{may_again}
use Rattle.cp_try_rules.specs.Clients.{Asked}
use Rattle.cp_try_rules.specs.Events.{ClientState, client_after, client_step, client_steps, first_state, state_after, with_members, without_members}
use Rattle.cp_try_rules.specs.Laws.{IsToldSo, LosesIt, WasRefused, attempt_of, lost_return, sent_in}
use Rattle.cp_try_rules.specs.Steps.{Step}
use Rattle.cp_try_rules.proofs.History.{Past}
use Rattle.cp_try_rules.proofs.Losses.{AllBlamed, step-alone, step-past}
use Rattle.cp_try_rules.proofs.Threads.{contains-head, contains-none, contains-tail, none-some}

module _ (plan : Plan) (me : ClientId) where
  stepped : (b : Bool) → (plan.members == 0) ≡ b → (s : ClientState) (e : Event) → client_step plan me s e ≡ (if b then without_members plan me e s.calls s.tries else with_members plan me e s.calls s.tries)
  stepped b is s e = ap (λ v. if v then without_members plan me e s.calls s.tries else with_members plan me e s.calls s.tries) is

  nothing-sent : (plan.members == 0) ≡ true → (events : List Event) (s : ClientState) → sent_in (client_steps plan me s events) ≡ []
  nothing-sent alone [] s = refl
  nothing-sent alone (e ∷ events) s = ap (λ sent. sent ++ sent_in (client_steps plan me (state_after (client_step plan me s e)) events)) (ap (λ y. y.sent) (stepped true alone s e) ∙ (step-alone me e plan s).0)
      ∙ nothing-sent alone events (state_after (client_step plan me s e))

  -- with members, what is known of the attempts stays so
  past-step : (plan.members == 0) ≡ false → (whole : List Event) (e : Event) → Contains whole e → (s : ClientState) (sent : List Sent) → Past me whole sent s.calls s.tries
      → Past me whole (sent ++ (client_step plan me s e).sent) (client_step plan me s e).did.client (client_step plan me s e).tries × AllBlamed me e (sent ++ (client_step plan me s e).sent) (client_step plan me s e).did.returns
  past-step members whole e among s sent past = subst (λ y. Past me whole (sent ++ y.sent) y.did.client y.tries × AllBlamed me e (sent ++ y.sent) y.did.returns) (sym (stepped false members s e)) (step-past me e whole among plan s sent past)

  past-all : (plan.members == 0) ≡ false → (whole events : List Event) → ((e : Event) → Contains events e → Contains whole e) → (s : ClientState) (sent : List Sent) → Past me whole sent s.calls s.tries
      → Past me whole (sent ++ sent_in (client_steps plan me s events)) (client_after plan me s events).calls (client_after plan me s events).tries
  past-all members whole [] among s sent past = subst (λ y. Past me whole y s.calls s.tries) (sym (append-nil sent)) past
  past-all members whole (e ∷ events) among s sent past = let step = client_step plan me s e in
      subst (λ y. Past me whole y (client_after plan me (state_after step) events).calls (client_after plan me (state_after step) events).tries) (append_assoc sent step.sent (sent_in (client_steps plan me (state_after step) events)))
      (past-all members whole events (λ y h. among y (contains-tail e events y h)) (state_after step) (sent ++ step.sent) (past-step members whole e (among e (contains-head e events)) s sent past).0)

  past-first-state : (whole : List Event) → Past me whole [] first_state.calls first_state.tries
  past-first-state whole = (λ u. (λ m k r a is h. absurd (contains-none (attempt_of m k r a) h), λ a m r at held. absurd (none-some held)), λ m m2 k k2 r r2 a again p. absurd (contains-none (attempt_of m k r a) p))

  pub only-after-refusals : (events : List Event) (m m2 k k2 r r2 : ℕ) (a : Asked) → may_again a.op ≡ false → Contains (sent_in (client_steps plan me first_state events)) (attempt_of m k r a)
      → Contains (sent_in (client_steps plan me first_state events)) (attempt_of m2 k2 r2 a) → k < k2 → WasRefused events k a
  only-after-refusals events m m2 k k2 r r2 a again p q less = by (plan.members == 0) refl where
    by : (b : Bool) → (plan.members == 0) ≡ b → WasRefused events k a
    by true alone = absurd (contains-none (attempt_of m k r a) (subst (λ sent. Contains sent (attempt_of m k r a)) (nothing-sent alone events first_state) p))
    by false members = (past-all members events events (λ e h. h) first_state [] (past-first-state events)).1 m m2 k k2 r r2 a again p q less

  pub losses-caused : (events : List Event) (e : Event) (t : ThreadNo) (n : ℕ) → Contains (client_step plan me (client_after plan me first_state events) e).did.returns (lost_return t n)
      → ((a : Asked) × (a.call ≡ record { client = me; thread = t; number = n }) × (may_again a.op ≡ false)
      × LosesIt e (sent_in (client_steps plan me first_state events) ++ (client_step plan me (client_after plan me first_state events) e).sent) a) ⊎ IsToldSo e (answer.Indeterminate ended_by.Lost) t
  losses-caused events e t n h = by (plan.members == 0) refl where
    by : (b : Bool) → (plan.members == 0) ≡ b
        → ((a : Asked) × (a.call ≡ record { client = me; thread = t; number = n }) × (may_again a.op ≡ false)
        × LosesIt e (sent_in (client_steps plan me first_state events) ++ (client_step plan me (client_after plan me first_state events) e).sent) a) ⊎ IsToldSo e (answer.Indeterminate ended_by.Lost) t
    by true alone = inr ((step-alone me e plan (client_after plan me first_state events)).1 t n (subst (λ y. Contains y.did.returns (lost_return t n)) (stepped true alone (client_after plan me first_state events) e) h))
    by false members = (past-step members (events ++ e ∷ []) e (Contains-push events e) (client_after plan me first_state events) (sent_in (client_steps plan me first_state events))
        (past-all members (events ++ e ∷ []) events (λ y among. Contains-append_left events (e ∷ []) y among) first_state [] (past-first-state (events ++ e ∷ [])))).1 t n h

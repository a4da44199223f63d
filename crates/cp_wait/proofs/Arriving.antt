-- An index after a waiter came or went.
use Rattle.std.proofs.Common.{◌≡◌, Bool, true, false, not, ◌||◌, List, [], ◌∷◌, ◌++◌, refl, ap, sym, ◌∙◌, subst, append-nil, inl, inr}
use Rattle.std.specs.Prelude.{if◌then◌else◌}
use Rattle.std.specs.List.{filter}
use Rattle.std.proofs.lemmas.List.Elements.{filter-append}
use Rattle.cp_base.specs.declared.identifier.Invocation.{Invocation}
use Rattle.cp_base.proofs.Tests.{no_true}
use Rattle.cp_group_state.specs.Waiters.{same_call, stands}
use Rattle.cp_group_state.specs.Invariants.{CallsDiffer}
use Rattle.cp_group_state.specs.declared.rows.Waiter.{Waiter}
use Rattle.cp_group_state.proofs.Latches.{same_call_itself}
use Rattle.cp_group_state.proofs.Once.{same-call}
use Rattle.cp_group_state.proofs.Single.{differ-push}
use Rattle.cp_wait.specs.Arrivals.{has_call, with_call, without_call, calls_of, without_waiter}
use Rattle.cp_wait.specs.Indexes.{IsIndex, Came, Went, Stayed, IsPartlyIndex, IsOnly}

pub calls-append : (xs ys : List Waiter) → calls_of (xs ++ ys) ≡ calls_of xs ++ calls_of ys
calls-append [] ys = refl
calls-append (x ∷ xs) ys = ap (λ (cs : List Invocation). x.call ∷ cs) (calls-append xs ys)

-- a call that doesn't stand is not among those of some
absent : (c : Invocation) (p : Waiter → Bool) (ws : List Waiter) → stands c ws ≡ false → has_call c (calls_of (filter p ws)) ≡ false
absent c p [] h = refl
absent c p (w ∷ ws) h = at (p w) (same_call c w.call) refl h (absent c p ws)
  where
    at : (a b : Bool) → same_call c w.call ≡ b → (b || stands c ws) ≡ false → (stands c ws ≡ false → has_call c (calls_of (filter p ws)) ≡ false) → has_call c (calls_of (if a then w ∷ filter p ws else filter p ws)) ≡ false
    at a true e h rest = absurd (no_true h)
    at true false e h rest = rw e (rest h)
    at false false e h rest = rest h

-- a waiter comes
pub came : {Q : Type 0} (test : Q → Waiter → Bool) (old new : Q → List Invocation) (ws : List Waiter) (w : Waiter) → stands w.call ws ≡ false → Came test w old new → IsIndex test old ws → IsIndex test new (ws ++ w ∷ [])
came test old new ws w fresh change is q = change q ∙ by (test q w) refl
  where
    by : (b : Bool) → test q w ≡ b → (if b then with_call (old q) w.call else old q) ≡ calls_of (filter (test q) (ws ++ w ∷ []))
    by true e = let none : has_call w.call (calls_of (filter (test q) ws)) ≡ false = absent w.call (test q) ws fresh in
        let last : with_call (calls_of (filter (test q) ws)) w.call ≡ calls_of (filter (test q) ws ++ w ∷ []) = rw none (sym (calls-append (filter (test q) ws) (w ∷ []))) in
        let parts : filter (test q) ws ++ filter (test q) (w ∷ []) ≡ filter (test q) ws ++ w ∷ [] = rw e refl in
        ap (λ (cs : List Invocation). with_call cs w.call) (is q) ∙ last ∙ ap calls_of (sym (filter-append (test q) ws (w ∷ []) ∙ parts))
    by false e = let parts : filter (test q) ws ++ filter (test q) (w ∷ []) ≡ filter (test q) ws = rw e (append-nil (filter (test q) ws)) in
        is q ∙ ap calls_of (sym (filter-append (test q) ws (w ∷ []) ∙ parts))

pub stayed : {Q : Type 0} (test : Q → Waiter → Bool) (old new : Q → List Invocation) (ws : List Waiter) → Stayed old new → IsIndex test old ws → IsIndex test new ws
stayed test old new ws same is q = same q ∙ is q

pub without-absent : (c : Invocation) (ws : List Waiter) → stands c ws ≡ false → without_waiter c ws ≡ ws
without-absent c [] h = refl
without-absent c (w ∷ ws) h = at (same_call c w.call) refl h (without-absent c ws)
  where
    at : (b : Bool) → same_call c w.call ≡ b → (b || stands c ws) ≡ false → (stands c ws ≡ false → without_waiter c ws ≡ ws) → (if not b then w ∷ without_waiter c ws else without_waiter c ws) ≡ w ∷ ws
    at true e h rest = absurd (no_true h)
    at false e h rest = ap (λ (vs : List Waiter). w ∷ vs) (rest h)

gone-in : (p : Waiter → Bool) (c : Invocation) (ws : List Waiter) → CallsDiffer ws → without_call (calls_of (filter p ws)) c ≡ calls_of (filter p (without_waiter c ws))
gone-in p c [] d = refl
gone-in p c (v ∷ vs) d = by (p v) (same_call c v.call) refl refl (gone-in p c vs d.1)
  where
    by : (a b : Bool) → p v ≡ a → same_call c v.call ≡ b → without_call (calls_of (filter p vs)) c ≡ calls_of (filter p (without_waiter c vs))
        → without_call (calls_of (if a then v ∷ filter p vs else filter p vs)) c ≡ calls_of (filter p (if not b then v ∷ without_waiter c vs else without_waiter c vs))
    by true true e f rest = let same : c ≡ v.call = same-call c v.call f in
        let none : stands c vs ≡ false = subst (λ (x : Invocation). stands x vs ≡ false) (sym same) d.0 in
        rw f (ap (λ (us : List Waiter). calls_of (filter p us)) (sym (without-absent c vs none)))
    by true false e f rest = rw (f, e) (ap (λ (cs : List Invocation). v.call ∷ cs) rest)
    by false true e f rest = rest
    by false false e f rest = rw e rest

gone-out : (p : Waiter → Bool) (w : Waiter) (ws : List Waiter) → p w ≡ false → IsOnly w ws → calls_of (filter p ws) ≡ calls_of (filter p (without_waiter w.call ws))
gone-out p w [] out only = refl
gone-out p w (v ∷ vs) out only = by (same_call w.call v.call) refl (gone-out p w vs out only.1)
  where
    by : (b : Bool) → same_call w.call v.call ≡ b → calls_of (filter p vs) ≡ calls_of (filter p (without_waiter w.call vs))
        → calls_of (filter p (v ∷ vs)) ≡ calls_of (filter p (if not b then v ∷ without_waiter w.call vs else without_waiter w.call vs))
    by true f rest = let none : p v ≡ false = ap p (only.0 f) ∙ out in rw none rest
    by false f rest = at (p v)
      where
        at : (a : Bool) → calls_of (if a then v ∷ filter p vs else filter p vs) ≡ calls_of (if a then v ∷ filter p (without_waiter w.call vs) else filter p (without_waiter w.call vs))
        at true = ap (λ (cs : List Invocation). v.call ∷ cs) rest
        at false = rest

-- a waiter goes
pub went : {Q : Type 0} (test : Q → Waiter → Bool) (old new : Q → List Invocation) (ws : List Waiter) (w : Waiter) → CallsDiffer ws → IsOnly w ws → Went test w old new → IsIndex test old ws → IsIndex test new (without_waiter w.call ws)
went test old new ws w differ only change is q = change q ∙ ap (λ (cs : List Invocation). if test q w then without_call cs w.call else cs) (is q) ∙ by (test q w) refl
  where
    by : (b : Bool) → test q w ≡ b → (if b then without_call (calls_of (filter (test q) ws)) w.call else calls_of (filter (test q) ws)) ≡ calls_of (filter (test q) (without_waiter w.call ws))
    by true e = gone-in (test q) w.call ws differ
    by false e = gone-out (test q) w ws e only

pub only-absent : (w : Waiter) (ws : List Waiter) → stands w.call ws ≡ false → IsOnly w ws
only-absent w [] h = tt
only-absent w (v ∷ vs) h = at (same_call w.call v.call) refl h (only-absent w vs)
  where
    at : (b : Bool) → same_call w.call v.call ≡ b → (b || stands w.call vs) ≡ false → (stands w.call vs ≡ false → IsOnly w vs) → IsOnly w (v ∷ vs)
    at true e h rest = absurd (no_true h)
    at false e h rest = (λ f. absurd (no_true (sym f ∙ e)), rest h)

pub only-push : (w : Waiter) (ws : List Waiter) → IsOnly w ws → IsOnly w (ws ++ w ∷ [])
only-push w [] only = (λ e. refl, tt)
only-push w (v ∷ vs) only = (only.0, only-push w vs only.1)

pub without-push : (w : Waiter) (ws : List Waiter) → stands w.call ws ≡ false → without_waiter w.call (ws ++ w ∷ []) ≡ ws
without-push w ws fresh = filter-append (λ (v : Waiter). not (same_call w.call v.call)) ws (w ∷ []) ∙ last ∙ without-absent w.call ws fresh
  where
    last : without_waiter w.call ws ++ without_waiter w.call (w ∷ []) ≡ without_waiter w.call ws
    last = rw (same_call_itself w.call) (append-nil (without_waiter w.call ws))

-- a waiter that came to some indexes, and not to all, goes from each
pub undone : {Q : Type 0} (test : Q → Waiter → Bool) (old new : Q → List Invocation) (ws : List Waiter) (w : Waiter) → CallsDiffer ws → stands w.call ws ≡ false → Went test w old new → IsPartlyIndex test old ws w → IsIndex test new ws
undone {Q} test old new ws w differ fresh change part = elim part [
  | inl is ↦ subst (λ (us : List Waiter). IsIndex test new us) (without-absent w.call ws fresh) (went test old new ws w differ (only-absent w ws fresh) change is)
  | inr is ↦ subst (λ (us : List Waiter). IsIndex test new us) (without-push w ws fresh) (went test old new (ws ++ w ∷ []) w (differ-push ws w fresh differ) (only-push w ws (only-absent w ws fresh)) change is)
]

pub partly : {Q : Type 0} (test : Q → Waiter → Bool) (old new : Q → List Invocation) (ws : List Waiter) (w : Waiter) → stands w.call ws ≡ false → Came test w old new → IsIndex test old ws → IsPartlyIndex test new ws w
partly test old new ws w fresh change is = inr (came test old new ws w fresh change is)

pub not_yet : {Q : Type 0} (test : Q → Waiter → Bool) (old new : Q → List Invocation) (ws : List Waiter) (w : Waiter) → Stayed old new → IsIndex test old ws → IsPartlyIndex test new ws w
not_yet test old new ws w same is = inl (stayed test old new ws same is)

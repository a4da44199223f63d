-- What is promised of the locks of a history.
use Rattle.std.proofs.Common.{◌≡◌, ℕ, ◌+◌, ◌<◌, ◌⊎◌, inl, inr, List, [], ◌∷◌, ◌++◌, Some, None, refl, sym, subst, ap, ◌∙◌, arith, zero, suc}
use Rattle.std.specs.Prelude.{Contains, slice_get}
use Rattle.std.specs.declared.cmp.Ordering.TheVariants.{Less, Equal}
use Rattle.std.specs.List.{AllByRecursion}
use Rattle.std.specs.List.Sorted.{IsStrictlySortedBy}
use Rattle.std.specs.Map.{keys_of}
use Rattle.std.proofs.lemmas.List.Elements.{All-contains, Contains-append_cases}
use Rattle.cp_base.specs.declared.identifier.Invocation.{Invocation}
use Rattle.cp_base.proofs.Tests.{same_some}
use Rattle.cp_answers.specs.declared.answer.Answer.{Answer}
use Rattle.cp_group_state.specs.Rows.{name_cmp}
use Rattle.cp_group_state.specs.Locks.{LockRow}
use Rattle.cp_group_state.specs.GroupState.{GroupState, empty}
use Rattle.cp_group_state.specs.Apply.{Applied, apply, run}
use Rattle.cp_group_state.specs.Fences.{HasFences, IsHeldUnder, FencesStand, LocksHaveOneOwner, WasGivenBefore, locks_of}
use Rattle.cp_group_state.specs.History.{History, IsOrderly, state_before}
use Rattle.cp_group_state.proofs.Answered.{StandFrom, run-stands}
use Rattle.cp_group_state.proofs.Fences.{fences-rise}
use Rattle.cp_group_state.proofs.Keyed.{name_key}
use Rattle.cp_group_state.proofs.Lists.{no-element}
use Rattle.cp_group_state.proofs.Moments.{IsOfEntry, by-states, given-at, given-by, state-then}
use Rattle.cp_group_state.proofs.Ordered.{always-ordered}
use Rattle.cp_group_state.proofs.Rising.{Rising}

-- ---- one owner
no-row : (a : List ℕ × LockRow) → None ≡ Some a → ⊥
no-row a e = cc

above-each : (b : List ℕ) (rows : List (List ℕ × LockRow)) (k : ℕ) (a : List ℕ × LockRow) → AllByRecursion (λ y. name_cmp b y ≡ Less) (keys_of rows) → slice_get rows k ≡ Some a → name_cmp b a.0 ≡ Less
above-each b [] k a all is = absurd (no-row a is)
above-each b (e ∷ es) zero a all is = subst (λ (y : List ℕ × LockRow). name_cmp b y.0 ≡ Less) (same_some is) all.0
above-each b (e ∷ es) (suc k) a all is = above-each b es k a all.1 is

not-below : (a b : List ℕ) → name_cmp a b ≡ Less → a ≡ b → ⊥
not-below a b less same = no (sym (subst (λ y. name_cmp a y ≡ Equal) same (name_key.here a)) ∙ less) where
  no : Equal ≡ Less → ⊥
  no e = cc

one-row : (rows : List (List ℕ × LockRow)) → Rising name_cmp rows → (j k : ℕ) (a b : List ℕ × LockRow) → slice_get rows j ≡ Some a → slice_get rows k ≡ Some b → a.0 ≡ b.0 → j ≡ k
unfolding IsStrictlySortedBy
one-row [] h j k a b at_j at_k same = absurd (no-row a at_j)
one-row (e ∷ es) h zero zero a b at_j at_k same = refl
one-row (e ∷ es) h zero (suc k) a b at_j at_k same = absurd (not-below e.0 b.0 (above-each e.0 es k b h.0 at_k) (ap (λ (y : List ℕ × LockRow). y.0) (same_some at_j) ∙ same))
one-row (e ∷ es) h (suc j) zero a b at_j at_k same = absurd (not-below e.0 a.0 (above-each e.0 es j a h.0 at_j) (ap (λ (y : List ℕ × LockRow). y.0) (same_some at_k) ∙ sym same))
one-row (e ∷ es) h (suc j) (suc k) a b at_j at_k same = ap suc (one-row es h.1 j k a b at_j at_k same)

pub one-owner : (history : History) → LocksHaveOneOwner history
one-owner history moment = one-row (state_before history moment).locks (always-ordered history moment).locks

-- ---- fences that are answered
-- told at an earlier place of the run
record ToldAt (xs : List Applied) (q : ℕ) (call : Invocation) (a : Answer) : Type 0 where
  pub place : ℕ
  pub before : place < q
  pub step : Applied
  pub there : slice_get xs place ≡ Some step
  pub told : Contains step.answers (call, a)

no-step : (x : Applied) → None ≡ Some x → ⊥
no-step x h = cc

stands-at : (history : History) (past : List (Invocation × Answer)) (xs : List Applied) → StandFrom history past xs → (q : ℕ) (step : Applied) (call : Invocation) (a : Answer) → slice_get xs q ≡ Some step → Contains step.answers (call, a)
    → (Contains past (call, a) ⊎ ToldAt xs q call a) ⊎ IsHeldUnder history step.state.locks call a
stands-at history past [] h q step call a is told = absurd (no-step step is)
stands-at history past (x ∷ xs) h zero step call a is told = by (All-contains (λ (b : Invocation × Answer). Contains past b ⊎ IsHeldUnder history x.state.locks b.0 b.1) x.answers (call, a) h.0 (subst (λ (y : Applied). Contains y.answers (call, a)) (sym (same_some is)) told)) where
  by : Contains past (call, a) ⊎ IsHeldUnder history x.state.locks call a → (Contains past (call, a) ⊎ ToldAt (x ∷ xs) 0 call a) ⊎ IsHeldUnder history step.state.locks call a
  by (inl k) = inl (inl k)
  by (inr k) = inr (subst (λ (y : Applied). IsHeldUnder history y.state.locks call a) (same_some is) k)
stands-at history past (x ∷ xs) h (suc q) step call a is told = by (stands-at history (past ++ x.answers) xs h.1 q step call a is told) where
  first : Contains past (call, a) ⊎ Contains x.answers (call, a) → Contains past (call, a) ⊎ ToldAt (x ∷ xs) (suc q) call a
  first (inl k) = inl k
  first (inr k) = inr (record { place = 0; before = omega arith; step = x; there = refl; told = k })

  by : (Contains (past ++ x.answers) (call, a) ⊎ ToldAt xs q call a) ⊎ IsHeldUnder history step.state.locks call a → (Contains past (call, a) ⊎ ToldAt (x ∷ xs) (suc q) call a) ⊎ IsHeldUnder history step.state.locks call a
  by (inl (inl k)) = inl (first (Contains-append_cases past x.answers (call, a) k))
  by (inl (inr k)) = let l = k.before in inl (inr (record { place = suc k.place; before = omega (arith, l); step = k.step; there = k.there; told = k.told }))
  by (inr k) = inr k

pub fences-stand : (history : History) → IsOrderly history → FencesStand history
fences-stand history orderly index call a given = by (given-by history index call a given) where
  by : IsOfEntry history index call a → WasGivenBefore history index call a ⊎ IsHeldUnder history (locks_of history index) call a
  by g = at (stands-at history [] (run 1 history empty) (run-stands history orderly) g.place (apply (g.place + 1) g.entry (state_before history g.place)) call a (by-states history g.place g.entry g.there) g.told) where
    here : locks_of history index ≡ (apply (g.place + 1) g.entry (state_before history g.place)).state.locks
    here = ap (locks_of history) g.index_is ∙ ap (λ (s : GroupState). s.locks) (state-then history g.place g.entry g.there)

    at : (Contains {X = Invocation × Answer} [] (call, a) ⊎ ToldAt (run 1 history empty) g.place call a) ⊎ IsHeldUnder history (apply (g.place + 1) g.entry (state_before history g.place)).state.locks call a
        → WasGivenBefore history index call a ⊎ IsHeldUnder history (locks_of history index) call a
    at (inl (inl k)) = absurd (no-element (call, a) k)
    at (inl (inr k)) = let l = k.before in let e = g.index_is in inl (1 + k.place, omega (arith, l, e), given-at 1 k.place (run 1 history empty) k.step call a k.there k.told)
    at (inr k) = inr (subst (λ locks. IsHeldUnder history locks call a) (sym here) k)

pub have-fences : (history : History) → IsOrderly history → HasFences history
have-fences history orderly = record { rise = fences-rise history; one_owner = one-owner history; stand = fences-stand history orderly }

-- What waits for its time to be over, place by place.
use Rattle.std.proofs.Common.{◌≡◌, ◌+◌, ◌<◌, ◌≤◌, ℕ, zero, suc, Bool, true, false, List, [], ◌∷◌, ◌++◌, length, Some, None, ap, sym, ◌∙◌, subst, arith, if◌then◌else◌}
use Rattle.std.specs.Prelude.{slice_get}
use Rattle.std.specs.List.{filter, AllByRecursion}
use Rattle.std.specs.Option.{option_map}
use Rattle.std.proofs.lemmas.Option.{slice_get_past}
use Rattle.std.proofs.lemmas.List.Sums.{length-filter, count_by-le-length}
use Rattle.cp_grammar.specs.Common.{index, invocation}
use Rattle.cp_group_state.specs.declared.rows.SessionRow.{SessionRow}
use Rattle.cp_group_state.specs.declared.rows.Waiter.{Waiter}
use Rattle.cp_wait.specs.Arrivals.{waits_limited}
use Rattle.cp_group_ranges.specs.Rows.{SessionFits, WaiterFits}
use Rattle.cp_resource.specs.Timing.{numbered}

-- an item of the first of two lists
pub get_first : {X : Type 0} (xs ys : List X) (k : ℕ) (x : X) → slice_get xs k ≡ Some x → slice_get (xs ++ ys) k ≡ Some x
get_first [] ys k x h = absurd (no h) where
  no : None ≡ Some x → ⊥
  no e = cc
get_first (z ∷ xs) ys zero x h = h
get_first (z ∷ xs) ys (suc k) x h = get_first xs ys k x h

-- and one of the second
pub get_behind : {X : Type 0} (xs ys : List X) (j k : ℕ) (x : X) → j ≡ length xs + k → slice_get ys k ≡ Some x → slice_get (xs ++ ys) j ≡ Some x
get_behind [] ys j k x e h = let same : j ≡ k = omega (arith, e) in ap (λ (i : ℕ). slice_get ys i) same ∙ h
get_behind (z ∷ xs) ys zero k x e h = absurd (omega (arith, e))
get_behind (z ∷ xs) ys (suc j) k x e h = get_behind xs ys j k x (omega (arith, e)) h

-- at a place of a list stands something
pub present : {X : Type 0} (xs : List X) (k : ℕ) → k < length xs → slice_get xs k ≡ None → ⊥
present [] k l e = absurd (omega (arith, l))
present (x ∷ xs) zero l e = cc
present (x ∷ xs) (suc k) l e = present xs k (omega (arith, l)) e

pub present_session : (rows : List (ℕ × SessionRow)) (k : ℕ) → k < length rows → option_map numbered (slice_get rows k) ≡ None → ⊥
present_session [] k l e = absurd (omega (arith, l))
present_session (x ∷ xs) zero l e = cc
present_session (x ∷ xs) (suc k) l e = present_session xs k (omega (arith, l)) e

-- the numbers of a session have spellings
pub session_fits : (rows : List (ℕ × SessionRow)) (k : ℕ) (e : ℕ × ℕ) → AllByRecursion SessionFits rows → option_map numbered (slice_get rows k) ≡ Some e → index.Fits e.0 × index.Fits e.1
session_fits [] k e all h = absurd (no h) where
  no : None ≡ Some e → ⊥
  no q = cc
session_fits (x ∷ xs) zero e all h = at h where
  at : Some (numbered x) ≡ Some e → index.Fits e.0 × index.Fits e.1
  at q = let same : numbered x ≡ e = cc in subst (λ (p : ℕ × ℕ). index.Fits p.0 × index.Fits p.1) same (all.0.number, all.0.version)
session_fits (x ∷ xs) (suc k) e all h = session_fits xs k e all.1 h

-- the call of a waiter has a spelling
pub waiter_fits : (ws : List Waiter) (k : ℕ) (w : Waiter) → AllByRecursion WaiterFits ws → slice_get (filter waits_limited ws) k ≡ Some w → invocation.Fits w.call
waiter_fits ws k w all h = at (filter waits_limited ws) k (kept ws all) h where
  front : (b : Bool) (v : Waiter) (vs : List Waiter) → WaiterFits v → AllByRecursion WaiterFits vs → AllByRecursion WaiterFits (if b then v ∷ vs else vs)
  front true v vs f all = (f, all)
  front false v vs f all = all

  kept : (vs : List Waiter) → AllByRecursion WaiterFits vs → AllByRecursion WaiterFits (filter waits_limited vs)
  kept [] all = tt
  kept (v ∷ vs) all = front (waits_limited v) v (filter waits_limited vs) all.0 (kept vs all.1)

  at : (vs : List Waiter) (k : ℕ) → AllByRecursion WaiterFits vs → slice_get vs k ≡ Some w → invocation.Fits w.call
  at [] k all h = absurd (no h) where
    no : None ≡ Some w → ⊥
    no q = cc
  at (v ∷ vs) zero all h = found h where
    found : Some v ≡ Some w → invocation.Fits w.call
    found q = let same : v ≡ w = cc in subst (λ (u : Waiter). invocation.Fits u.call) same all.0.call
  at (v ∷ vs) (suc k) all h = at vs k all.1 h

-- the waits of some time only are no more than all
pub limited_few : (ws : List Waiter) (most : ℕ) → length ws ≤ most → length (filter waits_limited ws) ≤ most
limited_few ws most few = rw length-filter (omega (arith, few, count_by-le-length waits_limited ws))

-- nothing stands behind a list
pub none_behind : {X : Type 0} (xs : List X) (k : ℕ) → length xs ≤ k → None ≡ slice_get xs k
none_behind xs k behind = sym (slice_get_past xs k behind)

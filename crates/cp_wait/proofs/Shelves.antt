-- A change of the calls under one key of one index of a shelf.
use Rattle.std.proofs.Common.{◌≡◌, Bool, true, false, ◌&&◌, List, [], ◌∷◌, Option, Some, refl, ap, ◌∙◌, cond}
use Rattle.std.specs.Prelude.{if◌then◌else◌}
use Rattle.std.specs.declared.cmp.Ordering.{Ordering}
use Rattle.std.specs.declared.cmp.Ordering.TheVariants.{Equal}
use Rattle.std.specs.Cmp.{IsTotalOrder}
use Rattle.std.specs.Map.{lookup}
use Rattle.std.specs.BTreeMap.{BTreeMap, get, is_at}
use Rattle.cp_base.specs.declared.identifier.Invocation.{Invocation}
use Rattle.cp_group_state.proofs.Keyed.{equal_is}
use Rattle.cp_wait.specs.Keys.{calls_at, calls_in, calls_under}

module _ {A X : Type 0} (cmp : A → A → Ordering) (total : IsTotalOrder cmp) where
  -- two keys that compare equal find the same
  pub alike : (a p : A) → cmp a p ≡ Equal → (es : List (A × X)) → lookup (is_at (cmp p)) es ≡ lookup (is_at (cmp a)) es
  alike a p e [] = refl
  alike a p e (x ∷ xs) = let same : cmp a x.0 ≡ cmp p x.0 = total.congr a p x.0 e in
      rw (same, alike a p e xs) refl

module _ {A B : Type 0} (outer : A → A → Ordering) (inner : B → B → Ordering) (total : IsTotalOrder outer) where
  pub changed_under : (f : List Invocation → List Invocation) (old new : BTreeMap A (BTreeMap B (List Invocation))) (a : A) (b : B) (was now : BTreeMap B (List Invocation))
      → get outer old a ≡ Some was
      → ((p : A) → get outer new p ≡ cond (is_at (outer a) p) (Some now) (get outer old p))
      → ((q : B) → calls_at inner now q ≡ (if is_at (inner b) q then f (calls_at inner was q) else calls_at inner was q))
      → (p : A) (q : B) → calls_under outer inner new p q ≡ (if is_at (outer a) p && is_at (inner b) q then f (calls_under outer inner old p q) else calls_under outer inner old p q)
  changed_under f old new a b was now there writes changes p q = ap (λ (o : Option (BTreeMap B (List Invocation))). calls_in outer inner o q) (writes p) ∙ by (is_at (outer a) p) refl
    where
      by : (t : Bool) → is_at (outer a) p ≡ t
          → calls_in outer inner (cond t (Some now) (get outer old p)) q ≡ (if t && is_at (inner b) q then f (calls_under outer inner old p q) else calls_under outer inner old p q)
      by true h = let same : get outer old p ≡ Some was = alike outer total a p (equal_is _ h) old.entries ∙ there in rw same (changes q)
      by false h = refl

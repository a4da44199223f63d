-- Calls under keys.
use Rattle.std.specs.Prelude.{◌≡◌, ◌&&◌, List, [], Option, Some, None, unwrap_or, if◌then◌else◌}
use Rattle.std.specs.declared.cmp.Ordering.{Ordering}
use Rattle.std.specs.BTreeMap.{BTreeMap, get, is_at}
use Rattle.cp_base.specs.declared.identifier.Invocation.{Invocation}
use Rattle.cp_wait.specs.Arrivals.{with_call, without_call}

module _ {K : Type 0} (cmp : K → K → Ordering) where
  -- the calls under a key
  abbrev pub calls_at : BTreeMap K (List Invocation) → K → List Invocation
  calls_at index key = unwrap_or (get cmp index key) []

  -- the same calls under each key
  abbrev pub SameCalls : BTreeMap K (List Invocation) → BTreeMap K (List Invocation) → Type 0
  SameCalls old new = (q : K) → calls_at new q ≡ calls_at old q

  -- the call came under the key
  abbrev pub CameUnder : K → Invocation → BTreeMap K (List Invocation) → BTreeMap K (List Invocation) → Type 0
  CameUnder key call old new = (q : K) → calls_at new q ≡ (if is_at (cmp key) q then with_call (calls_at old q) call else calls_at old q)

  -- the call went from the key
  abbrev pub WentFrom : K → Invocation → BTreeMap K (List Invocation) → BTreeMap K (List Invocation) → Type 0
  WentFrom key call old new = (q : K) → calls_at new q ≡ (if is_at (cmp key) q then without_call (calls_at old q) call else calls_at old q)

module _ {A B : Type 0} (outer : A → A → Ordering) (inner : B → B → Ordering) where
  abbrev pub calls_in : Option (BTreeMap B (List Invocation)) → B → List Invocation
  calls_in None b = []
  calls_in (Some index) b = calls_at inner index b

  -- the calls under two keys
  abbrev pub calls_under : BTreeMap A (BTreeMap B (List Invocation)) → A → B → List Invocation
  calls_under shelf a b = calls_in (get outer shelf a) b

  abbrev pub SameCallsUnder : BTreeMap A (BTreeMap B (List Invocation)) → BTreeMap A (BTreeMap B (List Invocation)) → Type 0
  SameCallsUnder old new = (a : A) (b : B) → calls_under new a b ≡ calls_under old a b

  abbrev pub CameUnderBoth : A → B → Invocation → BTreeMap A (BTreeMap B (List Invocation)) → BTreeMap A (BTreeMap B (List Invocation)) → Type 0
  CameUnderBoth a b call old new = (p : A) (q : B) → calls_under new p q ≡ (if is_at (outer a) p && is_at (inner b) q then with_call (calls_under old p q) call else calls_under old p q)

  abbrev pub WentFromBoth : A → B → Invocation → BTreeMap A (BTreeMap B (List Invocation)) → BTreeMap A (BTreeMap B (List Invocation)) → Type 0
  WentFromBoth a b call old new = (p : A) (q : B) → calls_under new p q ≡ (if is_at (outer a) p && is_at (inner b) q then without_call (calls_under old p q) call else calls_under old p q)

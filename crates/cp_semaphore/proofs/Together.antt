-- What sessions hold together.
use Rattle.std.proofs.Common.{◌≡◌, ◌+◌, ℕ, Bool, true, false, not, ◌&&◌, ◌||◌, List, [], ◌∷◌, map, sum, Some, refl, ap, sym, ◌∙◌, subst, cond, arith}
use Rattle.std.specs.Prelude.{◌==◌, bytes_eq, unwrap_or, if◌then◌else◌}
use Rattle.std.specs.declared.cmp.Ordering.{Ordering}
use Rattle.std.specs.declared.cmp.Ordering.TheVariants.{Less, Equal, Greater}
use Rattle.std.specs.Ordering.{is_eq}
use Rattle.std.specs.List.{filter, AllByRecursion}
use Rattle.std.specs.List.Sorted.{IsStrictlySortedBy}
use Rattle.std.specs.Map.{keys_of}
use Rattle.std.proofs.lemmas.List.Sums.{sum_by-cons}
use Rattle.cp_base.proofs.Tests.{no_true, same_number, number_itself, bytes_itself, bytes_same}
use Rattle.cp_group_state.specs.Rows.{find, name_cmp, holding_cmp}
use Rattle.cp_group_state.specs.Sessions.{is_among}
use Rattle.cp_group_state.specs.Semaphores.{held, held_together}
use Rattle.cp_group_state.specs.Invariants.{IsRising}
use Rattle.cp_group_state.proofs.Keyed.{name_key}
use Rattle.cp_group_state.proofs.Ordered.{holding_key}
use Rattle.cp_semaphore.specs.Backs.{amount}

abbrev pub Holdings : Type 0
Holdings = List ((ℕ × List ℕ) × ℕ)

-- of one session and a name
one_hit : (session : ℕ) (name : List ℕ) (key : ℕ × List ℕ) → (is_among (session ∷ []) key.0 && bytes_eq name key.1) ≡ true → holding_cmp (session, name) key ≡ Equal
one_hit session name key h = let both = parts (session == key.0) (bytes_eq name key.1) h in
    let s : session ≡ key.0 = same_number session key.0 both.0 in
    let n : name ≡ key.1 = bytes_same name key.1 both.1 in
    subst (λ (k : ℕ × List ℕ). holding_cmp (session, name) k ≡ Equal) (λ i. (s i, n i)) (holding_key.here (session, name))
  where
    parts : (a b : Bool) → ((a || false) && b) ≡ true → (a ≡ true) × (b ≡ true)
    parts true b h = (refl, h)
    parts false b h = absurd (no_true (sym h))

one_here : (session : ℕ) (name : List ℕ) (key : ℕ × List ℕ) → holding_cmp (session, name) key ≡ Equal → (is_among (session ∷ []) key.0 && bytes_eq name key.1) ≡ true
one_here session name key h = subst (λ (k : ℕ × List ℕ). (is_among (session ∷ []) k.0 && bytes_eq name k.1) ≡ true) (holding_key.same (session, name) key h) here
  where
    here : (is_among (session ∷ []) session && bytes_eq name name) ≡ true
    here = rw (number_itself session, bytes_itself name) refl

no_equal : (o : Ordering) → o ≡ Less → o ≡ Equal → ⊥
no_equal o a b = less_equal (sym a ∙ b)
  where
    less_equal : Less ≡ Equal → ⊥
    less_equal e = cc

none-above : (session : ℕ) (name : List ℕ) (h : Holdings) → AllByRecursion (λ y. holding_cmp (session, name) y ≡ Less) (keys_of h) → held_together (session ∷ []) name h ≡ 0
none-above session name [] all = refl
none-above session name (e ∷ es) all = by (is_among (session ∷ []) e.0.0 && bytes_eq name e.0.1) refl (none-above session name es all.1)
  where
    by : (b : Bool) → (is_among (session ∷ []) e.0.0 && bytes_eq name e.0.1) ≡ b → held_together (session ∷ []) name es ≡ 0
        → sum (map (λ x. x.1) (if b then e ∷ filter (λ x. is_among (session ∷ []) x.0.0 && bytes_eq name x.0.1) es else filter (λ x. is_among (session ∷ []) x.0.0 && bytes_eq name x.0.1) es)) ≡ 0
    by true i rest = absurd (no_equal (holding_cmp (session, name) e.0) all.0 (one_hit session name e.0 i))
    by false i rest = rest

sum-cons : (n : ℕ) (ns : List ℕ) → sum (n ∷ ns) ≡ n + sum ns
sum-cons n ns = sum_by-cons (λ (m : ℕ). m) n ns

pub one-together : (session : ℕ) (name : List ℕ) (h : Holdings) → IsRising holding_cmp h → held_together (session ∷ []) name h ≡ held h session name
unfolding IsStrictlySortedBy
one-together session name [] rises = refl
one-together session name (e ∷ es) rises = by (holding_cmp (session, name) e.0) (is_among (session ∷ []) e.0.0 && bytes_eq name e.0.1) refl refl (one-together session name es rises.1)
  where
    less_equal : Less ≡ Equal → ⊥
    less_equal e = cc

    greater_equal : Greater ≡ Equal → ⊥
    greater_equal e = cc

    by : (o : Ordering) (b : Bool) → holding_cmp (session, name) e.0 ≡ o → (is_among (session ∷ []) e.0.0 && bytes_eq name e.0.1) ≡ b → held_together (session ∷ []) name es ≡ held es session name
        → sum (map (λ x. x.1) (if b then e ∷ filter (λ x. is_among (session ∷ []) x.0.0 && bytes_eq name x.0.1) es else filter (λ x. is_among (session ∷ []) x.0.0 && bytes_eq name x.0.1) es))
        ≡ unwrap_or (cond (is_eq o) (Some e.1) (find holding_cmp es (session, name))) 0
    by Equal true i j rest = let key : (session, name) ≡ e.0 = holding_key.same (session, name) e.0 i in
        let none : held_together (session ∷ []) name es ≡ 0 = none-above session name es (subst (λ (k : ℕ × List ℕ). AllByRecursion (λ y. holding_cmp k y ≡ Less) (keys_of es)) (sym key) rises.0) in
        let all : sum (e.1 ∷ map (λ x. x.1) (filter (λ x. is_among (session ∷ []) x.0.0 && bytes_eq name x.0.1) es)) ≡ e.1 + held_together (session ∷ []) name es = sum-cons e.1 (map (λ x. x.1) (filter (λ x. is_among (session ∷ []) x.0.0 && bytes_eq name x.0.1) es)) in
        omega arith
    by Equal false i j rest = absurd (no_true (sym (one_here session name e.0 i) ∙ j))
    by Less true i j rest = absurd (less_equal (sym i ∙ one_hit session name e.0 j))
    by Greater true i j rest = absurd (greater_equal (sym i ∙ one_hit session name e.0 j))
    by Less false i j rest = rest
    by Greater false i j rest = rest

-- what stands under a name of a list of names
amount-above : (name : List ℕ) (es : List (List ℕ × ℕ)) → AllByRecursion (λ y. name_cmp name y ≡ Less) (keys_of es) → amount es name ≡ 0
amount-above name [] all = refl
amount-above name (e ∷ es) all = by (bytes_eq name e.0) refl (amount-above name es all.1)
  where
    by : (b : Bool) → bytes_eq name e.0 ≡ b → amount es name ≡ 0 → (if b then e.1 else 0) + amount es name ≡ 0
    by true i rest = absurd (no_equal (name_cmp name e.0) all.0 (subst (λ (n : List ℕ). name_cmp name n ≡ Equal) (bytes_same name e.0 i) (name_key.here name)))
    by false i rest = omega arith

pub amount-found : (name : List ℕ) (es : List (List ℕ × ℕ)) → IsRising name_cmp es → amount es name ≡ unwrap_or (find name_cmp es name) 0
unfolding IsStrictlySortedBy
amount-found name [] rises = refl
amount-found name (e ∷ es) rises = by (name_cmp name e.0) (bytes_eq name e.0) refl refl (amount-found name es rises.1)
  where
    less_equal : Less ≡ Equal → ⊥
    less_equal e = cc

    greater_equal : Greater ≡ Equal → ⊥
    greater_equal e = cc

    equal : bytes_eq name e.0 ≡ true → name_cmp name e.0 ≡ Equal
    equal i = subst (λ (n : List ℕ). name_cmp name n ≡ Equal) (bytes_same name e.0 i) (name_key.here name)

    by : (o : Ordering) (b : Bool) → name_cmp name e.0 ≡ o → bytes_eq name e.0 ≡ b → amount es name ≡ unwrap_or (find name_cmp es name) 0
        → (if b then e.1 else 0) + amount es name ≡ unwrap_or (cond (is_eq o) (Some e.1) (find name_cmp es name)) 0
    by Equal true i j rest = let key : name ≡ e.0 = name_key.same name e.0 i in
        let none : amount es name ≡ 0 = amount-above name es (subst (λ (n : List ℕ). AllByRecursion (λ y. name_cmp n y ≡ Less) (keys_of es)) (sym key) rises.0) in omega arith
    by Equal false i j rest = absurd (no_true (sym (subst (λ (n : List ℕ). bytes_eq name n ≡ true) (name_key.same name e.0 i) (bytes_itself name)) ∙ j))
    by Less true i j rest = absurd (less_equal (sym i ∙ equal j))
    by Greater true i j rest = absurd (greater_equal (sym i ∙ equal j))
    by Less false i j rest = omega arith
    by Greater false i j rest = omega arith

-- of one session more
pub together-more : (session : ℕ) (sessions : List ℕ) (name : List ℕ) (h : Holdings)
    → held_together (session ∷ sessions) name h ≡ held_together (session ∷ []) name h + held_together sessions name (filter (λ e. not (is_among (session ∷ []) e.0.0)) h)
together-more session sessions name [] = refl
together-more session sessions name (e ∷ es) = by (session == e.0.0) (is_among sessions e.0.0) (bytes_eq name e.0.1) refl refl (together-more session sessions name es)
  where
    more : (xs : Holdings) → sum (map (λ x. x.1) (e ∷ xs)) ≡ e.1 + sum (map (λ x. x.1) xs)
    more xs = sum-cons e.1 (map (λ x. x.1) xs)

    by : (a b d : Bool) → is_among sessions e.0.0 ≡ b → bytes_eq name e.0.1 ≡ d
        → held_together (session ∷ sessions) name es ≡ held_together (session ∷ []) name es + held_together sessions name (filter (λ x. not (is_among (session ∷ []) x.0.0)) es)
        → sum (map (λ x. x.1) (if (a || b) && d then e ∷ filter (λ x. is_among (session ∷ sessions) x.0.0 && bytes_eq name x.0.1) es else filter (λ x. is_among (session ∷ sessions) x.0.0 && bytes_eq name x.0.1) es))
        ≡ sum (map (λ x. x.1) (if (a || false) && d then e ∷ filter (λ x. is_among (session ∷ []) x.0.0 && bytes_eq name x.0.1) es else filter (λ x. is_among (session ∷ []) x.0.0 && bytes_eq name x.0.1) es))
        + held_together sessions name (if not (a || false) then e ∷ filter (λ x. not (is_among (session ∷ []) x.0.0)) es else filter (λ x. not (is_among (session ∷ []) x.0.0)) es)
    by true b true i j rest = let x = more (filter (λ x. is_among (session ∷ sessions) x.0.0 && bytes_eq name x.0.1) es) in let y = more (filter (λ x. is_among (session ∷ []) x.0.0 && bytes_eq name x.0.1) es) in omega arith
    by true b false i j rest = rest
    by false true true i j rest = let x = more (filter (λ x. is_among (session ∷ sessions) x.0.0 && bytes_eq name x.0.1) es) in
        let y = more (filter (λ x. is_among sessions x.0.0 && bytes_eq name x.0.1) (filter (λ x. not (is_among (session ∷ []) x.0.0)) es)) in rw (i, j) (omega arith)
    by false true false i j rest = rw (i, j) rest
    by false false d i j rest = rw i rest

pub gone-more : (session : ℕ) (sessions : List ℕ) (h : Holdings) → filter (λ e. not (is_among (session ∷ sessions) e.0.0)) h ≡ filter (λ e. not (is_among sessions e.0.0)) (filter (λ e. not (is_among (session ∷ []) e.0.0)) h)
gone-more session sessions [] = refl
gone-more session sessions (e ∷ es) = by (session == e.0.0) (is_among sessions e.0.0) refl (gone-more session sessions es)
  where
    by : (a b : Bool) → is_among sessions e.0.0 ≡ b → filter (λ x. not (is_among (session ∷ sessions) x.0.0)) es ≡ filter (λ x. not (is_among sessions x.0.0)) (filter (λ x. not (is_among (session ∷ []) x.0.0)) es)
        → (if not (a || b) then e ∷ filter (λ x. not (is_among (session ∷ sessions) x.0.0)) es else filter (λ x. not (is_among (session ∷ sessions) x.0.0)) es)
        ≡ filter (λ x. not (is_among sessions x.0.0)) (if not (a || false) then e ∷ filter (λ x. not (is_among (session ∷ []) x.0.0)) es else filter (λ x. not (is_among (session ∷ []) x.0.0)) es)
    by true b i rest = rest
    by false true i rest = rw i rest
    by false false i rest = rw i (ap (λ (xs : Holdings). e ∷ xs) rest)

pub none-together : (name : List ℕ) (h : Holdings) → held_together [] name h ≡ 0
none-together name [] = refl
none-together name (e ∷ es) = none-together name es

pub all-stay : (h : Holdings) → filter (λ e. true) h ≡ h
all-stay [] = refl
all-stay (e ∷ es) = ap (λ (xs : Holdings). e ∷ xs) (all-stay es)

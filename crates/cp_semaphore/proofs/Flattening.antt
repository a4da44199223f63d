-- Holdings that are kept session by session, as one list.
use Rattle.std.proofs.Common.{◌≡◌, ℕ, ◌&&◌, Bool, true, false, List, [], ◌∷◌, ◌++◌, Option, Some, None, refl, ap, sym, ◌∙◌, subst, cond, arith}
use Rattle.std.specs.Prelude.{if◌then◌else◌, ◌==◌, unwrap_or}
use Rattle.std.specs.declared.cmp.Ordering.{Ordering}
use Rattle.std.specs.declared.cmp.Ordering.TheVariants.{Less, Equal, Greater}
use Rattle.std.specs.Ordering.{is_eq, nat_cmp, ordering_then}
use Rattle.std.specs.BTreeMap.{BTreeMap, is_at}
use Rattle.std.specs.List.{AllByRecursion}
use Rattle.std.specs.List.Sorted.{IsStrictlySortedBy}
use Rattle.std.specs.Map.{keys_of}
use Rattle.std.proofs.lemmas.Cmp.{nat_cmp_total}
use Rattle.std.proofs.lemmas.Bool.Decides.{nat_tests}
use Rattle.cp_base.proofs.Tests.{no_true}
use Rattle.cp_group_state.specs.Rows.{find, put, without, name_cmp, holding_cmp}
use Rattle.cp_group_state.specs.Invariants.{IsRising}
use Rattle.cp_group_state.specs.Semaphores.{held, set_held}
use Rattle.cp_group_state.proofs.Keyed.{equal_is, number_key, name_key, find-put_same, find-put_other, find-without_other}
use Rattle.cp_group_state.proofs.Rising.{less-none, rising-put, rising-without, find-without_same}
use Rattle.cp_group_state.proofs.Ordered.{holding_total, holding_key}
use Rattle.cp_semaphore.specs.Nested.{Nested, under, flat, found, found_in, IsNested, held_option, Sets}
use Rattle.cp_semaphore.proofs.Extensional.{same_rows, AllBelow, rising-append, or_else, lookup-append}

-- what is found
then_both : (o p : Ordering) → is_eq (ordering_then o p) ≡ (is_eq o && is_eq p)
then_both Less p = refl
then_both Equal p = refl
then_both Greater p = refl

either_way : {X : Type 0} (b : Bool) (x : X) → x ≡ cond b x x
either_way true x = refl
either_way false x = refl

find-under : (session : ℕ) (rows : List (List ℕ × ℕ)) (q : ℕ × List ℕ) → find holding_cmp (under session rows) q ≡ cond (is_at (nat_cmp q.0) session) (find name_cmp rows q.1) None
find-under session [] q = either_way (is_at (nat_cmp q.0) session) None
find-under session (e ∷ es) q = ap (λ (b : Bool). cond b (Some e.1) (find holding_cmp (under session es) q)) (then_both (nat_cmp q.0 session) (name_cmp q.1 e.0)) ∙ by (is_at (nat_cmp q.0) session) (is_at (name_cmp q.1) e.0) (find-under session es q)
  where
    by : (a b : Bool) → find holding_cmp (under session es) q ≡ cond a (find name_cmp es q.1) None → cond (a && b) (Some e.1) (find holding_cmp (under session es) q) ≡ cond a (cond b (Some e.1) (find name_cmp es q.1)) None
    by true true rest = refl
    by true false rest = rest
    by false b rest = rest

else-none : (o : Option ℕ) → or_else o None ≡ o
else-none None = refl
else-none (Some n) = refl

pub flat-found : (nested : Nested) → IsRising nat_cmp nested → (q : ℕ × List ℕ) → find holding_cmp (flat nested) q ≡ found nested q
unfolding IsStrictlySortedBy
flat-found [] rises q = refl
flat-found (e ∷ es) rises q = lookup-append (is_at (holding_cmp q)) (under e.0 e.1.entries) (flat es)
    ∙ ap (λ (o : Option ℕ). or_else o (find holding_cmp (flat es) q)) (find-under e.0 e.1.entries q)
    ∙ by (is_at (nat_cmp q.0) e.0) refl (flat-found es rises.1 q)
  where
    by : (b : Bool) → is_at (nat_cmp q.0) e.0 ≡ b → find holding_cmp (flat es) q ≡ found es q
        → or_else (cond b (find name_cmp e.1.entries q.1) None) (find holding_cmp (flat es) q) ≡ found_in (cond b (Some e.1) (find nat_cmp es q.0)) q.1
    by true h rest = let same : q.0 ≡ e.0 = number_key.same q.0 e.0 (equal_is _ h) in
        let none : find nat_cmp es q.0 ≡ None = ap (λ (s : ℕ). find nat_cmp es s) same ∙ less-none nat_cmp number_key nat_cmp_total e.0 es rises.0 in
        ap (λ (o : Option ℕ). or_else (find name_cmp e.1.entries q.1) o) (rest ∙ ap (λ (o : Option (BTreeMap (List ℕ) ℕ)). found_in o q.1) none) ∙ else-none (find name_cmp e.1.entries q.1)
    by false h rest = rest

-- the flat list rises
under-above : (session : ℕ) (name : List ℕ) (rows : List (List ℕ × ℕ)) → AllByRecursion (λ y. name_cmp name y ≡ Less) (keys_of rows) → AllByRecursion (λ y. holding_cmp (session, name) y ≡ Less) (keys_of (under session rows))
under-above session name [] all = tt
under-above session name (e ∷ es) all = (rw (number_key.here session) all.0, under-above session name es all.1)

under-rises : (session : ℕ) (rows : List (List ℕ × ℕ)) → IsRising name_cmp rows → IsRising holding_cmp (under session rows)
unfolding IsStrictlySortedBy
under-rises session [] rises = tt
under-rises session (e ∷ es) rises = (under-above session e.0 es rises.0, under-rises session es rises.1)

one-below : (session above : ℕ) (name : List ℕ) (rows : List (List ℕ × ℕ)) → nat_cmp session above ≡ Less → AllByRecursion (λ y. holding_cmp (session, name) y ≡ Less) (keys_of (under above rows))
one-below session above name [] less = tt
one-below session above name (e ∷ es) less = (rw less refl, one-below session above name es less)

keys-append : (b : ℕ × List ℕ) (xs ys : List ((ℕ × List ℕ) × ℕ)) → AllByRecursion (λ y. holding_cmp b y ≡ Less) (keys_of xs) → AllByRecursion (λ y. holding_cmp b y ≡ Less) (keys_of ys) → AllByRecursion (λ y. holding_cmp b y ≡ Less) (keys_of (xs ++ ys))
keys-append b [] ys p q = q
keys-append b (x ∷ xs) ys p q = (p.0, keys-append b xs ys p.1 q)

one-below-all : (session : ℕ) (name : List ℕ) (nested : Nested) → AllByRecursion (λ y. nat_cmp session y ≡ Less) (keys_of nested) → AllByRecursion (λ y. holding_cmp (session, name) y ≡ Less) (keys_of (flat nested))
one-below-all session name [] all = tt
one-below-all session name (e ∷ es) all = keys-append (session, name) (under e.0 e.1.entries) (flat es) (one-below session e.0 name e.1.entries all.0) (one-below-all session name es all.1)

under-below : (session : ℕ) (rows : List (List ℕ × ℕ)) (nested : Nested) → AllByRecursion (λ y. nat_cmp session y ≡ Less) (keys_of nested) → AllBelow holding_cmp (under session rows) (flat nested)
under-below session [] nested all = tt
under-below session (e ∷ es) nested all = (one-below-all session e.0 nested all, under-below session es nested all)

-- under each session the names rise
abbrev pub NamesRise : Nested → Type 0
NamesRise [] = Unit {0}
NamesRise (e ∷ es) = IsRising name_cmp e.1.entries × NamesRise es

rises-all : (nested : Nested) → IsRising nat_cmp nested → NamesRise nested → IsRising holding_cmp (flat nested)
unfolding IsStrictlySortedBy
rises-all [] rises names = tt
rises-all (e ∷ es) rises names = rising-append holding_cmp (under e.0 e.1.entries) (flat es) (under-rises e.0 e.1.entries names.0) (rises-all es rises.1 names.1) (under-below e.0 e.1.entries es rises.0)

names-rise : (nested : Nested) → IsRising nat_cmp nested → ((session : ℕ) (held : BTreeMap (List ℕ) ℕ) → find nat_cmp nested session ≡ Some held → IsRising name_cmp held.entries) → NamesRise nested
unfolding IsStrictlySortedBy
names-rise [] rises names = tt
names-rise (e ∷ es) rises names = (names e.0 e.1 (rw (number_key.here e.0) refl), names-rise es rises.1 (λ session held there. names session held (by session held there (is_at (nat_cmp session) e.0) refl)))
  where
    no_some : (held : BTreeMap (List ℕ) ℕ) → Some held ≡ None → ⊥
    no_some held e = cc

    by : (session : ℕ) (held : BTreeMap (List ℕ) ℕ) → find nat_cmp es session ≡ Some held → (b : Bool) → is_at (nat_cmp session) e.0 ≡ b → cond b (Some e.1) (find nat_cmp es session) ≡ Some held
    by session held there true h = let same : session ≡ e.0 = number_key.same session e.0 (equal_is _ h) in
        absurd (no_some held (sym there ∙ ap (λ (s : ℕ). find nat_cmp es s) same ∙ less-none nat_cmp number_key nat_cmp_total e.0 es rises.0))
    by session held there false h = there

pub flat-rises : (nested : Nested) → IsNested nested → IsRising holding_cmp (flat nested)
flat-rises nested is = rises-all nested is.sessions (names-rise nested is.sessions is.names)

-- one holding changes
hit-here : (session : ℕ) (name : List ℕ) → (is_at (nat_cmp session) session && is_at (name_cmp name) name) ≡ true
hit-here session name = rw (number_key.here session, name_key.here name) refl

hit-same : (session : ℕ) (name : List ℕ) (q : ℕ × List ℕ) → (is_at (nat_cmp session) q.0 && is_at (name_cmp name) q.1) ≡ true → q ≡ (session, name)
hit-same session name q h = let both = parts (is_at (nat_cmp session) q.0) (is_at (name_cmp name) q.1) h in
    let s : session ≡ q.0 = number_key.same session q.0 (equal_is _ both.0) in
    let n : name ≡ q.1 = name_key.same name q.1 (equal_is _ both.1) in
    λ i. (sym s i, sym n i)
  where
    parts : (a b : Bool) → (a && b) ≡ true → (a ≡ true) × (b ≡ true)
    parts true b h = (refl, h)
    parts false b h = cc

hit-other : (session : ℕ) (name : List ℕ) (q : ℕ × List ℕ) → (is_at (nat_cmp session) q.0 && is_at (name_cmp name) q.1) ≡ false → is_at (holding_cmp q) (session, name) ≡ false
hit-other session name q h = by (is_at (holding_cmp q) (session, name)) refl
  where
    by : (b : Bool) → is_at (holding_cmp q) (session, name) ≡ b → is_at (holding_cmp q) (session, name) ≡ false
    by false e = e
    by true e = let same : q ≡ (session, name) = holding_key.same q (session, name) (equal_is _ e) in
        absurd (no_true (sym (subst (λ (p : ℕ × List ℕ). (is_at (nat_cmp session) p.0 && is_at (name_cmp name) p.1) ≡ true) (sym same) (hit-here session name)) ∙ h))

put-find : (rows : List ((ℕ × List ℕ) × ℕ)) (session : ℕ) (name : List ℕ) (n : ℕ) (q : ℕ × List ℕ)
    → find holding_cmp (put holding_cmp rows (session, name) n) q ≡ (if is_at (nat_cmp session) q.0 && is_at (name_cmp name) q.1 then Some n else find holding_cmp rows q)
put-find rows session name n q = by (is_at (nat_cmp session) q.0 && is_at (name_cmp name) q.1) refl
  where
    by : (b : Bool) → (is_at (nat_cmp session) q.0 && is_at (name_cmp name) q.1) ≡ b → find holding_cmp (put holding_cmp rows (session, name) n) q ≡ (if b then Some n else find holding_cmp rows q)
    by true h = ap (λ (p : ℕ × List ℕ). find holding_cmp (put holding_cmp rows (session, name) n) p) (hit-same session name q h) ∙ find-put_same holding_cmp holding_key rows (session, name) n
    by false h = find-put_other holding_cmp holding_key rows (session, name) q n (hit-other session name q h)

without-find : (rows : List ((ℕ × List ℕ) × ℕ)) (session : ℕ) (name : List ℕ) → IsRising holding_cmp rows → (q : ℕ × List ℕ)
    → find holding_cmp (without holding_cmp rows (session, name)) q ≡ (if is_at (nat_cmp session) q.0 && is_at (name_cmp name) q.1 then None else find holding_cmp rows q)
without-find rows session name rises q = by (is_at (nat_cmp session) q.0 && is_at (name_cmp name) q.1) refl
  where
    by : (b : Bool) → (is_at (nat_cmp session) q.0 && is_at (name_cmp name) q.1) ≡ b → find holding_cmp (without holding_cmp rows (session, name)) q ≡ (if b then None else find holding_cmp rows q)
    by true h = ap (λ (p : ℕ × List ℕ). find holding_cmp (without holding_cmp rows (session, name)) p) (hit-same session name q h) ∙ find-without_same holding_cmp holding_key holding_total rows (session, name) rises
    by false h = find-without_other holding_cmp holding_key rows (session, name) q (hit-other session name q h)

set-find : (rows : List ((ℕ × List ℕ) × ℕ)) (session : ℕ) (name : List ℕ) (n : ℕ) → IsRising holding_cmp rows → (q : ℕ × List ℕ)
    → find holding_cmp (set_held rows session name n) q ≡ (if is_at (nat_cmp session) q.0 && is_at (name_cmp name) q.1 then held_option n else find holding_cmp rows q)
set-find rows session name n rises q = by (n == 0)
  where
    by : (b : Bool) → find holding_cmp (if b then without holding_cmp rows (session, name) else put holding_cmp rows (session, name) n) q ≡ (if is_at (nat_cmp session) q.0 && is_at (name_cmp name) q.1 then (if b then None else Some n) else find holding_cmp rows q)
    by true = without-find rows session name rises q
    by false = put-find rows session name n q

set-rises : (rows : List ((ℕ × List ℕ) × ℕ)) (session : ℕ) (name : List ℕ) (n : ℕ) → IsRising holding_cmp rows → IsRising holding_cmp (set_held rows session name n)
set-rises rows session name n rises = by (n == 0)
  where
    by : (b : Bool) → IsRising holding_cmp (if b then without holding_cmp rows (session, name) else put holding_cmp rows (session, name) n)
    by true = rising-without holding_cmp holding_key holding_total rows (session, name) rises
    by false = rising-put holding_cmp holding_key holding_total rows (session, name) n rises

-- a holding that is set in the nested rows is set in the list
pub flat-set : (old new : Nested) (session : ℕ) (name : List ℕ) (n : ℕ) → IsNested old → IsNested new → Sets session name (held_option n) old new → flat new ≡ set_held (flat old) session name n
flat-set old new session name n is was change = same_rows holding_cmp holding_key holding_total (flat new) (set_held (flat old) session name n) (flat-rises new was) (set-rises (flat old) session name n (flat-rises old is))
    (λ q. flat-found new was.sessions q ∙ change q
    ∙ ap (λ (o : Option ℕ). if is_at (nat_cmp session) q.0 && is_at (name_cmp name) q.1 then held_option n else o) (sym (flat-found old is.sessions q))
    ∙ sym (set-find (flat old) session name n (flat-rises old is) q))

pub flat-same : (old new : Nested) → IsNested old → IsNested new → ((q : ℕ × List ℕ) → found new q ≡ found old q) → flat new ≡ flat old
flat-same old new is was same = same_rows holding_cmp holding_key holding_total (flat new) (flat old) (flat-rises new was) (flat-rises old is)
    (λ q. flat-found new was.sessions q ∙ same q ∙ sym (flat-found old is.sessions q))

pub held-flat : (nested : Nested) (session : ℕ) (name : List ℕ) → IsNested nested → unwrap_or (found nested (session, name)) 0 ≡ held (flat nested) session name
held-flat nested session name is = ap (λ (o : Option ℕ). unwrap_or o 0) (sym (flat-found nested is.sessions (session, name)))

pub none-held : (n : ℕ) → n ≡ 0 → None ≡ held_option n
none-held n e = rw e refl

pub some-held : (n : ℕ) → (n ≡ 0 → ⊥) → Some n ≡ held_option n
some-held n e = by (n == 0) refl
  where
    by : (b : Bool) → (n == 0) ≡ b → Some n ≡ (if b then None else Some n)
    by true h = absurd (e (same n 0 h))
      where
        same : (a b : ℕ) → (a == b) ≡ true → a ≡ b
        same a b h = grind (arith, nat_tests)
    by false h = refl

-- What is held of a destroyed semaphore is gone, and tables stay sound.
use Rattle.std.proofs.Common.{◌≡◌, ◌≤◌, ℕ, Bool, true, false, not, ◌&&◌, ◌||◌, List, [], ◌∷◌, length, Option, None, refl, ap, sym, ◌∙◌, subst, cond, arith}
use Rattle.std.specs.Prelude.{◌==◌, bytes_eq, if◌then◌else◌}
use Rattle.std.specs.BTreeMap.{BTreeMap, is_at}
use Rattle.std.specs.Ordering.{is_eq, nat_cmp}
use Rattle.std.specs.List.{filter}
use Rattle.std.specs.Map.{keys_of}
use Rattle.std.specs.Prelude.{OnOk, OnErr}
use Rattle.std.specs.declared.result.Result.{Result}
use Rattle.std.specs.declared.result.Result.TheVariants.{Ok, Err}
use Rattle.std.proofs.lemmas.Bool.Decides.{nat_tests}
use Rattle.std.proofs.lemmas.Slice.Eq.{bytes_eq-Decides}
use Rattle.cp_base.proofs.Tests.{no_true, alike}
use Rattle.cp_group_state.specs.Rows.{Object, find, without, most, name_cmp, object_cmp, holding_cmp}
use Rattle.cp_group_state.specs.Sessions.{is_among}
use Rattle.cp_group_state.specs.Semaphores.{Semaphores, is_held, sem_destroyed}
use Rattle.cp_group_state.specs.Invariants.{IsRising, IsBalanced, IsBalancedAt, held_by_all, held_of}
use Rattle.cp_group_state.specs.declared.rows.SemaphoreRow.{SemaphoreRow}
use Rattle.cp_group_state.proofs.Keyed.{equal_is, pair_same, number_key, name_key, object_key, find-filter_kept, find-filter_gone, find-without_other}
use Rattle.cp_group_state.proofs.Rising.{rising-without, rising-filter, find-without_same}
use Rattle.cp_group_state.proofs.Ordered.{object_total, holding_total, holding_key}
use Rattle.cp_semaphore.specs.Nested.{Nested, flat, found, found_in, IsNested, Sets, without_name}
use Rattle.cp_semaphore.specs.Tables.{seen, IsSound, IsTable}
use Rattle.cp_semaphore.specs.declared.tables.Tables.{Tables}
use Rattle.cp_semaphore.proofs.Extensional.{same_rows}
use Rattle.cp_semaphore.proofs.Flattening.{flat-found, flat-rises}
use Rattle.cp_semaphore.proofs.Together.{Holdings, all-stay}
use Rattle.cp_semaphore.proofs.Backing.{held-kind}
use Rattle.cp_semaphore.proofs.Within.{within-without}

number_test : (a b : ℕ) → is_at (nat_cmp a) b ≡ (a == b)
number_test a b = alike (is_at (nat_cmp a) b) (a == b) (λ h. let e : a ≡ b = number_key.same a b (equal_is _ h) in subst (λ (x : ℕ). (a == x) ≡ true) e (itself a))
    (λ h. subst (λ (x : ℕ). is_at (nat_cmp a) x ≡ true) (same a b h) (ap is_eq (number_key.here a)))
  where
    itself : (x : ℕ) → (x == x) ≡ true
    itself x = grind (arith, nat_tests)

    same : (x y : ℕ) → (x == y) ≡ true → x ≡ y
    same x y h = grind (arith, nat_tests)

name_test : (a b : List ℕ) → is_at (name_cmp a) b ≡ bytes_eq a b
name_test a b = alike (is_at (name_cmp a) b) (bytes_eq a b) (λ h. (bytes_eq-Decides a b).1 (name_key.same a b (equal_is _ h)))
    (λ h. subst (λ (x : List ℕ). is_at (name_cmp a) x ≡ true) ((bytes_eq-Decides a b).0 h) (ap is_eq (name_key.here a)))

pub one-less : (name : List ℕ) (session : ℕ) (old new : Nested) → Sets session name None old new → (sessions : List ℕ) (q : ℕ × List ℕ) → without_name name sessions new q ≡ without_name name (session ∷ sessions) old q
one-less name session old new change sessions q = ap (λ (o : Option ℕ). if bytes_eq name q.1 && is_among sessions q.0 then None else o)
    (change q ∙ ap (λ (b : Bool). if b && is_at (name_cmp name) q.1 then None else found old q) (number_test session q.0) ∙ ap (λ (b : Bool). if (session == q.0) && b then None else found old q) (name_test name q.1))
    ∙ by (bytes_eq name q.1) (session == q.0) (is_among sessions q.0)
  where
    by : (a b c : Bool) → (if a && c then None else (if b && a then None else found old q)) ≡ (if a && (b || c) then None else found old q)
    by true true true = refl
    by true true false = refl
    by true false true = refl
    by true false false = refl
    by false true c = refl
    by false false c = refl

-- a session that isn't among the keys holds nothing
none-among : (session : ℕ) (nested : Nested) → is_among (keys_of nested) session ≡ false → find nat_cmp nested session ≡ None
none-among session [] h = refl
none-among session (e ∷ es) h = by (e.0 == session) refl h (none-among session es)
  where
    by : (b : Bool) → (e.0 == session) ≡ b → (b || is_among (keys_of es) session) ≡ false → (is_among (keys_of es) session ≡ false → find nat_cmp es session ≡ None) → find nat_cmp (e ∷ es) session ≡ None
    by true i h rest = absurd (no_true h)
    by false i h rest = let far : is_at (nat_cmp session) e.0 ≡ false = number_test session e.0 ∙ turned session e.0 i in rw far (rest h)
      where
        turned : (a b : ℕ) → (b == a) ≡ false → (a == b) ≡ false
        turned a b h = grind (arith, nat_tests)

filter-name : (name : List ℕ) (h : Holdings) (q : ℕ × List ℕ) → find holding_cmp (filter (λ e. not (bytes_eq name e.0.1)) h) q ≡ (if bytes_eq name q.1 then None else find holding_cmp h q)
filter-name name h q = by (bytes_eq name q.1) refl
  where
    by : (b : Bool) → bytes_eq name q.1 ≡ b → find holding_cmp (filter (λ e. not (bytes_eq name e.0.1)) h) q ≡ (if b then None else find holding_cmp h q)
    by true i = find-filter_gone holding_cmp holding_key (λ k. not (bytes_eq name k.1)) h q (ap not i)
    by false i = find-filter_kept holding_cmp holding_key (λ k. not (bytes_eq name k.1)) h q (ap not i)

pub flat-forgets : (old new : Nested) (name : List ℕ) (sessions : List ℕ) → IsNested old → IsNested new → sessions ≡ keys_of old → ((q : ℕ × List ℕ) → found new q ≡ without_name name sessions old q)
    → flat new ≡ filter (λ e. not (bytes_eq name e.0.1)) (flat old)
flat-forgets old new name sessions is was all change = same_rows holding_cmp holding_key holding_total (flat new) (filter (λ e. not (bytes_eq name e.0.1)) (flat old)) (flat-rises new was)
    (rising-filter holding_cmp holding_key holding_total (λ e. not (bytes_eq name e.0.1)) (flat old) (flat-rises old is))
    (λ q. flat-found new was.sessions q ∙ change q ∙ ap (λ (ss : List ℕ). without_name name ss old q) all ∙ everywhere q (bytes_eq name q.1) (is_among (keys_of old) q.0) refl
    ∙ ap (λ (o : Option ℕ). if bytes_eq name q.1 then None else o) (sym (flat-found old is.sessions q)) ∙ sym (filter-name name (flat old) q))
  where
    everywhere : (q : ℕ × List ℕ) (a b : Bool) → is_among (keys_of old) q.0 ≡ b → (if a && b then None else found old q) ≡ (if a then None else found old q)
    everywhere q true true i = refl
    everywhere q true false i = ap (λ (o : Option (BTreeMap (List ℕ) ℕ)). found_in o q.1) (none-among q.0 old i)
    everywhere q false b i = refl

-- what a destroyed semaphore leaves of the holdings
pub left-where : (k : Bool) (name : List ℕ) (h next : Holdings) → (k ≡ true → next ≡ filter (λ e. not (bytes_eq name e.0.1)) h) → (k ≡ false → next ≡ h) → next ≡ filter (λ e. not (k && bytes_eq name e.0.1)) h
left-where true name h next f g = f refl
left-where false name h next f g = g refl ∙ sym (all-stay h)

-- balance
none-left : (name : List ℕ) (h : Holdings) → held_by_all name (filter (λ e. not (bytes_eq name e.0.1)) h) ≡ 0
none-left name [] = refl
none-left name (e ∷ es) = by (bytes_eq name e.0.1) refl (none-left name es)
  where
    by : (c : Bool) → bytes_eq name e.0.1 ≡ c → held_by_all name (filter (λ e. not (bytes_eq name e.0.1)) es) ≡ 0 → held_by_all name (if (not c) then e ∷ filter (λ e. not (bytes_eq name e.0.1)) es else filter (λ e. not (bytes_eq name e.0.1)) es) ≡ 0
    by true i rest = rest
    by false i rest = rw i (omega arith)

others-left : (name q : List ℕ) (h : Holdings) → bytes_eq q name ≡ false → held_by_all q (filter (λ e. not (bytes_eq name e.0.1)) h) ≡ held_by_all q h
others-left name q [] far = refl
others-left name q (e ∷ es) far = by (bytes_eq name e.0.1) refl (others-left name q es far)
  where
    by : (c : Bool) → bytes_eq name e.0.1 ≡ c → held_by_all q (filter (λ e. not (bytes_eq name e.0.1)) es) ≡ held_by_all q es → held_by_all q (if (not c) then e ∷ filter (λ e. not (bytes_eq name e.0.1)) es else filter (λ e. not (bytes_eq name e.0.1)) es) ≡ held_by_all q (e ∷ es)
    by true i rest = let away : bytes_eq q e.0.1 ≡ false = subst (λ (x : List ℕ). bytes_eq q x ≡ false) ((bytes_eq-Decides name e.0.1).0 i) far in rw away (omega arith)
    by false i rest = omega arith

of-key : (k : Bool) (name : List ℕ) (h : Holdings) → (if k then held_by_all name (filter (λ e. not (k && bytes_eq name e.0.1)) h) else 0) ≡ 0
of-key true name h = none-left name h
of-key false name h = refl

of-other : (q key : Object) (h : Holdings) (a b : Bool) → is_held q.1 ≡ a → is_held key.1 ≡ b → is_at (object_cmp q) key ≡ false → (if a then held_by_all q.0 (filter (λ e. not (b && bytes_eq key.0 e.0.1)) h) else 0) ≡ (if a then held_by_all q.0 h else 0)
of-other q key h false b i j far = refl
of-other q key h true false i j far = ap (held_by_all q.0) (all-stay h)
of-other q key h true true i j far = others-left key.0 q.0 h (apart (bytes_eq q.0 key.0) refl)
  where
    apart : (c : Bool) → bytes_eq q.0 key.0 ≡ c → bytes_eq q.0 key.0 ≡ false
    apart false e = e
    apart true e = let same : q ≡ key = pair_same q key ((bytes_eq-Decides q.0 key.0).0 e) (held-kind q.1 i ∙ sym (held-kind key.1 j)) in
        absurd (no_true (sym (subst (λ (x : Object). is_at (object_cmp x) key ≡ true) (sym same) (ap is_eq (object_key.here key))) ∙ far))

gone-balanced : (key : Object) (s : Semaphores) → IsRising object_cmp s.rows → IsBalanced s → IsBalanced (sem_destroyed key s)
gone-balanced key s rises b q = at (is_at (object_cmp q) key) refl
  where
    at : (c : Bool) → is_at (object_cmp q) key ≡ c → IsBalancedAt (find object_cmp (without object_cmp s.rows key) q) (held_of q (filter (λ e. not (is_held key.1 && bytes_eq key.0 e.0.1)) s.holdings))
    at true e = let same : q ≡ key = object_key.same q key (equal_is _ e) in
        subst (λ (x : Object). IsBalancedAt (find object_cmp (without object_cmp s.rows key) x) (held_of x (filter (λ e. not (is_held key.1 && bytes_eq key.0 e.0.1)) s.holdings))) (sym same)
        (rw (find-without_same object_cmp object_key object_total s.rows key rises) (of-key (is_held key.1) key.0 s.holdings))
    at false e = rw (find-without_other object_cmp object_key s.rows key q e, of-other q key s.holdings (is_held q.1) (is_held key.1) refl refl e) (b q)

fewer : (rows : List (Object × SemaphoreRow)) (key : Object) → length (without object_cmp rows key) ≤ length rows
fewer [] key = omega arith
fewer (e ∷ es) key = by (is_at (object_cmp key) e.0) (fewer es key)
  where
    by : (b : Bool) → length (without object_cmp es key) ≤ length es → length (cond b es (e ∷ without object_cmp es key)) ≤ length (e ∷ es)
    by true h = omega arith
    by false h = omega arith

pub sound-destroyed : (key : Object) (s : Semaphores) → IsSound s → IsSound (sem_destroyed key s)
sound-destroyed key s is = record {
  rows = rising-without object_cmp object_key object_total s.rows key is.rows;
  holdings = rising-filter holding_cmp holding_key holding_total (λ e. not (is_held key.1 && bytes_eq key.0 e.0.1)) s.holdings is.holdings;
  balanced = gone-balanced key s is.rows is.balanced;
  within = within-without s.rows key is.rows is.within;
  few = let less = fewer s.rows key in let few : length s.rows ≤ most = is.few in omega arith;
}

pub kept-destroyed : {A E : Type 0} (r : Result A E) (key : Object) (t u : Tables) → IsTable t → OnOk r (seen u ≡ sem_destroyed key (seen t)) → OnErr r (seen u ≡ seen t) → IsNested u.holdings.entries → IsTable u
kept-destroyed (Ok a) key t u is after same nested = record { nested = nested; sound = subst IsSound (sym after) (sound-destroyed key (seen t) is.sound) }
kept-destroyed (Err e) key t u is after same nested = record { nested = nested; sound = subst IsSound (sym same) is.sound }

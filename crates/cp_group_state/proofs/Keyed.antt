-- A row under a key after a change of the rows.
use Rattle.std.proofs.Common.{◌≡◌, ℕ, Bool, true, false, List, [], ◌∷◌, Some, None, Option, refl, ap, sym, ◌∙◌, subst, cond}
use Rattle.std.specs.declared.cmp.Ordering.{Ordering}
use Rattle.std.specs.declared.cmp.Ordering.TheVariants.{Less, Equal, Greater}
use Rattle.std.specs.Ordering.{match_ordering, is_eq, nat_cmp, ordering_then}
use Rattle.std.specs.BTreeMap.{is_at}
use Rattle.std.specs.FinMap.{nat_cmp-IsAntisymmetric, slice_cmp-IsAntisymmetric}
use Rattle.std.specs.List.{filter}
use Rattle.std.specs.Cmp.{tied_itself}
use Rattle.std.proofs.lemmas.Cmp.{nat_cmp_total, nat_list_cmp_total}
use Rattle.std.specs.Prelude.{if◌then◌else◌, ◌==◌}
use Rattle.cp_op_values.specs.declared.kind.Kind.{Kind}
use Rattle.cp_op_values.specs.declared.kind.Kind.TheVariants as kind
use Rattle.cp_base.specs.declared.identifier.ClientId.{ClientId}
use Rattle.cp_base.specs.declared.identifier.ThreadNo.{ThreadNo}
use Rattle.std.proofs.lemmas.Slice.Eq.{bytes_eq-Decides}
use Rattle.cp_base.proofs.Tests.{no_true}
use Rattle.cp_group_state.specs.Rows.{find, put, without, name_cmp, object_cmp, holder_cmp, pair_cmp, kind_number}
use Rattle.cp_group_state.specs.Waiters.{same_client}

-- keys that compare equal are equal
pub record IsKey {K : Type 0} (cmp : K → K → Ordering) : Type 0 where
  pub here : (k : K) → cmp k k ≡ Equal
  pub same : (k q : K) → cmp k q ≡ Equal → k ≡ q

pub equal_is : (o : Ordering) → is_eq o ≡ true → o ≡ Equal
equal_is Less h = cc
equal_is Equal h = refl
equal_is Greater h = cc

module _ {K X : Type 0} (cmp : K → K → Ordering) (key : IsKey cmp) where
  pub find-put_same : (rows : List (K × X)) (k : K) (x : X) → find cmp (put cmp rows k x) k ≡ Some x
  find-put_same [] k x = rw (key.here k)
  find-put_same (e ∷ es) k x = by (find-put_same es k x) (cmp k e.0) refl where
    by : find cmp (put cmp es k x) k ≡ Some x → (o : Ordering) → cmp k e.0 ≡ o → find cmp (match_ordering o ((k, x) ∷ e ∷ es) ((e.0, x) ∷ es) (e ∷ put cmp es k x)) k ≡ Some x
    by rest Less h = rw (key.here k)
    by rest Equal h = rw h
    by rest Greater h = rw h rest

  pub find-put_other : (rows : List (K × X)) (k q : K) (x : X) → is_at (cmp q) k ≡ false → find cmp (put cmp rows k x) q ≡ find cmp rows q
  find-put_other [] k q x apart = rw apart
  find-put_other (e ∷ es) k q x apart = by (find-put_other es k q x apart) (cmp k e.0) refl where
    by : find cmp (put cmp es k x) q ≡ find cmp es q → (o : Ordering) → cmp k e.0 ≡ o → find cmp (match_ordering o ((k, x) ∷ e ∷ es) ((e.0, x) ∷ es) (e ∷ put cmp es k x)) q ≡ find cmp (e ∷ es) q
    by rest Less h = rw apart
    by rest Equal h = let same = key.same k e.0 h in let far : is_at (cmp q) e.0 ≡ false = subst (λ y. is_at (cmp q) y ≡ false) same apart in rw far
    by rest Greater h = ap (λ (r : Option X). cond (is_at (cmp q) e.0) (Some e.1) r) rest

  pub find-without_other : (rows : List (K × X)) (k q : K) → is_at (cmp q) k ≡ false → find cmp (without cmp rows k) q ≡ find cmp rows q
  find-without_other [] k q apart = refl
  find-without_other (e ∷ es) k q apart = by (find-without_other es k q apart) (cmp k e.0) refl where
    away : k ≡ e.0 → find cmp es q ≡ find cmp (e ∷ es) q
    away same = let far : is_at (cmp q) e.0 ≡ false = subst (λ y. is_at (cmp q) y ≡ false) same apart in rw far

    by : find cmp (without cmp es k) q ≡ find cmp es q → (o : Ordering) → cmp k e.0 ≡ o → find cmp (cond (is_eq o) es (e ∷ without cmp es k)) q ≡ find cmp (e ∷ es) q
    by rest Equal h = away (key.same k e.0 h)
    by rest Less h = ap (λ (r : Option X). cond (is_at (cmp q) e.0) (Some e.1) r) rest
    by rest Greater h = ap (λ (r : Option X). cond (is_at (cmp q) e.0) (Some e.1) r) rest

  pub find-filter_kept : (test : K → Bool) (rows : List (K × X)) (q : K) → test q ≡ true → find cmp (filter (λ e. test e.0) rows) q ≡ find cmp rows q
  find-filter_kept test [] q h = refl
  find-filter_kept test (e ∷ es) q h = by (find-filter_kept test es q h) (test e.0) (cmp q e.0) refl refl where
    by : find cmp (filter (λ e. test e.0) es) q ≡ find cmp es q → (b : Bool) (o : Ordering) → test e.0 ≡ b → cmp q e.0 ≡ o → find cmp (cond b (e ∷ filter (λ e. test e.0) es) (filter (λ e. test e.0) es)) q ≡ find cmp (e ∷ es) q
    by rest true o t i = ap (λ (r : Option X). cond (is_at (cmp q) e.0) (Some e.1) r) rest
    by rest false Equal t i = let same = key.same q e.0 i in absurd (no_true (sym h ∙ ap test same ∙ t))
    by rest false Less t i = rw i rest
    by rest false Greater t i = rw i rest

  pub find-filter_gone : (test : K → Bool) (rows : List (K × X)) (q : K) → test q ≡ false → find cmp (filter (λ e. test e.0) rows) q ≡ None
  find-filter_gone test [] q h = refl
  find-filter_gone test (e ∷ es) q h = by (find-filter_gone test es q h) (test e.0) (cmp q e.0) refl refl where
    by : find cmp (filter (λ e. test e.0) es) q ≡ None → (b : Bool) (o : Ordering) → test e.0 ≡ b → cmp q e.0 ≡ o → find cmp (cond b (e ∷ filter (λ e. test e.0) es) (filter (λ e. test e.0) es)) q ≡ None
    by rest false o t i = rest
    by rest true Equal t i = let same = key.same q e.0 i in absurd (no_true (sym t ∙ ap test (sym same) ∙ h))
    by rest true Less t i = rw i rest
    by rest true Greater t i = rw i rest

module _ {K : Type 0} (cmp : K → K → Ordering) (key : IsKey cmp) where
  pub is_at_apart : (q k : K) → (q ≡ k → ⊥) → is_at (cmp q) k ≡ false
  is_at_apart q k far = by (cmp q k) refl where
    by : (o : Ordering) → cmp q k ≡ o → is_eq o ≡ false
    by Less h = refl
    by Equal h = absurd (far (key.same q k h))
    by Greater h = refl

pub then_equal : (o p : Ordering) → ordering_then o p ≡ Equal → (o ≡ Equal) × (p ≡ Equal)
then_equal Less p h = cc
then_equal Equal p h = (refl, h)
then_equal Greater p h = cc

pub number_key : IsKey nat_cmp
number_key = record { here = tied_itself nat_cmp_total; same = nat_cmp-IsAntisymmetric }

pub name_key : IsKey name_cmp
name_key = record { here = tied_itself nat_list_cmp_total; same = slice_cmp-IsAntisymmetric nat_cmp-IsAntisymmetric }

kind_of : ℕ → Kind
kind_of n = if n == 1 then kind.Long else if n == 2 then kind.Ref else if n == 3 then kind.Lock else if n == 4 then kind.Sem else if n == 5 then kind.Jsem else if n == 6 then kind.Latch else kind.Map

kind_back : (k : Kind) → kind_of (kind_number k) ≡ k
unfolding kind_of
kind_back kind.Long = refl
kind_back kind.Ref = refl
kind_back kind.Lock = refl
kind_back kind.Sem = refl
kind_back kind.Jsem = refl
kind_back kind.Latch = refl
kind_back kind.Map = refl

pub same_kind : (k q : Kind) → kind_number k ≡ kind_number q → k ≡ q
same_kind k q e = sym (kind_back k) ∙ ap kind_of e ∙ kind_back q

-- a pair is a key where its parts are
pub pair_same : {A B : Type 0} (a b : A × B) → a.0 ≡ b.0 → a.1 ≡ b.1 → a ≡ b
pair_same a b e f = λ i. (e i, f i)

pub object_key : IsKey object_cmp
object_key = record {
  here = λ k. rw (tied_itself nat_list_cmp_total k.0) (tied_itself nat_cmp_total (kind_number k.1));
  same = λ k q e. let both = then_equal (name_cmp k.0 q.0) (nat_cmp (kind_number k.1) (kind_number q.1)) e in
      pair_same k q (name_key.same k.0 q.0 both.0) (same_kind k.1 q.1 (nat_cmp-IsAntisymmetric (kind_number k.1) (kind_number q.1) both.1));
}

pub holder_key : IsKey holder_cmp
holder_key = record {
  here = λ k. rw (tied_itself nat_cmp_total k.0) (tied_itself nat_cmp_total k.1);
  same = λ k q e. let both = then_equal (nat_cmp k.0 q.0) (nat_cmp k.1 q.1) e in
      pair_same k q (nat_cmp-IsAntisymmetric k.0 q.0 both.0) (nat_cmp-IsAntisymmetric k.1 q.1 both.1);
}

pub pair_key : IsKey pair_cmp
pair_key = record {
  here = λ k. rw (tied_itself nat_list_cmp_total k.0) (tied_itself nat_list_cmp_total k.1);
  same = λ k q e. let both = then_equal (name_cmp k.0 q.0) (name_cmp k.1 q.1) e in
      pair_same k q (name_key.same k.0 q.0 both.0) (name_key.same k.1 q.1 both.1);
}

-- clients are the same where their bytes are
pub same-client : (a b : ClientId) → same_client a b ≡ true → a ≡ b
same-client a b h = let e : a.0 ≡ b.0 = (bytes_eq-Decides a.0 b.0).0 h in λ j. record { 0 = e j }

pub client-itself : (a : ClientId) → same_client a a ≡ true
client-itself a = (bytes_eq-Decides a.0 a.0).1 refl

pub same-thread : (a b : ThreadNo) → a.0 ≡ b.0 → a ≡ b
same-thread a b e = λ j. record { 0 = e j }

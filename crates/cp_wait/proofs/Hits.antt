-- Where the key of a waiter is asked for.
use Rattle.std.proofs.Common.{◌≡◌, ℕ, Bool, true, false, ◌&&◌, List, refl, ap, sym, ◌∙◌, arith, cond}
use Rattle.std.specs.Prelude.{◌==◌, bytes_eq, nat_lt}
use Rattle.std.specs.declared.cmp.Ordering.{Ordering}
use Rattle.std.specs.declared.cmp.Ordering.TheVariants.{Less, Equal, Greater}
use Rattle.std.specs.Ordering.{is_eq, nat_cmp, ordering_then}
use Rattle.std.specs.BTreeMap.{is_at}
use Rattle.std.proofs.lemmas.Bool.Decides.{nat_tests}
use Rattle.std.proofs.lemmas.Slice.Eq.{bytes_eq-Decides}
use Rattle.cp_base.specs.declared.identifier.ClientId.{ClientId}
use Rattle.cp_base.specs.declared.identifier.ThreadNo.{ThreadNo}
use Rattle.cp_base.proofs.Tests.{alike}
use Rattle.cp_op_values.specs.declared.kind.Kind.{Kind}
use Rattle.cp_group_state.specs.Rows.{kind_number, name_cmp}
use Rattle.cp_group_state.specs.Waiters.{same_client}
use Rattle.cp_group_state.proofs.Keyed.{equal_is, name_key}
use Rattle.cp_wait.specs.Indexes.{kind_cmp, thread_cmp}

then_both : (o p : Ordering) → is_eq (ordering_then o p) ≡ (is_eq o && is_eq p)
then_both Less p = refl
then_both Equal p = refl
then_both Greater p = refl

pub number_hit : (a b : ℕ) → is_at (nat_cmp a) b ≡ (b == a)
number_hit a b = at (nat_lt a b) (a == b) refl refl
  where
    at : (l e : Bool) → nat_lt a b ≡ l → (a == b) ≡ e → is_eq (cond l Less (cond e Equal Greater)) ≡ (b == a)
    at true e h i = grind (arith, nat_tests)
    at false true h i = grind (arith, nat_tests)
    at false false h i = grind (arith, nat_tests)

pub bytes_hit : (a b : List ℕ) → is_at (name_cmp a) b ≡ bytes_eq b a
bytes_hit a b = alike (is_at (name_cmp a) b) (bytes_eq b a)
    (λ h. (bytes_eq-Decides b a).1 (sym (name_key.same a b (equal_is _ h))))
    (λ h. let same : b ≡ a = (bytes_eq-Decides b a).0 h in rw same (ap is_eq (name_key.here a)))

pub thread_hit : (a b : ClientId × ThreadNo) → is_at (thread_cmp a) b ≡ (same_client b.0 a.0 && (b.1.0 == a.1.0))
thread_hit a b = then_both (name_cmp a.0.0 b.0.0) (nat_cmp a.1.0 b.1.0) ∙ rw (bytes_hit a.0.0 b.0.0, number_hit a.1.0 b.1.0) refl

pub object_hit : (a : Kind) (name : List ℕ) (b : Kind) (asked : List ℕ) → (is_at (kind_cmp a) b && is_at (name_cmp name) asked) ≡ ((kind_number b == kind_number a) && bytes_eq asked name)
object_hit a name b asked = rw (number_hit (kind_number a) (kind_number b), bytes_hit name asked) refl

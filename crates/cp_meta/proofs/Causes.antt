-- Each answer is given exactly where it is said.
use Rattle.std.proofs.Common.{◌≡◌, ℕ, ◌<◌, ◌≤◌, Bool, true, false, ◌||◌, not, List, [], ◌∷◌, length, Option, Some, None, refl, ap, sym, ◌∙◌, subst, arith, if◌then◌else◌}
use Rattle.std.specs.Prelude.{nat_lt, ◌==◌, ◌≢◌, bytes_eq}
use Rattle.std.proofs.lemmas.Option.{none-some}
use Rattle.std.proofs.lemmas.Bool.{not-true}
use Rattle.std.proofs.lemmas.Bool.Decides.{nat_tests}
use Rattle.cp_base.proofs.Tests.{less, not_less, no_true, bytes_same, same_some}
use Rattle.cp_answers.specs.declared.answer.Answer.{Answer}
use Rattle.cp_answers.specs.declared.answer.Answer.TheVariants as answer
use Rattle.cp_answers.specs.declared.argument.Argument.TheVariants as argument
use Rattle.cp_group_state.proofs.Walk.{cases}
use Rattle.cp_meta_state.specs.declared.rows.TheConstants.{MOST_GROUPS, MOST_DESTROYED}
use Rattle.cp_meta_state.specs.declared.rows.GroupRow.{GroupRow}
use Rattle.cp_meta_state.specs.MetaState.{MetaState, Groups, active, is_in, is_out, those}
use Rattle.cp_meta_state.specs.Says.{Says}
use Rattle.cp_meta_state.specs.Creating.{create, create_by, named}
use Rattle.cp_meta_state.specs.Destroying.{destroy, destroy_by, destroy_row, given_up, is_fixed}
use Rattle.cp_meta_state.specs.Leaving.{is_unsettled, leave}
use Rattle.cp_meta_state.specs.Joining.{join}
use Rattle.cp_meta.specs.Causes.{CreateIsAnswered, name_ends, name_stands, few_active, no_room, makes}
use Rattle.cp_meta.specs.Causes.{DestroyIsAnswered, no_name, ends_already, stays, too_many, destroys}
use Rattle.cp_meta.specs.Causes.{LeaveIsAnswered, leaves_later, not_active, only_one, leaves}
use Rattle.cp_meta.specs.Causes.{JoinIsAnswered, joins_later, not_out, joins, AnswersHaveCauses}

test_less : (a b : ℕ) → a < b → nat_lt a b ≡ true
test_less a b h = grind (arith, nat_tests)

test_not_less : (a b : ℕ) → b ≤ a → nat_lt a b ≡ false
test_not_less a b h = grind (arith, nat_tests)

test_same : (a b : ℕ) → a ≡ b → (a == b) ≡ true
test_same a b h = grind (arith, nat_tests)

is_same : (a b : ℕ) → (a == b) ≡ true → a ≡ b
is_same a b h = grind (arith, nat_tests)

test_apart : (a b : ℕ) → a ≢ b → (a == b) ≡ false
test_apart a b h = by (a == b) refl where
  by : (t : Bool) → (a == b) ≡ t → (a == b) ≡ false
  by true is = absurd (h (is_same a b is))
  by false is = is

is_apart : (a b : ℕ) → (a == b) ≡ false → a ≢ b
is_apart a b h same = absurd (no_true (sym (test_same a b same) ∙ h))

-- the row that is found has the name
named_is : (groups : Groups) (name : List ℕ) (e : ℕ × GroupRow) → named groups name ≡ Some e → e.1.name ≡ name
named_is [] name e h = absurd (none-some e h)
named_is (g ∷ gs) name e h = by (bytes_eq g.1.name name) refl h (named_is gs name e) where
  by : (b : Bool) → bytes_eq g.1.name name ≡ b → (if b then Some g else named gs name) ≡ Some e → (named gs name ≡ Some e → e.1.name ≡ name) → e.1.name ≡ name
  by true is found rest = ap (λ (f : ℕ × GroupRow). f.1.name) (sym (same_some found)) ∙ bytes_same g.1.name name is
  by false is found rest = rest found

-- ---- create

create_why : (index : ℕ) (name : List ℕ) (size : ℕ) (s : MetaState) → CreateIsAnswered index name size s (create index name size s).answer
create_why index name size s = by (named s.groups name) refl where
  by : (o : Option (ℕ × GroupRow)) → named s.groups name ≡ o → CreateIsAnswered index name size s (create_by o index name size s).answer
  by None free = cases (λ (r : Says). CreateIsAnswered index name size s r.answer) (nat_lt (length (active s)) size) _ _ (λ few. few_active free (less _ _ few))
      (λ enough. cases (λ (r : Says). CreateIsAnswered index name size s r.answer) (nat_lt (length s.groups) MOST_GROUPS) _ _
      (λ room. makes free (not_less _ _ enough) (less _ _ room)) (λ full. no_room free (not_less _ _ enough) (not_less _ _ full)))
  by (Some e) is = cases (λ (a : Answer). CreateIsAnswered index name size s a) e.1.destroying _ _ (λ ends. name_ends e is ends) (λ standing. name_stands e is standing)

create_where : (index : ℕ) (name : List ℕ) (size : ℕ) (s : MetaState) (a : Answer) → CreateIsAnswered index name size s a → (create index name size s).answer ≡ a
create_where index name size s _ (name_ends e is ends) = rw is (rw ends refl)
create_where index name size s _ (name_stands e is standing) = rw is (rw standing refl)
create_where index name size s _ (few_active free few) = rw free (rw (test_less (length (active s)) size few) refl)
create_where index name size s _ (no_room free enough full) = rw free (rw (test_not_less (length (active s)) size enough) (rw (test_not_less (length s.groups) MOST_GROUPS full) refl))
create_where index name size s _ (makes free enough room) = rw free (rw (test_not_less (length (active s)) size enough) (rw (test_less (length s.groups) MOST_GROUPS room) refl))

-- ---- destroy

neither : (a b : Bool) → (a || b) ≡ false → (a ≡ false) × (b ≡ false)
neither true b h = absurd (no_true h)
neither false b h = (refl, h)

second_of : (a b : Bool) → a ≡ false → (a || b) ≡ true → b ≡ true
second_of true b first h = absurd (no_true first)
second_of false b first h = h

first_does : (a b : Bool) → a ≡ true → (a || b) ≡ true
first_does true b h = refl
first_does false b h = absurd (no_true (sym h))

second_does : (a b : Bool) → b ≡ true → (a || b) ≡ true
second_does true b h = refl
second_does false b h = h

neither_does : (a b : Bool) → a ≡ false → b ≡ false → (a || b) ≡ false
neither_does true b first second = absurd (no_true first)
neither_does false b first second = second

destroy_row_why : (name : List ℕ) (s : MetaState) (e : ℕ × GroupRow) → named s.groups name ≡ Some e → e.1.name ≡ name → DestroyIsAnswered name s (destroy_row e.0 e.1 s).answer
destroy_row_why name s e is own = cases (λ (r : Says). DestroyIsAnswered name s r.answer) (e.1.destroying || is_fixed e.1.name) _ _ (λ refuses. refused e.1.destroying refl refuses)
    (λ goes. let both = neither e.1.destroying (is_fixed e.1.name) goes in
    cases (λ (r : Says). DestroyIsAnswered name s r.answer) (nat_lt (given_up s) MOST_DESTROYED) _ _
    (λ room. destroys e is both.0 (fixed ∙ both.1) (less _ _ room)) (λ full. too_many e is both.0 (fixed ∙ both.1) (not_less _ _ full)))
  where
    fixed : is_fixed name ≡ is_fixed e.1.name
    fixed = ap (λ (n : List ℕ). is_fixed n) (sym own)

    refused : (d : Bool) → e.1.destroying ≡ d → (e.1.destroying || is_fixed e.1.name) ≡ true → DestroyIsAnswered name s (answer.BadArgument argument.Group)
    refused true ending refuses = ends_already e is ending
    refused false standing refuses = stays e is (fixed ∙ second_of e.1.destroying (is_fixed e.1.name) standing refuses)

destroy_why : (name : List ℕ) (s : MetaState) → DestroyIsAnswered name s (destroy name s).answer
destroy_why name s = by (named s.groups name) refl where
  by : (o : Option (ℕ × GroupRow)) → named s.groups name ≡ o → DestroyIsAnswered name s (destroy_by o s).answer
  by None free = no_name free
  by (Some e) is = destroy_row_why name s e is (named_is s.groups name e is)

-- a group that has a row, and what its row comes to
row_where : (name : List ℕ) (s : MetaState) (e : ℕ × GroupRow) (a : Answer) → named s.groups name ≡ Some e → (destroy_row e.0 e.1 s).answer ≡ a → (destroy name s).answer ≡ a
row_where name s e a is h = ap (λ (o : Option (ℕ × GroupRow)). (destroy_by o s).answer) is ∙ h

refused_where : (s : MetaState) (e : ℕ × GroupRow) → (e.1.destroying || is_fixed e.1.name) ≡ true → (destroy_row e.0 e.1 s).answer ≡ answer.BadArgument argument.Group
refused_where s e refuses = rw refuses refl

too_many_where : (s : MetaState) (e : ℕ × GroupRow) → (e.1.destroying || is_fixed e.1.name) ≡ false → nat_lt (given_up s) MOST_DESTROYED ≡ false → (destroy_row e.0 e.1 s).answer ≡ answer.TableFull MOST_DESTROYED
too_many_where s e goes full = rw goes (rw full refl)

destroys_where : (s : MetaState) (e : ℕ × GroupRow) → (e.1.destroying || is_fixed e.1.name) ≡ false → nat_lt (given_up s) MOST_DESTROYED ≡ true → (destroy_row e.0 e.1 s).answer ≡ answer.Ok
destroys_where s e goes room = rw goes (rw room refl)

fixed_own : (name : List ℕ) (s : MetaState) (e : ℕ × GroupRow) (b : Bool) → named s.groups name ≡ Some e → is_fixed name ≡ b → is_fixed e.1.name ≡ b
fixed_own name s e b is h = ap (λ (n : List ℕ). is_fixed n) (named_is s.groups name e is) ∙ h

destroy_where : (name : List ℕ) (s : MetaState) (a : Answer) → DestroyIsAnswered name s a → (destroy name s).answer ≡ a
destroy_where name s _ (no_name free) = ap (λ (o : Option (ℕ × GroupRow)). (destroy_by o s).answer) free
destroy_where name s _ (ends_already e is ending) = row_where name s e _ is (refused_where s e (first_does e.1.destroying (is_fixed e.1.name) ending))
destroy_where name s _ (stays e is fixed) = row_where name s e _ is (refused_where s e (second_does e.1.destroying (is_fixed e.1.name) (fixed_own name s e true is fixed)))
destroy_where name s _ (too_many e is standing other full) = row_where name s e _ is
    (too_many_where s e (neither_does e.1.destroying (is_fixed e.1.name) standing (fixed_own name s e false is other)) (test_not_less (given_up s) MOST_DESTROYED full))
destroy_where name s _ (destroys e is standing other room) = row_where name s e _ is
    (destroys_where s e (neither_does e.1.destroying (is_fixed e.1.name) standing (fixed_own name s e false is other)) (test_less (given_up s) MOST_DESTROYED room))

-- ---- leave

not_false : (b : Bool) → not b ≡ false → b ≡ true
not_false true h = refl
not_false false h = absurd (no_true h)

not_of_true : (b : Bool) → b ≡ true → not b ≡ false
not_of_true true h = refl
not_of_true false h = absurd (no_true (sym h))

not_of_false : (b : Bool) → b ≡ false → not b ≡ true
not_of_false true h = absurd (no_true h)
not_of_false false h = refl

leave_why : (m : ℕ) (s : MetaState) → LeaveIsAnswered m s (leave m s).answer
leave_why m s = cases (λ (r : Says). LeaveIsAnswered m s r.answer) (is_unsettled s) _ _ (λ later. leaves_later later)
    (λ settled. cases (λ (r : Says). LeaveIsAnswered m s r.answer) (not (is_in (active s) m)) _ _ (λ other. not_active settled (not-true _ other))
    (λ own. cases (λ (r : Says). LeaveIsAnswered m s r.answer) (length (active s) == 1) _ _ (λ one. only_one settled (not_false _ own) (is_same _ _ one))
    (λ more. leaves settled (not_false _ own) (is_apart _ _ more))))

if_true : {X : Type 0} (b : Bool) (x y : X) → b ≡ true → (if b then x else y) ≡ x
if_true true x y h = refl
if_true false x y h = absurd (no_true (sym h))

if_false : {X : Type 0} (b : Bool) (x y : X) → b ≡ false → (if b then x else y) ≡ y
if_false true x y h = absurd (no_true h)
if_false false x y h = refl

leave_where : (m : ℕ) (s : MetaState) (a : Answer) → LeaveIsAnswered m s a → (leave m s).answer ≡ a
leave_where m s _ (leaves_later later) = ap (λ (r : Says). r.answer) (if_true (is_unsettled s) _ _ later)
leave_where m s _ (not_active settled other) = ap (λ (r : Says). r.answer) (if_false (is_unsettled s) _ _ settled ∙ if_true (not (is_in (active s) m)) _ _ (not_of_false _ other))
leave_where m s _ (only_one settled own one) = ap (λ (r : Says). r.answer)
    (if_false (is_unsettled s) _ _ settled ∙ if_false (not (is_in (active s) m)) _ _ (not_of_true _ own) ∙ if_true (length (active s) == 1) _ _ (test_same _ _ one))
leave_where m s _ (leaves settled own more) = ap (λ (r : Says). r.answer)
    (if_false (is_unsettled s) _ _ settled ∙ if_false (not (is_in (active s) m)) _ _ (not_of_true _ own) ∙ if_false (length (active s) == 1) _ _ (test_apart _ _ more))

-- ---- join

join_why : (m : ℕ) (s : MetaState) → JoinIsAnswered m s (join m s).answer
join_why m s = cases (λ (r : Says). JoinIsAnswered m s r.answer) (is_unsettled s) _ _ (λ later. joins_later later)
    (λ settled. cases (λ (r : Says). JoinIsAnswered m s r.answer) (not (is_in (those is_out s.members) m)) _ _ (λ inside. not_out settled (not-true _ inside))
    (λ out. joins settled (not_false _ out)))

join_where : (m : ℕ) (s : MetaState) (a : Answer) → JoinIsAnswered m s a → (join m s).answer ≡ a
join_where m s _ (joins_later later) = ap (λ (r : Says). r.answer) (if_true (is_unsettled s) _ _ later)
join_where m s _ (not_out settled inside) = ap (λ (r : Says). r.answer) (if_false (is_unsettled s) _ _ settled ∙ if_true (not (is_in (those is_out s.members) m)) _ _ (not_of_false _ inside))
join_where m s _ (joins settled out) = ap (λ (r : Says). r.answer) (if_false (is_unsettled s) _ _ settled ∙ if_false (not (is_in (those is_out s.members) m)) _ _ (not_of_true _ out))

-- ---- all

pub answers_have : AnswersHaveCauses
answers_have = record {
  created = λ index name size s a. (λ e. subst (λ (b : Answer). CreateIsAnswered index name size s b) e (create_why index name size s), λ why. create_where index name size s a why);
  destroyed = λ name s a. (λ e. subst (λ (b : Answer). DestroyIsAnswered name s b) e (destroy_why name s), λ why. destroy_where name s a why);
  left = λ m s a. (λ e. subst (λ (b : Answer). LeaveIsAnswered m s b) e (leave_why m s), λ why. leave_where m s a why);
  joined = λ m s a. (λ e. subst (λ (b : Answer). JoinIsAnswered m s b) e (join_why m s), λ why. join_where m s a why);
}

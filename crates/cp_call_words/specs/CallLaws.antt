-- A call is lawful in every context, and has one text in all of them.
use Rattle.std.proofs.Common.{◌≡◌, ℕ, Bool, true, false, List, ◌++◌, Ok, refl}
use Rattle.std.specs.Prelude.{Option, Some, None}
use Rattle.std.specs.List.{AllByRecursion}
use Rattle.cp_codec.specs.Exact.{IsByte}
use Rattle.cp_grammar.specs.Grammar.{Grammar, variant}
use Rattle.cp_grammar.specs.Lawful.{IsLawful}
use Rattle.cp_grammar.specs.Words.{Token, token, keyword}
use Rattle.cp_grammar.specs.Laws.{AreCases, enum_lawful}
use Rattle.cp_grammar.specs.WordLaws.{lawful_text, token_lawful, with_keyword}
use Rattle.cp_op_values.specs.Values.{kind_text}
use Rattle.cp_op_values.specs.declared.kind.Kind.{Kind}
use Rattle.cp_op_values.specs.declared.kind.Kind.TheVariants as kinds
use Rattle.cp_events.specs.declared.object.Object.{Object}
use Rattle.cp_events.specs.declared.user_op.UserOp.{UserOp}
use Rattle.cp_events.specs.declared.user_op.UserOp.TheVariants as user
use Rattle.cp_call_words.specs.declared.context.Context.{Context}
use Rattle.cp_call_words.specs.Values.{group_word}
use Rattle.cp_call_words.specs.ValueLaws.{name_word_lawful, group_word_lawful, member_line_lawful, member_space_lawful}
use Rattle.cp_call_words.specs.Objects.{object_word}
use Rattle.cp_call_words.specs.ObjectCalls.{long_word, long_calls, ref_word, ref_calls, lock_word, lock_calls, sem_word, sem_calls, latch_word, latch_calls, map_word, map_calls, on_object}
use Rattle.cp_call_words.specs.ObjectCallLaws.{long_cases, ref_cases, lock_cases, sem_cases, latch_cases, map_cases, on_object_lawful}
use Rattle.cp_call_words.specs.Calls.{only_if, closing, on_group, on_member, on_change, user_word, made, call_of, user_long, user_ref, user_lock, user_sem, user_jsem, user_latch, user_map, other_calls, user_calls, user_op, call_text}

only_again : {A : Type 0} (holds : Bool) (g : Grammar ℕ A) → IsLawful IsByte g → (x : A) (rest : List ℕ) → (holds ≡ true) × g.Fits x → (only_if holds g).reading (g.spelling x ++ rest) ≡ Ok (x, rest)
only_again holds g law x rest fits = rw fits.0 (law.again x rest fits.1)

only_takes : {A : Type 0} (holds : Bool) (g : Grammar ℕ A) → IsLawful IsByte g → (bytes : List ℕ) (x : A) (rest : List ℕ) → AllByRecursion IsByte bytes → (only_if holds g).reading bytes ≡ Ok (x, rest) → (bytes ≡ g.spelling x ++ rest) × ((holds ≡ true) × g.Fits x)
only_takes true g law bytes x rest good e = let h = law.takes bytes x rest good e in (h.0, (refl, h.1))
only_takes false g law bytes x rest good e = absurd cc

pub only_if_lawful : {A : Type 0} (holds : Bool) (g : Grammar ℕ A) → IsLawful IsByte g → IsLawful IsByte (only_if holds g)
only_if_lawful holds g law = record { again = only_again holds g law; takes = only_takes holds g law }

pub closing_lawful : (managed : Bool) → IsLawful IsByte (closing managed)
unfolding closing
closing_lawful managed = search (lawful_text, group_word_lawful) depth 12

pub on_group_lawful : IsLawful IsByte on_group
unfolding on_group
on_group_lawful = search (lawful_text, name_word_lawful) depth 12

pub on_member_lawful : IsLawful IsByte on_member
unfolding on_member
on_member_lawful = search (lawful_text, member_line_lawful) depth 12

pub on_change_lawful : IsLawful IsByte on_change
unfolding on_change
on_change_lawful = search (lawful_text, member_space_lawful) depth 12

pub other_cases : (context : Context) → AreCases IsByte user_word (other_calls context)
unfolding other_calls
other_cases context = search (lawful_text, only_if_lawful, closing_lawful, on_group_lawful, on_member_lawful, on_change_lawful) depth 14 fits 20000

made_back : {A : Type 0} (kind : Kind) (make : Object → A → UserOp) (parts : UserOp → Option (Object × Option A))
    → ((object : Object) (call : A) → parts (make object call) ≡ Some (object, Some call)) → ((object : Object) → parts (user.Destroy kind object) ≡ Some (object, None))
    → (object : Object) (call : Option A) → parts (made kind make object call) ≡ Some (object, call)
made_back kind make parts calls destroys object None = destroys object
made_back kind make parts calls destroys object (Some call) = calls object call

made_word : {A : Type 0} (kind : Kind) (make : Object → A → UserOp)
    → ((object : Object) (call : A) → user_word (make object call) ≡ (kind_text kind, 32)) → (object : Object) (call : Option A) → user_word (made kind make object call) ≡ (kind_text kind, 32)
made_word kind make words object None = refl
made_word kind make words object (Some call) = words object call

-- one kind of objects more
with_kind : {A : Type 0} (kind : Kind) (make : Object → A → UserOp) (parts : UserOp → Option (Object × Option A)) (g : Grammar ℕ (Object × Option A)) (others : Token → Grammar ℕ UserOp)
    → ((object : Object) (call : A) → parts (make object call) ≡ Some (object, Some call)) → ((object : Object) → parts (user.Destroy kind object) ≡ Some (object, None))
    → ((object : Object) (call : A) → user_word (make object call) ≡ (kind_text kind, 32)) → IsLawful IsByte g → AreCases IsByte user_word others
    → AreCases IsByte user_word (keyword (kind_text kind) 32 (variant (call_of kind make) parts g) others)
with_kind kind make parts g others calls destroys words law rest =
    with_keyword user_word (kind_text kind) 32 (call_of kind make) parts g others law
    (λ p. made_back kind make parts calls destroys p.0 p.1) (λ p. made_word kind make words p.0 p.1) rest

pub user_cases : (context : Context) → AreCases IsByte user_word (user_calls context)
unfolding user_calls
user_cases context =
    with_kind kinds.Long user.Long user_long _ _ (λ o c. refl) (λ o. refl) (λ o c. refl) (on_object_lawful context.managed long_word long_calls long_cases)
    (with_kind kinds.Ref user.Ref user_ref _ _ (λ o c. refl) (λ o. refl) (λ o c. refl) (on_object_lawful context.managed ref_word ref_calls ref_cases)
    (with_kind kinds.Lock user.Lock user_lock _ _ (λ o c. refl) (λ o. refl) (λ o c. refl) (on_object_lawful context.managed lock_word lock_calls lock_cases)
    (with_kind kinds.Sem user.Sem user_sem _ _ (λ o c. refl) (λ o. refl) (λ o c. refl) (on_object_lawful context.managed sem_word sem_calls sem_cases)
    (with_kind kinds.Jsem user.Jsem user_jsem _ _ (λ o c. refl) (λ o. refl) (λ o c. refl) (on_object_lawful context.managed sem_word sem_calls sem_cases)
    (with_kind kinds.Latch user.Latch user_latch _ _ (λ o c. refl) (λ o. refl) (λ o c. refl) (on_object_lawful context.managed latch_word latch_calls latch_cases)
    (with_kind kinds.Map user.Map user_map _ _ (λ o c. refl) (λ o. refl) (λ o c. refl) (on_object_lawful context.managed map_word map_calls map_cases)
    (other_cases context)))))))

-- Every call that has a spelling is read from it, and what is read is spelled so.
pub user_op_lawful : (context : Context) → IsLawful IsByte (user_op context)
unfolding user_op
user_op_lawful context = enum_lawful IsByte token user_word (user_calls context) token_lawful (user_cases context)

-- The spelling of a call is the same in every context.
pub call_text_is : (context : Context) (op : UserOp) → (user_op context).spelling op ≡ call_text op
unfolding user_op user_calls other_calls on_object object_word closing group_word
call_text_is context op = refl

-- Objects as a call names them are lawful.
use Rattle.std.proofs.Common.{◌≡◌, ℕ, Bool, true, false, cond, ◌==◌, List, [], ◌∷◌, ◌++◌, refl, sym, ap, ◌∙◌}
use Rattle.std.proofs.lemmas.Bool.{eqb-true}
use Rattle.cp_codec.specs.Exact.{IsByte}
use Rattle.cp_grammar.specs.Grammar.{checked}
use Rattle.cp_grammar.specs.Lawful.{IsLawful}
use Rattle.cp_grammar.specs.Words.{word}
use Rattle.cp_grammar.specs.Laws.{mapped_lawful, checked_lawful}
use Rattle.cp_grammar.specs.WordLaws.{word_lawful}
use Rattle.cp_call_words.specs.Objects.{before_at, from_at, object_parted, object_of, object_text, is_object, object_word}

-- bytes are what stands before the first @, and what stands from it on
parted_step : (b : ℕ) (bytes front back : List ℕ) (is : Bool) → front ++ back ≡ bytes → cond is [] (b ∷ front) ++ cond is (b ∷ bytes) back ≡ b ∷ bytes
parted_step b bytes front back true e = refl
parted_step b bytes front back false e = ap (λ (xs : List ℕ). b ∷ xs) e

pub parted : (bytes : List ℕ) → before_at bytes ++ from_at bytes ≡ bytes
unfolding before_at from_at
parted [] = refl
parted (b ∷ bytes) = parted_step b bytes (before_at bytes) (from_at bytes) (b == 64) (parted bytes)

-- what stands from the first @ on begins with it
from_step : (b : ℕ) (bytes back : List ℕ) (x : ℕ) (xs : List ℕ) (is : Bool) → (b == 64) ≡ is → (back ≡ x ∷ xs → x ≡ 64) → cond is (b ∷ bytes) back ≡ x ∷ xs → x ≡ 64
from_step b bytes back x xs true is rest e = let first : b ≡ x = cc in sym first ∙ eqb-true b 64 is
from_step b bytes back x xs false is rest e = rest e

pub at_first : (bytes : List ℕ) (x : ℕ) (xs : List ℕ) → from_at bytes ≡ x ∷ xs → x ≡ 64
unfolding from_at
at_first [] x xs e = absurd cc
at_first (b ∷ bytes) x xs e = from_step b bytes (from_at bytes) x xs (b == 64) refl (at_first bytes x xs) e

text_again : (name back : List ℕ) → ((x : ℕ) (xs : List ℕ) → back ≡ x ∷ xs → x ≡ 64) → object_text (object_parted name back) ≡ name ++ back
text_again name [] first = refl
text_again name (x ∷ xs) first = let at : x ≡ 64 = first x xs refl in rw at refl

-- the text of the object of a text
pub object_back : (text : List ℕ) → object_text (object_of text) ≡ text
object_back text = text_again (before_at text) (from_at text) (at_first text) ∙ parted text

pub object_word_lawful : (managed : Bool) → IsLawful IsByte (object_word managed)
unfolding object_word
object_word_lawful managed =
    let rule : List ℕ → Bool = λ text. is_object managed (object_of text) in
    mapped_lawful IsByte (checked (word 32) rule) (checked_lawful IsByte (word 32) (word_lawful 32) rule) object_of object_text (λ text fits. object_back text)

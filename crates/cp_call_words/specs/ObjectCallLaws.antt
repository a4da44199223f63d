-- What is asked of objects is lawful.
use Rattle.std.proofs.Common.{◌≡◌, ℕ, Bool, refl}
use Rattle.std.specs.Prelude.{Option, Some, None, codes}
use Rattle.cp_codec.specs.Exact.{IsByte}
use Rattle.cp_grammar.specs.Grammar.{Grammar, FitsOf, variant}
use Rattle.cp_grammar.specs.Lawful.{IsLawful}
use Rattle.cp_grammar.specs.Words.{Token, token}
use Rattle.cp_grammar.specs.Laws.{AreCases, variant_lawful, enum_lawful, then_lawful}
use Rattle.cp_grammar.specs.WordLaws.{lawful_text, token_lawful, with_keyword_alone}
use Rattle.cp_call_words.specs.ValueLaws.{signed_word_lawful, hex_word_lawful, reference_word_lawful}
use Rattle.cp_call_words.specs.Objects.{object_word}
use Rattle.cp_call_words.specs.ObjectLaws.{object_word_lawful}
use Rattle.cp_call_words.specs.ObjectCalls.{long_word, long_calls, ref_word, ref_calls, lock_word, lock_calls, sem_word, sem_calls, latch_word, latch_calls, map_word, map_calls, asked_word, asked, on_object}

pub long_cases : AreCases IsByte long_word long_calls
unfolding long_calls
long_cases = search (lawful_text, signed_word_lawful) depth 20 fits 20000

pub ref_cases : AreCases IsByte ref_word ref_calls
unfolding ref_calls
ref_cases = search (lawful_text, reference_word_lawful) depth 20 fits 20000

pub lock_cases : AreCases IsByte lock_word lock_calls
unfolding lock_calls
lock_cases = search lawful_text depth 20 fits 20000

pub sem_cases : AreCases IsByte sem_word sem_calls
unfolding sem_calls
sem_cases = search lawful_text depth 20 fits 20000

pub latch_cases : AreCases IsByte latch_word latch_calls
unfolding latch_calls
latch_cases = search lawful_text depth 20 fits 20000

pub map_cases : AreCases IsByte map_word map_calls
unfolding map_calls
map_cases = search (lawful_text, hex_word_lawful) depth 20 fits 20000

asked_tag : {A : Type 0} (word : A → Token) (calls : Token → Grammar ℕ A) → AreCases IsByte word calls → (t : Token) (o : Option A) → FitsOf (calls t) Some o o → asked_word word o ≡ t
asked_tag word calls all t None fits = absurd fits
asked_tag word calls all t (Some call) fits = all.tags t call fits.0

asked_cases : {A : Type 0} (word : A → Token) (calls : Token → Grammar ℕ A) → AreCases IsByte word calls → AreCases IsByte (asked_word word) (λ t. variant Some (λ o. o) (calls t))
asked_cases word calls all = record {
  laws = λ t. variant_lawful IsByte (calls t) (all.laws t) Some (λ o. o) (λ x. refl);
  tags = λ t o fits. asked_tag word calls all t o fits;
}

pub on_object_lawful : {A : Type 0} (managed : Bool) (word : A → Token) (calls : Token → Grammar ℕ A) → AreCases IsByte word calls → IsLawful IsByte (on_object managed word calls)
unfolding on_object
on_object_lawful managed word calls all =
    then_lawful IsByte (object_word managed) (object_word_lawful managed) (asked word calls)
    (enum_lawful IsByte token (asked_word word) _ token_lawful (with_keyword_alone (asked_word word) (codes "destroy") 10 None _ refl (asked_cases word calls all)))

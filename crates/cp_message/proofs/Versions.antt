-- What is spelled in some version is read, and what is read is spelled so.
use Rattle.std.proofs.Common.{◌≡◌, ℕ, List, Result, Ok, ap, sym, refl, arith, ◌∙◌}
use Rattle.std.specs.List.{AllByRecursion}
use Rattle.cp_codec.specs.Exact.{IsByte}
use Rattle.cp_grammar.specs.Grammar.{whole}
use Rattle.cp_grammar.specs.Laws.{ok_is, whole_again, whole_takes}
use Rattle.cp_grammar.specs.Readers.{Fails}
use Rattle.cp_grammar.specs.declared.stop.ReadError.{ReadError}
use Rattle.cp_grammar.specs.declared.stop.ReadError.TheVariants as errors
use Rattle.cp_message.specs.declared.message.Message.{Message}
use Rattle.cp_message.specs.Messages.{message_grammar, any_version, Spells}
use Rattle.cp_message.specs.Laws.{any_version_lawful}
use Rattle.cp_message.proofs.Newer.{newest_fits}

pub is_told : (version : ℕ) (value : Message) (bytes : List ℕ) → Spells version value bytes → whole any_version bytes ≡ Ok (version, value)
is_told version value bytes spelled = ap (whole any_version) spelled.1 ∙ whole_again IsByte any_version any_version_lawful (version, value) spelled.0

pub is_spelled : (bytes : List ℕ) (x : ℕ × Message) → AllByRecursion IsByte bytes → whole any_version bytes ≡ Ok x → Spells x.0 x.1 bytes
is_spelled bytes x good told = let h = whole_takes IsByte any_version any_version_lawful bytes x good told in (h.1, h.0)

abbrev ok : {A : Type 0} → A → Result A ℕ
ok x = Ok x

pub fails_no_more : {A B : Type 0} (e : ReadError) (read : Result A ℕ) (x : A) (y : B) → Fails e read → read ≡ Ok x → Fails e (ok y)
fails_no_more errors.NoMemory read x y fails told = tt
fails_no_more (errors.NotInGrammar place) read x y fails told = absurd cc

pub same_told : {A B : Type 0} (read : Result (A × B) ℕ) (x y : A × B) → read ≡ Ok x → read ≡ Ok y → ok y.1 ≡ ok x.1
same_told {A} {B} read x y first second = ap (λ (p : A × B). ok p.1) (sym (ok_is x y (sym first ∙ second)))

-- What is written is a spelling in version 2.
pub newest_spells : (value : Message) → message_grammar.Fits value → Spells 2 value (message_grammar.spelling value)
unfolding any_version
newest_spells value fits = (((omega arith, refl), fits), refl)

-- What is read can be written.
pub is_writable : (bytes : List ℕ) (x : ℕ × Message) → AllByRecursion IsByte bytes → whole any_version bytes ≡ Ok x → message_grammar.Fits x.1
unfolding any_version
is_writable bytes x good told = newest_fits x.0 x.1 (whole_takes IsByte any_version any_version_lawful bytes x good told).1.1

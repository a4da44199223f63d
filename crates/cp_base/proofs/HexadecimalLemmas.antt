-- Which bytes a text is the digits of, by what `hex` answers.
use Rattle.std.proofs.Common.{◌≡◌, ◌≢◌, ◌⊎◌, inl, inr, ℕ, true, false, List, bytes_eq, Ok, Err, ap, sym, ◌∙◌}
use Rattle.std.proofs.lemmas.Slice.Eq.{bytes_eq-Decides}
use Rattle.hex.specs.Hex.{IsBytes, decode_of, encode_lower}
use Rattle.hex.specs.declared.error.FromHexError.{FromHexError}
use Rattle.hex.specs.declared.error.FromHexError.TheVariants.{OutOfMemory}
use Rattle.hex.proofs.HexLemmas.{decode_of-encode_lower, decode_of-same}

-- text that does not decode
pub no_digits : (text : List ℕ) (error : FromHexError) → (error ≡ OutOfMemory) ⊎ (decode_of text ≡ Err error) → (error ≡ OutOfMemory → ⊥)
    → (bytes : List ℕ) → IsBytes bytes → text ≢ encode_lower bytes
no_digits text error (inl memory) other bytes are same = other memory
no_digits text error (inr fails) other bytes are same =
    let decodes : decode_of text ≡ Ok bytes = ap decode_of same ∙ decode_of-encode_lower bytes are in
    cc

-- text that differs from the digits of what it decodes to
pub other_digits : (text read : List ℕ) → decode_of text ≡ Ok read → (written : List ℕ) → written ≡ encode_lower read → bytes_eq written text ≡ false
    → (bytes : List ℕ) → IsBytes bytes → text ≢ encode_lower bytes
other_digits text read decodes written writes differs bytes are same =
    let equal : read ≡ bytes = decode_of-same text read bytes decodes (ap decode_of same ∙ decode_of-encode_lower bytes are) in
    let spelled : written ≡ text = writes ∙ ap encode_lower equal ∙ sym same in
    let agrees : bytes_eq written text ≡ true = (bytes_eq-Decides written text).1 spelled in
    cc

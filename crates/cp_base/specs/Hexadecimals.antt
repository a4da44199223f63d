-- Bytes as hexadecimal text: two lower-case digits for each byte.
use Rattle.std.specs.Prelude.{◌≡◌, ◌≢◌, ℕ, List, Option, Some, None}
use Rattle.hex.specs.Hex.{IsBytes, encode_lower}

-- What a reader gives: the bytes whose digits the text is, else none.
abbrev pub ReadsHex : List ℕ → Option (List ℕ) → Type 0
ReadsHex text (Some bytes) = text ≡ encode_lower bytes
ReadsHex text None = (bytes : List ℕ) → IsBytes bytes → text ≢ encode_lower bytes

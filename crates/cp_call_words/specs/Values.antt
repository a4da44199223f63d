-- The words of values: numbers, bytes, names. Each is one field, which fails at its first byte.
use Rattle.cp_base.specs.declared.limits.TheConstants.{LAST_NUMBER}
use Rattle.std.specs.Prelude.{ℕ, ℤ, pos, negsuc, ◌-◌, ◌^◌, Bool, true, cond, not, ◌&&◌, List, [], ◌∷◌, length, Option, Some, None, Result, Ok, Err, nat_le, nat_lt, codes}
use Rattle.std.specs.Fmt.{signed_decimal}
use Rattle.std.specs.Str.Parse.{signed_digits_value}
use Rattle.hex.specs.Hex.{decode_of}
use Rattle.hex.specs.declared.error.FromHexError.{FromHexError}
use Rattle.cp_base.specs.Names.{name_fault}
use Rattle.cp_base.specs.declared.identifier.MemberNo.{MemberNo}
use Rattle.cp_grammar.specs.Grammar.{Grammar, checked, mapped}
use Rattle.cp_grammar.specs.Words.{word, same_bytes, number_word, texted}
use Rattle.cp_op_values.specs.Values.{hex_text, reference_text}
use Rattle.cp_grammar.specs.Common.{is_none}

-- whether a word is the text of the value that it is read as, and that value keeps the rule
abbrev pub is_own_text : {A : Type 0} → (A → List ℕ) → (List ℕ → A) → (A → Bool) → List ℕ → Bool
is_own_text text parse rule w = same_bytes w (text (parse w)) && rule (parse w)

-- ---- numbers

-- a decimal number from `least` to `most`
abbrev pub between_word : ℕ → ℕ → ℕ → Grammar ℕ ℕ
between_word end least most = checked (number_word end most) (λ n. nat_le least n)

-- of 64 bits with a sign
abbrev pub is_long : ℤ → Bool
is_long (pos n) = nat_lt n (2 ^ 63)
is_long (negsuc n) = nat_lt n (2 ^ 63)

unfoldable pub signed_word : ℕ → Grammar ℕ ℤ
signed_word end = texted end signed_decimal (signed_digits_value 10) is_long

abbrev pub milliseconds : ℕ → Grammar ℕ ℕ
milliseconds end = number_word end (2 ^ 32 - 1)

abbrev pub permits_word : ℕ → Grammar ℕ ℕ
permits_word end = number_word end (2 ^ 31 - 1)

-- an index of the log
abbrev pub index_word : ℕ → Grammar ℕ ℕ
index_word end = number_word end LAST_NUMBER

-- a member's number, from 1 to 9
unfoldable pub member_word : ℕ → Grammar ℕ MemberNo
member_word end = mapped (λ n. record { 0 = n }) (λ m. m.0) (between_word end 1 9)

-- ---- bytes

abbrev pub decoded : Result (List ℕ) FromHexError → List ℕ
decoded (Ok bytes) = bytes
decoded (Err _) = []

-- the bytes whose text is `x` and these digits
abbrev pub hex_bytes : List ℕ → List ℕ
hex_bytes [] = []
hex_bytes (x ∷ digits) = decoded (decode_of digits)

abbrev pub has_length : ℕ → ℕ → List ℕ → Bool
has_length least most bytes = nat_le least (length bytes) && nat_le (length bytes) most

-- from `least` to `most` bytes
unfoldable pub hex_word : ℕ → ℕ → ℕ → Grammar ℕ (List ℕ)
hex_word end least most = texted end hex_text hex_bytes (has_length least most)

-- a key of a map, and a value of one
abbrev pub key_word : ℕ → Grammar ℕ (List ℕ)
key_word end = hex_word end 1 64

abbrev pub value_word : ℕ → Grammar ℕ (List ℕ)
value_word end = hex_word end 0 1024

abbrev pub reference_of : List ℕ → Option (List ℕ)
reference_of text = cond (same_bytes text (codes "null")) None (Some (hex_bytes text))

abbrev pub is_reference : Option (List ℕ) → Bool
is_reference None = true
is_reference (Some bytes) = nat_le (length bytes) 4000

-- `null`, or at most 4,000 bytes
unfoldable pub reference_word : ℕ → Grammar ℕ (Option (List ℕ))
reference_word end = texted end reference_text reference_of is_reference

-- ---- names

abbrev pub is_name : List ℕ → Bool
is_name text = is_none (name_fault text)

unfoldable pub name_word : ℕ → Grammar ℕ (List ℕ)
name_word end = checked (word end) is_name

-- The groups that a call may name: all but METADATA where groups are managed, else `default` alone.
abbrev pub may_be_named : Bool → List ℕ → Bool
may_be_named managed text = cond managed (not (same_bytes text (codes "METADATA"))) (same_bytes text (codes "default"))

abbrev pub is_group : Bool → List ℕ → Bool
is_group managed text = may_be_named managed text && is_name text

unfoldable pub group_word : Bool → ℕ → Grammar ℕ (List ℕ)
group_word managed end = checked (word end) (is_group managed)

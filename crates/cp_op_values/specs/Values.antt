-- Values that operations hold: references, keys and values of maps, kinds of objects. And their texts.
use Rattle.std.specs.Prelude.{ℕ, Bool, List, [], ◌∷◌, ◌++◌, Option, Some, None, codes, length, not, ◌==◌, ◌||◌, ◌&&◌, nat_le}
use Rattle.std.specs.Fmt.{decimal}
use Rattle.cp_base.specs.declared.limits.TheConstants.{MOST_KEY, MOST_VALUE}
use Rattle.hex.specs.Hex.{encode_lower}
use Rattle.cp_grammar.specs.Grammar.{Grammar, always, checked, keyed, case, no_case}
use Rattle.cp_grammar.specs.Fields.{byte, bytes, optional}
use Rattle.cp_op_values.specs.declared.kind.Kind.{Kind}
use Rattle.cp_op_values.specs.declared.kind.Kind.TheVariants as variants

-- null, or at most so many bytes
unfoldable pub reference : ℕ → Grammar ℕ (Option (List ℕ))
reference most = optional (bytes most)

-- of 1 to 64 bytes
unfoldable pub key : Grammar ℕ (List ℕ)
key = checked (bytes MOST_KEY) (λ xs. not (length xs == 0))

unfoldable pub value : Grammar ℕ (List ℕ)
value = bytes MOST_VALUE

-- `x`, and two digits for each byte
abbrev pub hex_text : List ℕ → List ℕ
hex_text xs = codes "x" ++ encode_lower xs

abbrev pub reference_text : Option (List ℕ) → List ℕ
reference_text None = codes "null"
reference_text (Some xs) = hex_text xs

-- each after a space
abbrev pub members_text : List ℕ → List ℕ
members_text [] = []
members_text (m ∷ ms) = 32 ∷ decimal m ++ members_text ms

-- ---- kinds of objects

abbrev pub kind_tag : Kind → ℕ
kind_tag variants.Long = 1
kind_tag variants.Ref = 2
kind_tag variants.Lock = 3
kind_tag variants.Sem = 4
kind_tag variants.Jsem = 5
kind_tag variants.Latch = 6
kind_tag variants.Map = 12

abbrev pub is_kind : ℕ → Bool
is_kind n = (nat_le 1 n && nat_le n 6) || n == 12

unfoldable pub kind_grammar : Grammar ℕ Kind
kind_grammar = keyed kind_tag (checked (byte 12) is_kind)
    (case 1 (always variants.Long)
    (case 2 (always variants.Ref)
    (case 3 (always variants.Lock)
    (case 4 (always variants.Sem)
    (case 5 (always variants.Jsem)
    (case 6 (always variants.Latch)
    (case 12 (always variants.Map)
    no_case)))))))

abbrev pub kind_text : Kind → List ℕ
kind_text variants.Long = codes "long"
kind_text variants.Ref = codes "ref"
kind_text variants.Lock = codes "lock"
kind_text variants.Sem = codes "sem"
kind_text variants.Jsem = codes "jsem"
kind_text variants.Latch = codes "latch"
kind_text variants.Map = codes "map"

-- The versions of a group's bytes, and what differs between them.
use Rattle.std.specs.Prelude.{ℕ, Bool, true, false}
use Rattle.cp_op_values.specs.declared.kind.Kind.{Kind}
use Rattle.cp_op_values.specs.declared.kind.Kind.TheVariants as kind
use Rattle.cp_grammar.specs.Grammar.{Grammar, always, keyed, case, no_case}
use Rattle.cp_grammar.specs.Fields.{byte, at_least}
use Rattle.cp_state_bytes.specs.declared.version.Version.{Version}
use Rattle.cp_state_bytes.specs.declared.version.Version.TheVariants as versions

abbrev pub version_number : Version → ℕ
version_number versions.First = 1
version_number versions.Second = 2
version_number versions.Third = 3

unfoldable pub version_grammar : Grammar ℕ Version
version_grammar = keyed version_number (at_least 1 (byte 3))
    (case 1 (always versions.First)
    (case 2 (always versions.Second)
    (case 3 (always versions.Third)
    no_case)))

-- the most bytes of a reference
abbrev pub most_reference : Version → ℕ
most_reference versions.First = 1024
most_reference versions.Second = 4000
most_reference versions.Third = 4000

abbrev pub is_no_map : Kind → Bool
is_no_map kind.Long = true
is_no_map kind.Ref = true
is_no_map kind.Lock = true
is_no_map kind.Sem = true
is_no_map kind.Jsem = true
is_no_map kind.Latch = true
is_no_map kind.Map = false

-- the kinds that objects have in a version: maps came with the third
abbrev pub has_kind : Version → Kind → Bool
has_kind versions.First = is_no_map
has_kind versions.Second = is_no_map
has_kind versions.Third = λ which. true

-- What the bytes of a snapshot begin with.
use Rattle.std.specs.Prelude.{ℕ, List, Option, Some, None, Ok, Err}
use Rattle.cp_grammar.specs.Grammar.{Grammar, Read, ◌then◌, mapped}
use Rattle.cp_grammar.specs.Common.{index}
use Rattle.cp_parts.specs.declared.snapshot_head.SnapshotHead.{SnapshotHead}
use Rattle.cp_parts.specs.Configs.{config_grammar}

-- the term of the snapshot's index, and the configuration in force there
unfoldable pub head_grammar : Grammar ℕ SnapshotHead
head_grammar = mapped (λ p. record { term = p.0; config = p.1 }) (λ h. (h.term, h.config)) (index then config_grammar)

abbrev pub front_of : {A : Type 0} → Read ℕ A → Option A
front_of (Ok read) = Some read.0
front_of (Err left) = None

-- the head of a snapshot's bytes, if they begin with one
unfoldable pub head_of : List ℕ → Option SnapshotHead
head_of bytes = front_of (head_grammar.reading bytes)

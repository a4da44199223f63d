-- What a transcript prints of the history of a group.
use Rattle.std.specs.Prelude.{ℕ, ◌+◌, List, [], ◌∷◌, ◌++◌, codes}
use Rattle.std.specs.Fmt.{decimal}
use Rattle.cp_base.specs.Text.{line}
use Rattle.cp_base.specs.declared.identifier.GroupId.{GroupId}
use Rattle.cp_ops.specs.Entries.{entry_text}
use Rattle.cp_world_rules.specs.Rows.{Committed}

-- `INDEX EVENT ENTRY`
abbrev pub committed_line : ℕ → Committed → List ℕ
committed_line index c = line (decimal index ++ 32 ∷ decimal c.event ++ 32 ∷ entry_text c.entry)

-- entries that follow each other, of which the first has this index
abbrev pub committed_lines : ℕ → List Committed → List ℕ
committed_lines index [] = []
committed_lines index (c ∷ history) = committed_line index c ++ committed_lines (index + 1) history

-- `history G`, and its entries
abbrev pub history_lines : GroupId × List Committed → List ℕ
history_lines h = line (codes "history " ++ decimal h.0.0) ++ committed_lines 1 h.1

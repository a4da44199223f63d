-- Bytes that begin with the head of a snapshot.
use Rattle.std.specs.Prelude.{List, Option, Some, None, ℕ, is_none, if◌then◌else◌}
use Rattle.cp_parts.specs.Heads.{head_of}

abbrev pub headed : Option (List ℕ) → Option (List ℕ)
headed None = None
headed (Some bytes) = if is_none (head_of bytes) then None else Some bytes

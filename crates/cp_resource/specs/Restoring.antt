-- Tables out of bytes.
use Rattle.std.specs.Prelude.{◌≡◌, ℕ, Result, Ok, Err}
use Rattle.cp_grammar.specs.declared.stop.ReadError.{ReadError}
use Rattle.cp_grammar.specs.Readers.{Fails}
use Rattle.cp_group_state.specs.GroupState.{GroupState}

-- the state that the bytes restore, or the place at which they fail
abbrev pub RestoresTables : Result GroupState ReadError → Result GroupState ℕ → Type 0
RestoresTables (Ok tables) restored = restored ≡ Ok tables
RestoresTables (Err error) restored = Fails error restored

-- The machine of a group that holds objects, as a group sees it.
use Rattle.std.specs.Prelude.{◌≡◌, ℕ, List, [], Result, Err}
use Rattle.std.proofs.Common.{ap}
use Rattle.cp_base.specs.declared.identifier.GroupId.{GroupId}
use Rattle.cp_grammar.specs.Grammar.{whole}
use Rattle.cp_ops.specs.declared.entry.Entry.{Entry}
use Rattle.cp_ops.specs.Entries.{entry_grammar}
use Rattle.cp_group_state.specs.GroupState.{GroupState, empty}
use Rattle.cp_resource.specs.Stepping.{step, step_of}

-- contracts see the machine as the state that it stands for
abbrev pub view : GroupState → GroupState
view s = s

-- every group begins with nothing
abbrev pub first : GroupId → ℕ → ℕ → GroupState
first group members size = empty

-- bytes that spell no entry change nothing and answer nothing
pub stays_quiet : (s : GroupState) (index place : ℕ) (bytes : List ℕ) → whole entry_grammar bytes ≡ Err place → step s index bytes ≡ record { view = s; answers = [] }
stays_quiet s index place bytes e = ap (λ (r : Result Entry ℕ). step_of s index r) e

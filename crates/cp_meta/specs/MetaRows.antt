-- The rows of METADATA's lists are a state.
use Rattle.cp_meta_state.specs.MetaState.{MetaState}
use Rattle.cp_meta.specs.declared.snapshot.MetaRows.{MetaRows}

abbrev pub state_of_rows : MetaRows → MetaState
state_of_rows r = record { members = r.members; groups = r.groups; destroyed = r.destroyed; moves = r.moves }

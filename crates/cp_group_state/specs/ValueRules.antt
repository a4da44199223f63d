-- Longs, references and maps.
use Rattle.std.specs.Prelude.{ℕ, ℤ, List, Option}
use Rattle.cp_group_state.specs.Atomics.{AtomicStep}
use Rattle.cp_group_state.specs.Maps.{MapStep}
use Rattle.cp_group_state.specs.GroupState.{GroupState}
use Rattle.cp_group_state.specs.Outcomes.{Outcome, answered}

abbrev pub on_longs : AtomicStep ℤ → GroupState → Outcome
on_longs step s = answered step.answer (record s { longs = step.after })

abbrev pub on_refs : AtomicStep (Option (List ℕ)) → GroupState → Outcome
on_refs step s = answered step.answer (record s { refs = step.after })

abbrev pub on_maps : MapStep → GroupState → Outcome
on_maps step s = answered step.answer (record s { maps = step.after })

-- What METADATA's machine stands for, and what an entry's bytes do to it.
use Rattle.std.specs.Prelude.{ℕ, List, [], Result, Ok, Err}
use Rattle.cp_grammar.specs.Grammar.{whole}
use Rattle.cp_ops.specs.declared.entry.Entry.{Entry}
use Rattle.cp_ops.specs.Entries.{entry_grammar}
use Rattle.cp_machine.specs.Machines.{Stepped}
use Rattle.cp_meta_state.specs.MetaState.{MetaState}
use Rattle.cp_meta_state.specs.Apply.{Applied, apply}

-- lists without rows, which a machine stands for after want of memory
abbrev pub nothing : MetaState
nothing = record { members = []; groups = []; destroyed = []; moves = [] }

abbrev pub stepped : Applied → Stepped MetaState
stepped x = record { view = x.state; answers = x.answers }

abbrev pub step_of : MetaState → ℕ → Result Entry ℕ → Stepped MetaState
step_of s index (Ok entry) = stepped (apply index entry s)
step_of s index (Err place) = record { view = s; answers = [] }

-- what the entry that these bytes spell leaves and answers; bytes that spell none change nothing and answer nothing
abbrev pub step : MetaState → ℕ → List ℕ → Stepped MetaState
step s index bytes = step_of s index (whole entry_grammar bytes)

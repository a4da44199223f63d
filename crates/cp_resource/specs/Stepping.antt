-- What the machine of a group that holds objects stands for, and what an entry's bytes do to it.
use Rattle.std.specs.Prelude.{ℕ, Bool, true, false, List, [], Option, None, Result, Ok, Err}
use Rattle.cp_grammar.specs.Grammar.{whole}
use Rattle.cp_answers.specs.declared.answer.Answer.{Answer}
use Rattle.cp_ops.specs.declared.op.Op.{Op}
use Rattle.cp_ops.specs.Ops.{op_grammar}
use Rattle.cp_ops.specs.declared.entry.Entry.{Entry}
use Rattle.cp_ops.specs.Entries.{entry_grammar}
use Rattle.cp_machine.specs.Machines.{Stepped}
use Rattle.cp_group_state.specs.GroupState.{GroupState, empty}
use Rattle.cp_group_state.specs.Apply.{Applied, apply}
use Rattle.cp_resource.specs.Reads.{look}

-- A machine that is spent, for want of memory, stands for a new one.
abbrev pub standing : Bool → GroupState → GroupState
standing true s = empty
standing false s = s

abbrev pub stepped : Applied → Stepped GroupState
stepped x = record { view = x.state; answers = x.answers }

abbrev pub step_of : GroupState → ℕ → Result Entry ℕ → Stepped GroupState
step_of s index (Ok entry) = stepped (apply index entry s)
step_of s index (Err place) = record { view = s; answers = [] }

-- what the entry that these bytes spell leaves and answers; bytes that spell none change nothing and answer nothing
abbrev pub step : GroupState → ℕ → List ℕ → Stepped GroupState
step s index bytes = step_of s index (whole entry_grammar bytes)

abbrev pub looked_of : GroupState → Result Op ℕ → Option Answer
looked_of s (Ok o) = look o s
looked_of s (Err place) = None

-- what a read of these bytes is answered without an entry
abbrev pub looked : GroupState → List ℕ → Option Answer
looked s bytes = looked_of s (whole op_grammar bytes)

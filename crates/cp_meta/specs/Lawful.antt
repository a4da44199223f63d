-- METADATA's machine, as a group sees it.
use Rattle.std.specs.Prelude.{◌≡◌, ℕ, List, [], Option, None, Result, Err}
use Rattle.std.proofs.Common.{ap}
use Rattle.cp_base.specs.declared.identifier.GroupId.{GroupId}
use Rattle.cp_answers.specs.declared.answer.Answer.{Answer}
use Rattle.cp_grammar.specs.Grammar.{whole}
use Rattle.cp_machine.specs.declared.timer.Timer.{Timer}
use Rattle.cp_ops.specs.declared.entry.Entry.{Entry}
use Rattle.cp_ops.specs.Entries.{entry_grammar}
use Rattle.cp_meta_state.specs.MetaState.{MetaState, first_state}
use Rattle.cp_meta.specs.Stepping.{step, step_of}

-- contracts see the machine as the state that it stands for
abbrev pub view : MetaState → MetaState
view s = s

abbrev pub first : GroupId → ℕ → ℕ → MetaState
first group members size = first_state members size

-- nothing waits for its time to be over
abbrev pub no_timers : MetaState → List Timer
no_timers s = []

-- no read is answered without an entry
abbrev pub looked : MetaState → List ℕ → Option Answer
looked s bytes = None

-- bytes that spell no entry change nothing and answer nothing
pub stays_quiet : (s : MetaState) (index place : ℕ) (bytes : List ℕ) → whole entry_grammar bytes ≡ Err place → step s index bytes ≡ record { view = s; answers = [] }
stays_quiet s index place bytes e = ap (λ (r : Result Entry ℕ). step_of s index r) e

-- What the bytes of an entry come to.
use Rattle.std.proofs.Common.{◌≡◌, ℕ, Bool, true, false, List, [], Result, ap, sym, subst}
use Rattle.std.specs.Prelude.{Ok, Err}
use Rattle.cp_grammar.specs.Grammar.{whole}
use Rattle.cp_ops.specs.declared.entry.Entry.{Entry}
use Rattle.cp_ops.specs.Entries.{entry_grammar}
use Rattle.cp_machine.specs.Machines.{AnswersFit, Stepped}
use Rattle.cp_group_state.specs.GroupState.{GroupState}
use Rattle.cp_group_state.specs.Apply.{apply}
use Rattle.cp_group_ranges.specs.States.{IsSound}
use Rattle.cp_group_ranges.specs.Laws.{IsSoundStep}
use Rattle.cp_resource.specs.Stepping.{standing, step, step_of, stepped}

pub read_step : (s : GroupState) (index : ℕ) (bytes : List ℕ) (entry : Entry) → whole entry_grammar bytes ≡ Ok entry → step s index bytes ≡ stepped (apply index entry s)
read_step s index bytes entry e = ap (λ (r : Result Entry ℕ). step_of s index r) e

pub no_step : (s : GroupState) (index place : ℕ) (bytes : List ℕ) → whole entry_grammar bytes ≡ Err place → step s index bytes ≡ record { view = s; answers = [] }
no_step s index place bytes e = ap (λ (r : Result Entry ℕ). step_of s index r) e

pub fit_step : (s : GroupState) (index : ℕ) (bytes : List ℕ) (entry : Entry) → whole entry_grammar bytes ≡ Ok entry → IsSoundStep (apply index entry s) → AnswersFit (step s index bytes).answers
fit_step s index bytes entry e h = subst (λ (x : Stepped GroupState). AnswersFit x.answers) (sym (read_step s index bytes entry e)) h.answers

pub no_answers_fit : (s : GroupState) (index place : ℕ) (bytes : List ℕ) → whole entry_grammar bytes ≡ Err place → AnswersFit (step s index bytes).answers
no_answers_fit s index place bytes e = subst (λ (x : Stepped GroupState). AnswersFit x.answers) (sym (no_step s index place bytes e)) tt

pub sound_step : (s t : GroupState) (index : ℕ) (entry : Entry) → t ≡ (apply index entry s).state → IsSoundStep (apply index entry s) → IsSound t
sound_step s t index entry e h = subst IsSound (sym e) h.state

-- the tables of a machine that isn't spent are sound
pub sound_tables : (spent : Bool) (s : GroupState) → spent ≡ false → IsSound (standing spent s) → IsSound s
sound_tables true s e h = cc
sound_tables false s e h = h

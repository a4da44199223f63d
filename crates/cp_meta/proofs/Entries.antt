-- What the bytes of an entry come to.
use Rattle.std.proofs.Common.{◌≡◌, ℕ, ◌≤◌, List, [], Result, refl, ap, sym, subst, arith}
use Rattle.cp_base.specs.declared.limits.TheConstants.{MOST_MEMBER}
use Rattle.std.specs.Prelude.{Ok, Err}
use Rattle.std.specs.List.Sorted.{IsStrictlySortedBy}
use Rattle.cp_grammar.specs.Grammar.{whole}
use Rattle.cp_ops.specs.declared.entry.Entry.{Entry}
use Rattle.cp_ops.specs.Entries.{entry_grammar}
use Rattle.cp_machine.specs.Machines.{AnswersFit, Stepped}
use Rattle.cp_meta_state.specs.MetaState.{MetaState, first_state}
use Rattle.cp_meta_state.proofs.Sound.{sound_first}
use Rattle.cp_meta_state.specs.Apply.{apply}
use Rattle.cp_meta_state.specs.Ranges.{IsSound}
use Rattle.cp_meta_state.specs.Laws.{IsSoundStep}
use Rattle.cp_meta.specs.Stepping.{nothing, step, step_of, stepped}

pub read_step : (s : MetaState) (index : ℕ) (bytes : List ℕ) (entry : Entry) → whole entry_grammar bytes ≡ Ok entry → step s index bytes ≡ stepped (apply index entry s)
read_step s index bytes entry e = ap (λ (r : Result Entry ℕ). step_of s index r) e

pub no_step : (s : MetaState) (index place : ℕ) (bytes : List ℕ) → whole entry_grammar bytes ≡ Err place → step s index bytes ≡ record { view = s; answers = [] }
no_step s index place bytes e = ap (λ (r : Result Entry ℕ). step_of s index r) e

pub fit_step : (s : MetaState) (index : ℕ) (bytes : List ℕ) (entry : Entry) → whole entry_grammar bytes ≡ Ok entry → IsSoundStep (apply index entry s) → AnswersFit (step s index bytes).answers
fit_step s index bytes entry e h = subst (λ (x : Stepped MetaState). AnswersFit x.answers) (sym (read_step s index bytes entry e)) h.answers

pub no_answers_fit : (s : MetaState) (index place : ℕ) (bytes : List ℕ) → whole entry_grammar bytes ≡ Err place → AnswersFit (step s index bytes).answers
no_answers_fit s index place bytes e = subst (λ (x : Stepped MetaState). AnswersFit x.answers) (sym (no_step s index place bytes e)) tt

pub sound_step : (s t : MetaState) (index : ℕ) (entry : Entry) → t ≡ (apply index entry s).state → IsSoundStep (apply index entry s) → IsSound t
sound_step s t index entry e h = subst IsSound (sym e) h.state

-- lists without rows are sound
nothing_sound : IsSound nothing
unfolding IsStrictlySortedBy
nothing_sound = record {
  fits = record { members = tt; groups = tt; destroyed = tt; moves = tt; few = omega arith; given_up = omega arith };
  ordered = record { members = tt; groups = tt; destroyed = tt; moves = tt };
  moves_are_of_groups = λ group none. refl;
}

pub nothing_is_sound : (s : MetaState) → s ≡ nothing → IsSound s
nothing_is_sound s is = subst IsSound (sym is) nothing_sound

-- METADATA is sound at first
pub first_is_sound : (members size : ℕ) (s : MetaState) → 1 ≤ size → size ≤ members → members ≤ MOST_MEMBER → s ≡ first_state members size → IsSound s
first_is_sound members size s some within most is = subst IsSound (sym is) (sound_first members size some within most)

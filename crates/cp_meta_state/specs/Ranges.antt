-- Which states are sound: those that a snapshot can spell, and that entries keep so.
use Rattle.std.specs.Prelude.{◌≡◌, ℕ, ◌≤◌, List, length, None}
use Rattle.std.specs.List.{AllByRecursion}
use Rattle.std.specs.Ordering.{nat_cmp}
use Rattle.cp_base.specs.declared.identifier.Invocation.{Invocation}
use Rattle.cp_base.specs.declared.limits.TheConstants.{MOST_MEMBER}
use Rattle.cp_grammar.specs.Common.{index, name, members, invocation}
use Rattle.cp_op_values.specs.Numbers.{any_u64}
use Rattle.cp_answers.specs.declared.answer.Answer.{Answer}
use Rattle.cp_answers.specs.Answers.{answer_grammar}
use Rattle.cp_group_state.specs.Invariants.{IsRising}
use Rattle.cp_meta_state.specs.declared.rows.TheConstants.{MOST_GROUPS, MOST_DESTROYED}
use Rattle.cp_meta_state.specs.MetaState.{MetaState, Standing, GroupRow, MoveRow, group_at, move_of}
use Rattle.cp_meta_state.specs.Destroying.{given_up}

-- ---- rows

pub record MemberFits (e : ℕ × Standing) : Type 0 where
  pub least : 1 ≤ e.0
  pub most : e.0 ≤ MOST_MEMBER

pub record GroupFits (e : ℕ × GroupRow) : Type 0 where
  pub number : index.Fits e.0
  pub name : name.Fits e.1.name
  pub first : members.Fits e.1.first
  pub index : index.Fits e.1.index
  pub members : members.Fits e.1.members

pub record DestroyedFits (e : ℕ × Unit {0}) : Type 0 where
  pub number : index.Fits e.0

-- who is added may be 0, for none
pub record MoveFits (e : ℕ × MoveRow) : Type 0 where
  pub number : index.Fits e.0
  pub plan : any_u64.Fits e.1.plan
  pub add : e.1.add ≤ MOST_MEMBER
  pub least : 1 ≤ e.1.remove
  pub most : e.1.remove ≤ MOST_MEMBER

-- ---- states

-- Each list is in rising order of its keys: so no number stands twice, and no group has two moves.
pub record IsOrdered (s : MetaState) : Type 0 where
  pub members : IsRising nat_cmp s.members
  pub groups : IsRising nat_cmp s.groups
  pub destroyed : IsRising nat_cmp s.destroyed
  pub moves : IsRising nat_cmp s.moves

-- Each field of each row is within its range, and there are not too many groups, and not too many that are given up.
pub record StateFits (s : MetaState) : Type 0 where
  pub members : AllByRecursion MemberFits s.members
  pub groups : AllByRecursion GroupFits s.groups
  pub destroyed : AllByRecursion DestroyedFits s.destroyed
  pub moves : AllByRecursion MoveFits s.moves
  pub few : length s.groups ≤ MOST_GROUPS
  pub given_up : given_up s ≤ MOST_DESTROYED

-- a move is of a group that has a row
abbrev pub MovesAreOfGroups : MetaState → Type 0
MovesAreOfGroups s = (group : ℕ) → group_at s group ≡ None → move_of s.moves group ≡ None

pub record IsSound (s : MetaState) : Type 0 where
  pub fits : StateFits s
  pub ordered : IsOrdered s
  pub moves_are_of_groups : MovesAreOfGroups s

-- an answer, and the call that it is for
abbrev pub AnswerFits : Invocation × Answer → Type 0
AnswerFits told = invocation.Fits told.0 × answer_grammar.Fits told.1

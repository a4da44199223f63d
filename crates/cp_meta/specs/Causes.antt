-- Why METADATA answers what it answers: each answer that an operation can get, and where it gets it.
use Rattle.std.specs.Prelude.{◌≡◌, ◌<◌, ◌≤◌, ◌≢◌, ◌↔◌, ℕ, true, false, List, length, Some, None}
use Rattle.cp_answers.specs.declared.answer.Answer.{Answer}
use Rattle.cp_answers.specs.declared.answer.Answer.TheVariants as answer
use Rattle.cp_answers.specs.declared.argument.Argument.TheVariants as argument
use Rattle.cp_meta_state.specs.declared.rows.TheConstants.{MOST_GROUPS, MOST_DESTROYED}
use Rattle.cp_meta_state.specs.declared.rows.GroupRow.{GroupRow}
use Rattle.cp_meta_state.specs.MetaState.{MetaState, active, is_in, is_out, those}
use Rattle.cp_meta_state.specs.Creating.{chosen, create, named}
use Rattle.cp_meta_state.specs.Destroying.{destroy, given_up, is_fixed}
use Rattle.cp_meta_state.specs.Leaving.{is_unsettled, leave}
use Rattle.cp_meta_state.specs.Joining.{join}

-- no group of the name has a row
abbrev pub IsFree : MetaState → List ℕ → Type 0
IsFree s name = named s.groups name ≡ None

-- a group of the name has this row, with its number
abbrev pub IsTaken : MetaState → List ℕ → ℕ × GroupRow → Type 0
IsTaken s name e = named s.groups name ≡ Some e

-- what a `create` is answered
pub data CreateIsAnswered (index : ℕ) (name : List ℕ) (size : ℕ) (s : MetaState) : Answer → Type 0 where
  name_ends : (e : ℕ × GroupRow) → IsTaken s name e → e.1.destroying ≡ true
      → CreateIsAnswered index name size s (answer.GroupDestroyed (record { 0 = e.0 }))
  name_stands : (e : ℕ × GroupRow) → IsTaken s name e → e.1.destroying ≡ false
      → CreateIsAnswered index name size s (answer.Group (record { 0 = e.0 }) e.1.members)
  few_active : IsFree s name → length (active s) < size → CreateIsAnswered index name size s (answer.BadArgument argument.Size)
  no_room : IsFree s name → size ≤ length (active s) → MOST_GROUPS ≤ length s.groups
      → CreateIsAnswered index name size s (answer.TableFull MOST_GROUPS)
  makes : IsFree s name → size ≤ length (active s) → length s.groups < MOST_GROUPS
      → CreateIsAnswered index name size s (answer.Group (record { 0 = index }) (chosen size s))

-- what a `destroy` is answered
pub data DestroyIsAnswered (name : List ℕ) (s : MetaState) : Answer → Type 0 where
  no_name : IsFree s name → DestroyIsAnswered name s (answer.BadArgument argument.Group)
  ends_already : (e : ℕ × GroupRow) → IsTaken s name e → e.1.destroying ≡ true
      → DestroyIsAnswered name s (answer.BadArgument argument.Group)
  stays : (e : ℕ × GroupRow) → IsTaken s name e → is_fixed name ≡ true → DestroyIsAnswered name s (answer.BadArgument argument.Group)
  too_many : (e : ℕ × GroupRow) → IsTaken s name e → e.1.destroying ≡ false → is_fixed name ≡ false → MOST_DESTROYED ≤ given_up s
      → DestroyIsAnswered name s (answer.TableFull MOST_DESTROYED)
  destroys : (e : ℕ × GroupRow) → IsTaken s name e → e.1.destroying ≡ false → is_fixed name ≡ false → given_up s < MOST_DESTROYED
      → DestroyIsAnswered name s answer.Ok

-- what a `leave` is answered
pub data LeaveIsAnswered (m : ℕ) (s : MetaState) : Answer → Type 0 where
  leaves_later : is_unsettled s ≡ true → LeaveIsAnswered m s (answer.BadArgument argument.Leaving)
  not_active : is_unsettled s ≡ false → is_in (active s) m ≡ false → LeaveIsAnswered m s (answer.BadArgument argument.Member)
  only_one : is_unsettled s ≡ false → is_in (active s) m ≡ true → length (active s) ≡ 1
      → LeaveIsAnswered m s (answer.BadArgument argument.Size)
  leaves : is_unsettled s ≡ false → is_in (active s) m ≡ true → length (active s) ≢ 1 → LeaveIsAnswered m s answer.Ok

-- what a `join` is answered
pub data JoinIsAnswered (m : ℕ) (s : MetaState) : Answer → Type 0 where
  joins_later : is_unsettled s ≡ true → JoinIsAnswered m s (answer.BadArgument argument.Leaving)
  not_out : is_unsettled s ≡ false → is_in (those is_out s.members) m ≡ false → JoinIsAnswered m s (answer.BadArgument argument.Member)
  joins : is_unsettled s ≡ false → is_in (those is_out s.members) m ≡ true → JoinIsAnswered m s answer.Ok

-- Each answer is given exactly where it is said above, in every state.
pub record AnswersHaveCauses : Type 0 where
  pub created : (index : ℕ) (name : List ℕ) (size : ℕ) (s : MetaState) (a : Answer)
      → ((create index name size s).answer ≡ a) ↔ CreateIsAnswered index name size s a
  pub destroyed : (name : List ℕ) (s : MetaState) (a : Answer) → ((destroy name s).answer ≡ a) ↔ DestroyIsAnswered name s a
  pub left : (m : ℕ) (s : MetaState) (a : Answer) → ((leave m s).answer ≡ a) ↔ LeaveIsAnswered m s a
  pub joined : (m : ℕ) (s : MetaState) (a : Answer) → ((join m s).answer ≡ a) ↔ JoinIsAnswered m s a

-- What stands behind each reply of a group.
use Rattle.std.specs.Prelude.{◌≡◌, ◌⊎◌, true, Bool, List, [], ◌∷◌, Some}
use Rattle.std.specs.List.{AllByRecursion}
use Rattle.cp_log_rules.specs.Persistent.{PersistentState}
use Rattle.cp_rules.specs.Local as raft
use Rattle.cp_rules.specs.Volatile.{Look}
use Rattle.cp_group_rules.specs.Machines.{Machine}
use Rattle.cp_group_rules.specs.Views.{Given, view_at}
use Rattle.cp_group_rules.specs.Times.{same_call}
use Rattle.cp_group_rules.specs.Groups.{Said, VolatileGroup, Replies}
use Rattle.cp_group_rules.specs.Events.{Event}
use Rattle.cp_group_rules.specs.Steps.{news, settles}

abbrev pub IsAmong : {A : Type 0} → A → List A → Type 0
IsAmong x [] = ⊥
IsAmong x (y ∷ ys) = (x ≡ y) ⊎ IsAmong x ys

-- A reply has an answer that one of these is given to its call.
abbrev pub IsGiven : List Given → Said → Type 0
IsGiven given (Replies to call attempt answer) = (x : Given) × IsAmong x given × (x.answer ≡ answer) × (same_call x.call call ≡ true)
IsGiven given other = Unit {0}

module _ {V : Type 0} (m : Machine V) where
  -- A reply has what a look at the machine gives for one of these reads.
  abbrev pub IsLooked : V → List Look → Said → Type 0
  IsLooked view looks (Replies to call attempt answer) = (look : Look) × IsAmong look looks × (m.looked view look.op ≡ Some answer)
  IsLooked view looks other = Unit {0}

  abbrev pub HasAnswer : List Given → V → List Look → Said → Type 0
  HasAnswer given view looks said = IsGiven given said ⊎ IsLooked view looks said

  -- After a step of Raft each reply has the answer of an entry that the step newly commits, as the machine gives it at that entry; or what a look
  -- at the machine gives that has applied all that is committed, for a read that Raft answers in the step.
  abbrev pub RepliesHaveAnswers : Type 0
  RepliesHaveAnswers = (event : Event) (e : raft.Event) (installed : Bool) (p q : PersistentState) (g : VolatileGroup) (s : raft.LocalStep)
      → AllByRecursion (HasAnswer (news m p q g.raft.commit s.state.commit) (view_at m q s.state.commit) s.answered) (settles m event e installed p q g s).replies

-- What holds of every history.
use Rattle.std.specs.Prelude.{◌≡◌, ℕ, ◌+◌, Some, slice_get}
use Rattle.cp_ops.specs.declared.entry.Entry.{Entry}
use Rattle.cp_group_state.specs.Fences.{FencesRise, FencesStand, LocksHaveOneOwner}
use Rattle.cp_group_state.specs.Apply.{apply, run}
use Rattle.cp_group_state.specs.GroupState.{empty}
use Rattle.cp_group_state.specs.History.{History, IsFullyOrderly, IsOrderly, state_before}
use Rattle.cp_group_state.specs.Repeats.{ActsAtMostOnce}
use Rattle.cp_group_state.specs.Invariants.{IsOrdered, Always, LocksWell, OneSession, CallsDiffer, IsBalanced, HoldingsStand}

abbrev pub CallsActAtMostOnce : Type 0
CallsActAtMostOnce = (history : History) → IsOrderly history → ActsAtMostOnce history

-- what is orderly in full is as orderly as the laws ask for
abbrev pub FullOrderIsOrder : Type 0
FullOrderIsOrder = (history : History) → IsFullyOrderly history → IsOrderly history

-- what the run has at a place is what the entry there does in the state that it meets
abbrev pub RunsGoByStates : Type 0
RunsGoByStates = (history : History) (place : ℕ) (e : Entry) → slice_get history place ≡ Some e
    → slice_get (run 1 history empty) place ≡ Some (apply (place + 1) e (state_before history place))

abbrev pub FencesAlwaysRise : Type 0
FencesAlwaysRise = (history : History) → FencesRise history

abbrev pub ListsStayOrdered : Type 0
ListsStayOrdered = (history : History) → Always IsOrdered history

abbrev pub AnsweredFencesStand : Type 0
AnsweredFencesStand = (history : History) → IsOrderly history → FencesStand history

abbrev pub EachLockHasOneOwner : Type 0
EachLockHasOneOwner = (history : History) → LocksHaveOneOwner history

abbrev pub LocksAreHeldOrFree : Type 0
LocksAreHeldOrFree = (history : History) → Always (λ s. LocksWell s.locks) history

abbrev pub ClientsHaveOneSession : Type 0
ClientsHaveOneSession = (history : History) → Always (λ s. OneSession s.sessions) history

abbrev pub CallsWaitOnce : Type 0
CallsWaitOnce = (history : History) → Always (λ s. CallsDiffer s.waiters) history

abbrev pub PermitsStayBalanced : Type 0
PermitsStayBalanced = (history : History) → Always (λ s. IsBalanced s.semaphores) history

abbrev pub HoldingsAreOfSemaphores : Type 0
HoldingsAreOfSemaphores = (history : History) → Always (λ s. HoldingsStand s.semaphores) history

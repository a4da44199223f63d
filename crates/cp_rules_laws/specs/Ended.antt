-- What a member has of a group over its whole journal. A group that has ended has no row any more; its last state is the one that it had
-- right before its end.
use Rattle.std.specs.Prelude.{◌≡◌, ℕ, true, List, [], ◌∷◌, ◌++◌, Option, Some, None, Ok}
use Rattle.cp_log_rules.specs.Persistent.{PersistentState}
use Rattle.cp_log_rules.specs.Durable.{DurableState, group_at, has_ended}
use Rattle.cp_log_rules.specs.Recovery.{after_body, recovered_from}

abbrev pub or_before : Option PersistentState → Option PersistentState → Option PersistentState
or_before None before = before
or_before (Some p) before = Some p

-- of a state that may not be there
abbrev pub of_state : Option DurableState → (DurableState → Option PersistentState) → Option PersistentState
of_state None state = None
of_state (Some s) state = state s

-- The last state of the group, of a member that has this state, and then what the bodies behind it add.
abbrev pub last_state : ℕ → DurableState → List (List ℕ) → Option PersistentState
last_state group s [] = group_at s group
last_state group s (body ∷ bodies) = or_before (of_state (after_body body s) (λ t. last_state group t bodies)) (group_at s group)

pub record HasGone (group : ℕ) (s : DurableState) : Type 0 where
  pub stands_not : group_at s group ≡ None
  pub ended : has_ended s group ≡ true

-- Of a group that stands, the last state is the one that it has. A group that is gone never stands again, and its last state stays what
-- it was, whatever comes behind.
pub record LastStates (group : ℕ) : Type 0 where
  pub stands : (s t : DurableState) (place : ℕ) (bodies : List (List ℕ)) (p : PersistentState) → recovered_from place s bodies ≡ Ok t → group_at t group ≡ Some p
      → last_state group s bodies ≡ Some p
  pub stays : (s t : DurableState) (place : ℕ) (bodies : List (List ℕ)) → HasGone group s → recovered_from place s bodies ≡ Ok t → HasGone group t
  pub ended : (s t : DurableState) (place : ℕ) (before : List (List ℕ)) (p : PersistentState) → recovered_from place s before ≡ Ok t → group_at t group ≡ Some p
      → (u : DurableState) (body : List ℕ) → after_body body t ≡ Some u → HasGone group u
      → (x : DurableState) (other : ℕ) (behind : List (List ℕ)) → recovered_from other u behind ≡ Ok x → last_state group s (before ++ body ∷ behind) ≡ Some p

abbrev pub EndedGroupsStay : Type 0
EndedGroupsStay = (group : ℕ) → LastStates group

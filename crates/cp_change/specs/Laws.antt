-- What a change leaves.
use Rattle.std.specs.Prelude.{◌≡◌, ◌<◌, ◌≤◌, ℕ, Bool, true, ◌&&◌, List, [], ◌∷◌, length, None, nat_lt}
use Rattle.cp_rules.specs.declared.change.Change.{Change}
use Rattle.cp_rules.specs.Changes.{may_change, changed}

-- numbers of members by rising number, each above a lowest and at most 9
abbrev pub is_rising : ℕ → List ℕ → Bool
is_rising lowest [] = true
is_rising lowest (m ∷ members) = nat_lt lowest m && (nat_lt m 10 && is_rising m members)

-- members by rising number, one at least
pub record AreMembers (members : List ℕ) : Type 0 where
  pub rising : is_rising 0 members ≡ true
  pub some : 0 < length members

abbrev pub ChangesLeaveMembers : Type 0
ChangesLeaveMembers = (index : ℕ) (members : List ℕ) (change : Change) (commit committed_term term : ℕ)
    → may_change index members change commit committed_term term ≡ None
    → 1 ≤ change.member.0 → change.member.0 ≤ 9
    → AreMembers members → AreMembers (changed change members)

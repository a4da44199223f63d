-- The calls that were counted, and a set to find them by.
use Rattle.std.specs.Prelude.{◌≡◌, ◌||◌, Bool, List}
use Rattle.std.specs.List.{list_any}
use Rattle.cp_base.specs.declared.identifier.Invocation.{Invocation}
use Rattle.cp_group_state.specs.Waiters.{same_call}

-- whether a call is among these
abbrev pub is_among : Invocation → List Invocation → Bool
is_among call calls = list_any (λ c. same_call call c) calls

-- the keys of a set are these calls, in whatever order
abbrev pub Knows : List Invocation → List Invocation → Type 0
Knows keys calls = (call : Invocation) → is_among call keys ≡ is_among call calls

-- the keys of a set, with the calls that are left, are these calls
abbrev pub Joined : List Invocation → List Invocation → List Invocation → Type 0
Joined keys left calls = (call : Invocation) → (is_among call keys || is_among call left) ≡ is_among call calls

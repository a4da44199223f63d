-- Which semaphores waiters left, or sessions held permits of.
use Rattle.std.specs.Prelude.{ℕ, Bool, ◌&&◌, ◌||◌, List, bytes_eq, is_some}
use Rattle.std.specs.List.{list_any}
use Rattle.cp_op_values.specs.declared.kind.Kind.{Kind}
use Rattle.cp_group_state.specs.declared.rows.Waiter.{Waiter}
use Rattle.cp_group_state.specs.Rows.{Object, find, name_cmp}
use Rattle.cp_group_state.specs.Sessions.{is_among}
use Rattle.cp_group_state.specs.Waiters.{waits_on}
use Rattle.cp_group_state.specs.Semaphores.{is_held}

-- whether a set of names has this one
abbrev pub has : List (List ℕ × Unit {0}) → List ℕ → Bool
has names name = is_some (find name_cmp names name)

-- whether one of these waited on an object of this kind and name
abbrev pub left_named : List Waiter → Kind → List ℕ → Bool
left_named ended which name = list_any (waits_on which name) ended

-- whether one of these waited on this object
abbrev pub is_left : List Waiter → Object → Bool
is_left ended key = left_named ended key.1 key.0

-- whether one of these sessions holds permits under this name
abbrev pub held_named : List ℕ → List ((ℕ × List ℕ) × ℕ) → List ℕ → Bool
held_named sessions holdings name = list_any (λ e. is_among sessions e.0.0 && bytes_eq name e.0.1) holdings

abbrev pub is_concerned : List ℕ → List Waiter → List ((ℕ × List ℕ) × ℕ) → Object → Bool
is_concerned sessions ended holdings key = (is_held key.1 && held_named sessions holdings key.0) || is_left ended key

-- Room for items.
use Rattle.std.specs.Prelude.{◌≤◌, ◌+◌, ℕ, length}
use Rattle.std.specs.declared.alloc.Global.{Global}
use Rattle.std.specs.declared.collections.VecDeque.{VecDeque}
use Rattle.std.specs.VecDeque.{deque_capacity}

-- so many more items fit without memory
abbrev pub HasRoom : {T : Type 0} → ℕ → VecDeque T Global → Type 0
HasRoom n items = length items.items + n ≤ deque_capacity items

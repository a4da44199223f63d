-- How what is remembered of closed sessions goes.
use Rattle.std.specs.Prelude.{◌≡◌, ℕ, not, false, ◌==◌, List, [], ◌∷◌, None, IsSome}
use Rattle.std.specs.List.{filter}
use Rattle.std.specs.Ordering.{is_gt}
use Rattle.cp_group_state.specs.declared.rows.MemoryRow.{MemoryRow}
use Rattle.cp_group_state.specs.Rows.{find, holder_cmp}

abbrev pub Memories : Type 0
Memories = List ((ℕ × ℕ) × MemoryRow)

-- the rows of other sessions
abbrev pub of_others : ℕ → Memories → Memories
of_others session rows = filter (λ e. not (session == e.0.0)) rows

-- the rows, without those of one session after the other
abbrev pub forgotten : List ℕ → Memories → Memories
forgotten [] rows = rows
forgotten (session ∷ sessions) rows = forgotten sessions (of_others session rows)

abbrev pub IsFrom : ℕ × ℕ → ℕ × ℕ → Type 0
IsFrom start key = is_gt (holder_cmp start key) ≡ false

-- no key is at the start or behind it
abbrev pub IsNoneFrom : ℕ × ℕ → Memories → Type 0
IsNoneFrom start rows = (q : ℕ × ℕ) → IsFrom start q → find holder_cmp rows q ≡ None

-- the first key that is at the start or behind it
pub record IsFirstFrom (start key : ℕ × ℕ) (rows : Memories) : Type 0 where
  pub there : IsSome (find holder_cmp rows key)
  pub behind : IsFrom start key
  pub least : (q : ℕ × ℕ) → IsFrom start q → IsSome (find holder_cmp rows q) → IsFrom key q

-- The state of tables that were put together.
use Rattle.std.proofs.Common.{◌≡◌, ℕ, List, ap, ◌∙◌}
use Rattle.cp_base.specs.declared.identifier.GroupId.{GroupId}
use Rattle.cp_group_state.specs.declared.rows.SessionRow.{SessionRow}
use Rattle.cp_group_state.specs.declared.rows.MemoryRow.{MemoryRow}
use Rattle.cp_group_state.specs.declared.rows.Waiter.{Waiter}
use Rattle.cp_group_state.specs.GroupState.{GroupState}
use Rattle.cp_group_tables.specs.declared.lending.ObjectTables.{ObjectTables}

abbrev made : GroupId → List (ℕ × SessionRow) → ObjectTables → List Waiter → List ((ℕ × ℕ) × MemoryRow) → GroupState
made d ss o ws m = record { destroyed_group = d; sessions = ss; locks = o.locks; semaphores = o.semaphores; latches = o.latches; longs = o.longs; refs = o.refs; maps = o.maps; gone = o.gone; waiters = ws; memory = m }

pub together : (d : GroupId) (ss st : List (ℕ × SessionRow)) (o p : ObjectTables) (ws wt : List Waiter) (m n : List ((ℕ × ℕ) × MemoryRow))
    → ss ≡ st → o ≡ p → ws ≡ wt → m ≡ n → made d ss o ws m ≡ made d st p wt n
together d ss st o p ws wt m n a b e f =
    ap (λ (x : List (ℕ × SessionRow)). made d x o ws m) a
    ∙ ap (λ (x : ObjectTables). made d st x ws m) b
    ∙ ap (λ (x : List Waiter). made d st p x m) e
    ∙ ap (λ (x : List ((ℕ × ℕ) × MemoryRow)). made d st p wt x) f

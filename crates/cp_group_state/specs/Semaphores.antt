-- Semaphores: those whose permits a session holds, and those without sessions.
use Rattle.std.specs.Prelude.{ℕ, ◌+◌, ◌-◌, ◌^◌, ℤ, pos, negsuc, neg_ℤ, ◌+ℤ◌, ◌-ℤ◌, int_lt, Bool, true, false, not, ◌&&◌, ◌==◌, List, [], ◌∷◌, map, sum, Option, Some, None, if◌then◌else◌, nat_lt, unwrap_or, bytes_eq}
use Rattle.std.specs.List.{filter}
use Rattle.cp_base.specs.declared.limits.TheConstants.{MOST_PERMITS}
use Rattle.cp_op_values.specs.declared.kind.Kind.{Kind}
use Rattle.cp_op_values.specs.declared.kind.Kind.TheVariants as kind
use Rattle.cp_answers.specs.declared.answer.Answer.{Answer}
use Rattle.cp_answers.specs.declared.answer.Answer.TheVariants as answer
use Rattle.cp_answers.specs.declared.argument.Argument.TheVariants as argument
use Rattle.cp_object_ops.specs.declared.sem_op.SemOp.{SemOp}
use Rattle.cp_object_ops.specs.declared.sem_op.SemOp.TheVariants as sem
use Rattle.cp_group_state.specs.Rows.{Object, find, put, without, has_room, most, object_cmp, holding_cmp}
use Rattle.cp_group_state.specs.Waiters.{Waiter, waits_on}
use Rattle.cp_group_state.specs.Sessions.{is_among}
pub use Rattle.cp_group_state.specs.declared.rows.SemaphoreRow.{SemaphoreRow}
pub use Rattle.cp_group_state.specs.declared.outcome.SemOutcome.{SemOutcome}
pub use Rattle.cp_group_state.specs.declared.outcome.SemOutcome.TheVariants.{Done, Wants, Served}

pub record Semaphores : Type 0 where
  pub rows : List (Object × SemaphoreRow)
  pub holdings : List ((ℕ × List ℕ) × ℕ)

-- whether a session holds what is taken
abbrev pub is_held : Kind → Bool
is_held kind.Long = false
is_held kind.Ref = false
is_held kind.Lock = false
is_held kind.Sem = true
is_held kind.Jsem = false
is_held kind.Latch = false
is_held kind.Map = false

abbrev pub held : List ((ℕ × List ℕ) × ℕ) → ℕ → List ℕ → ℕ
held holdings session name = unwrap_or (find holding_cmp holdings (session, name)) 0

-- a holding of no permits has no row
abbrev pub set_held : List ((ℕ × List ℕ) × ℕ) → ℕ → List ℕ → ℕ → List ((ℕ × List ℕ) × ℕ)
set_held holdings session name n =
    if n == 0 then without holding_cmp holdings (session, name) else put holding_cmp holdings (session, name) n

-- n permits go from the semaphore to the session; where no session holds them they are gone
abbrev pub take : Object → SemaphoreRow → ℕ → ℕ → Semaphores → Semaphores
take key row session n s = if is_held key.1
    then record {
      rows = put object_cmp s.rows key (record row { available = row.available -ℤ pos n });
      holdings = set_held s.holdings session key.0 (held s.holdings session key.0 + n);
    }
    else record {
      rows = put object_cmp s.rows key (record { total = row.total -ℤ pos n; available = row.available -ℤ pos n });
      holdings = s.holdings;
    }

-- n permits come back from the session
abbrev pub give_back : Object → SemaphoreRow → ℕ → ℕ → Semaphores → Semaphores
give_back key row session n s = record {
  rows = put object_cmp s.rows key (record row { available = row.available +ℤ pos n });
  holdings = set_held s.holdings session key.0 (held s.holdings session key.0 - n);
}

-- the total changes by n
abbrev pub change_total : Object → SemaphoreRow → ℤ → Semaphores → Semaphores
change_total key row n s = record {
  rows = put object_cmp s.rows key (record { total = row.total +ℤ n; available = row.available +ℤ n });
  holdings = s.holdings;
}

-- the rows after a call, and what it leads to; where permits came, also what stands available then
pub record SemStep : Type 0 where
  pub after : Semaphores
  pub outcome : SemOutcome

-- at least 0
abbrev pub at_least_none : ℤ → ℕ
at_least_none (pos n) = n
at_least_none (negsuc n) = 0

abbrev pub raise_total : Object → SemaphoreRow → ℕ → Semaphores → SemStep
raise_total key row n s = if int_lt (pos MOST_PERMITS) (row.total +ℤ pos n)
    then record { after = s; outcome = Done (answer.BadArgument argument.Overflow) }
    else record { after = change_total key row (pos n) s; outcome = Served answer.Ok (row.available +ℤ pos n) }

abbrev pub release_held : Object → SemaphoreRow → ℕ → ℕ → Semaphores → SemStep
release_held key row session n s = if nat_lt (held s.holdings session key.0) n
    then record { after = s; outcome = Done (answer.NotHeld (held s.holdings session key.0)) }
    else record { after = give_back key row session n s; outcome = Served answer.Ok (row.available +ℤ pos n) }

abbrev pub init : Object → ℕ → Semaphores → SemStep
init key n s = if has_room object_cmp most s.rows key
    then record {
      after = record { rows = put object_cmp s.rows key (record { total = pos n; available = pos n }); holdings = s.holdings };
      outcome = Done (answer.Bool true);
    }
    else record { after = s; outcome = Done (answer.TableFull most) }

-- on a semaphore that is there
abbrev pub sem_step_at : Object → SemaphoreRow → SemOp → Semaphores → SemStep
sem_step_at key row sem.Available s = record { after = s; outcome = Done (answer.Value row.available) }
sem_step_at key row (sem.Init n) s = record { after = s; outcome = Done (answer.Bool false) }
sem_step_at key row (sem.Acquire session n wish) s = if int_lt row.available (pos n)
    then record { after = s; outcome = Wants }
    else record { after = take key row session n s; outcome = Done answer.Ok }
sem_step_at key row (sem.Release session n) s = if is_held key.1 then release_held key row session n s else raise_total key row n s
sem_step_at key row (sem.Drain session) s = record {
  after = take key row session (at_least_none row.available) s;
  outcome = Done (answer.Value (pos (at_least_none row.available)));
}
sem_step_at key row (sem.Increase session n) s = raise_total key row n s
sem_step_at key row (sem.Reduce session n) s = if int_lt (row.available -ℤ pos n) (neg_ℤ (pos (2 ^ 31)))
    then record { after = s; outcome = Done (answer.BadArgument argument.Overflow) }
    else record { after = change_total key row (neg_ℤ (pos n)) s; outcome = Done answer.Ok }

-- on one that isn't: all but init
abbrev pub sem_step_absent : Object → SemOp → Semaphores → SemStep
sem_step_absent key (sem.Init n) s = init key n s
sem_step_absent key op s = record { after = s; outcome = Done answer.NotInitialized }

abbrev pub sem_step_on : Object → SemOp → Option SemaphoreRow → Semaphores → SemStep
sem_step_on key op None s = sem_step_absent key op s
sem_step_on key op (Some row) s = sem_step_at key row op s

abbrev pub sem_step : Object → SemOp → Semaphores → SemStep
sem_step key op s = sem_step_on key op (find object_cmp s.rows key) s

-- the waiters that what is available serves, strictly in order of arrival
abbrev pub served : Object → ℤ → List Waiter → List Waiter
served key available [] = []
served key available (w ∷ ws) = if waits_on key.1 key.0 w
    then (if int_lt available (pos w.permits) then [] else w ∷ served key (available -ℤ pos w.permits) ws)
    else served key available ws

abbrev pub take_on : Object → Option SemaphoreRow → Waiter → Semaphores → Semaphores
take_on key None w s = s
take_on key (Some row) w s = take key row w.session w.permits s

abbrev pub take_all : Object → List Waiter → Semaphores → Semaphores
take_all key [] s = s
take_all key (w ∷ ws) s = take_all key ws (take_on key (find object_cmp s.rows key) w s)

-- what these sessions hold of the semaphores of a name
abbrev pub held_together : List ℕ → List ℕ → List ((ℕ × List ℕ) × ℕ) → ℕ
held_together sessions name holdings = sum (map (λ e. e.1) (filter (λ e. is_among sessions e.0.0 && bytes_eq name e.0.1) holdings))

abbrev pub with_back : ℕ → SemaphoreRow → SemaphoreRow
with_back n row = record row { available = row.available +ℤ pos n }

-- all that these sessions hold goes back
abbrev pub all_back : List ℕ → Semaphores → Semaphores
all_back sessions s = record {
  rows = map (λ e. (e.0, if is_held e.0.1 then with_back (held_together sessions e.0.0 s.holdings) e.1 else e.1)) s.rows;
  holdings = filter (λ e. not (is_among sessions e.0.0)) s.holdings;
}

-- a destroyed semaphore: its row and its holdings go
abbrev pub sem_destroyed : Object → Semaphores → Semaphores
sem_destroyed key s = record {
  rows = without object_cmp s.rows key;
  holdings = filter (λ e. not (is_held key.1 && bytes_eq key.0 e.0.1)) s.holdings;
}

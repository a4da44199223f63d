-- Semaphores.
use Rattle.std.specs.Prelude.{Bool, true, false, ◌&&◌, if◌then◌else◌, is_some}
use Rattle.cp_base.specs.declared.identifier.Invocation.{Invocation}
use Rattle.cp_answers.specs.declared.answer.Answer.TheVariants as answer
use Rattle.cp_object_ops.specs.declared.sem_op.SemOp.{SemOp}
use Rattle.cp_object_ops.specs.declared.sem_op.SemOp.TheVariants as sem
use Rattle.cp_group_state.specs.Rows.{Object, find, object_cmp}
use Rattle.cp_group_state.specs.Waiters.{first_on}
use Rattle.cp_group_state.specs.Semaphores.{SemOutcome, sem_step}
use Rattle.cp_group_state.specs.Semaphores as semaphore
use Rattle.cp_group_state.specs.GroupState.{GroupState}
use Rattle.cp_group_state.specs.Serving.{serve}
use Rattle.cp_group_state.specs.Outcomes.{Outcome, answered, answered_with, wait}

abbrev pub on_sem : Object → Outcome → SemOutcome → GroupState → Outcome
on_sem key waits (semaphore.Done a) s = answered a s
on_sem key waits semaphore.Wants s = waits
on_sem key waits (semaphore.Served a available) s = answered_with a (serve key s)

abbrev pub sem_wait : Invocation → Object → SemOp → GroupState → Outcome
sem_wait call key (sem.Acquire session n wish) s =
    wait (record { call = call; kind = key.1; name = key.0; session = session; permits = n; wish = wish }) wish s
sem_wait call key op s = answered answer.NotInitialized s

abbrev pub is_acquire : SemOp → Bool
is_acquire (sem.Acquire session n wish) = true
is_acquire op = false

-- whether an acquire comes behind a waiter
abbrev pub is_behind : Object → SemOp → GroupState → Bool
is_behind key op s = is_acquire op && (is_some (find object_cmp s.semaphores.rows key) && is_some (first_on key.1 key.0 s.waiters))

abbrev pub sem_rule : Invocation → Object → SemOp → GroupState → Outcome
sem_rule call key op s = if is_behind key op s
    then sem_wait call key op s
    else let step = sem_step key op s.semaphores in
    on_sem key (sem_wait call key op s) step.outcome (record s { semaphores = step.after })

-- Whoever waits gets what became free.
use Rattle.std.specs.Prelude.{ℕ, List, [], ◌∷◌, map, Option, Some, None}
use Rattle.std.specs.List.{filter, list_any}
use Rattle.std.specs.Map.{keys_of}
use Rattle.cp_op_values.specs.declared.kind.Kind.TheVariants as kind
use Rattle.cp_answers.specs.declared.answer.Answer.TheVariants as answer
use Rattle.cp_group_state.specs.Rows.{Object, find, put, name_cmp, object_cmp}
use Rattle.cp_group_state.specs.Waiters.{Waiter, Ended, waits_on, first_on, answered_by}
use Rattle.cp_group_state.specs.Locks.{held_once}
use Rattle.cp_group_state.specs.Semaphores.{SemaphoreRow, served, take_all}
use Rattle.cp_group_state.specs.GroupState.{GroupState}
use Rattle.cp_group_state.specs.Changes.{Change, stay, and_then, for_each, finish}

-- A semaphore gives what is available to the waiters that came first.
abbrev pub serve_from : Object → Option SemaphoreRow → GroupState → Change
serve_from key None s = stay s
serve_from key (Some row) s = finish (map (answered_by (λ w. answer.Ok)) (served key row.available s.waiters))
    (record s { semaphores = take_all key (served key row.available s.waiters) s.semaphores })

abbrev pub serve : Object → GroupState → Change
serve key s = serve_from key (find object_cmp s.semaphores.rows key) s

-- the semaphores on which one of these waited, by name
abbrev pub left_by : List Ended → GroupState → List Object
left_by ended s = filter (λ key. list_any (λ e. waits_on key.1 key.0 e.waiter) ended) (keys_of s.semaphores.rows)

-- the semaphores on which these waited are served in the order in which the waits ended; one that was served already serves nobody more
abbrev pub serve_each_left : Change → Change
serve_each_left c = and_then c (for_each serve (map (λ e. (e.waiter.name, e.waiter.kind)) c.ended))

-- the semaphores on which these waited are served by name
abbrev pub serve_left : Change → Change
serve_left c = and_then c (for_each serve (left_by c.ended c.state))

-- A free lock goes to its first waiter, under the index as its fence.
abbrev pub hand_to : ℕ → List ℕ → Option Waiter → GroupState → Change
hand_to index name None s = stay s
hand_to index name (Some w) s = finish (record { waiter = w; answer = answer.Fence index } ∷ [])
    (record s { locks = put name_cmp s.locks name (held_once (record { session = w.session; thread = w.call.thread }) index) })

abbrev pub hand_over : ℕ → List ℕ → GroupState → Change
hand_over index name s = hand_to index name (first_on kind.Lock name s.waiters) s

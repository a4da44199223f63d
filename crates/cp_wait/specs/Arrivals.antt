-- Calls and waiters in order of arrival.
use Rattle.std.specs.Prelude.{◌==◌, ◌&&◌, Bool, true, false, not, List, [], ◌∷◌, ◌++◌, map, find, Option, if◌then◌else◌}
use Rattle.std.specs.List.{filter, list_any}
use Rattle.std.specs.Set.{remove_key}
use Rattle.cp_base.specs.declared.identifier.ClientId.{ClientId}
use Rattle.cp_base.specs.declared.identifier.ThreadNo.{ThreadNo}
use Rattle.cp_base.specs.declared.identifier.Invocation.{Invocation}
use Rattle.cp_op_values.specs.declared.wish.Wish.{Wish}
use Rattle.cp_op_values.specs.declared.wish.Wish.TheVariants as wish
use Rattle.cp_group_state.specs.Waiters.{same_client, same_call}
use Rattle.cp_group_state.specs.declared.rows.Waiter.{Waiter}

abbrev pub has_call : Invocation → List Invocation → Bool
has_call call calls = list_any (same_call call) calls

-- a call that is there stays in its place, another comes last
abbrev pub with_call : List Invocation → Invocation → List Invocation
with_call calls call = if has_call call calls then calls else calls ++ call ∷ []

abbrev pub without_call : List Invocation → Invocation → List Invocation
without_call calls call = remove_key (same_call call) calls

abbrev pub calls_of : List Waiter → List Invocation
calls_of ws = map (λ w. w.call) ws

-- each waiter under its own call
abbrev pub under_calls : List Waiter → List (Invocation × Waiter)
under_calls ws = map (λ w. (w.call, w)) ws

-- the waiter of a call
abbrev pub waiter_of : Invocation → List Waiter → Option Waiter
waiter_of call ws = find (λ w. same_call call w.call) ws

abbrev pub without_waiter : Invocation → List Waiter → List Waiter
without_waiter call ws = filter (λ w. not (same_call call w.call)) ws

-- whether a waiter is of this thread
abbrev pub is_of_thread : ClientId × ThreadNo → Waiter → Bool
is_of_thread thread w = same_client thread.0 w.call.client && (thread.1.0 == w.call.thread.0)

abbrev pub is_limited : Wish → Bool
is_limited wish.NoLimit = false
is_limited (wish.Within millis) = true

-- whether a waiter waits for some time only
abbrev pub waits_limited : Waiter → Bool
waits_limited w = is_limited w.wish

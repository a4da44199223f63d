-- What an event gives in both layers.
use Rattle.std.specs.Prelude.{ℕ, List, [], ◌∷◌, ◌++◌, Option, Some, None}
use Rattle.cp_base.specs.declared.identifier.ClientId.{ClientId}
use Rattle.cp_base.specs.declared.identifier.ThreadNo.{ThreadNo}
use Rattle.cp_try_rules.specs.declared.event.Sent.{Sent}
use Rattle.cp_try_rules.specs.Clients.{Client, Did, Asked, and_then, nothing, open_at}
use Rattle.cp_try_rules.specs.Tries.{Tries, Trying, begin_each, told_each, try_request}

-- What the calls did, with the client after it; the tries after it; and the messages, in order.
pub record Step : Type 0 where
  pub did : Did
  pub tries : Tries
  pub sent : List Sent

abbrev pub stays : Client → Tries → Step
stays c tries = record { did = nothing c; tries = tries; sent = [] }

-- no message
abbrev pub quietly : Did → Tries → Step
quietly d tries = record { did = d; tries = tries; sent = [] }

-- tries alone
abbrev pub tries_only : Client → Trying → Step
tries_only c x = record { did = nothing c; tries = x.tries; sent = x.sent }

abbrev pub then_step : Step → (Client → Tries → Step) → Step
then_step s f = let e = f s.did.client s.tries in record { did = and_then s.did (λ c. e.did); tries = e.tries; sent = s.sent ++ e.sent }

abbrev pub with_trying : Did → Trying → Step
with_trying d x = record { did = d; tries = x.tries; sent = x.sent }

-- What the answers tell of groups comes first; then each request that begins is tried.
abbrev pub with_tries : Did → Tries → Step
with_tries d tries = with_trying d (begin_each d.client.clock d.asked (told_each d.ended tries))

-- thread by thread
abbrev pub each_thread : (ThreadNo → Client → Tries → Step) → List ThreadNo → Client → Tries → Step
each_thread f [] c tries = stays c tries
each_thread f (t ∷ threads) c tries = then_step (f t c tries) (each_thread f threads)

abbrev pub try_open : Option Asked → Client → Tries → Step
try_open None c tries = stays c tries
try_open (Some a) c tries = tries_only c (try_request c.clock a tries)

-- the open request of the thread is tried
abbrev pub try_thread : ClientId → ThreadNo → Client → Tries → Step
try_thread me t c tries = try_open (open_at me t c) c tries

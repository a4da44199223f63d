-- The code's world as one of the definitions.
use Rattle.std.specs.Prelude.{◌≡◌, ◌+◌, ℕ, List, [], ◌∷◌, ◌++◌, length, map}
use Rattle.std.specs.Ordering.{nat_cmp}
use Rattle.cp_base.specs.declared.identifier.ClientNo.{ClientNo}
use Rattle.cp_ops.specs.declared.entry.Entry.{Entry}
use Rattle.cp_events.specs.declared.effects.Effects.{Effects}
use Rattle.cp_events.specs.declared.event.Event.{Event}
use Rattle.cp_events.specs.declared.plan.Plan.{Plan}
use Rattle.cp_group_state.specs.Rows.{put}
use Rattle.cp_client_rules.specs.Clients.{Did}
use Rattle.cp_world_rules.specs.Rows.{Committed}
use Rattle.cp_world_rules.specs.World as rules
use Rattle.cp_world.specs.declared.turn.Turn.{Turn}
use Rattle.cp_world.specs.declared.world.World.{World}

-- entries that one event committed
abbrev pub committed_at : ℕ → List Entry → List Committed
committed_at event entries = map (λ e. record { event = event; entry = e }) entries

-- what an event shows
abbrev pub effects_of : Event → Turn → Effects
effects_of e turn = record { number = turn.number; event = e; ignored = turn.ignored; opened = turn.opened; returns = turn.returns }

-- The group, the queue, what the event under way shows so far, and what it committed since the world before it.
pub record HasRest (before : rules.World) (e : Event) (w : rules.World) (world : World) (turn : Turn) : Type 0 where
  pub state : world.tables ≡ w.state
  pub entries : world.entries ≡ length w.history
  -- event 0 opens all members, and is not counted
  pub events : world.events + 1 ≡ length w.effects
  pub effects_are : w.effects ≡ before.effects
  pub queue : world.queue ≡ w.queue
  pub shown : w.shown ≡ effects_of e turn
  pub history : w.history ≡ before.history ++ committed_at turn.number turn.entries

-- The world between events.
pub record Follows (w : rules.World) (world : World) : Type 0 where
  pub clients : world.clients.entries ≡ w.clients
  pub state : world.tables ≡ w.state
  pub entries : world.entries ≡ length w.history
  pub events : world.events + 1 ≡ length w.effects
  pub queue : world.queue ≡ w.queue

-- What an event leaves: the world after it, and in the turn what it shows and the entries that it committed.
pub record IsStep (plan : Plan) (event : Event) (w : rules.World) (world : World) (turn : Turn) : Type 0 where
  pub follows : Follows (rules.world_step plan w event) world
  pub effects_are : (rules.world_step plan w event).effects ≡ w.effects ++ effects_of event turn ∷ []
  pub history : (rules.world_step plan w event).history ≡ w.history ++ committed_at turn.number turn.entries

-- The world while an event is under way.
pub record Goes (before : rules.World) (e : Event) (w : rules.World) (world : World) (turn : Turn) : Type 0 where
  pub clients : world.clients.entries ≡ w.clients
  pub rest : HasRest before e w world turn

-- The same, once this client took its step.
pub record GoesFrom (me : ClientNo) (d : Did) (before : rules.World) (e : Event) (w : rules.World) (world : World) (turn : Turn) : Type 0 where
  pub clients : world.clients.entries ≡ put nat_cmp w.clients me.0 d.client
  pub rest : HasRest before e w world turn

-- The code does what the definition does.
pub record Leads (f : rules.World → rules.World) (world : World) (turn : Turn) (after : World) (later : Turn) : Type 0 where
  pub leads : (before : rules.World) (e : Event) (w : rules.World) → Goes before e w world turn → Goes before e (f w) after later

pub record LeadsFrom (me : ClientNo) (d : Did) (f : rules.World → rules.World) (world : World) (turn : Turn) (after : World) (later : Turn) : Type 0 where
  pub leads : (before : rules.World) (e : Event) (w : rules.World) → GoesFrom me d before e w world turn → Goes before e (f w) after later

-- Worlds whose numbers may grow.
use Rattle.cp_base.specs.declared.limits.TheConstants.{LAST_NUMBER}
use Rattle.std.specs.Prelude.{◌<◌, ◌+◌, ◌^◌, ℕ, List, length}
use Rattle.cp_base.specs.declared.identifier.ClientNo.{ClientNo}
use Rattle.cp_events.specs.declared.event.Event.{Event}
use Rattle.cp_events.specs.declared.plan.Plan.{Plan}
use Rattle.cp_client_rules.specs.Clients.{Did}
use Rattle.cp_client.specs.declared.output.ClientOut.{ClientOut}
use Rattle.cp_world_rules.specs.Bounds.{AllWithin}
use Rattle.cp_world_rules.specs.World as rules
use Rattle.cp_world.specs.declared.turn.Turn.{Turn}
use Rattle.cp_world.specs.declared.world.World.{World}
use Rattle.cp_world.specs.Following.{Follows, Goes, GoesFrom}
use Rattle.cp_world.specs.Given.{IsGiven}

-- the history that a step leads to can be counted
pub record CanCount (f : rules.World → rules.World) (world : World) (turn : Turn) : Type 0 where
  pub before : rules.World
  pub event : Event
  pub w : rules.World
  pub goes : Goes before event w world turn
  pub few : length (f w).history < LAST_NUMBER

-- a client's step gave this, and the history that it leads to can be counted
pub record CanCountDone (me : ClientNo) (given : ClientOut) (world : World) (turn : Turn) : Type 0 where
  pub before : rules.World
  pub event : Event
  pub w : rules.World
  pub did : Did
  pub gives : IsGiven did given
  pub goes : GoesFrom me did before event w world turn
  pub few : length (rules.does me did w).history < LAST_NUMBER

-- so can the numbers of the clients
pub record HasRoomFor (f : rules.World → rules.World) (world : World) (turn : Turn) : Type 0 where
  pub before : rules.World
  pub event : Event
  pub w : rules.World
  pub goes : Goes before event w world turn
  pub n : ℕ
  pub within : AllWithin n w
  pub few : length (f w).history + n < LAST_NUMBER

-- The world is that after some events, of which there may be more.
pub record IsReached (plan : Plan) (world : World) : Type 0 where
  pub events : List Event
  pub follows : Follows (rules.world_after plan rules.new_world events) world
  pub few : length events < 2 ^ 60

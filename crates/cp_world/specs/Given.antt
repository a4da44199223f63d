-- What a step of a client in the world gives.
use Rattle.std.specs.Prelude.{◌≡◌, ℕ, List}
use Rattle.std.specs.Ordering.{nat_cmp}
use Rattle.cp_base.specs.declared.identifier.ClientNo.{ClientNo}
use Rattle.cp_group_state.specs.Rows.{put}
use Rattle.cp_client_rules.specs.Clients.{Client, Did}
use Rattle.cp_client.specs.declared.output.ClientOut.{ClientOut}
use Rattle.cp_client.specs.Steps.{Gives}

-- these requests, sessions and returns are those of the step
pub record IsGiven (d : Did) (given : ClientOut) : Type 0 where
  pub asked : given.asked ≡ d.asked
  pub opened : given.opened ≡ d.opened
  pub returns : given.returns ≡ d.returns

-- The client after the step stands under its number, and what the step gives stands behind what was there.
pub record GivesAt (me : ClientNo) (d : Did) (old new : List (ℕ × Client)) (before after : ClientOut) : Type 0 where
  pub clients : new ≡ put nat_cmp old me.0 d.client
  pub gives : Gives d d.client before after

-- A step of the code's client as one of the definitions.
use Rattle.std.specs.Prelude.{◌≡◌, ◌++◌}
use Rattle.cp_client_rules.specs.Clients.{Client, Did}
use Rattle.cp_client.specs.declared.output.ClientOut.{ClientOut}

-- The client is the one after the step, and what the step gives stands behind what was there.
pub record Gives (d : Did) (client : Client) (before after : ClientOut) : Type 0 where
  pub client_is : client ≡ d.client
  pub asked : after.asked ≡ before.asked ++ d.asked
  pub opened : after.opened ≡ before.opened ++ d.opened
  pub returns : after.returns ≡ before.returns ++ d.returns

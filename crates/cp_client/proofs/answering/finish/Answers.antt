use Rattle.std.proofs.Common.{sym, subst}
use Rattle.cp_client_rules.specs.Clients.{Client}
use Rattle.cp_client.specs.Rooms.{HoldsHaveRoom}
use Rattle.cp_client.proofs.answering.finish.Goals as goal

pub holding-requires : goal.holding-requires
holding-requires c = subst (λ (x : Client). HoldsHaveRoom x.holds) (sym c.client.view_is) c.requires.holds

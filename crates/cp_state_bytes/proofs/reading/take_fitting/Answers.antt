use Rattle.std.proofs.Common.{arith}
use Rattle.cp_codec.proofs.Wide.{bytes_from}
use Rattle.cp_state_bytes.proofs.Known.{known}
use Rattle.cp_state_bytes.proofs.reading.take_fitting.Goals as goal

pub returns-clause-known : goal.returns-clause-known
returns-clause-known c = known c.args.version c.args.bytes.now c.take_lists.result (bytes_from c.args.bytes.now (λ i. omega (arith, c.type_inv.bytes i))) c.take_lists.ensures

use Rattle.std.proofs.Common.{arith}
use Rattle.cp_codec.proofs.Wide.{bytes_from}
use Rattle.cp_meta.proofs.Sound.{read_in_order}
use Rattle.cp_meta.proofs.snapshot.take_ordered.Goals as goal

pub returns-clause-ordered : goal.returns-clause-ordered
returns-clause-ordered c = read_in_order c.args.bytes.now c.take_lists.result (bytes_from c.args.bytes.now (λ i. omega (arith, c.type_inv.bytes i))) c.take_lists.ensures

use Rattle.std.proofs.Common.{arith}
use Rattle.cp_codec.proofs.Wide.{bytes_from}
use Rattle.cp_state_bytes.proofs.Counting.{few_read}
use Rattle.cp_state_bytes.proofs.latches.take_counted.Goals as goal

pub returns-clause-few : goal.returns-clause-few
returns-clause-few c = few_read c.args.so_far c.args.bytes.now c.take_calls.result (bytes_from c.args.bytes.now (λ i. omega (arith, c.type_inv.bytes i))) c.take_calls.ensures

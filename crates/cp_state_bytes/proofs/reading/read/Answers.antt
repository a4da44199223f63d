use Rattle.std.proofs.Common.{arith}
use Rattle.cp_codec.proofs.Wide.{bytes_from}
use Rattle.cp_state_bytes.proofs.Known.{is_sound}
use Rattle.cp_state_bytes.proofs.reading.read.Goals as goal

pub returns-clause-sound : goal.returns-clause-sound
returns-clause-sound c = is_sound c.args.bytes.now c.read_exactly.result (bytes_from c.args.bytes.now (λ i. omega (arith, c.type_inv.bytes i))) c.read_exactly.ensures

use Rattle.std.proofs.Common.{arith}
use Rattle.hex.specs.Hex.{IsBytes}
use Rattle.cp_call_words.proofs.HexWords.{is_text}
use Rattle.cp_call_words.proofs.hexadecimals.digits_are_read.Goals as goal

pub returns : goal.returns
returns c = let are : IsBytes c.args.bytes.now = λ i. omega (arith, c.type_inv.bytes i) in is_text c.args.digits.now c.args.bytes.now are c.requires

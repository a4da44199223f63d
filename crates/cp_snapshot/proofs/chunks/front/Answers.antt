use Rattle.std.proofs.Common.{arith, sym}
use Rattle.std.proofs.lemmas.List.{length-take-le, take_all}
use Rattle.cp_snapshot.proofs.chunks.front.Goals as goal

pub slice_bounds-result-end : goal.slice_bounds-result-end
slice_bounds-result-end c = sym (length-take-le 32768 c.args.bytes.now (omega arith))

pub returns-then-bytes : goal.returns-then-bytes
returns-then-bytes c = sym (take_all 32768 c.args.bytes.now (omega arith))

use Rattle.std.proofs.Common.{subst, arith}
use Rattle.cp_codec.proofs.Wide.{bytes_from}
use Rattle.cp_schedule.specs.Reading.{Answers}
use Rattle.cp_schedule.proofs.ScheduleLaws.{found_is, few_is, limits_is, read_text_is}
use Rattle.cp_schedule.proofs.reading.read.Goals as goal

pub returns-clause-found : goal.returns-clause-found
returns-clause-found c = found_is c.args.bytes.now c.read_told.result (bytes_from c.args.bytes.now (λ i. omega (arith, c.type_inv.bytes i))) c.read_told.ensures

pub returns-clause-few : goal.returns-clause-few
returns-clause-few c = few_is c.args.bytes.now c.read_told.result (bytes_from c.args.bytes.now (λ i. omega (arith, c.type_inv.bytes i))) c.read_told.ensures

pub returns-clause-only : goal.returns-clause-only
returns-clause-only c = λ s is. subst (λ r. Answers c.read_told.result r) (read_text_is c.args.bytes.now s is) c.read_told.ensures

pub returns-clause-limits : goal.returns-clause-limits
returns-clause-limits c = limits_is c.args.bytes.now c.read_told.result (bytes_from c.args.bytes.now (λ i. omega (arith, c.type_inv.bytes i))) c.read_told.ensures

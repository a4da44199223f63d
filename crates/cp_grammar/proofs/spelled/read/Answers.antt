use Rattle.std.proofs.Common.{ap, subst, ◌∙◌, arith}
use Rattle.cp_grammar.specs.Grammar.{whole}
use Rattle.cp_grammar.specs.Readers.{Tells}
use Rattle.cp_grammar.specs.Laws.{whole_again}
use Rattle.cp_grammar.proofs.Found.{is_found}
use Rattle.cp_codec.specs.Exact.{IsByte}
use Rattle.cp_codec.proofs.Wide.{bytes_from}
use Rattle.cp_grammar.proofs.spelled.read.Goals as goal

pub returns-clause-found : goal.returns-clause-found
returns-clause-found g c = is_found IsByte g.T.Spelled.grammar g.met.T.Spelled.lawful c.args.bytes.now c.read_whole.result (bytes_from c.args.bytes.now (λ i. omega (arith, c.type_inv.bytes i))) c.read_whole.ensures

pub returns-clause-only : goal.returns-clause-only
returns-clause-only g c = λ x fits e. subst (λ r. Tells c.read_whole.result r) (ap (whole g.T.Spelled.grammar) e ∙ whole_again IsByte g.T.Spelled.grammar g.met.T.Spelled.lawful x fits) c.read_whole.ensures

use Rattle.cp_codec.proofs.FieldLaws.{fields_exact}
use Rattle.cp_codec.proofs.exact.fields_are_exact.Goals as goal

pub returns : goal.returns
returns c = fields_exact

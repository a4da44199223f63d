use Rattle.std.proofs.Common.{rules, sym, ◌∙◌}
use Rattle.std.specs.Int.{w64}
use Rattle.std.specs.Prelude.{FitsSigned}
use Rattle.std.proofs.lemmas.Int.{to_z-of_z}
use Rattle.cp_base.proofs.DecimalLemmas.{no_signed_text, no_signed_number, another_signed}
use Rattle.cp_base.proofs.decimal.read_signed.Goals as goal

pub returns-in_default : goal.returns-in_default
returns-in_default c = no_signed_text c.args.bytes.now c.in_default.ensures.cases.0

pub returns-in_default-parse : goal.returns-in_default-parse
returns-in_default-parse c =
    no_signed_number c.args.bytes.now c.in-Ok.text.now c.parse.result c.in-Ok.ensures.cases.0 c.parse.ensures.value.0 c.in_default-parse.not-Ok

pub returns-else-is_signed_decimal_of : goal.returns-else-is_signed_decimal_of
returns-else-is_signed_decimal_of c =
    let fits : FitsSigned w64 c.in-Ok-parse.number = search rules in
    another_signed c.args.bytes.now c.in-Ok.text.now c.parse.result c.in-Ok.ensures.cases.0 c.parse.ensures.value.0 c.in-Ok-parse.number c.in-Ok-parse.is
    (rw (to_z-of_z w64 c.in-Ok-parse.number fits) at (sym c.is_signed_decimal_of.ensures ∙ c.if-is_signed_decimal_of.false))

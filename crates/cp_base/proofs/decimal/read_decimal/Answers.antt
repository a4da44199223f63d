use Rattle.std.proofs.Common.{arith, sym, ◌∙◌}
use Rattle.cp_base.proofs.DecimalLemmas.{no_text, no_number, too_large, another}
use Rattle.cp_base.proofs.decimal.read_decimal.Goals as goal

pub returns-in_default : goal.returns-in_default
returns-in_default c = no_text c.args.bytes.now c.in_default.ensures.cases.0

pub returns-in_default-parse : goal.returns-in_default-parse
returns-in_default-parse c = no_number c.args.bytes.now c.in-Ok.text.now c.parse.result c.in-Ok.ensures.cases.0 c.parse.ensures.value.0 c.in_default-parse.not-Ok

pub returns-then-number-gt-MOST : goal.returns-then-number-gt-MOST
returns-then-number-gt-MOST c =
    too_large c.args.bytes.now c.in-Ok.text.now c.parse.result c.in-Ok.ensures.cases.0 c.parse.ensures.value.0 c.in-Ok-parse.number c.in-Ok-parse.is (omega arith)

pub returns-else-is_decimal_of : goal.returns-else-is_decimal_of
returns-else-is_decimal_of c =
    another c.args.bytes.now c.in-Ok.text.now c.parse.result c.in-Ok.ensures.cases.0 c.parse.ensures.value.0 c.in-Ok-parse.number c.in-Ok-parse.is
    (sym c.is_decimal_of.ensures ∙ c.if-is_decimal_of.false)

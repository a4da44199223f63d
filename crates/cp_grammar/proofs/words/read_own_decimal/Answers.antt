use Rattle.std.proofs.Common.{◌<◌, ◌^◌, arith, sym, ◌∙◌}
use Rattle.cp_grammar.specs.WordLaws.{no_text, no_number, written, other}
use Rattle.cp_grammar.proofs.words.read_own_decimal.Goals as goal

pub returns-in_default-from_utf8 : goal.returns-in_default-from_utf8
returns-in_default-from_utf8 c = no_text c.args.word.now c.in_default-from_utf8.ensures.cases.0

pub returns-in_default-parse : goal.returns-in_default-parse
returns-in_default-parse c = no_number c.args.word.now c.in-Ok.text.now c.parse.result c.in-Ok.ensures.cases.0 c.parse.ensures.value.0 c.in_default-parse.not-Ok

pub returns-then-eq : goal.returns-then-eq
returns-then-eq c =
    let h = c.in-Ok-parse.ensures.value in
    let lt : c.in-Ok-parse.n < 2 ^ 64 = omega (arith, h.0.0.1, h.0.1) in
    written c.args.word.now c.as_bytes.result.now c.in-Ok-parse.n lt (c.as_bytes.ensures.value ∙ c.format.ensures.text) (sym c.eq.ensures ∙ c.if-eq.true)

pub returns-else-eq : goal.returns-else-eq
returns-else-eq c = other c.args.word.now c.in-Ok.text.now c.as_bytes.result.now c.in-Ok-parse.n c.parse.result c.in-Ok.ensures.cases.0 c.parse.ensures.value.0 c.in-Ok-parse.is
    (c.as_bytes.ensures.value ∙ c.format.ensures.text) (sym c.eq.ensures ∙ c.if-eq.false)

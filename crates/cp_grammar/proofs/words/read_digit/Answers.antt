use Rattle.std.proofs.Common.{◌-◌, arith, ◌∙◌}
use Rattle.cp_grammar.proofs.Digits.{one_digit}
use Rattle.cp_grammar.proofs.words.read_digit.Goals as goal

pub returns : goal.returns
returns c =
    let h = one_digit c.args.word.now (omega (arith, c.in-len1.len_at_least, c.in-len1.len_below)) (omega (arith, c.if-digit-lt48.false)) (omega (arith, c.if-digit-gt57.false)) in
    (h.0, c.from.ensures ∙ h.1)

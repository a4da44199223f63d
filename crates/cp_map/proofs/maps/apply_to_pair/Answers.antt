use Rattle.std.proofs.Common.{sym, ◌∙◌}
use Rattle.cp_map.proofs.Steps.{pair_written, pair_answered, unwritten, after_error}
use Rattle.cp_map.proofs.maps.apply_to_pair.Goals as goal

pub returns-in_err-apply_to-in-Some-clause-err : goal.returns-in_err-apply_to-in-Some-clause-err
returns-in_err-apply_to-in-Some-clause-err c = after_error c.from_residual.result
    ((c.get_mut.follows.holds c.apply_to.new.value).0 ∙ unwritten c.args.pairs.now.entries c.args.place.now c.in-Some.value.now c.apply_to.new.value (sym c.in-Some.ensures.value) c.in_err-apply_to-in-Some.ensures.err)

pub returns-in_ok-apply_to-in-Some-clause-pairs : goal.returns-in_ok-apply_to-in-Some-clause-pairs
returns-in_ok-apply_to-in-Some-clause-pairs c = (c.get_mut.follows.holds c.apply_to.new.value).0
    ∙ pair_written c.args.pairs.now.entries c.args.place.now c.args.op.now c.in-Some.value.now c.apply_to.new.value c.requires c.get_mut.ensures.ordered (sym c.in-Some.ensures.value) c.in_ok-apply_to-in-Some.ensures.value

pub returns-in_ok-apply_to-in-Some-clause-answer : goal.returns-in_ok-apply_to-in-Some-clause-answer
returns-in_ok-apply_to-in-Some-clause-answer c = pair_answered c.args.pairs.now.entries c.args.place.now c.args.op.now c.in-Some.value.now c.in_ok-apply_to-in-Some.field-0 c.requires (sym c.in-Some.ensures.value) c.in_ok-apply_to-in-Some.ensures.answer

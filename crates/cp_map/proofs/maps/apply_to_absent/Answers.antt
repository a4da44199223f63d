use Rattle.std.proofs.Common.{ap, sym, ◌∙◌, Some}
use Rattle.cp_group_state.specs.Maps.{MapStep, Sets, with_effect}
use Rattle.cp_map.proofs.Steps.{absent_set, absent_stays, by_step}
use Rattle.cp_map.proofs.maps.apply_to_absent.Goals as goal

pub returns-in_ok-copy_of-in-Some-clause-pairs : goal.returns-in_ok-copy_of-in-Some-clause-pairs
returns-in_ok-copy_of-in-Some-clause-pairs c =
    let set = sym c.in-Some.ensures ∙ ap (λ v. Some v) (sym c.in_ok-copy_of-in-Some.ensures) in
    let same = ap (λ a. with_effect c.args.pairs.now.entries c.args.place (Sets c.in_ok-copy_of-in-Some.field-0) a) c.answer_at_absent-answer.ensures ∙ absent_set c.args.pairs.now.entries c.args.place c.args.op.now c.in_ok-copy_of-in-Some.field-0 c.requires.absent set in
    (by_step c.make_pair.new.pairs.entries c.make_pair.result _ _ same c.make_pair.ensures.pairs c.make_pair.ensures.answer).0

pub returns-in_ok-copy_of-in-Some-clause-answer : goal.returns-in_ok-copy_of-in-Some-clause-answer
returns-in_ok-copy_of-in-Some-clause-answer c =
    let set = sym c.in-Some.ensures ∙ ap (λ v. Some v) (sym c.in_ok-copy_of-in-Some.ensures) in
    let same = ap (λ a. with_effect c.args.pairs.now.entries c.args.place (Sets c.in_ok-copy_of-in-Some.field-0) a) c.answer_at_absent-answer.ensures ∙ absent_set c.args.pairs.now.entries c.args.place c.args.op.now c.in_ok-copy_of-in-Some.field-0 c.requires.absent set in
    (by_step c.make_pair.new.pairs.entries c.make_pair.result _ _ same c.make_pair.ensures.pairs c.make_pair.ensures.answer).1

pub returns-in-None-clause-pairs : goal.returns-in-None-clause-pairs
returns-in-None-clause-pairs c = let same = absent_stays c.args.pairs.now.entries c.args.place c.args.op.now c.requires.other c.requires.absent (sym c.in-None.ensures) in ap (λ (s : MapStep). s.after) same

pub returns-in-None-clause-answer : goal.returns-in-None-clause-answer
returns-in-None-clause-answer c = let same = absent_stays c.args.pairs.now.entries c.args.place c.args.op.now c.requires.other c.requires.absent (sym c.in-None.ensures) in c.answer_at_absent-answer.ensures ∙ ap (λ (s : MapStep). s.answer) same

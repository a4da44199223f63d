use Rattle.cp_meta_state.specs.MetaState.{numbers}
use Rattle.cp_meta.proofs.Numbered.{number_more}
use Rattle.cp_meta.proofs.first.numbers_to.Goals as goal

pub loop-member-preserved : goal.loop-member-preserved
loop-member-preserved c = number_more c.loop-member.member c.args.size c.loop-member.members.items c.push.new.self.items (numbers c.args.size 1) c.loop-member-test.true c.in_ok-push.ensures.items c.loop-member.invariant

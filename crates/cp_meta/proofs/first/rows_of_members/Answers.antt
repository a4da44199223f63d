use Rattle.std.proofs.Common.{map}
use Rattle.cp_meta_state.specs.declared.rows.Standing.TheVariants.{Active}
use Rattle.cp_meta_state.specs.MetaState.{numbers}
use Rattle.cp_meta.proofs.Numbered.{one_more}
use Rattle.cp_meta.proofs.first.rows_of_members.Goals as goal

pub loop-member-preserved : goal.loop-member-preserved
loop-member-preserved c = one_more c.loop-member.member c.args.members c.loop-member.rows.items c.push.new.self.items (map (λ m. (m, Active)) (numbers c.args.members 1)) c.loop-member-test.true c.in_ok-push.ensures.items c.loop-member.invariant

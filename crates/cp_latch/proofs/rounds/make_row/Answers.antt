use Rattle.std.proofs.Common.{◌<◌, arith, length}
use Rattle.cp_group_state.specs.Rows.{most}
use Rattle.cp_latch.proofs.Steps.{made}
use Rattle.cp_latch.proofs.rounds.make_row.Goals as goal

pub returns-clause-rows : goal.returns-clause-rows
returns-clause-rows c = let few : length c.args.rows.now.entries < most = omega (arith, c.len.ensures.len) in
    (made c.args.rows.now.entries c.insert.new.self.entries c.args.name.now c.in_ok-name.name c.args.latch c.requires.absent few c.requires.fresh c.in_ok-name.ensures.cases c.in_ok-insert.ensures.entries).0

pub returns-clause-counted : goal.returns-clause-counted
returns-clause-counted c = let few : length c.args.rows.now.entries < most = omega (arith, c.len.ensures.len) in
    (made c.args.rows.now.entries c.insert.new.self.entries c.args.name.now c.in_ok-name.name c.args.latch c.requires.absent few c.requires.fresh c.in_ok-name.ensures.cases c.in_ok-insert.ensures.entries).2

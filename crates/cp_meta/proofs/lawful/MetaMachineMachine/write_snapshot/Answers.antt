use Rattle.cp_meta.proofs.Snapshots.{written}
use Rattle.cp_meta.proofs.lawful.MetaMachineMachine.write_snapshot.Goals as goal

pub returns-clause-ok : goal.returns-clause-ok
returns-clause-ok c = written c.write_bytes.result c.args.self.now c.args.out.now.items c.write_bytes.new.out.items c.write_bytes.ensures.bytes c.write_bytes.ensures.back

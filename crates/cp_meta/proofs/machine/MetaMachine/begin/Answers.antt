use Rattle.cp_meta.proofs.Entries.{first_is_sound}
use Rattle.cp_meta.proofs.machine.MetaMachine.begin.Goals as goal

pub invariant_of-result : goal.invariant_of-result
invariant_of-result c = first_is_sound c.args.members c.args.size c.in_ok-tables.tables c.requires.some c.requires.within c.requires.most c.in_ok-tables.ensures

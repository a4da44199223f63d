use Rattle.std.proofs.Common.{sym}
use Rattle.cp_read.specs.Looks.{ready}
use Rattle.cp_read.proofs.First.{found_there}
use Rattle.cp_read.proofs.ready.first_ready.Goals as goal

pub returns-in-Some : goal.returns-in-Some
returns-in-Some c = sym (found_there (ready c.args.me c.args.members.now c.args.confirmed.now c.args.applied) c.args.looks.now c.in-Some.place c.index-looks-place.result (sym c.in-Some.ensures) c.index-looks-place.is).0

use Rattle.std.proofs.Common.{◌∙◌, ap, sym}
use Rattle.std.specs.List.{list_any}
use Rattle.cp_read.specs.Looks.{ready}
use Rattle.cp_read.proofs.Passing.{none_passes}
use Rattle.cp_read.proofs.ready.take_ready.Goals as goal

pub returns-else-has_ready-clause-waiting : goal.returns-else-has_ready-clause-waiting
returns-else-has_ready-clause-waiting c =
    let test = ready c.args.me c.args.members.now c.args.confirmed.now c.args.applied in
    (none_passes test c.args.looks.now.items (ap (list_any test) (sym c.deref.ensures.value) ∙ sym c.has_ready.ensures ∙ c.if-has_ready.false)).1

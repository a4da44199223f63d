use Rattle.std.proofs.Common.{◌∙◌, sym}
use Rattle.std.specs.Ordering.{nat_cmp}
use Rattle.std.proofs.lemmas.Cmp.{nat_cmp_total}
use Rattle.cp_rows.proofs.Ordered.{put_there}
use Rattle.cp_client.proofs.threads.write.Goals as goal

pub returns-in-Some : goal.returns-in-Some
returns-in-Some c = (c.get_mut.follows.holds c.args.row).0
    ∙ put_there nat_cmp nat_cmp_total c.args.threads.now.entries c.args.thread.0 c.in-Some.place.now c.args.row c.get_mut.ensures.ordered (sym c.in-Some.ensures.value)

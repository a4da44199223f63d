use Rattle.std.proofs.Common.{◌≡◌, subst, arith}
use Rattle.std.proofs.lemmas.Grind.{common_steps}
use Rattle.cp_session.specs.Tables.{IsTable}
use Rattle.cp_session.proofs.Tabled.{one_session}
use Rattle.cp_session.proofs.restore.maps_of.Goals as goal

pub returns : goal.returns
returns c =
    let whole : c.loop-number.map.entries ≡ c.args.rows = grind (arith, common_steps) in
    let table : IsTable c.loop-number.map.entries = record { rising = c.len-len.ensures.ordered; one = one_session c.loop-number.map.entries c.loop-number.numbers.entries c.loop-number.invariant.1 } in
    (whole, c.loop-number.invariant.1, subst (λ rows. IsTable rows) whole table)

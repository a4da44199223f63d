use Rattle.cp_state_bytes.proofs.Checks.{balanced_told}
use Rattle.cp_state_bytes.proofs.rules.permits_are_balanced.Goals as goal

pub returns : goal.returns
returns c = balanced_told c.are_balanced.result c.in_ok-sums.sums.entries c.args.rows.now c.args.holdings.now c.are_balanced.ensures c.in_ok-sums.ensures c.requires

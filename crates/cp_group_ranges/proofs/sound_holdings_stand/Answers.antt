use Rattle.cp_group_ranges.proofs.Counts.{holdings-stand}
use Rattle.cp_group_ranges.proofs.sound_holdings_stand.Goals as goal

pub returns : goal.returns
returns c = holdings-stand

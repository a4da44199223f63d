use Rattle.cp_meta_state.proofs.Numbers.{always-numbered}
use Rattle.cp_meta_state.proofs.numbers_are_indexes.Goals as goal

pub returns : goal.returns
returns c = always-numbered

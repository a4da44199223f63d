use Rattle.cp_entry_laws.proofs.Bringing.{entries_bring_configs}
use Rattle.cp_entry_laws.proofs.entries_bring_configs.Goals as goal

pub returns : goal.returns
returns c = entries_bring_configs

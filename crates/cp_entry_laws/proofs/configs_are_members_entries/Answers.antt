use Rattle.cp_entry_laws.proofs.Bringing.{configs_are_members_entries}
use Rattle.cp_entry_laws.proofs.configs_are_members_entries.Goals as goal

pub returns : goal.returns
returns c = configs_are_members_entries

use Rattle.cp_codec.specs.Exact.{IsByte}
use Rattle.cp_grammar.specs.Laws.{prefix_free}
use Rattle.cp_message.specs.Messages.{any_version}
use Rattle.cp_message.specs.Laws.{any_version_lawful}
use Rattle.cp_message.proofs.message.no_message_begins_another.Goals as goal

pub returns : goal.returns
returns c = prefix_free IsByte any_version any_version_lawful

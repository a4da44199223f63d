use Rattle.std.proofs.Common.{◌≡◌, ◌-◌, []}
use Rattle.cp_grammar.specs.Lists.{each, items_reading}
use Rattle.cp_grammar.proofs.ItemLoop.{with_front}
use Rattle.cp_message.specs.Entries.{log_entry}
use Rattle.cp_message.proofs.entries.take_entries.Given as goal

abbrev pub invariant-loop : goal.invariant-loop
invariant-loop l = with_front l.entries.items (items_reading (each (log_entry l.most)) l.entries.items (l.count - l.counter) l.rest) ≡ items_reading (each (log_entry l.most)) [] l.count l.bytes

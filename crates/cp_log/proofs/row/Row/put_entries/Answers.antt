use Rattle.std.proofs.Common.{◌≡◌, ◌-◌, ◌++◌, List, take, refl, sym, ◌∙◌, ap}
use Rattle.cp_parts.specs.declared.config.Config.{Config}
use Rattle.cp_parts.specs.declared.log_entry.LogEntry.{LogEntry}
use Rattle.cp_log_rules.specs.Configurations.{configs_in}
use Rattle.cp_log_rules.proofs.InForce.{count_within, entries_configs}
use Rattle.cp_log.proofs.RowLemmas.{entries_short}
use Rattle.cp_log.proofs.row.Row.put_entries.Goals as goal

pub invariant_of-self : goal.invariant_of-self
invariant_of-self c =
    let row = c.args.self.now in
    let log_is : c.put_behind.new.items.items ≡ take (c.args.after - row.base) row.log.items ++ c.args.entries.items = c.put_behind.ensures ∙ ap (λ (l : List LogEntry). l ++ c.args.entries.items) c.truncate.ensures.items in
    let configs_is : c.put_behind-2.new.items.items ≡ take (count_within c.args.after row.configs.items) row.configs.items ++ c.args.configs.items =
    c.put_behind-2.ensures ∙ ap (λ (l : List Config). l ++ c.args.configs.items) (c.truncate-2.ensures.items ∙ rw c.count_configs-kept_configs.ensures refl) in
    record {
      short = entries_short row.base c.args.after row.log.items c.args.entries.items c.put_behind.new.items.items c.requires.from c.requires.to c.requires.most log_is;
      configs_are = configs_is ∙ entries_configs row.base c.args.after row.log.items c.args.entries.items row.configs.items c.args.configs.items c.requires.from c.requires.to row.configs_are c.requires.brought
          ∙ sym (ap (configs_in row.base) log_is);
    }

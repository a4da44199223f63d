use Rattle.std.proofs.Common.{◌≡◌, ◌≤◌, ◌+◌, ◌-◌, true, ℕ, [], length, drop, sym, ◌∙◌, ap, arith}
use Rattle.std.specs.Prelude.{if◌then◌else◌}
use Rattle.cp_log_rules.specs.Configurations.{configs_in}
use Rattle.cp_log_rules.proofs.InForce.{count_within, suffix_configs}
use Rattle.cp_log.proofs.RowLemmas.{count_bound, suffix_short, term_within}
use Rattle.cp_log.proofs.row.Row.put_snapshot.Goals as goal

pub keep_behind-requires-2 : goal.keep_behind-requires-2
keep_behind-requires-2 c = λ _. omega (arith, c.count_configs-passed_configs.ensures, count_bound c.args.index c.args.self.now.configs.items)

pub invariant_of-self : goal.invariant_of-self
invariant_of-self c =
    let row = c.args.self.now in
    let keeps = c.has_term-keeps.result in
    let within : keeps ≡ true → c.args.index ≤ row.base + length row.log.items = term_within row.base c.args.index c.args.head.term row.log.items keeps c.requires.above c.has_term-keeps.ensures in
    let configs_is : c.keep_behind-2.new.items.items ≡ (if keeps then drop (count_within c.args.index row.configs.items) row.configs.items else []) =
    c.keep_behind-2.ensures ∙ ap (λ (n : ℕ). if keeps then drop n row.configs.items else []) c.count_configs-passed_configs.ensures in
    record {
      short = suffix_short row.base c.args.index keeps row.log.items c.keep_behind.new.items.items (omega arith) c.requires.most row.short within c.keep_behind.ensures;
      configs_are = configs_is ∙ suffix_configs row.base c.args.index row.log.items row.configs.items keeps (omega arith) within row.configs_are ∙ sym (ap (configs_in c.args.index) c.keep_behind.ensures);
    }

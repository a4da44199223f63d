use Rattle.std.proofs.Common.{◌≡◌, ◌-◌, false, true, sym, ◌∙◌, arith}
use Rattle.cp_log_rules.proofs.InForce.{last_of_none}
use Rattle.cp_log.proofs.RowLemmas.{config_is, config_there, count_bound}
use Rattle.cp_log.proofs.row.Row.config_at.Goals as goal

pub returns-then-count-eq0 : goal.returns-then-count-eq0
returns-then-count-eq0 c =
    let row = c.args.self.now in
    sym (config_is row.base c.args.index row.base_config row.log.items row.configs.items c.requires row.configs_are
    ∙ last_of_none c.args.index row.base_config row.configs.items (sym c.count_configs-count.ensures ∙ c.if-count-eq0.true))

pub unreachable-requires : goal.unreachable-requires
unreachable-requires c =
    let there : false ≡ true = c.in-None.ensures.variant.1 (omega (arith, count_bound c.args.index c.args.self.now.configs.items)) in
    cc

pub returns : goal.returns
returns c =
    let row = c.args.self.now in
    c.in-Some.ensures.lookup ∙ config_there row.base c.args.index c.count_configs-count.result row.base_config c.in-Some.config.now row.log.items row.configs.items c.requires row.configs_are c.count_configs-count.ensures (omega arith)

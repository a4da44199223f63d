use Rattle.cp_log_rules.proofs.InForce.{configs_rise}
use Rattle.cp_log.proofs.row.Row.count_configs.Goals as goal

pub count_up_to-requires : goal.count_up_to-requires
count_up_to-requires c = configs_rise c.args.self.now.base c.args.self.now.log.items c.args.self.now.configs.items c.args.self.now.configs_are

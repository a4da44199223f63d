use Rattle.std.proofs.Common.{ap, ◌∙◌}
use Rattle.cp_log.specs.Stores.{held_by}
use Rattle.cp_log_rules.specs.Configurations.{config_at}
use Rattle.cp_log_rules.specs.Durable.{group_in}
use Rattle.cp_raft_state.proofs.Configs.{in_force}
use Rattle.cp_raft.proofs.stored.StoredGroup.config.Goals as goal

pub returns : goal.returns
returns g c =
    let p = group_in (held_by c.args.self.now.store.now) c.args.self.now.group.0 in
    c.config_at.ensures ∙ (ap (config_at p) c.last.ensures ∙ in_force p)

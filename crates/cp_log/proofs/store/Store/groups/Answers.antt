use Rattle.std.proofs.Common.{map, sym, ◌∙◌, ap}
use Rattle.cp_base.specs.declared.identifier.GroupId.{GroupId}
use Rattle.cp_log.proofs.RowMaps.{keys_rows}
use Rattle.cp_log.proofs.store.Store.groups.Goals as goal

pub returns : goal.returns
returns g c = ap (map (λ (group : GroupId). group.0)) c.deref.ensures.value ∙ c.args.self.now.state.listed ∙ sym (keys_rows c.args.self.now.state.rows.entries)

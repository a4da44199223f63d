use Rattle.std.proofs.Common.{◌≡◌, rules}
use Rattle.std.proofs.lemmas.Map.Made.{map_same_pairs}
use Rattle.cp_group_state.specs.Locks.{freed, freed_all}
use Rattle.cp_lock.proofs.Well.{freed_well}
use Rattle.cp_lock.proofs.close.free_rows.Goals as goal

pub returns : goal.returns
returns c =
    let closed = c.args.closed.now in
    let e : _ ≡ freed_all closed c.args.rows.now.entries = map_same_pairs _ (freed closed) _ (λ k v b w f' t. search rules) _ _ c.retain.ensures.filtered in
    record { rows = e; well = rw e (freed_well closed c.args.rows.now.entries c.requires) }

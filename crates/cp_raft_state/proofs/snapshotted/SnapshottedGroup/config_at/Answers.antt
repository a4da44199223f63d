use Rattle.std.proofs.Common.{ℕ, ◌≤◌, ◌∙◌, subst, sym}
use Rattle.cp_raft_state.proofs.OwnSnapshots.{IsOwn, config_at_kept, parts_kept}
use Rattle.cp_raft_state.proofs.snapshotted.SnapshottedGroup.config_at.Goals as goal

pub returns : goal.returns
returns g c =
    let own = c.args.self.now in
    let p = g.G.Log.stored own.before.now in
    let is : IsOwn p own.index own.bytes.now = record { from = own.from; to = own.to; reads_back = own.reads_back } in
    c.config_at.ensures ∙ sym (config_at_kept p own.index own.bytes.now is c.args.index (subst (λ (b : ℕ). b ≤ c.args.index) (parts_kept p own.index own.bytes.now is).0 c.requires.from))

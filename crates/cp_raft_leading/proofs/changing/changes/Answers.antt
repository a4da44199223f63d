use Rattle.std.proofs.Common.{◌≡◌, ℕ, List, length, ap, ◌∙◌, arith}
use Rattle.cp_rules.specs.Changes.{changed}
use Rattle.cp_rules.specs.Persistent.{members}
use Rattle.cp_raft_leading.proofs.Members.{changed_few}
use Rattle.cp_raft_leading.proofs.changing.changes.Goals as goal

pub members_entry-requires-clause-few : goal.members_entry-requires-clause-few
members_entry-requires-clause-few g c =
    let change = c.args.change.now in
    let ms = members (g.G.Log.stored c.args.stored.now) in
    let made : c.in_ok-made.made ≡ changed change ms = c.in_ok-made.ensures ∙ ap (changed change) c.members.ensures in
    let same : length c.in_ok-made.made ≡ length (changed change ms) = ap (λ (l : List ℕ). length l) made in
    omega (arith, same, changed_few change ms c.requires.few)

use Rattle.std.proofs.Common.{◌≡◌, ℕ, List, ◌++◌, length, ap, sym, ◌∙◌, subst, append_assoc}
use Rattle.std.specs.Prelude.{OnOk}
use Rattle.std.specs.Int.{w32}
use Rattle.cp_codec.specs.Fields.{big_endian}
use Rattle.cp_raft_leading.proofs.Members.{members_spelled}
use Rattle.cp_raft_leading.proofs.changing.append_members.Goals as goal

pub returns : goal.returns
returns c =
    let before = c.args.out.now.items in
    let ms = c.as_slice.result.now in
    subst (λ (l : List ℕ). OnOk c.append_bytes.result (c.append_bytes.new.out.items ≡ l))
    (append_assoc before (big_endian w32 (length ms)) ms ∙ ap (λ (l : List ℕ). before ++ l) (ap (λ (l : List ℕ). big_endian w32 (length l) ++ l) c.as_slice.ensures ∙ sym (members_spelled c.args.list.now)))
    c.append_bytes.ensures

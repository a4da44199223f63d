-- Snapshots, which go in chunks, and what the sender is answered.
use Rattle.std.specs.Prelude.{ℕ, ◌-◌, ◌^◌, Bool, true, false, List, [], ◌∷◌, ◌++◌, codes}
use Rattle.std.specs.Int.{w32}
use Rattle.cp_base.specs.declared.limits.TheConstants.{MOST_CHUNK}
use Rattle.cp_grammar.specs.Grammar.{Grammar, mapped, ◌then◌}
use Rattle.cp_grammar.specs.Fields.{number, flag, bytes}
use Rattle.cp_grammar.specs.Common.{index, group_id}
use Rattle.cp_message.specs.Texts.{numbers_text}
use Rattle.cp_message.specs.declared.snapshot.Chunk.{Chunk}
use Rattle.cp_message.specs.declared.snapshot.SnapshotReply.{SnapshotReply}

abbrev pub any_u32 : Grammar ℕ ℕ
any_u32 = number w32 (2 ^ 32 - 1)

unfoldable pub chunk_grammar : Grammar ℕ Chunk
chunk_grammar = mapped
    (λ p. record { group = p.0; term = p.1.0; index = p.1.1.0; offset = p.1.1.1.0; last = p.1.1.1.1.0; bytes = p.1.1.1.1.1 })
    (λ c. (c.group, (c.term, (c.index, (c.offset, (c.last, c.bytes))))))
    (group_id then index then index then any_u32 then flag then bytes MOST_CHUNK)

unfoldable pub snapshot_reply : Grammar ℕ SnapshotReply
snapshot_reply = mapped
    (λ p. record { group = p.0; term = p.1.0; index = p.1.1.0; done = p.1.1.1.0; received = p.1.1.1.1 })
    (λ r. (r.group, (r.term, (r.index, (r.done, r.received)))))
    (group_id then index then index then flag then any_u32)

abbrev pub last_text : Bool → List ℕ
last_text true = codes " last"
last_text false = codes " more"

abbrev pub chunk_text : Chunk → List ℕ
chunk_text c = numbers_text (c.group.0 ∷ c.term ∷ c.index ∷ c.offset ∷ []) ++ last_text c.last

-- how far the receiver is
abbrev pub progress_text : Bool → ℕ → List ℕ
progress_text true received = codes " done"
progress_text false received = codes " more" ++ numbers_text (received ∷ [])

abbrev pub snapshot_reply_text : SnapshotReply → List ℕ
snapshot_reply_text r = numbers_text (r.group.0 ∷ r.term ∷ r.index ∷ []) ++ progress_text r.done r.received

-- Chunks of two snapshots, step by step.
use Rattle.std.proofs.Common.{◌≡◌, ◌≤◌, ℕ, true, false, List, ◌++◌, length, refl, Some, None, arith, nat_lt, length-append}
use Rattle.std.proofs.lemmas.Bool.{le-ltb}
use Rattle.cp_rules.specs.Limits.{most_snapshot}
use Rattle.cp_parts.specs.declared.snapshot_head.SnapshotHead.{SnapshotHead}
use Rattle.cp_parts.specs.Heads.{head_of}
use Rattle.cp_rules.specs.Persistent.{SnapshotPart}
use Rattle.cp_rules.specs.Volatile.{started}
use Rattle.cp_rules.specs.Local.{Snapshot, SnapshotReply, does, reply}
use Rattle.cp_rules.specs.Worked.{second_gets, receiving, follows_one, ChunksStayApart}

first_chunk : (bytes : List ℕ) → length bytes ≡ 32768 → second_gets (started 0 0) (Snapshot 1 5 0 false bytes) ≡ does None (receiving 5 bytes) (reply 1 (SnapshotReply 1 5 false 32768))
first_chunk bytes e =
    let fits : nat_lt most_snapshot (length bytes) ≡ false = rw e refl in
    rw (fits, e) refl

last_chunk : (bytes rest : List ℕ) (head : SnapshotHead) → length bytes ≡ 32768 → length rest ≤ 1000 → head_of (bytes ++ rest) ≡ Some head
    → second_gets (receiving 5 bytes) (Snapshot 1 5 32768 true rest)
    ≡ does (Some (SnapshotPart (record { term = 1; vote = 1 }) 5 (bytes ++ rest))) (record follows_one { commit = 5 }) (reply 1 (SnapshotReply 1 5 true 0))
last_chunk bytes rest head e short is =
    let fits : nat_lt most_snapshot (length (bytes ++ rest)) ≡ false = le-ltb most_snapshot (length (bytes ++ rest)) (omega (arith, length-append bytes rest, e, short)) in
    rw (e, fits, is) refl

pub apart : ChunksStayApart
apart = record { first = first_chunk; other = λ bytes rest. refl; last = last_chunk }

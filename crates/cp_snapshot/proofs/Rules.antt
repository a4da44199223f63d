-- The rules do what is decided.
use Rattle.std.proofs.Common.{◌≡◌, ◌&&◌, not, ℕ, ⊎_elim, Bool, true, false, length, refl, ap, sym, ◌∙◌, Option, Some, None, is_none, is_some, nat_lt, nat_le, if◌then◌else◌}
use Rattle.std.proofs.lemmas.Bool.{cases_Bool, le-leb, lt-leb, ltb-true, ltb-false}
use Rattle.cp_rules.specs.Limits.{most_snapshot}
use Rattle.cp_rules.specs.Appends.{following}
use Rattle.cp_rules.specs.Local.{does, reply, SnapshotReply}
use Rattle.cp_rules.specs.Spelling.{snapshot_bytes}
use Rattle.cp_rules.specs.Snapshots.{progress, received_of, answers, takes_chunk, own_head}
use Rattle.cp_election.proofs.Rules.{of_if}
use Rattle.cp_snapshot.specs.declared.answering.Taken.TheVariants.{Refused, Known, Joined}
use Rattle.cp_snapshot.specs.Laws.{after_chunk, with_own, ChunksGoAsDecided, OwnSnapshotsGoAsDecided}

pub chunks_go_as_decided : ChunksGoAsDecided
chunks_go_as_decided p v from term index offset is_last bytes =
    let far = progress (received_of term index v.received) offset is_last bytes in
    let f = after_chunk p v from term index far in
    let known = answers p (following from v) from term index true 0 in
    let joined = takes_chunk p v from term index far in
    of_if f (nat_lt term p.term) Refused (if nat_le index v.commit then Known else Joined)
    (does None v (reply from (SnapshotReply p.term index false 0))) (if nat_le index v.commit then known else joined)
    refl
    (of_if f (nat_le index v.commit) Known Joined known joined refl refl)

-- ---- the member's own snapshot

fits : (n most : ℕ) → nat_le n most ≡ not (nat_lt most n)
fits n most = ⊎_elim
    (λ (h : nat_lt most n ≡ true). lt-leb n most (ltb-true most n h) ∙ sym (ap not h))
    (λ (h : nat_lt most n ≡ false). le-leb n most (ltb-false most n h) ∙ sym (ap not h))
    (cases_Bool (nat_lt most n))

-- where it may be written, nothing is yet, and it is not too long
written : {A B : Type 0} (f : Bool → A) (may long fit : Bool) (part : Option B) → fit ≡ not long
    → (if may && is_none part then (if long then f false else f true) else f false) ≡ f (may && (not (is_some part) && fit))
written f true true fit None h = ap f (sym h)
written f true false fit None h = ap f (sym h)
written f true long fit (Some x) h = refl
written f false long fit part h = refl

pub own_snapshots_go_as_decided : OwnSnapshotsGoAsDecided
own_snapshots_go_as_decided p s may_write machine =
    let bytes = snapshot_bytes (own_head p s.state.commit) machine in
    written (with_own p s bytes) may_write (nat_lt most_snapshot (length bytes)) (nat_le (length bytes) most_snapshot) s.part (fits (length bytes) most_snapshot)

-- Exactly a chunk that completes a snapshot installs it.
use Rattle.std.proofs.Common.{◌==◌, ◌&&◌, ◌≡◌, ◌↔◌, ℕ, ⊎_elim, Bool, true, false, List, [], ap, Option, Some, None, is_none, nat_lt, nat_le, if◌then◌else◌}
use Rattle.std.proofs.lemmas.Bool.{cases_Bool}
use Rattle.std.proofs.lemmas.Option.{same_Some}
use Rattle.cp_rules.specs.declared.ballot.Ballot.{Ballot}
use Rattle.cp_parts.specs.Heads.{head_of}
use Rattle.cp_log_rules.specs.Persistent.{PersistentState}
use Rattle.cp_rules.specs.Persistent.{Part, StatePart, SnapshotPart, ballot, ballot_part}
use Rattle.cp_rules.specs.Volatile.{VolatileState}
use Rattle.cp_rules.specs.Local.{SnapshotReply, LocalStep, does, reply}
use Rattle.cp_rules.specs.Terms.{adopted}
use Rattle.cp_rules.specs.Appends.{following}
use Rattle.cp_rules.specs.Snapshots.{received_of, Progress, Apart, TooLong, More, Whole, progress, answers, receives, installs, takes_chunk, whole_of, CompletesWhereInstalled}

module _ (p : PersistentState) (v : VolatileState) (from term index : ℕ) (all : List ℕ) where
  abbrev installed : Part
  installed = SnapshotPart (adopted term (ballot p)) index all

  abbrev Agree : Option (List ℕ) → LocalStep → Type 0
  Agree whole s = (whole ≡ Some all) ↔ (s.part ≡ Some installed)

  both : (c : Bool) (a b : Option (List ℕ)) (s t : LocalStep) → Agree a s → Agree b t → Agree (if c then a else b) (if c then s else t)
  both true a b s t first second = first
  both false a b s t first second = second

  -- neither completes nor installs
  neither : (s : LocalStep) → (s.part ≡ Some installed → ⊥) → Agree None s
  neither s no_part = ((λ h. absurd (let z : None ≡ Some all = h in cc)), (λ h. absurd (no_part h)))

  no_snapshot : (b : Ballot) → ballot_part p b ≡ Some installed → ⊥
  no_snapshot b h = ⊎_elim
      (λ (e : ((p.term == b.term) && (p.vote == b.vote)) ≡ true). let z : None ≡ Some installed = rw e at h in cc)
      (λ (e : ((p.term == b.term) && (p.vote == b.vote)) ≡ false). let z : Some (StatePart b) ≡ Some installed = rw e at h in cc)
      (cases_Bool ((p.term == b.term) && (p.vote == b.vote)))

  by_progress : (r : Progress) → Agree (whole_of r) (takes_chunk p v from term index r)
  by_progress (Apart received) = neither (answers p (following from v) from term index false received) (no_snapshot (adopted term (ballot p)))
  by_progress TooLong = neither (does None v []) (λ h. cc)
  by_progress (More bytes) = neither (receives p v from term index bytes) (no_snapshot (adopted term (ballot p)))
  by_progress (Whole bytes) = both (is_none (head_of bytes)) None (Some bytes) (does None v []) (installs p v from term index bytes)
      (neither (does None v []) (λ h. cc))
      ((λ h. ap (λ b. Some (SnapshotPart (adopted term (ballot p)) index b)) (same_Some bytes all h)), (λ h. ap Some (same_bytes h)))
    where
      same_bytes : Some (SnapshotPart (adopted term (ballot p)) index bytes) ≡ Some installed → bytes ≡ all
      same_bytes h = let z : SnapshotPart (adopted term (ballot p)) index bytes ≡ installed = same_Some (SnapshotPart (adopted term (ballot p)) index bytes) installed h in cc

pub completes_where_installed : CompletesWhereInstalled
completes_where_installed p v from term index offset is_last bytes all =
    let r = progress (received_of term index v.received) offset is_last bytes in
    let old = does None v (reply from (SnapshotReply p.term index false 0)) in
    let committed = answers p (following from v) from term index true 0 in
    both p v from term index all (nat_lt term p.term) None (if nat_le index v.commit then None else whole_of r) old (if nat_le index v.commit then committed else takes_chunk p v from term index r)
    (neither p v from term index all old (λ h. cc))
    (both p v from term index all (nat_le index v.commit) None (whole_of r) committed (takes_chunk p v from term index r)
    (neither p v from term index all committed (no_snapshot p v from term index all (adopted term (ballot p))))
    (by_progress p v from term index all r))

-- Parts that are in range are taken by a store.
use Rattle.std.proofs.Common.{◌&&◌, ◌≡◌, ℕ, ◌+◌, ◌-◌, ◌*◌, ◌^◌, ◌≤◌, Bool, true, List, [], ◌∷◌, ◌++◌, length, refl, ap, arith, ◌∙◌, Some, nat_le, nat_lt, length-append}
use Rattle.std.specs.Prelude.{is_some}
use Rattle.std.proofs.lemmas.Bool.{le-leb, lt-ltb, and_from}
use Rattle.cp_base.specs.declared.identifier.GroupId.{GroupId}
use Rattle.cp_codec.specs.Fields.{big_endian}
use Rattle.cp_grammar.specs.Lists.{ItemsFit, items_spelling, each}
use Rattle.cp_grammar.specs.Common.{index, group_id}
use Rattle.cp_parts.specs.declared.log_entry.LogEntry.{LogEntry}
use Rattle.cp_parts.specs.LogEntries.{log_entry}
use Rattle.cp_parts.specs.Heads.{head_of}
use Rattle.cp_parts.specs.Parts.{entry_list, part_grammar}
use Rattle.cp_log_rules.specs.Persistent.{PersistentState, last}
use Rattle.cp_log_rules.specs.Durable.{DurableState, group_at}
use Rattle.cp_log_rules.specs.Legal.{most_entry, are_short, may_vote, may_append, may_snapshot, if_stands}
use Rattle.cp_rules.specs.declared.ballot.Ballot.{Ballot}
use Rattle.cp_rules.specs.Limits.{most_index}
use Rattle.cp_rules.specs.Persistent.{Part, StatePart, AppendPart, SnapshotPart}
use Rattle.cp_rules_ranges.specs.Ranges.{AreInRange, BallotIsInRange, PartIsInRange}
use Rattle.cp_rules_ranges.specs.Laws.{IsTaken}
use Rattle.cp_rules_ranges.proofs.Bodies.{group_fits}

-- ---- entries

entries_fit : (before es : List LogEntry) → AreInRange es → ItemsFit (each log_entry) before es
unfolding ItemsFit each log_entry index
entries_fit before [] r = tt
entries_fit before (e ∷ es) r = (((r.0.term, r.0.bytes), refl), entries_fit (before ++ e ∷ []) es r.1)

list_fits : (es : List LogEntry) → AreInRange es → length es ≤ 2 ^ 32 - 1 → entry_list.Fits es
unfolding entry_list
list_fits es r few = ((few, le-leb 0 (length es) (omega arith)), (refl, entries_fit [] es r))

entries_length : (before es : List LogEntry) → AreInRange es → length (items_spelling (each log_entry) before es) ≤ 8204 * length es
unfolding items_spelling each log_entry index big_endian
entries_length before [] r = omega arith
entries_length before (e ∷ es) r =
    let rest = entries_length (before ++ e ∷ []) es r.1 in
    let short = r.0.bytes in
    omega (arith, length-append ((each log_entry before).spelling e) (items_spelling (each log_entry) (before ++ e ∷ []) es), rest, short)

shorts : (format : ℕ) (es : List LogEntry) → format ≡ 2 → AreInRange es → are_short format es ≡ true
shorts format [] two r = refl
shorts format (e ∷ es) two r =
    let short = r.0.bytes in
    let a : nat_le (length e.bytes) (most_entry format) ≡ true = le-leb (length e.bytes) (most_entry format) (omega (arith, short, two)) in
    rw (a, shorts format es two r.1) refl

-- ---- each part

module _ (group : GroupId) (s : DurableState) (p : PersistentState) (most : group.0 ≤ most_index) (two : s.format ≡ 2) (stands : group_at s group.0 ≡ Some p) where
  if_there : (may : PersistentState → Bool) → may p ≡ true → if_stands may (group_at s group.0) ≡ true
  if_there may yes_ = ap (if_stands may) stands ∙ yes_

  term_up : (b : Ballot) → BallotIsInRange p b → nat_le p.term b.term ≡ true
  term_up b r = le-leb p.term b.term r.up

  state_taken : (b : Ballot) → BallotIsInRange p b → IsTaken group s (StatePart b)
  unfolding part_grammar index group_id big_endian
  state_taken b r = record {
    legal = if_there (may_vote b.term) (term_up b r);
    fits = ((omega arith, refl), ((group_fits group most, (r.term, r.vote)), refl));
    room = omega arith;
  }

  append_taken : (b : Ballot) (after : ℕ) (entries : List LogEntry) → PartIsInRange p (AppendPart b after entries) → IsTaken group s (AppendPart b after entries)
  unfolding part_grammar entry_list index group_id big_endian
  append_taken b after entries r =
      let few = r.1.few in
      let long = entries_length [] entries r.1.all in
      let a = le-leb p.base after r.1.low in
      let c = le-leb after (last p) r.1.high in
      let d = le-leb (after + length entries) (2 ^ 62) r.1.end in
      record {
        legal = and_from (are_short s.format entries) (if_stands (may_append b.term after entries) (group_at s group.0)) (shorts s.format entries two r.1.all)
            (if_there (may_append b.term after entries) (and_from (nat_le p.term b.term) (nat_le p.base after && (nat_le after (last p) && nat_le (after + length entries) (2 ^ 62))) (term_up b r.0)
            (and_from (nat_le p.base after) (nat_le after (last p) && nat_le (after + length entries) (2 ^ 62)) a (and_from (nat_le after (last p)) (nat_le (after + length entries) (2 ^ 62)) c d))));
        fits = ((omega arith, refl), ((group_fits group most, (r.0.term, (r.0.vote, ((let e = r.1.end in omega (arith, e)), list_fits entries r.1.all (omega (arith, few)))))), refl));
        room = omega (arith, long, few);
      }

  snapshot_taken : (b : Ballot) (at : ℕ) (bytes : List ℕ) → PartIsInRange p (SnapshotPart b at bytes) → IsTaken group s (SnapshotPart b at bytes)
  unfolding part_grammar index group_id big_endian
  snapshot_taken b at bytes r =
      let short = r.1.short in
      let a = lt-ltb p.base at r.1.above in
      record {
        legal = if_there (may_snapshot b.term at bytes) (and_from (nat_le p.term b.term) (nat_lt p.base at && is_some (head_of bytes)) (term_up b r.0) (and_from (nat_lt p.base at) (is_some (head_of bytes)) a r.1.head));
        fits = ((omega arith, refl), ((group_fits group most, (r.0.term, (r.0.vote, (r.1.most, omega (arith, short))))), refl));
        room = omega (arith, short);
      }

  pub part_taken : (x : Part) → PartIsInRange p x → IsTaken group s x
  part_taken (StatePart b) r = state_taken b r
  part_taken (AppendPart b after entries) r = append_taken b after entries r
  part_taken (SnapshotPart b at bytes) r = snapshot_taken b at bytes r

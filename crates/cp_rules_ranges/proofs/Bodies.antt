-- Messages that are in range have spellings, and the other way round.
use Rattle.std.proofs.Common.{◌≡◌, ℕ, suc, ◌+◌, ◌-◌, ◌^◌, ◌≤◌, Bool, true, false, List, [], ◌∷◌, ◌++◌, length, map, min, refl, ap, arith, nat_le}
use Rattle.std.proofs.lemmas.Bool.{le-leb}
use Rattle.cp_base.specs.declared.identifier.GroupId.{GroupId}
use Rattle.cp_grammar.specs.Fields.{flag}
use Rattle.cp_grammar.specs.Lists.{ItemsFit, each}
use Rattle.cp_grammar.specs.Common.{index, group_id}
use Rattle.cp_parts.specs.declared.log_entry.LogEntry.{LogEntry}
use Rattle.cp_message.specs.declared.entries.LogEntry as wire
use Rattle.cp_message.specs.Entries as wire_entries
use Rattle.cp_message.specs.Entries.{entries_after}
use Rattle.cp_message.specs.Votes.{vote_request, vote_reply}
use Rattle.cp_message.specs.Appends.{append_within, append_reply}
use Rattle.cp_message.specs.Snapshots.{chunk_grammar, snapshot_reply}
use Rattle.cp_message.specs.Confirms.{confirm_grammar, confirmed_grammar}
use Rattle.cp_message.specs.Bodies.{body_within}
use Rattle.cp_message.specs.Messages.{address, headed, fields, message_grammar}
use Rattle.cp_rules.specs.Limits.{most_index}
use Rattle.cp_rules.specs.Local.{Body, PreVote, PreVoteReply, Vote, VoteReply, Append, AppendReply, Snapshot, SnapshotReply, Confirm, Confirmed}
use Rattle.cp_rules_ranges.specs.Messages.{entry_of, message_of}
use Rattle.cp_rules_ranges.specs.Ranges.{IsMember, AreInRange, BodyIsInRange}
use Rattle.cp_rules_ranges.specs.Laws.{SpelledAreInRange}

-- ---- fields

pub group_fits : (group : GroupId) → group.0 ≤ most_index → group_id.Fits group
unfolding group_id index
group_fits group most = (most, refl)

flag_fits : (b : Bool) → flag.Fits b
unfolding flag
flag_fits true = (omega arith, refl)
flag_fits false = (omega arith, refl)

address_fits : (n : ℕ) → IsMember n → address.Fits n
unfolding address
address_fits n m =
    let low = m.first in
    let high = m.last in
    let a : nat_le 1 n ≡ true = le-leb 1 n low in
    let b : nat_le n 9 ≡ true = le-leb n 9 high in
    (omega (arith, high), rw (a, b) refl)

-- ---- entries

entries_fit : (before : List wire.LogEntry) (es : List LogEntry) → AreInRange es → ItemsFit (each (wire_entries.log_entry 8192)) before (map entry_of es)
unfolding ItemsFit each wire_entries.log_entry index
entries_fit before [] r = tt
entries_fit before (e ∷ es) r = (((r.0.term, r.0.bytes), refl), entries_fit (before ++ entry_of e ∷ []) es r.1)

entries_range : (before : List wire.LogEntry) (es : List LogEntry) → ItemsFit (each (wire_entries.log_entry 8192)) before (map entry_of es) → AreInRange es
unfolding ItemsFit each wire_entries.log_entry index
entries_range before [] f = tt
entries_range before (e ∷ es) f = (record { term = f.0.0.0; bytes = f.0.0.1 }, entries_range (before ++ entry_of e ∷ []) es f.1)

same_count : (es : List LogEntry) → length (map entry_of es) ≡ length es
same_count [] = refl
same_count (e ∷ es) = ap suc (same_count es)

-- ---- messages

pub message_fits : (group : GroupId) (from to : ℕ) (body : Body) → group.0 ≤ most_index → IsMember from → IsMember to → BodyIsInRange body → message_grammar.Fits (message_of group from to body)
unfolding fields headed body_within vote_request vote_reply append_within entries_after append_reply chunk_grammar snapshot_reply confirm_grammar confirmed_grammar index
message_fits group from to (PreVote term candidate) most f t r = ((omega arith, refl), ((address_fits from f, (address_fits to t, (((group_fits group most, (r.0, (r.1.index, r.1.term))), refl), refl))), refl))
message_fits group from to (PreVoteReply term granted) most f t r = ((omega arith, refl), ((address_fits from f, (address_fits to t, (((group_fits group most, (r, flag_fits granted)), refl), refl))), refl))
message_fits group from to (Vote term candidate) most f t r = ((omega arith, refl), ((address_fits from f, (address_fits to t, (((group_fits group most, (r.0, (r.1.index, r.1.term))), refl), refl))), refl))
message_fits group from to (VoteReply term granted) most f t r = ((omega arith, refl), ((address_fits from f, (address_fits to t, (((group_fits group most, (r, flag_fits granted)), refl), refl))), refl))
message_fits group from to (Append term previous previous_term commit entries) most f t r =
    let end = r.end in
    let few = r.few in
    let count : length (map entry_of entries) ≤ min 100 (2 ^ 62 - previous) = omega (arith, same_count entries, end, few) in
    let first : previous ≤ 2 ^ 62 = omega (arith, end) in
    ((omega arith, refl), ((address_fits from f, (address_fits to t, (((group_fits group most, (r.own, (first, (r.before, (r.committed, (count, (refl, entries_fit [] entries r.all))))))), refl), refl))), refl))
message_fits group from to (AppendReply term taken at) most f t r = ((omega arith, refl), ((address_fits from f, (address_fits to t, (((group_fits group most, (r.0, (flag_fits taken, r.1))), refl), refl))), refl))
message_fits group from to (Snapshot term at offset is_last bytes) most f t r = ((omega arith, refl), ((address_fits from f, (address_fits to t, (((group_fits group most, (r.own, (r.at, (r.start, (flag_fits is_last, r.short))))), refl), refl))), refl))
message_fits group from to (SnapshotReply term at done received) most f t r = ((omega arith, refl), ((address_fits from f, (address_fits to t, (((group_fits group most, (r.0, (r.1, (flag_fits done, r.2)))), refl), refl))), refl))
message_fits group from to (Confirm term round) most f t r = ((omega arith, refl), ((address_fits from f, (address_fits to t, (((group_fits group most, (r.0, r.1)), refl), refl))), refl))
message_fits group from to (Confirmed term taken round) most f t r = ((omega arith, refl), ((address_fits from f, (address_fits to t, (((group_fits group most, (r.0, (flag_fits taken, r.1))), refl), refl))), refl))

pub spelled_in_range : SpelledAreInRange
unfolding fields headed body_within vote_request vote_reply append_within entries_after append_reply chunk_grammar snapshot_reply confirm_grammar confirmed_grammar index
spelled_in_range group from to (PreVote term candidate) fits = let x = fits.1.0.1.1.0.0.1 in (x.0, record { term = x.1.1; index = x.1.0 })
spelled_in_range group from to (PreVoteReply term granted) fits = fits.1.0.1.1.0.0.1.0
spelled_in_range group from to (Vote term candidate) fits = let x = fits.1.0.1.1.0.0.1 in (x.0, record { term = x.1.1; index = x.1.0 })
spelled_in_range group from to (VoteReply term granted) fits = fits.1.0.1.1.0.0.1.0
spelled_in_range group from to (Append term previous previous_term commit entries) fits =
    let x = fits.1.0.1.1.0.0.1 in
    let first : previous ≤ 2 ^ 62 = x.1.0 in
    let count : length (map entry_of entries) ≤ min 100 (2 ^ 62 - previous) = x.1.1.1.1.0 in
    record {
      own = x.0;
      before = x.1.1.0;
      committed = x.1.1.1.0;
      few = omega (arith, same_count entries, count);
      end = omega (arith, same_count entries, count, first);
      all = entries_range [] entries x.1.1.1.1.1.1;
    }
spelled_in_range group from to (AppendReply term taken at) fits = let x = fits.1.0.1.1.0.0.1 in (x.0, x.1.1)
spelled_in_range group from to (Snapshot term at offset is_last bytes) fits = let x = fits.1.0.1.1.0.0.1 in record { own = x.0; at = x.1.0; start = x.1.1.0; short = x.1.1.1.1 }
spelled_in_range group from to (SnapshotReply term at done received) fits = let x = fits.1.0.1.1.0.0.1 in (x.0, x.1.0, x.1.1.1)
spelled_in_range group from to (Confirm term round) fits = let x = fits.1.0.1.1.0.0.1 in (x.0, x.1)
spelled_in_range group from to (Confirmed term taken round) fits = let x = fits.1.0.1.1.0.0.1 in (x.0, x.1.1)

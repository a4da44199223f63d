-- What a message that has a spelling says is in range.
use Rattle.std.proofs.Common.{◌≡◌, ℕ, List, [], ◌∷◌, map, refl, sym, ap, subst}
use Rattle.std.specs.Prelude.{IfSome}
use Rattle.cp_message.specs.declared.entries.LogEntry.{LogEntry}
use Rattle.cp_message.specs.Messages.{message_grammar}
use Rattle.cp_message.specs.declared.body.Body as wire
use Rattle.cp_message.specs.declared.body.Body.TheVariants as bodies
use Rattle.cp_rules.specs.Local.{PreVote, PreVoteReply, Vote, VoteReply, Append, AppendReply, Snapshot, SnapshotReply, Confirm, Confirmed}
use Rattle.cp_rules_ranges.specs.Messages.{entry_of}
use Rattle.cp_rules_ranges.specs.Ranges.{BodyIsInRange}
use Rattle.cp_rules_ranges.proofs.Bodies.{spelled_in_range}
use Rattle.cp_raft_state.specs.Said.{body_in, end_in, entry_in}
use Rattle.cp_raft.specs.Coming.{SaidIsInRange}

entries_again : (entries : List LogEntry) → map entry_of (map entry_in entries) ≡ entries
entries_again [] = refl
entries_again (e ∷ entries) = ap (λ (es : List LogEntry). e ∷ es) (entries_again entries)

by_body : (from to : ℕ) (w : wire.Body) → message_grammar.Fits (record { from = from; to = to; body = w }) → IfSome (body_in w) BodyIsInRange
by_body from to bodies.Hello fits = tt
by_body from to (bodies.Welcome restart) fits = tt
by_body from to (bodies.PreVote x) fits = spelled_in_range x.group from to (PreVote x.term (end_in x)) fits
by_body from to (bodies.PreVoteReply x) fits = spelled_in_range x.group from to (PreVoteReply x.term x.granted) fits
by_body from to (bodies.Vote x) fits = spelled_in_range x.group from to (Vote x.term (end_in x)) fits
by_body from to (bodies.VoteReply x) fits = spelled_in_range x.group from to (VoteReply x.term x.granted) fits
by_body from to (bodies.Append x) fits = spelled_in_range x.group from to (Append x.term x.previous_index x.previous_term x.commit (map entry_in x.entries))
    (subst (λ (es : List LogEntry). message_grammar.Fits (record { from = from; to = to; body = bodies.Append (record x { entries = es }) })) (sym (entries_again x.entries)) fits)
by_body from to (bodies.AppendReply x) fits = spelled_in_range x.group from to (AppendReply x.term x.accepted x.index) fits
by_body from to (bodies.Request m) fits = tt
by_body from to (bodies.Reply m) fits = tt
by_body from to (bodies.Refuse m) fits = tt
by_body from to (bodies.StartGroup group members) fits = tt
by_body from to (bodies.Task group task) fits = tt
by_body from to (bodies.TaskReply group reply) fits = tt
by_body from to (bodies.Snapshot x) fits = spelled_in_range x.group from to (Snapshot x.term x.index x.offset x.last x.bytes) fits
by_body from to (bodies.SnapshotReply x) fits = spelled_in_range x.group from to (SnapshotReply x.term x.index x.done x.received) fits
by_body from to (bodies.Confirm x) fits = spelled_in_range x.group from to (Confirm x.term x.round) fits
by_body from to (bodies.Confirmed x) fits = spelled_in_range x.group from to (Confirmed x.term x.accepted x.round) fits

pub said_in_range : SaidIsInRange
said_in_range m fits = by_body m.from m.to m.body fits

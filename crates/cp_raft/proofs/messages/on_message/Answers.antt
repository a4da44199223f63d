use Rattle.std.proofs.Common.{◌≡◌, false, ap, map, refl, subst, arith}
use Rattle.cp_message.specs.declared.body.Body.TheVariants as bodies
use Rattle.cp_rules.specs.Local as local
use Rattle.cp_rules.specs.Steps as steps
use Rattle.cp_raft_state.specs.Said.{body_in, entry_in}
use Rattle.cp_raft.specs.Offices.{takes_office}
use Rattle.cp_raft.proofs.Voting.{not_on_vote, one_value}
use Rattle.cp_raft.proofs.messages.on_message.Goals as goal

pub on_prevote_reply-requires : goal.on_prevote_reply-requires
on_prevote_reply-requires g c =
    let x = c.in-PreVoteReply.reply in
    let said : c.args.message.now.body ≡ bodies.PreVoteReply c.in-PreVoteReply.reply = cc in
    record { may = c.requires.may (local.PreVoteReply x.term x.granted) (ap body_in said) }

pub on_vote_reply-requires : goal.on_vote_reply-requires
on_vote_reply-requires g c =
    let x = c.in-VoteReply.reply in
    let said : c.args.message.now.body ≡ bodies.VoteReply c.in-VoteReply.reply = cc in
    record { may = c.requires.may (local.VoteReply x.term x.granted) (ap body_in said) }

pub on_append-requires : goal.on_append-requires
on_append-requires g c =
    let x = c.in-Append.append in
    let said : c.args.message.now.body ≡ bodies.Append c.in-Append.append = cc in
    record { may = c.requires.may (local.Append x.term x.previous_index x.previous_term x.commit (map entry_in x.entries)) (ap body_in said) }

pub on_append_reply-requires : goal.on_append_reply-requires
on_append_reply-requires g c =
    let x = c.in-AppendReply.reply in
    let said : c.args.message.now.body ≡ bodies.AppendReply c.in-AppendReply.reply = cc in
    record { may = c.requires.may (local.AppendReply x.term x.accepted x.index) (ap body_in said) }

pub on_snapshot_reply-requires : goal.on_snapshot_reply-requires
on_snapshot_reply-requires g c =
    let x = c.in-SnapshotReply.reply in
    let said : c.args.message.now.body ≡ bodies.SnapshotReply c.in-SnapshotReply.reply = cc in
    record { may = c.requires.may (local.SnapshotReply x.term x.index x.done x.received) (ap body_in said) }

pub on_confirmed-requires : goal.on_confirmed-requires
on_confirmed-requires g c =
    let x = c.in-Confirmed.reply in
    let said : c.args.message.now.body ≡ bodies.Confirmed c.in-Confirmed.reply = cc in
    record { may = c.requires.may (local.Confirmed x.term x.accepted x.round) (ap body_in said) }

pub returns-in-PreVote-clause-frugal : goal.returns-in-PreVote-clause-frugal
returns-in-PreVote-clause-frugal g c = λ body is voting none room. c.on_prevote.ensures.frugal (omega (arith, room))

pub returns-in-PreVoteReply-clause-frugal : goal.returns-in-PreVoteReply-clause-frugal
returns-in-PreVoteReply-clause-frugal g c = λ body is voting none room. c.on_prevote_reply.ensures.frugal room

pub returns-in-Vote-clause-frugal : goal.returns-in-Vote-clause-frugal
returns-in-Vote-clause-frugal g c = λ body is voting none room. c.on_vote.ensures.frugal (omega (arith, room))

pub returns-in-VoteReply-clause-frugal : goal.returns-in-VoteReply-clause-frugal
returns-in-VoteReply-clause-frugal g c = λ body is voting none room.
    let x = c.in-VoteReply.reply in
    let said : c.args.message.now.body ≡ bodies.VoteReply c.in-VoteReply.reply = cc in
    let same = one_value (body_in c.args.message.now.body) body (local.VoteReply x.term x.granted) is (ap body_in said) in
    c.on_vote_reply.ensures.frugal (subst (λ (b : local.Body). takes_office c.args.state.now (steps.on_message c.args.seat.me (g.G.Log.stored c.args.stored.now) c.args.state.now c.args.message.now.from b) ≡ false) same none)

pub returns-in-Append-clause-frugal : goal.returns-in-Append-clause-frugal
returns-in-Append-clause-frugal g c = λ body is voting none room.
    let x = c.in-Append.append in
    let said : c.args.message.now.body ≡ bodies.Append c.in-Append.append = cc in
    absurd (not_on_vote (body_in c.args.message.now.body) (local.Append x.term x.previous_index x.previous_term x.commit (map entry_in x.entries)) body (ap body_in said) refl is voting)

pub returns-in-AppendReply-clause-frugal : goal.returns-in-AppendReply-clause-frugal
returns-in-AppendReply-clause-frugal g c = λ body is voting none room.
    let x = c.in-AppendReply.reply in
    let said : c.args.message.now.body ≡ bodies.AppendReply c.in-AppendReply.reply = cc in
    absurd (not_on_vote (body_in c.args.message.now.body) (local.AppendReply x.term x.accepted x.index) body (ap body_in said) refl is voting)

pub returns-in-Snapshot-clause-frugal : goal.returns-in-Snapshot-clause-frugal
returns-in-Snapshot-clause-frugal g c = λ body is voting none room.
    let x = c.in-Snapshot.chunk in
    let said : c.args.message.now.body ≡ bodies.Snapshot c.in-Snapshot.chunk = cc in
    absurd (not_on_vote (body_in c.args.message.now.body) (local.Snapshot x.term x.index x.offset x.last x.bytes) body (ap body_in said) refl is voting)

pub returns-in-SnapshotReply-clause-frugal : goal.returns-in-SnapshotReply-clause-frugal
returns-in-SnapshotReply-clause-frugal g c = λ body is voting none room.
    let x = c.in-SnapshotReply.reply in
    let said : c.args.message.now.body ≡ bodies.SnapshotReply c.in-SnapshotReply.reply = cc in
    absurd (not_on_vote (body_in c.args.message.now.body) (local.SnapshotReply x.term x.index x.done x.received) body (ap body_in said) refl is voting)

pub returns-in-Confirm-clause-frugal : goal.returns-in-Confirm-clause-frugal
returns-in-Confirm-clause-frugal g c = λ body is voting none room.
    let x = c.in-Confirm.ask in
    let said : c.args.message.now.body ≡ bodies.Confirm c.in-Confirm.ask = cc in
    absurd (not_on_vote (body_in c.args.message.now.body) (local.Confirm x.term x.round) body (ap body_in said) refl is voting)

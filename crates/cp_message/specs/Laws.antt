-- The grammars of messages are lawful.
use Rattle.std.specs.Prelude.{ℕ, ◌<◌, ◌^◌, Bool, true, false, if◌then◌else◌, ◌==◌}
use Rattle.std.proofs.Common.{arith, refl}
use Rattle.cp_base.specs.declared.limits.TheConstants.{MOST_ENTRY, OLDER_MOST_ENTRY}
use Rattle.cp_codec.specs.Exact.{IsByte}
use Rattle.cp_grammar.specs.Grammar.{◌then◌}
use Rattle.cp_grammar.specs.Fields.{byte, at_least, bytes}
use Rattle.cp_grammar.specs.Lawful.{IsLawful}
use Rattle.cp_grammar.specs.Laws.{AreCases, with_unit, with_variant, no_cases, mapped_lawful, then_lawful, seq_lawful, keyed_lawful}
use Rattle.cp_grammar.specs.FieldLaws.{lawful, bytes_lawful, byte_lawful, at_least_lawful, marked_lawful}
use Rattle.cp_grammar.specs.Common.{index, group_id, thread_no, client_id, members}
use Rattle.cp_grammar.specs.CommonLaws.{index_lawful, group_lawful, thread_lawful, client_lawful, member_lawful, members_lawful}
use Rattle.cp_message.specs.RaftLaws.{vote_request_lawful, vote_reply_lawful, append_lawful, append_reply_lawful, chunk_lawful, snapshot_reply_lawful, confirm_lawful, confirmed_lawful}
use Rattle.cp_message.specs.Requests.{request_within, reply_within}
use Rattle.cp_message.specs.Tasks.{task_grammar, task_reply}
use Rattle.cp_message.specs.Votes.{vote_request, vote_reply}
use Rattle.cp_message.specs.Appends.{append_within, append_reply}
use Rattle.cp_message.specs.Snapshots.{chunk_grammar, snapshot_reply}
use Rattle.cp_message.specs.Confirms.{confirm_grammar, confirmed_grammar}
use Rattle.cp_message.specs.declared.body.Body.TheVariants as bodies
use Rattle.cp_message.specs.Bodies.{kind_of, body_within, body_welcome, body_pre_vote, body_pre_vote_reply, body_vote, body_vote_reply, body_append, body_append_reply, body_request, body_reply, body_refuse, body_start_group, body_task, body_task_reply, body_snapshot, body_snapshot_reply, body_confirm, body_confirmed}
use Rattle.cp_message.specs.Messages.{address, most_kind, most_entry, headed, fields, message_grammar, any_version}

pub request_lawful : (most : ℕ) → most < 2 ^ 32 → IsLawful IsByte (request_within most)
unfolding request_within
request_lawful most below = mapped_lawful IsByte (thread_no then index then index then client_id then group_id then index then bytes most)
    (then_lawful IsByte thread_no thread_lawful (index then index then client_id then group_id then index then bytes most)
    (then_lawful IsByte index index_lawful (index then client_id then group_id then index then bytes most)
    (then_lawful IsByte index index_lawful (client_id then group_id then index then bytes most)
    (then_lawful IsByte client_id client_lawful (group_id then index then bytes most)
    (then_lawful IsByte group_id group_lawful (index then bytes most)
    (then_lawful IsByte index index_lawful (bytes most) (bytes_lawful most below))))))) _ _ (λ _ _. refl)

pub reply_lawful : (most : ℕ) → most < 2 ^ 32 → IsLawful IsByte (reply_within most)
unfolding reply_within
reply_lawful most below = mapped_lawful IsByte (thread_no then index then group_id then index then bytes most)
    (then_lawful IsByte thread_no thread_lawful (index then group_id then index then bytes most)
    (then_lawful IsByte index index_lawful (group_id then index then bytes most)
    (then_lawful IsByte group_id group_lawful (index then bytes most)
    (then_lawful IsByte index index_lawful (bytes most) (bytes_lawful most below))))) _ _ (λ _ _. refl)

pub task_lawful : IsLawful IsByte task_grammar
unfolding task_grammar
task_lawful = search (lawful, member_lawful) depth 14

pub task_reply_lawful : IsLawful IsByte task_reply
unfolding task_reply
task_reply_lawful = search (lawful, index_lawful, members_lawful) depth 14

pub bodies_lawful : (most : ℕ) → most < 2 ^ 32 → AreCases IsByte kind_of (body_within most)
unfolding body_within
bodies_lawful most below =
    with_unit IsByte kind_of 1 bodies.Hello _ refl
    (with_variant IsByte kind_of 2 bodies.Welcome body_welcome index _ index_lawful (λ _. refl) (λ _. refl)
    (with_variant IsByte kind_of 3 bodies.PreVote body_pre_vote vote_request _ vote_request_lawful (λ _. refl) (λ _. refl)
    (with_variant IsByte kind_of 4 bodies.PreVoteReply body_pre_vote_reply vote_reply _ vote_reply_lawful (λ _. refl) (λ _. refl)
    (with_variant IsByte kind_of 5 bodies.Vote body_vote vote_request _ vote_request_lawful (λ _. refl) (λ _. refl)
    (with_variant IsByte kind_of 6 bodies.VoteReply body_vote_reply vote_reply _ vote_reply_lawful (λ _. refl) (λ _. refl)
    (with_variant IsByte kind_of 7 bodies.Append body_append (append_within most) _ (append_lawful most below) (λ _. refl) (λ _. refl)
    (with_variant IsByte kind_of 8 bodies.AppendReply body_append_reply append_reply _ append_reply_lawful (λ _. refl) (λ _. refl)
    (with_variant IsByte kind_of 9 bodies.Request body_request (request_within most) _ (request_lawful most below) (λ _. refl) (λ _. refl)
    (with_variant IsByte kind_of 10 bodies.Reply body_reply (reply_within most) _ (reply_lawful most below) (λ _. refl) (λ _. refl)
    (with_variant IsByte kind_of 11 bodies.Refuse body_refuse (reply_within most) _ (reply_lawful most below) (λ _. refl) (λ _. refl)
    (with_variant IsByte kind_of 12 (λ p. bodies.StartGroup p.0 p.1) body_start_group (group_id then members) _ (then_lawful IsByte group_id group_lawful members members_lawful) (λ _. refl) (λ _. refl)
    (with_variant IsByte kind_of 13 (λ p. bodies.Task p.0 p.1) body_task (group_id then task_grammar) _ (then_lawful IsByte group_id group_lawful task_grammar task_lawful) (λ _. refl) (λ _. refl)
    (with_variant IsByte kind_of 14 (λ p. bodies.TaskReply p.0 p.1) body_task_reply (group_id then task_reply) _ (then_lawful IsByte group_id group_lawful task_reply task_reply_lawful) (λ _. refl) (λ _. refl)
    (with_variant IsByte kind_of 15 bodies.Snapshot body_snapshot chunk_grammar _ chunk_lawful (λ _. refl) (λ _. refl)
    (with_variant IsByte kind_of 16 bodies.SnapshotReply body_snapshot_reply snapshot_reply _ snapshot_reply_lawful (λ _. refl) (λ _. refl)
    (with_variant IsByte kind_of 17 bodies.Confirm body_confirm confirm_grammar _ confirm_lawful (λ _. refl) (λ _. refl)
    (with_variant IsByte kind_of 18 bodies.Confirmed body_confirmed confirmed_grammar _ confirmed_lawful (λ _. refl) (λ _. refl)
    (no_cases IsByte kind_of))))))))))))))))))

pub address_lawful : IsLawful IsByte address
unfolding address
address_lawful = search lawful

headed_lawful : (most : ℕ) → most < 2 ^ 32 → (kind : ℕ) → IsLawful IsByte (headed most kind)
unfolding headed
headed_lawful most below kind = mapped_lawful IsByte (address then address then body_within most kind)
    (then_lawful IsByte address address_lawful (address then body_within most kind)
    (then_lawful IsByte address address_lawful (body_within most kind) ((bodies_lawful most below).laws kind))) _ _ (λ _ _. refl)

either_below : (older : Bool) → (if older then OLDER_MOST_ENTRY else MOST_ENTRY) < 2 ^ 32
either_below true = omega arith
either_below false = omega arith

pub fields_lawful : (version : ℕ) → IsLawful IsByte (fields version)
unfolding fields headed
fields_lawful version = keyed_lawful IsByte (at_least 1 (byte (most_kind version))) (at_least_lawful 1 (byte (most_kind version)) (byte_lawful (most_kind version)))
    (λ m. kind_of m.body) (headed (most_entry version)) (headed_lawful (most_entry version) (either_below (version == 1)))
    (λ kind m fits. (bodies_lawful (most_entry version) (either_below (version == 1))).tags kind m.body fits.0.1.1)

pub message_lawful : IsLawful IsByte message_grammar
message_lawful = marked_lawful 2 (fields 2) (fields_lawful 2)

pub any_version_lawful : IsLawful IsByte any_version
unfolding any_version
any_version_lawful = seq_lawful IsByte (at_least 1 (byte 2)) (at_least_lawful 1 (byte 2) (byte_lawful 2)) fields fields_lawful

-- What messages say: one variant for each kind.
use Rattle.std.specs.Prelude.{ℕ, List, [], ◌∷◌, ◌++◌, Option, Some, None, codes}
use Rattle.cp_base.specs.declared.identifier.GroupId.{GroupId}
use Rattle.cp_grammar.specs.Grammar.{Grammar, always, variant, case, no_case, ◌then◌}
use Rattle.cp_grammar.specs.Common.{index, group_id, members}
use Rattle.cp_message.specs.Texts.{numbers_text}
use Rattle.cp_message.specs.declared.vote.VoteRequest.{VoteRequest}
use Rattle.cp_message.specs.declared.vote.VoteReply.{VoteReply}
use Rattle.cp_message.specs.Votes.{vote_request, vote_reply, vote_request_text, vote_reply_text}
use Rattle.cp_message.specs.declared.append.Append.{Append}
use Rattle.cp_message.specs.declared.append.AppendReply.{AppendReply}
use Rattle.cp_message.specs.Appends.{append_within, append_reply, append_text, append_reply_text}
use Rattle.cp_message.specs.declared.snapshot.Chunk.{Chunk}
use Rattle.cp_message.specs.declared.snapshot.SnapshotReply.{SnapshotReply}
use Rattle.cp_message.specs.Snapshots.{chunk_grammar, snapshot_reply, chunk_text, snapshot_reply_text}
use Rattle.cp_message.specs.declared.confirm.Confirm.{Confirm}
use Rattle.cp_message.specs.declared.confirm.Confirmed.{Confirmed}
use Rattle.cp_message.specs.Confirms.{confirm_grammar, confirmed_grammar, confirm_text, confirmed_text}
use Rattle.cp_message.specs.declared.request.Request.{Request}
use Rattle.cp_message.specs.declared.request.Reply.{Reply}
use Rattle.cp_message.specs.Requests.{request_within, reply_within, request_text, reply_text}
use Rattle.cp_message.specs.declared.task.Task.{Task}
use Rattle.cp_message.specs.declared.task.TaskReply.{TaskReply}
use Rattle.cp_message.specs.Tasks.{task_grammar, task_reply, start_text, task_text, task_reply_text}
use Rattle.cp_message.specs.declared.body.Body.{Body}
use Rattle.cp_message.specs.declared.body.Body.TheVariants as bodies

abbrev pub kind_of : Body → ℕ
kind_of bodies.Hello = 1
kind_of (bodies.Welcome restart) = 2
kind_of (bodies.PreVote request) = 3
kind_of (bodies.PreVoteReply reply) = 4
kind_of (bodies.Vote request) = 5
kind_of (bodies.VoteReply reply) = 6
kind_of (bodies.Append append) = 7
kind_of (bodies.AppendReply reply) = 8
kind_of (bodies.Request request) = 9
kind_of (bodies.Reply reply) = 10
kind_of (bodies.Refuse reply) = 11
kind_of (bodies.StartGroup group list) = 12
kind_of (bodies.Task group task) = 13
kind_of (bodies.TaskReply group reply) = 14
kind_of (bodies.Snapshot chunk) = 15
kind_of (bodies.SnapshotReply reply) = 16
kind_of (bodies.Confirm confirm) = 17
kind_of (bodies.Confirmed reply) = 18

abbrev pub body_welcome : Body → Option ℕ
body_welcome (bodies.Welcome restart) = Some restart
body_welcome _ = None

abbrev pub body_pre_vote : Body → Option VoteRequest
body_pre_vote (bodies.PreVote request) = Some request
body_pre_vote _ = None

abbrev pub body_pre_vote_reply : Body → Option VoteReply
body_pre_vote_reply (bodies.PreVoteReply reply) = Some reply
body_pre_vote_reply _ = None

abbrev pub body_vote : Body → Option VoteRequest
body_vote (bodies.Vote request) = Some request
body_vote _ = None

abbrev pub body_vote_reply : Body → Option VoteReply
body_vote_reply (bodies.VoteReply reply) = Some reply
body_vote_reply _ = None

abbrev pub body_append : Body → Option Append
body_append (bodies.Append append) = Some append
body_append _ = None

abbrev pub body_append_reply : Body → Option AppendReply
body_append_reply (bodies.AppendReply reply) = Some reply
body_append_reply _ = None

abbrev pub body_request : Body → Option Request
body_request (bodies.Request request) = Some request
body_request _ = None

abbrev pub body_reply : Body → Option Reply
body_reply (bodies.Reply reply) = Some reply
body_reply _ = None

abbrev pub body_refuse : Body → Option Reply
body_refuse (bodies.Refuse reply) = Some reply
body_refuse _ = None

abbrev pub body_start_group : Body → Option (GroupId × List ℕ)
body_start_group (bodies.StartGroup group list) = Some (group, list)
body_start_group _ = None

abbrev pub body_task : Body → Option (GroupId × Task)
body_task (bodies.Task group task) = Some (group, task)
body_task _ = None

abbrev pub body_task_reply : Body → Option (GroupId × TaskReply)
body_task_reply (bodies.TaskReply group reply) = Some (group, reply)
body_task_reply _ = None

abbrev pub body_snapshot : Body → Option Chunk
body_snapshot (bodies.Snapshot chunk) = Some chunk
body_snapshot _ = None

abbrev pub body_snapshot_reply : Body → Option SnapshotReply
body_snapshot_reply (bodies.SnapshotReply reply) = Some reply
body_snapshot_reply _ = None

abbrev pub body_confirm : Body → Option Confirm
body_confirm (bodies.Confirm confirm) = Some confirm
body_confirm _ = None

abbrev pub body_confirmed : Body → Option Confirmed
body_confirmed (bodies.Confirmed reply) = Some reply
body_confirmed _ = None

-- What follows the head of a message of each kind, where entries, operations, answers and refusals have at most so many bytes.
unfoldable pub body_within : ℕ → ℕ → Grammar ℕ Body
body_within most =
    case 1 (always bodies.Hello)
    (case 2 (variant bodies.Welcome body_welcome index)
    (case 3 (variant bodies.PreVote body_pre_vote vote_request)
    (case 4 (variant bodies.PreVoteReply body_pre_vote_reply vote_reply)
    (case 5 (variant bodies.Vote body_vote vote_request)
    (case 6 (variant bodies.VoteReply body_vote_reply vote_reply)
    (case 7 (variant bodies.Append body_append (append_within most))
    (case 8 (variant bodies.AppendReply body_append_reply append_reply)
    (case 9 (variant bodies.Request body_request (request_within most))
    (case 10 (variant bodies.Reply body_reply (reply_within most))
    (case 11 (variant bodies.Refuse body_refuse (reply_within most))
    (case 12 (variant (λ p. bodies.StartGroup p.0 p.1) body_start_group (group_id then members))
    (case 13 (variant (λ p. bodies.Task p.0 p.1) body_task (group_id then task_grammar))
    (case 14 (variant (λ p. bodies.TaskReply p.0 p.1) body_task_reply (group_id then task_reply))
    (case 15 (variant bodies.Snapshot body_snapshot chunk_grammar)
    (case 16 (variant bodies.SnapshotReply body_snapshot_reply snapshot_reply)
    (case 17 (variant bodies.Confirm body_confirm confirm_grammar)
    (case 18 (variant bodies.Confirmed body_confirmed confirmed_grammar)
    no_case)))))))))))))))))

-- The text. `inner` is the text of the operation, the answer or the refusal.
abbrev pub body_text : List ℕ → Body → List ℕ
body_text inner bodies.Hello = codes "hello"
body_text inner (bodies.Welcome restart) = codes "welcome" ++ numbers_text (restart ∷ [])
body_text inner (bodies.PreVote request) = codes "prevote" ++ vote_request_text request
body_text inner (bodies.PreVoteReply reply) = codes "prevoted" ++ vote_reply_text reply
body_text inner (bodies.Vote request) = codes "vote" ++ vote_request_text request
body_text inner (bodies.VoteReply reply) = codes "voted" ++ vote_reply_text reply
body_text inner (bodies.Append append) = codes "append" ++ append_text append
body_text inner (bodies.AppendReply reply) = codes "appended" ++ append_reply_text reply
body_text inner (bodies.Request request) = codes "request" ++ request_text request inner
body_text inner (bodies.Reply reply) = codes "reply" ++ reply_text reply inner
body_text inner (bodies.Refuse reply) = codes "refuse" ++ reply_text reply inner
body_text inner (bodies.StartGroup group list) = codes "start" ++ start_text group list
body_text inner (bodies.Task group task) = codes "task" ++ task_text group task
body_text inner (bodies.TaskReply group reply) = codes "tasked" ++ task_reply_text group reply
body_text inner (bodies.Snapshot chunk) = codes "snapshot" ++ chunk_text chunk
body_text inner (bodies.SnapshotReply reply) = codes "snapshotted" ++ snapshot_reply_text reply
body_text inner (bodies.Confirm confirm) = codes "confirm" ++ confirm_text confirm
body_text inner (bodies.Confirmed reply) = codes "confirmed" ++ confirmed_text reply

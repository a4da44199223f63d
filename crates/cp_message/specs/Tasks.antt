-- What the leader of METADATA tells members to do, and what it is answered.
use Rattle.std.specs.Prelude.{ℕ, ◌-◌, ◌^◌, List, [], ◌∷◌, ◌++◌, Option, Some, None, codes}
use Rattle.std.specs.Int.{w64}
use Rattle.cp_base.specs.declared.identifier.GroupId.{GroupId}
use Rattle.cp_base.specs.declared.identifier.MemberNo.{MemberNo}
use Rattle.cp_base.specs.declared.limits.TheConstants.{MOST_MEMBER}
use Rattle.cp_grammar.specs.Grammar.{Grammar, always, keyed, variant, case, no_case, ◌then◌}
use Rattle.cp_grammar.specs.Fields.{byte, number}
use Rattle.cp_grammar.specs.Common.{index, member_no, members}
use Rattle.cp_message.specs.Texts.{numbers_text}
use Rattle.cp_message.specs.declared.task.Task.{Task}
use Rattle.cp_message.specs.declared.task.Task.TheVariants as tasks
use Rattle.cp_message.specs.declared.task.TaskReply.{TaskReply}
use Rattle.cp_message.specs.declared.task.TaskReply.TheVariants as replies

-- plans have no bound of their own
abbrev pub any_plan : Grammar ℕ ℕ
any_plan = number w64 (2 ^ 64 - 1)

abbrev pub task_tag : Task → ℕ
task_tag tasks.Destroy = 0
task_tag tasks.End = 1
task_tag (tasks.Move _ _ _) = 2

abbrev pub task_move : Task → Option (ℕ × (ℕ × MemberNo))
task_move (tasks.Move plan add remove) = Some (plan, (add, remove))
task_move _ = None

-- Who is added is 0 where nobody is.
unfoldable pub task_grammar : Grammar ℕ Task
task_grammar = keyed task_tag (byte 2)
    (case 0 (always tasks.Destroy)
    (case 1 (always tasks.End)
    (case 2 (variant (λ p. tasks.Move p.0 p.1.0 p.1.1) task_move (any_plan then byte MOST_MEMBER then member_no))
    no_case)))

abbrev pub task_reply_tag : TaskReply → ℕ
task_reply_tag replies.Started = 0
task_reply_tag replies.Destroyed = 1
task_reply_tag replies.Ended = 2
task_reply_tag (replies.Moved _ _ _) = 3

abbrev pub task_reply_moved : TaskReply → Option (ℕ × (ℕ × List ℕ))
task_reply_moved (replies.Moved plan at list) = Some (plan, (at, list))
task_reply_moved _ = None

unfoldable pub task_reply : Grammar ℕ TaskReply
task_reply = keyed task_reply_tag (byte 3)
    (case 0 (always replies.Started)
    (case 1 (always replies.Destroyed)
    (case 2 (always replies.Ended)
    (case 3 (variant (λ p. replies.Moved p.0 p.1.0 p.1.1) task_reply_moved (any_plan then index then members))
    no_case))))

-- ---- texts

abbrev pub start_text : GroupId → List ℕ → List ℕ
start_text group list = numbers_text (group.0 ∷ []) ++ numbers_text list

abbrev pub task_words : Task → List ℕ
task_words tasks.Destroy = codes " destroy"
task_words tasks.End = codes " end"
task_words (tasks.Move plan add remove) = codes " move" ++ numbers_text (plan ∷ add ∷ remove.0 ∷ [])

abbrev pub task_text : GroupId → Task → List ℕ
task_text group task = numbers_text (group.0 ∷ []) ++ task_words task

abbrev pub moved_text : ℕ → ℕ → List ℕ → List ℕ
moved_text plan at list = numbers_text (plan ∷ at ∷ []) ++ numbers_text list

abbrev pub task_reply_words : TaskReply → List ℕ
task_reply_words replies.Started = codes " started"
task_reply_words replies.Destroyed = codes " destroyed"
task_reply_words replies.Ended = codes " ended"
task_reply_words (replies.Moved plan at list) = codes " moved" ++ moved_text plan at list

abbrev pub task_reply_text : GroupId → TaskReply → List ℕ
task_reply_text group reply = numbers_text (group.0 ∷ []) ++ task_reply_words reply

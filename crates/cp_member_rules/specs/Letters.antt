-- What members and clients send each other, as values.
use Rattle.std.specs.Prelude.{ℕ, Bool, ◌&&◌, List, nat_le}
use Rattle.cp_base.specs.declared.identifier.GroupId.{GroupId}
use Rattle.cp_base.specs.declared.identifier.Invocation.{Invocation}
use Rattle.cp_base.specs.declared.limits.TheConstants.{MOST_MEMBER}
use Rattle.cp_answers.specs.declared.answer.Answer.{Answer}
use Rattle.cp_answers.specs.declared.refusal.Refusal.{Refusal}
use Rattle.cp_message.specs.declared.task.Task.{Task}
use Rattle.cp_message.specs.declared.task.TaskReply.{TaskReply}
use Rattle.cp_rules.specs.Local.{Body}
use Rattle.cp_group_rules.specs.Groups.{Said, Replies, Refuses, Tells}

-- An attempt of a request, with the bytes of its operation.
pub record Request : Type 0 where
  pub from : ℕ
  pub call : Invocation
  pub attempt : ℕ
  -- the member's start that the client knows
  pub restart : ℕ
  pub group : ℕ
  pub op : List ℕ

pub data Talk : Type 0 where
  Hello : Talk
  Welcome : (restart : ℕ) → Talk
  Asks : (call : Invocation) (attempt restart group : ℕ) (op : List ℕ) → Talk
  Reply : (thread attempt group number : ℕ) (answer : Answer) → Talk
  Refuse : (thread attempt group number : ℕ) (refusal : Refusal) → Talk
  StartGroup : (group : ℕ) (first : List ℕ) → Talk
  Told : (group : ℕ) (task : Task) → Talk
  Did : (group : ℕ) (reply : TaskReply) → Talk
  Raft : (group : ℕ) (body : Body) → Talk

pub record Letter : Type 0 where
  pub from : ℕ
  pub to : ℕ
  pub talk : Talk

abbrev pub letter : ℕ → ℕ → Talk → Letter
letter from to talk = record { from = from; to = to; talk = talk }

abbrev pub group_id : ℕ → GroupId
group_id group = record { 0 = group }

-- ---- addresses

abbrev pub is_member : ℕ → Bool
is_member n = nat_le 1 n && nat_le n MOST_MEMBER

-- clients have the addresses from 17 on
abbrev pub is_client : ℕ → Bool
is_client n = nat_le 17 n

-- ---- what a group says

-- about an attempt, by its thread, its number, its group and the number of its call
abbrev pub reply : ℕ → Invocation → ℕ → Answer → Talk
reply group call attempt answer = Reply call.thread.0 attempt group call.number answer

abbrev pub refuse : ℕ → Invocation → ℕ → Refusal → Talk
refuse group call attempt refusal = Refuse call.thread.0 attempt group call.number refusal

-- `me` is the member.
abbrev pub letter_of : ℕ → ℕ → Said → Letter
letter_of me group (Replies to call attempt answer) = letter me to (reply group call attempt answer)
letter_of me group (Refuses to call attempt refusal) = letter me to (refuse group call attempt refusal)
letter_of me group (Tells to body) = letter me to (Raft group body)

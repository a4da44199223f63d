-- To which attempts answers go, and which attempts are lost.
use Rattle.std.specs.Prelude.{ℕ, Bool, not, ◌&&◌, ◌==◌, List, [], ◌∷◌, ◌++◌, map, filter, filter_map, Option, Some, None, nat_lt, nat_le, if◌then◌else◌}
use Rattle.std.specs.List.{list_any, find}
use Rattle.std.specs.Option.{option_map}
use Rattle.cp_base.specs.declared.identifier.Invocation.{Invocation}
use Rattle.cp_answers.specs.declared.answer.Answer.{Answer}
use Rattle.cp_answers.specs.declared.refusal.Refusal.TheVariants as refusal
use Rattle.cp_rules.specs.Volatile.{Look}
use Rattle.cp_group_rules.specs.declared.attempt.Attempt.{Attempt}
use Rattle.cp_group_rules.specs.Machines.{Machine}
use Rattle.cp_group_rules.specs.Views.{Given}
use Rattle.cp_group_rules.specs.Times.{same_call}
use Rattle.cp_group_rules.specs.Groups.{Said, replies, refuses}

-- ---- answers

abbrev pub newer : Attempt → Option Attempt → Attempt
newer x None = x
newer x (Some y) = if nat_lt y.number x.number then x else y

-- the newest attempt of a call
abbrev pub newest : Invocation → List Attempt → Option Attempt
newest call [] = None
newest call (x ∷ pending) = if same_call call x.call then Some (newer x (newest call pending)) else newest call pending

-- The attempt waits no more: its entry stands no later than the one that answers its call.
abbrev pub is_over : Given → Attempt → Bool
is_over x attempt = same_call x.call attempt.call && nat_le attempt.index x.index

abbrev pub without_over : Given → List Attempt → List Attempt
without_over x pending = filter (λ attempt. not (is_over x attempt)) pending

-- those that wait on after these answers
abbrev pub waiting_after : List Given → List Attempt → List Attempt
waiting_after [] pending = pending
waiting_after (x ∷ given) pending = waiting_after given (without_over x pending)

abbrev pub reply_to : Answer → Option Attempt → List Said
reply_to answer None = []
reply_to answer (Some x) = replies answer x ∷ []

-- Each answer goes to the newest attempt of its call that waits then, if any does.
abbrev pub replies_of : List Given → List Attempt → List Said
replies_of [] pending = []
replies_of (x ∷ given) pending = reply_to x.answer (newest x.call pending) ++ replies_of given (without_over x pending)

-- ---- losses

-- Its entry is not committed.
abbrev pub is_above : ℕ → Attempt → Bool
is_above commit x = nat_lt commit x.index

-- what a leader refuses that steps down
abbrev pub lost : ℕ → List Attempt → List Said
lost commit pending = map (refuses refusal.Lost) (filter (is_above commit) pending)

-- and what waits on
abbrev pub kept : ℕ → List Attempt → List Attempt
kept commit pending = filter (λ x. not (is_above commit x)) pending

-- ---- reads

-- Each read of a leadership has a round of its own.
abbrev pub is_of : Look → Attempt → Bool
is_of look x = look.round == x.index

-- the attempt of a read
abbrev pub reader : List Attempt → Look → Option Attempt
reader reading look = find (is_of look) reading

-- without those of these reads
abbrev pub without_reads : List Look → List Attempt → List Attempt
without_reads looks reading = filter (λ x. not (list_any (λ look. is_of look x) looks)) reading

abbrev pub reply_with : Option Answer → Option Attempt → List Said
reply_with None x = []
reply_with (Some answer) x = reply_to answer x

abbrev pub lost_reads : List Attempt → List Look → List Said
lost_reads reading looks = filter_map (λ look. option_map (refuses refusal.Lost) (reader reading look)) looks

module _ {V : Type 0} (m : Machine V) where
  -- Reads are answered by a look at the machine; what it doesn't answer is dropped.
  abbrev pub read_replies : V → List Attempt → List Look → List Said
  read_replies view reading [] = []
  read_replies view reading (look ∷ looks) = reply_with (m.looked view look.op) (reader reading look) ++ read_replies view reading looks

-- Cases worked out by hand: a call from its request to its answer, and to whom answers and losses go.
use Rattle.std.specs.Prelude.{ℕ, pos, true, false, List, [], ◌∷◌}
use Rattle.cp_answers.specs.declared.answer.Answer.TheVariants as answer
use Rattle.cp_answers.specs.declared.refusal.Refusal.{Refusal}
use Rattle.cp_answers.specs.declared.refusal.Refusal.TheVariants as refusal
use Rattle.cp_ops.specs.declared.change_op.ChangeOp.TheVariants as change
use Rattle.cp_ops.specs.declared.op.Op.TheVariants as op
use Rattle.cp_rules.specs.Local.{Body, PreVote, PreVoteReply, Vote, VoteReply, Append, AppendReply}
use Rattle.cp_rules.specs.Volatile.{started}
use Rattle.cp_group_rules.specs.Groups.{Said, Refuses, Tells}
use Rattle.cp_group_rules.specs.Events.{Gets}
use Rattle.cp_group_rules.specs.Steps.{GroupStep, group_step}
use Rattle.cp_group_rules.specs.Worked.{Act, At, Deliver, Cluster, Letter, letter, after_acts, first_cluster, counter, far, three, call, add, tick, asks, replied, end_at, empty_at, add_entry, led, leading, holds, attempt}

-- ---- an election of three, and a call that is answered

abbrev pub elects : List Act
elects = At 1 (tick 2000) ∷ Deliver 1 ∷ Deliver 2 ∷ Deliver 3 ∷ Deliver 4 ∷ Deliver 5 ∷ Deliver 6 ∷ Deliver 7 ∷ Deliver 8 ∷ Deliver 9 ∷ Deliver 10 ∷ Deliver 11 ∷ Deliver 12 ∷ []

abbrev pub adds : List Act
adds = At 1 (asks 1 add) ∷ Deliver 13 ∷ Deliver 14 ∷ Deliver 15 ∷ Deliver 16 ∷ []

abbrev pub tell : ℕ → ℕ → Body → Letter
tell from to body = letter from (Tells to body)

abbrev pub election : List Letter
election =
    tell 1 2 (PreVote 1 (end_at 0 0)) ∷ tell 1 3 (PreVote 1 (end_at 0 0)) ∷ tell 2 1 (PreVoteReply 1 true) ∷ tell 3 1 (PreVoteReply 1 true)
    ∷ tell 1 2 (Vote 1 (end_at 0 0)) ∷ tell 1 3 (Vote 1 (end_at 0 0)) ∷ tell 2 1 (VoteReply 1 true) ∷ tell 3 1 (VoteReply 1 true)
    ∷ tell 1 2 (Append 1 0 0 0 (empty_at 1 ∷ [])) ∷ tell 1 3 (Append 1 0 0 0 (empty_at 1 ∷ [])) ∷ tell 2 1 (AppendReply 1 true 1) ∷ tell 3 1 (AppendReply 1 true 1) ∷ []

abbrev pub addition : List Letter
addition =
    tell 1 2 (Append 1 1 1 1 (add_entry ∷ [])) ∷ tell 1 3 (Append 1 1 1 1 (add_entry ∷ [])) ∷ tell 2 1 (AppendReply 1 true 2) ∷ tell 3 1 (AppendReply 1 true 2)
    ∷ letter 1 (replied 1 (answer.Value (pos 1))) ∷ []

abbrev pub elected : Cluster
elected = after_acts counter far (first_cluster counter far three) elects

abbrev pub added : Cluster
added = after_acts counter far elected adds

-- ---- requests that are refused

-- a follower of member 3
abbrev pub asks_a_follower : GroupStep
asks_a_follower = group_step counter far 1 (led three []) (holds (record (started 0 2000) { leader = 3 }) []) (asks 1 add)

-- The configuration has the index 0.
abbrev pub asks_for_a_change : GroupStep
asks_for_a_change = group_step counter far 1 (led three []) (holds (leading 1) []) (asks 1 (op.Change (change.Remove (record { 0 = 3 }) 7)))

abbrev pub refuse : Refusal → List Said
refuse why = Refuses 17 (call 1) 1 why ∷ []

-- ---- a greater term comes, while one entry is committed and the next one is not

-- The first attempt waits for another entry that answers its call.
abbrev pub steps_down : GroupStep
steps_down = group_step counter far 1 (led three (add_entry ∷ add_entry ∷ [])) (holds (leading 2) (attempt 1 2 ∷ attempt 2 3 ∷ [])) (Gets 3 (AppendReply 2 false 0))

abbrev pub lost : List Said
lost = Refuses 17 (call 1) 2 refusal.Lost ∷ []

-- ---- the first of two entries of one call is committed: the answer goes to the second attempt, which waits on for its own entry

abbrev pub commits_first : GroupStep
commits_first = group_step counter far 1 (led three (add_entry ∷ add_entry ∷ [])) (holds (leading 1) (attempt 1 2 ∷ attempt 2 3 ∷ [])) (Gets 2 (AppendReply 1 true 2))

-- The second is committed too, in the same step.
abbrev pub commits_both : GroupStep
commits_both = group_step counter far 1 (led three (add_entry ∷ add_entry ∷ [])) (holds (leading 1) (attempt 1 2 ∷ attempt 2 3 ∷ [])) (Gets 2 (AppendReply 1 true 3))

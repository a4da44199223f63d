-- A read that is answered under another configuration than that in which it came.
use Rattle.std.specs.Prelude.{ℕ, true, false, List, [], ◌∷◌, Some, None}
use Rattle.cp_parts.specs.declared.config.Config.{Config}
use Rattle.cp_rules.specs.Local.{PreVote, PreVoteReply, Vote, VoteReply, Append, AppendReply, Confirm, Confirmed, Event, Tick, Got, ChangeMembers, Read}
use Rattle.cp_rules.specs.Worked.{configured, three, end_at, empty, call, caller, add}
use Rattle.cp_rules_facts.specs.Executions.{Act}

abbrev pub first : Config
first = configured 0 three

abbrev pub at : ℕ → Event → Act
at member event = record { actor = member; event = Some event; cut = false; clock = 0 }

-- Member 1 is elected by 2, and takes a read before anything is committed, of round 1. Then it commits its first entry, adds member 4, and hears
-- of 2 that the round is confirmed, which is no quorum of four. The latest act first.
abbrev pub until : List Act
until =
    at 3 (Got 1 (Confirm 1 1))
    ∷ at 1 (Got 2 (Confirmed 1 true 1))
    ∷ at 2 (Got 1 (Confirm 1 1))
    ∷ at 1 (ChangeMembers (add 4 0) 0 None)
    ∷ at 1 (Got 2 (AppendReply 1 true 1))
    ∷ at 2 (Got 1 (Append 1 0 0 0 (empty 1 ∷ [])))
    ∷ at 1 (Read caller 1 call)
    ∷ at 1 (Got 2 (VoteReply 1 true))
    ∷ at 2 (Got 1 (Vote 1 (end_at 0 0)))
    ∷ at 1 (Got 2 (PreVoteReply 1 true))
    ∷ at 2 (Got 1 (PreVote 1 (end_at 0 0)))
    ∷ at 1 (Tick 2000 true None None)
    ∷ []

-- It hears the same of member 3, which was in no term before.
abbrev pub answering : Act
answering = at 1 (Got 3 (Confirmed 1 true 1))

-- Cases worked out by hand: refusals, and restart numbers that come beside them.
use Rattle.std.specs.Prelude.{ℕ, List, [], ◌∷◌}
use Rattle.cp_answers.specs.declared.answer.Answer.TheVariants as answer
use Rattle.cp_answers.specs.declared.refusal.Refusal.{Refusal}
use Rattle.cp_answers.specs.declared.refusal.Refusal.TheVariants as refusal
use Rattle.cp_events.specs.declared.effects.Ending.TheVariants as ending
use Rattle.cp_try_rules.specs.declared.event.Event.{Event}
use Rattle.cp_try_rules.specs.Worked.{Seen, quiet, sends, hello, request, returned, returns, lost, answered, refused, calls, passes, welcomed, add_one, added, ask_owner, owner, value}

-- ---- a member that doesn't lead, with a leader and without

-- The second refusal is of an attempt that isn't the last, and counts for nothing.
abbrev pub leader_events : List Event
leader_events = calls add_one ∷ welcomed 1 1 ∷ refused 1 1 1 1 (refusal.NotLeader 3) ∷ welcomed 3 7 ∷ refused 1 1 1 1 (refusal.NotLeader 2)
    ∷ refused 1 2 1 1 (refusal.NotLeader 0) ∷ passes 999 ∷ passes 1 ∷ []

abbrev pub leader_seen : List Seen
leader_seen = sends (hello 1) ∷ sends (request 1 1 1 1 1 1 added) ∷ sends (hello 3) ∷ sends (request 3 1 2 7 1 1 added) ∷ quiet
    ∷ quiet ∷ quiet ∷ sends (request 1 1 3 1 1 1 added) ∷ []

-- ---- a member without the group: the next one, after a pause. Too many entries, or the end of indexes: the same one.

abbrev pub waits_events : List Event
waits_events = calls add_one ∷ welcomed 1 1 ∷ refused 1 1 1 1 refusal.NoGroup ∷ passes 1000 ∷ welcomed 2 5 ∷ refused 1 2 1 1 (refusal.IndexEnd 8) ∷ passes 999 ∷ passes 1
    ∷ refused 1 3 1 1 (refusal.Overloaded 100) ∷ passes 1000 ∷ answered 1 1 1 (value 1) ∷ []

abbrev pub waits_seen : List Seen
waits_seen = sends (hello 1) ∷ sends (request 1 1 1 1 1 1 added) ∷ quiet ∷ sends (hello 2) ∷ sends (request 2 1 2 5 1 1 added) ∷ quiet ∷ quiet ∷ sends (request 2 1 3 5 1 1 added)
    ∷ quiet ∷ sends (request 2 1 4 5 1 1 added) ∷ returns 1 1 (value 1) ∷ []

-- ---- refusals that end the call

abbrev pub ends_with : ℕ → Refusal → Seen
ends_with number why = returned 1 number (ending.Refused why)

abbrev pub ends_events : List Event
ends_events = welcomed 1 1 ∷ calls add_one ∷ refused 1 1 1 1 (refusal.WrongMembers 4) ∷ calls add_one ∷ refused 1 2 1 2 (refusal.ChangePending 5)
    ∷ calls add_one ∷ refused 1 3 1 3 (refusal.NoOwnTermCommit 6) ∷ calls add_one ∷ refused 1 4 1 4 refusal.AlreadyThere
    ∷ calls add_one ∷ refused 1 5 1 5 refusal.NotThere ∷ calls add_one ∷ refused 1 6 1 6 refusal.LastMember ∷ []

abbrev pub ends_seen : List Seen
ends_seen = quiet ∷ sends (request 1 1 1 1 1 1 added) ∷ ends_with 1 (refusal.WrongMembers 4) ∷ sends (request 1 1 2 1 1 2 added) ∷ ends_with 2 (refusal.ChangePending 5)
    ∷ sends (request 1 1 3 1 1 3 added) ∷ ends_with 3 (refusal.NoOwnTermCommit 6) ∷ sends (request 1 1 4 1 1 4 added) ∷ ends_with 4 refusal.AlreadyThere
    ∷ sends (request 1 1 5 1 1 5 added) ∷ ends_with 5 refusal.NotThere ∷ sends (request 1 1 6 1 1 6 added) ∷ ends_with 6 refusal.LastMember ∷ []

-- ---- what was lost, and may not be sent again; a refusal that comes after the end

abbrev pub unknown_events : List Event
unknown_events = calls add_one ∷ welcomed 1 1 ∷ refused 1 1 1 1 refusal.Lost ∷ refused 1 1 1 1 (refusal.NotLeader 2) ∷ passes 5000 ∷ []

abbrev pub unknown_seen : List Seen
unknown_seen = sends (hello 1) ∷ sends (request 1 1 1 1 1 1 added) ∷ returns 1 1 lost ∷ quiet ∷ quiet ∷ []

-- ---- a refusal of another group or number is dropped

abbrev pub other_events : List Event
other_events = calls add_one ∷ welcomed 1 1 ∷ refused 1 1 2 1 refusal.Lost ∷ refused 1 1 1 2 refusal.Lost ∷ refused 2 1 1 1 refusal.Lost ∷ []

abbrev pub other_seen : List Seen
other_seen = sends (hello 1) ∷ sends (request 1 1 1 1 1 1 added) ∷ quiet ∷ quiet ∷ quiet ∷ []

-- ---- a refusal of the last attempt counts also where a Hello went out since, and once more while the thread pauses

abbrev pub twice_events : List Event
twice_events = calls ask_owner ∷ welcomed 1 1 ∷ passes 5000 ∷ refused 1 1 1 1 refusal.NoGroup ∷ passes 999 ∷ refused 1 1 1 1 refusal.NoGroup ∷ passes 999 ∷ passes 1 ∷ refused 1 1 1 1 (refusal.NotLeader 3) ∷ []

-- From member 2, to which the Hello went, to 3, and from there to 1.
abbrev pub twice_seen : List Seen
twice_seen = sends (hello 1) ∷ sends (request 1 1 1 1 1 1 owner) ∷ sends (hello 2) ∷ quiet ∷ quiet ∷ quiet ∷ quiet ∷ sends (request 1 1 2 1 1 1 owner) ∷ quiet ∷ []

-- ---- a restart number that rose, while the thread pauses

abbrev pub paused_lost_events : List Event
paused_lost_events = calls add_one ∷ welcomed 1 1 ∷ refused 1 1 1 1 (refusal.Overloaded 9) ∷ welcomed 1 2 ∷ []

abbrev pub paused_lost_seen : List Seen
paused_lost_seen = sends (hello 1) ∷ sends (request 1 1 1 1 1 1 added) ∷ quiet ∷ returns 1 1 lost ∷ []

abbrev pub paused_again_events : List Event
paused_again_events = calls ask_owner ∷ welcomed 1 1 ∷ refused 1 1 1 1 (refusal.Overloaded 9) ∷ welcomed 1 2 ∷ passes 1000 ∷ []

abbrev pub paused_again_seen : List Seen
paused_again_seen = sends (hello 1) ∷ sends (request 1 1 1 1 1 1 owner) ∷ quiet ∷ sends (request 1 1 2 2 1 1 owner) ∷ quiet ∷ []

-- ---- a restart number of a member to which the last try did not go

abbrev pub elsewhere_events : List Event
elsewhere_events = calls add_one ∷ welcomed 1 1 ∷ refused 1 1 1 1 (refusal.NotLeader 2) ∷ welcomed 1 2 ∷ welcomed 2 1 ∷ welcomed 1 3 ∷ []

abbrev pub elsewhere_seen : List Seen
elsewhere_seen = sends (hello 1) ∷ sends (request 1 1 1 1 1 1 added) ∷ sends (hello 2) ∷ quiet ∷ sends (request 2 1 2 1 1 1 added) ∷ quiet ∷ []

-- Cases worked out by hand: a request from its call to its end.
use Rattle.std.specs.Prelude.{ℕ, List, [], ◌∷◌, ◌++◌, map, None}
use Rattle.cp_answers.specs.declared.answer.Answer.TheVariants as answer
use Rattle.cp_answers.specs.declared.refusal.Refusal.TheVariants as refusal
use Rattle.cp_events.specs.declared.effects.Ending.TheVariants as ending
use Rattle.cp_try_rules.specs.declared.event.Event.{Event}
use Rattle.cp_try_rules.specs.Events.{first_state, client_steps}
use Rattle.cp_try_rules.specs.Worked.{Seen, quiet, sends, hello, request, returned, returns, lost, opens_and_sends, answered, refused, calls, passes, welcomed, me, plan_of, seen_of, add_one, added, ask_owner, owner, try_lock, unlock, acquire, release, open_session, beat, count_down, round, down, value}

-- ---- a lock; the reply to its unlock is lost

abbrev pub unlock_events : List Event
unlock_events = calls try_lock ∷ welcomed 1 1 ∷ answered 1 1 1 (answer.Session 2) ∷ answered 1 1 2 (answer.Fence 3)
    ∷ passes 3000 ∷ calls unlock ∷ passes 3000 ∷ passes 2000 ∷ welcomed 2 1
    ∷ refused 1 4 1 3 (refusal.NotLeader 1) ∷ answered 1 1 3 answer.Ok ∷ []

abbrev pub unlock_seen : List Seen
unlock_seen = sends (hello 1) ∷ sends (request 1 1 1 1 1 1 open_session) ∷ opens_and_sends 1 2 (request 1 1 2 1 1 2 (acquire 2)) ∷ returns 1 2 (answer.Fence 3)
    ∷ quiet ∷ sends (request 1 1 3 1 1 3 (release 2)) ∷ sends (request 1 0 1 1 1 1 (beat 2)) ∷ sends (hello 2) ∷ sends (request 2 1 4 1 1 3 (release 2))
    ∷ sends (request 1 1 5 1 1 3 (release 2)) ∷ returns 1 3 answer.Ok ∷ []

-- ---- a counter, and a member that starts again

-- The member doesn't answer. After 5,000 ms it is asked for its restart number, which rose. What comes then is dropped.
abbrev pub lost_events : List Event
lost_events = calls add_one ∷ welcomed 1 1 ∷ passes 4999 ∷ passes 1 ∷ welcomed 1 1 ∷ passes 5000 ∷ welcomed 1 2 ∷ answered 1 1 1 (value 1) ∷ []

abbrev pub lost_seen : List Seen
lost_seen = sends (hello 1) ∷ sends (request 1 1 1 1 1 1 added) ∷ quiet ∷ sends (hello 1) ∷ quiet ∷ sends (hello 1) ∷ returns 1 1 lost ∷ quiet ∷ []

-- ---- what may be sent again, and a member that starts again: the greatest number counts

abbrev pub again_events : List Event
again_events = calls ask_owner ∷ welcomed 1 1 ∷ welcomed 1 1 ∷ welcomed 1 3 ∷ welcomed 1 2 ∷ answered 1 1 1 answer.Free ∷ []

abbrev pub again_seen : List Seen
again_seen = sends (hello 1) ∷ sends (request 1 1 1 1 1 1 owner) ∷ quiet ∷ sends (request 1 1 2 3 1 1 owner) ∷ quiet ∷ returns 1 1 answer.Free ∷ []

-- ---- a countdown says the same round again

abbrev pub down_events : List Event
down_events = calls (count_down None) ∷ welcomed 1 1 ∷ answered 1 1 1 (value 4) ∷ refused 1 2 1 2 refusal.Lost ∷ welcomed 2 1 ∷ []

abbrev pub down_seen : List Seen
down_seen = sends (hello 1) ∷ sends (request 1 1 1 1 1 1 round) ∷ sends (request 1 1 2 1 1 2 (down 4)) ∷ sends (hello 2) ∷ sends (request 2 1 3 1 1 2 (down 4)) ∷ []

-- ---- a reply of another group, and one to an earlier number, are dropped; one to any attempt is taken

abbrev pub reply_events : List Event
reply_events = calls ask_owner ∷ welcomed 1 1 ∷ welcomed 1 2 ∷ answered 1 2 1 answer.Free ∷ answered 1 1 0 answer.Free ∷ answered 2 1 1 answer.Free ∷ answered 1 1 1 answer.Free ∷ answered 1 1 1 answer.Free ∷ []

abbrev pub reply_seen : List Seen
reply_seen = sends (hello 1) ∷ sends (request 1 1 1 1 1 1 owner) ∷ sends (request 1 1 2 2 1 1 owner) ∷ quiet ∷ quiet ∷ quiet ∷ returns 1 1 answer.Free ∷ quiet ∷ []

-- ---- without members nothing is tried

abbrev pub alone_events : List Event
alone_events = calls add_one ∷ passes 5000 ∷ answered 1 1 1 (value 1) ∷ []

abbrev pub alone : List Seen
alone = map seen_of (client_steps (plan_of 0) me first_state alone_events)

abbrev pub alone_seen : List Seen
alone_seen = quiet ∷ quiet ∷ returns 1 1 (value 1) ∷ []

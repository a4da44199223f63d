-- Cases worked out by hand: groups by name, their targets, sessions and beats.
use Rattle.cp_base.specs.declared.limits.TheConstants.{LAST_NUMBER}
use Rattle.std.specs.Prelude.{ℕ, List, [], ◌∷◌, ◌++◌, None, Some, codes}
use Rattle.cp_answers.specs.declared.answer.Answer.TheVariants as answer
use Rattle.cp_answers.specs.declared.refusal.Refusal.TheVariants as refusal
use Rattle.cp_events.specs.declared.user_op.LockCall.TheVariants as lock_call
use Rattle.cp_events.specs.declared.user_op.UserOp.TheVariants as user
use Rattle.cp_try_rules.specs.declared.event.Event.{Event}
use Rattle.cp_try_rules.specs.Clients.{new_client}
use Rattle.cp_try_rules.specs.Events.{ClientState}
use Rattle.cp_try_rules.specs.Groups.{group_number}
use Rattle.cp_try_rules.specs.Tries.{no_tries}
use Rattle.cp_try_rules.specs.Worked.{Seen, quiet, sends, hello, request, returns, opens_and_sends, answered, refused, calls, calls_on, passes, welcomed, there, add_one, added, try_lock, acquire, open_session, beat, take_permit, taken, create_group, create, destroy_group, destroy, count_down, round, down, is_group, value}

-- ---- two groups

-- METADATA is asked for the group, whose first member is its target. Sessions and beats are those of each group. A
-- destroyed group is forgotten with its session, and asked for anew.
abbrev pub apart_events : List Event
apart_events = calls take_permit ∷ welcomed 1 1 ∷ answered 1 0 1 (is_group 2 (3 ∷ 1 ∷ 2 ∷ [])) ∷ welcomed 3 1 ∷ answered 1 2 2 (answer.Session 5)
    ∷ answered 1 2 3 answer.TimedOut ∷ calls try_lock ∷ answered 1 1 4 (answer.Session 2) ∷ answered 1 1 5 (answer.Fence 3)
    ∷ passes 5000 ∷ answered 0 2 2 (answer.GroupDestroyed (group_number 2)) ∷ passes 5000 ∷ calls take_permit ∷ []

abbrev pub apart_seen : List Seen
apart_seen = sends (hello 1) ∷ sends (request 1 1 1 1 0 1 create) ∷ sends (hello 3) ∷ sends (request 3 1 2 1 2 2 open_session) ∷ opens_and_sends 2 5 (request 3 1 3 1 2 3 (taken 5))
    ∷ returns 1 3 answer.TimedOut ∷ sends (request 1 1 4 1 1 4 open_session) ∷ opens_and_sends 1 2 (request 1 1 5 1 1 5 (acquire 2)) ∷ returns 1 5 (answer.Fence 3)
    ∷ sends (request 1 0 1 1 1 1 (beat 2) ++ request 3 0 2 1 2 2 (beat 5)) ∷ quiet
    ∷ sends (request 1 0 3 1 1 3 (beat 2)) ∷ sends (request 1 1 6 1 0 6 create) ∷ []

-- ---- a group that is made anew while a call goes on

-- The call stays with the number that it found: its countdown goes where its round was asked,
abbrev pub anew_events : List Event
anew_events = calls (count_down (Some (codes "g"))) ∷ welcomed 1 1 ∷ answered 1 0 1 (is_group 5 (1 ∷ 2 ∷ 3 ∷ []))
    ∷ calls_on 2 destroy_group ∷ answered 2 0 1 answer.Ok ∷ calls_on 2 create_group ∷ answered 2 0 2 (is_group 9 (2 ∷ 3 ∷ 1 ∷ []))
    ∷ answered 1 5 2 (value 4) ∷ []

abbrev pub anew_seen : List Seen
anew_seen = sends (hello 1) ∷ sends (request 1 1 1 1 0 1 create) ∷ sends (request 1 1 2 1 5 2 round)
    ∷ sends (request 1 2 1 1 0 1 destroy) ∷ returns 2 1 answer.Ok ∷ sends (request 1 2 2 1 0 2 create) ∷ returns 2 2 (is_group 9 (2 ∷ 3 ∷ 1 ∷ []))
    ∷ sends (request 1 1 3 1 5 3 (down 4)) ∷ []

-- and what needs a session asks where the session was opened. A call that begins then goes to the group of the name.
abbrev pub anew_session_events : List Event
anew_session_events = calls take_permit ∷ welcomed 1 1 ∷ answered 1 0 1 (is_group 5 (1 ∷ 2 ∷ 3 ∷ []))
    ∷ calls_on 2 destroy_group ∷ answered 2 0 1 answer.Ok ∷ calls_on 2 create_group ∷ answered 2 0 2 (is_group 9 (2 ∷ 3 ∷ 1 ∷ []))
    ∷ answered 1 5 2 (answer.Session 7) ∷ calls_on 2 take_permit ∷ []

abbrev pub anew_session_seen : List Seen
anew_session_seen = sends (hello 1) ∷ sends (request 1 1 1 1 0 1 create) ∷ sends (request 1 1 2 1 5 2 open_session)
    ∷ sends (request 1 2 1 1 0 1 destroy) ∷ returns 2 1 answer.Ok ∷ sends (request 1 2 2 1 0 2 create) ∷ returns 2 2 (is_group 9 (2 ∷ 3 ∷ 1 ∷ []))
    ∷ opens_and_sends 5 7 (request 1 1 3 1 5 3 (taken 7)) ∷ sends (hello 2) ∷ []

-- ---- Ok to `group destroy` forgets the number by its name; the session stays, and its beats go on

abbrev pub destroyed_events : List Event
destroyed_events = calls take_permit ∷ welcomed 1 1 ∷ answered 1 0 1 (is_group 2 (1 ∷ 2 ∷ 3 ∷ [])) ∷ answered 1 2 2 (answer.Session 5) ∷ answered 1 2 3 answer.TimedOut
    ∷ calls destroy_group ∷ answered 1 0 4 answer.Ok ∷ passes 5000 ∷ calls take_permit ∷ []

abbrev pub destroyed_seen : List Seen
destroyed_seen = sends (hello 1) ∷ sends (request 1 1 1 1 0 1 create) ∷ sends (request 1 1 2 1 2 2 open_session) ∷ opens_and_sends 2 5 (request 1 1 3 1 2 3 (taken 5)) ∷ returns 1 3 answer.TimedOut
    ∷ sends (request 1 1 4 1 0 4 destroy) ∷ returns 1 4 answer.Ok ∷ sends (request 1 0 1 1 2 1 (beat 5)) ∷ sends (request 1 1 5 1 0 5 create) ∷ []

-- ---- the first answer that names a group gives its target; later ones leave it

abbrev pub target_events : List Event
target_events = calls create_group ∷ welcomed 1 1 ∷ answered 1 0 1 (is_group 2 (3 ∷ 1 ∷ 2 ∷ [])) ∷ calls create_group ∷ answered 1 0 2 (is_group 2 (1 ∷ 2 ∷ 3 ∷ [])) ∷ calls take_permit ∷ []

abbrev pub target_seen : List Seen
target_seen = sends (hello 1) ∷ sends (request 1 1 1 1 0 1 create) ∷ returns 1 1 (is_group 2 (3 ∷ 1 ∷ 2 ∷ [])) ∷ sends (request 1 1 2 1 0 2 create) ∷ returns 1 2 (is_group 2 (1 ∷ 2 ∷ 3 ∷ [])) ∷ sends (hello 3) ∷ []

-- ---- to close a session of a group that isn't known, METADATA is asked for the group. Where there is no session, Ok comes
-- with a number of its own and without a request. `default` is known by its name.

abbrev pub close_events : List Event
close_events = calls (user.CloseSession (Some (codes "g"))) ∷ welcomed 1 1 ∷ answered 1 0 1 (is_group 2 (1 ∷ 2 ∷ 3 ∷ [])) ∷ calls (user.CloseSession (Some (codes "default"))) ∷ calls (user.CloseSession None) ∷ []

abbrev pub close_seen : List Seen
close_seen = sends (hello 1) ∷ sends (request 1 1 1 1 0 1 create) ∷ returns 1 2 answer.Ok ∷ returns 1 3 answer.Ok ∷ returns 1 4 answer.Ok ∷ []

-- ---- beats

-- a client with a session, of which no call is open
abbrev pub in_session : List Event
in_session = calls try_lock ∷ welcomed 1 1 ∷ answered 1 1 1 (answer.Session 2) ∷ answered 1 1 2 (answer.Fence 3) ∷ []

abbrev pub session_seen : List Seen
session_seen = sends (hello 1) ∷ sends (request 1 1 1 1 1 1 open_session) ∷ opens_and_sends 1 2 (request 1 1 2 1 1 2 (acquire 2)) ∷ returns 1 2 (answer.Fence 3) ∷ []

-- One that is refused is not repeated; where no start of the target is known, it stays due.
abbrev pub refused_beat_events : List Event
refused_beat_events = in_session ++ passes 5000 ∷ refused 0 1 1 1 refusal.NoGroup ∷ passes 4999 ∷ passes 1 ∷ welcomed 2 1 ∷ passes 0 ∷ []

abbrev pub refused_beat_seen : List Seen
refused_beat_seen = session_seen ++ sends (request 1 0 1 1 1 1 (beat 2)) ∷ quiet ∷ quiet ∷ sends (hello 2) ∷ quiet ∷ sends (request 2 0 2 1 1 2 (beat 2)) ∷ []

-- One tick makes one beat, however far it moves. A member that doesn't lead moves the target alone, and a start that is
-- known to be over repeats no beat.
abbrev pub one_beat_events : List Event
one_beat_events = in_session ++ passes 20000 ∷ welcomed 1 2 ∷ passes 4999 ∷ passes 1 ∷ refused 0 2 1 2 (refusal.NotLeader 3) ∷ refused 0 2 1 2 refusal.Lost ∷ passes 5000 ∷ []

abbrev pub one_beat_seen : List Seen
one_beat_seen = session_seen ++ sends (request 1 0 1 1 1 1 (beat 2)) ∷ quiet ∷ quiet ∷ sends (request 1 0 2 2 1 2 (beat 2)) ∷ quiet ∷ quiet ∷ sends (hello 3) ∷ []

-- Of the beats the latest alone is open: what is answered to an earlier one is dropped. A session that expired has no more.
abbrev pub latest_beat_events : List Event
latest_beat_events = in_session ++ passes 5000 ∷ passes 5000 ∷ answered 0 1 1 (answer.SessionExpired 2) ∷ passes 5000 ∷ answered 0 1 3 (answer.SessionExpired 2) ∷ passes 5000 ∷ []

abbrev pub latest_beat_seen : List Seen
latest_beat_seen = session_seen ++ sends (request 1 0 1 1 1 1 (beat 2)) ∷ sends (request 1 0 2 1 1 2 (beat 2)) ∷ quiet ∷ sends (request 1 0 3 1 1 3 (beat 2)) ∷ quiet ∷ quiet ∷ []

-- Two sessions whose groups have one target, of which no start is known: a Hello for each. And no beat has a number past
-- the end.
abbrev pub two_sessions : ℕ → ClientState
two_sessions number = record {
  calls = record new_client { threads = (0, record { number = number; pending = None }) ∷ []; sessions = (1, record { id = 2; beat = 0 }) ∷ (4, record { id = 6; beat = 0 }) ∷ [] };
  tries = no_tries;
}

abbrev pub two_hello_events : List Event
two_hello_events = passes 5000 ∷ welcomed 1 1 ∷ passes 0 ∷ []

abbrev pub two_hello_seen : List Seen
two_hello_seen = sends (hello 1 ++ hello 1) ∷ quiet ∷ sends (request 1 0 1 1 1 1 (beat 2) ++ request 1 0 2 1 4 2 (beat 6)) ∷ []

-- The last number is taken by the first of the two.
abbrev pub last_beat_events : List Event
last_beat_events = welcomed 1 1 ∷ passes 5000 ∷ passes 5000 ∷ []

abbrev pub last_beat_seen : List Seen
last_beat_seen = quiet ∷ sends (request 1 0 1 1 1 LAST_NUMBER (beat 2)) ∷ quiet ∷ []

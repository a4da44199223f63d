-- Cases worked out by hand: deadlines, pauses, the ages of tries, and the ends of numbers.
use Rattle.cp_base.specs.declared.limits.TheConstants.{LAST_NUMBER}
use Rattle.std.specs.Prelude.{ℕ, List, [], ◌∷◌, ◌++◌, None, Some, codes}
use Rattle.cp_answers.specs.declared.answer.Answer.TheVariants as answer
use Rattle.cp_answers.specs.declared.refusal.Refusal.TheVariants as refusal
use Rattle.cp_events.specs.declared.user_op.LatchCall.TheVariants as latch_call
use Rattle.cp_events.specs.declared.user_op.LockCall.TheVariants as lock_call
use Rattle.cp_events.specs.declared.user_op.UserOp.TheVariants as user
use Rattle.cp_try_rules.specs.declared.event.Event.{Event}
use Rattle.cp_try_rules.specs.Clients.{new_client}
use Rattle.cp_try_rules.specs.Events.{ClientState}
use Rattle.cp_try_rules.specs.Tries.{Tried, Tries, no_tries}
use Rattle.cp_try_rules.specs.Worked.{Seen, quiet, sends, hello, request, returns, late, opens_and_sends, answered, refused, calls, calls_on, passes, welcomed, here, add_one, added, ask_owner, owner, try_lock, acquire, open_session}

-- ---- deadlines: 60,000 ms after the call with what it wishes, at the tick that reaches it

-- A lock without a limit waits on: its next try asks another member.
abbrev pub late_events : List Event
late_events = calls (user.Latch (here (codes "d")) (latch_call.Await 500)) ∷ calls_on 2 (user.Lock (here (codes "k")) lock_call.Lock) ∷ passes 60499 ∷ passes 1 ∷ []

abbrev pub late_seen : List Seen
late_seen = sends (hello 1) ∷ sends (hello 1) ∷ sends (hello 2 ++ hello 3) ∷ returns 1 1 late ∷ []

-- It counts from the call, and not from each request. What comes after it is dropped, a fence too.
abbrev pub whole_events : List Event
whole_events = calls try_lock ∷ passes 59999 ∷ welcomed 2 1 ∷ answered 1 1 1 (answer.Session 2) ∷ passes 1 ∷ answered 1 1 2 (answer.Fence 3) ∷ []

abbrev pub whole_seen : List Seen
whole_seen = sends (hello 1) ∷ sends (hello 2) ∷ sends (request 2 1 1 1 1 1 open_session) ∷ opens_and_sends 1 2 (request 2 1 2 1 1 2 (acquire 2)) ∷ returns 1 2 late ∷ quiet ∷ []

-- ---- a Hello that nobody answers goes to the next member, and behind the last to the first

abbrev pub hello_events : List Event
hello_events = calls add_one ∷ passes 4999 ∷ passes 1 ∷ passes 5000 ∷ passes 9000 ∷ []

abbrev pub hello_seen : List Seen
hello_seen = sends (hello 1) ∷ quiet ∷ sends (hello 2) ∷ sends (hello 3) ∷ sends (hello 1) ∷ []

-- ---- an attempt that nobody answers: what may be sent again goes to the next member

abbrev pub aged_events : List Event
aged_events = welcomed 1 1 ∷ welcomed 2 4 ∷ calls ask_owner ∷ passes 4999 ∷ passes 1 ∷ passes 5000 ∷ []

abbrev pub aged_seen : List Seen
aged_seen = quiet ∷ quiet ∷ sends (request 1 1 1 1 1 1 owner) ∷ quiet ∷ sends (request 2 1 2 4 1 1 owner) ∷ sends (hello 3) ∷ []

-- ---- the ages count while a thread pauses

-- What may not be sent again: the member is asked for its restart number, and the pause goes on.
abbrev pub pause_events : List Event
pause_events = calls add_one ∷ welcomed 1 1 ∷ passes 4500 ∷ refused 1 1 1 1 (refusal.Overloaded 9) ∷ passes 500 ∷ passes 499 ∷ passes 1 ∷ []

abbrev pub pause_seen : List Seen
pause_seen = sends (hello 1) ∷ sends (request 1 1 1 1 1 1 added) ∷ quiet ∷ quiet ∷ sends (hello 1) ∷ quiet ∷ sends (request 1 1 2 1 1 1 added) ∷ []

-- What may be sent again: the next member is tried before the pause is over.
abbrev pub pause_again_events : List Event
pause_again_events = calls ask_owner ∷ welcomed 1 1 ∷ passes 4500 ∷ refused 1 1 1 1 (refusal.Overloaded 9) ∷ passes 500 ∷ passes 500 ∷ []

abbrev pub pause_again_seen : List Seen
pause_again_seen = sends (hello 1) ∷ sends (request 1 1 1 1 1 1 owner) ∷ quiet ∷ quiet ∷ sends (hello 2) ∷ quiet ∷ []

-- ---- the ends of numbers: no try is made where the next attempt has no number

abbrev pub spent : ClientState
spent = record {
  calls = new_client;
  tries = record no_tries {
    restarts = (1, 1) ∷ [];
    threads = (1, record { attempt = LAST_NUMBER; last = None; paused = None }) ∷ (2, record { attempt = 4611686018427387903; last = None; paused = None }) ∷ [];
  };
}

abbrev pub spent_events : List Event
spent_events = calls ask_owner ∷ calls_on 2 ask_owner ∷ passes 5000 ∷ []

abbrev pub spent_seen : List Seen
spent_seen = quiet ∷ sends (request 1 2 LAST_NUMBER 1 1 1 owner) ∷ quiet ∷ []

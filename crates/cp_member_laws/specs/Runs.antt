-- Runs of a member: events and starts, and what becomes of an attempt in them.
use Rattle.std.specs.Prelude.{ℕ, ◌+◌, Bool, true, false, not, ◌&&◌, List, [], ◌∷◌, Option, Some, None, is_ok, ◌==◌, nat_le, if◌then◌else◌}
use Rattle.std.specs.List.{list_any}
use Rattle.cp_answers.specs.declared.refusal.Refusal.{Refusal}
use Rattle.cp_answers.specs.declared.refusal.Refusal.TheVariants as refusal
use Rattle.cp_grammar.specs.Grammar.{whole}
use Rattle.cp_ops.specs.Ops.{op_grammar}
use Rattle.cp_member_rules.specs.Letters.{Letter, Request, Talk, Asks, Refuse, is_client}
use Rattle.cp_member_rules.specs.Machines.{Machines, Setup}
use Rattle.cp_member_rules.specs.Members.{MemberState, last_attempt, started}
use Rattle.cp_member_rules.specs.MemberSteps.{wrote_nothing}
use Rattle.cp_member_rules.specs.Steps.{MemberEvent, Passes, Gets, member_step}

-- What happens to a member: an event, whose part is then stored; or a crash and the start after it. Where a crash cuts off an event whose part
-- was stored, and its letters are lost, that is the event and then a start; where the part was not stored either, it is a start alone.
pub data Happening : Type 0 where
  Comes : (event : MemberEvent) → Happening
  Starts : Happening

-- An attempt, by what its request names: the address that it comes from, its thread, its number, and the member's start.
pub record AttemptKey : Type 0 where
  pub from : ℕ
  pub thread : ℕ
  pub attempt : ℕ
  pub restart : ℕ

-- ---- requests

abbrev pub asked : ℕ → Talk → Option Request
asked from (Asks call attempt restart group op) =
    if is_client from then Some (record { from = from; call = call; attempt = attempt; restart = restart; group = group; op = op }) else None
asked from talk = None

-- the request of a client that comes in an event to member `me`
abbrev pub request_in : ℕ → MemberEvent → Option Request
request_in me (Passes millis) = None
request_in me (Gets x) = if x.to == me then asked x.from x.talk else None

abbrev pub is_key : AttemptKey → ℕ → ℕ → ℕ → Bool
is_key t from thread attempt = (t.from == from) && ((t.thread == thread) && (t.attempt == attempt))

abbrev pub names : AttemptKey → Request → Bool
names t r = is_key t r.from r.call.thread.0 r.attempt && (t.restart == r.restart)

-- It is for this start of the member, and above all attempts of its endpoint that came before in it.
abbrev pub is_new : Request → MemberState → Bool
is_new r member = (r.restart == member.stored.restart) && not (nat_le r.attempt (last_attempt member r.from r.call.thread.0))

-- The member takes it: it asks for an operation, and is new.
abbrev pub is_taken : Request → MemberState → Bool
is_taken r member = is_ok (whole op_grammar r.op) && is_new r member

abbrev pub takes_request : AttemptKey → MemberState → Option Request → Bool
takes_request t member None = false
takes_request t member (Some r) = names t r && is_taken r member

abbrev pub is_request : AttemptKey → Option Request → Bool
is_request t None = false
is_request t (Some r) = names t r

-- ---- refusals

-- `lost` answers no request: it tells of one that was taken before.
abbrev pub is_lost : Refusal → Bool
is_lost refusal.Lost = true
is_lost other = false

-- the thread and the number of the attempt that is refused
abbrev pub refused_in : Talk → Option (ℕ × ℕ)
refused_in (Refuse thread attempt group number r) = if is_lost r then None else Some (thread, attempt)
refused_in talk = None

abbrev pub is_told : (ℕ → ℕ → ℕ → Bool) → ℕ → Option (ℕ × ℕ) → Bool
is_told key to None = false
is_told key to (Some x) = key to x.0 x.1

-- The letter refuses an attempt of which the test holds.
abbrev pub tells_key : (ℕ → ℕ → ℕ → Bool) → Letter → Bool
tells_key key x = is_told key x.to (refused_in x.talk)

-- ---- in a run

abbrev pub one_if : Bool → ℕ
one_if false = 0
one_if true = 1

module _ {V : Type 0} (ms : Machines V) (setup : Setup) (me : ℕ) where
  abbrev pub after : MemberState → Happening → MemberState
  after member (Comes event) = (member_step ms setup me member event).state
  after member Starts = started ms member.stored

  abbrev pub after_all : MemberState → List Happening → MemberState
  after_all member [] = member
  after_all member (h ∷ run) = after_all (after member h) run

  -- in how many places of a run the test holds, of the member before what happens there
  abbrev pub times : (MemberState → Happening → Bool) → MemberState → List Happening → ℕ
  times test member [] = 0
  times test member (h ∷ run) = one_if (test member h) + times test (after member h) run

  -- The member takes the attempt here.
  abbrev pub takes : AttemptKey → MemberState → Happening → Bool
  takes t member (Comes event) = takes_request t member (request_in me event)
  takes t member Starts = false

  -- A request of the attempt comes here, and the step for it writes a part.
  abbrev pub makes : AttemptKey → MemberState → Happening → Bool
  makes t member (Comes event) = is_request t (request_in me event) && not (wrote_nothing (member_step ms setup me member event))
  makes t member Starts = false

  -- The member refuses the attempt here, in the start that it names.
  abbrev pub refuses : AttemptKey → MemberState → Happening → Bool
  refuses t member (Comes event) = (t.restart == member.stored.restart) && list_any (tells_key (is_key t)) (member_step ms setup me member event).sent
  refuses t member Starts = false

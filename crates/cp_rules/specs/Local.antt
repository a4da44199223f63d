-- What comes to a member of one group, what it sends, and what one step of it does.
use Rattle.std.specs.Prelude.{ℕ, Bool, true, false, List, [], ◌∷◌, Option}
use Rattle.cp_base.specs.declared.identifier.Invocation.{Invocation}
use Rattle.cp_parts.specs.declared.log_entry.LogEntry.{LogEntry}
use Rattle.cp_rules.specs.declared.change.Change.{Change}
use Rattle.cp_rules.specs.declared.log_end.LogEnd.{LogEnd}
use Rattle.cp_rules.specs.declared.outcome.Outcome.{Outcome}
use Rattle.cp_rules.specs.declared.outcome.Outcome.TheVariants.{Done}
use Rattle.cp_rules.specs.declared.role.Role.{Role}
use Rattle.cp_rules.specs.declared.role.Role.TheVariants.{Follower, PreCandidate, Candidate, Leader}
use Rattle.cp_rules.specs.Persistent.{Part}
use Rattle.cp_rules.specs.Volatile.{Look, VolatileState}

-- What members of the group send each other. Each names the sender's term; a PreVote and a yes to it name the term asked for.
pub data Body : Type 0 where
  PreVote : (term : ℕ) (candidate : LogEnd) → Body
  PreVoteReply : (term : ℕ) (granted : Bool) → Body
  Vote : (term : ℕ) (candidate : LogEnd) → Body
  VoteReply : (term : ℕ) (granted : Bool) → Body
  Append : (term previous previous_term commit : ℕ) (entries : List LogEntry) → Body
  AppendReply : (term : ℕ) (taken : Bool) (index : ℕ) → Body
  Snapshot : (term index offset : ℕ) (is_last : Bool) (bytes : List ℕ) → Body
  SnapshotReply : (term index : ℕ) (done : Bool) (received : ℕ) → Body
  Confirm : (term round : ℕ) → Body
  Confirmed : (term : ℕ) (taken : Bool) (round : ℕ) → Body

pub record Sent : Type 0 where
  pub to : ℕ
  pub body : Body

-- A Tick moves the clock; it has an expiry that is due, and the machine's bytes where a snapshot is due. Propose has an entry, ChangeMembers
-- the number of a plan and the call that asked, Read the call, its attempt and what it reads.
pub data Event : Type 0 where
  Tick : (clock : ℕ) (may_write : Bool) (expiry machine : Option (List ℕ)) → Event
  Got : (from : ℕ) (body : Body) → Event
  Propose : (entry : List ℕ) → Event
  ChangeMembers : (change : Change) (plan : ℕ) (call : Option Invocation) → Event
  Read : (call : Invocation) (attempt : ℕ) (op : List ℕ) → Event

-- What a step does, in this order: it writes the one part, if any; then it sends, in this order; then it leaves this state. With it go
-- whether the member leads its term in the step, also where it then steps down; the answer to the caller; and the reads that can be
-- answered and those that are lost.
pub record LocalStep : Type 0 where
  pub part : Option Part
  pub sends : List Sent
  pub state : VolatileState
  pub leads : Bool
  pub outcome : Outcome
  pub answered : List Look
  pub lost : List Look

-- ---- roles

abbrev pub is_leader : Role → Bool
is_leader Follower = false
is_leader PreCandidate = false
is_leader Candidate = false
is_leader Leader = true

abbrev pub is_candidate : Role → Bool
is_candidate Follower = false
is_candidate PreCandidate = false
is_candidate Candidate = true
is_candidate Leader = false

abbrev pub is_pre_candidate : Role → Bool
is_pre_candidate Follower = false
is_pre_candidate PreCandidate = true
is_pre_candidate Candidate = false
is_pre_candidate Leader = false

-- ---- what rules do

abbrev pub does : Option Part → VolatileState → List Sent → LocalStep
does part state sends = record { part = part; sends = sends; state = state; leads = is_leader state.role; outcome = Done; answered = []; lost = [] }

-- as leader, which may step down at the end
abbrev pub leads_and : LocalStep → LocalStep
leads_and s = record s { leads = true }

abbrev pub send : ℕ → Body → Sent
send to body = record { to = to; body = body }

abbrev pub reply : ℕ → Body → List Sent
reply to body = send to body ∷ []

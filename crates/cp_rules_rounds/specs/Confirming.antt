-- What a step does to the rounds of a leader, and to what is confirmed of them. Here p and v are what the member had before the step, q and
-- w what it has after it.
use Rattle.std.specs.Prelude.{◌≡◌, ℕ, suc, ◌<◌, ◌≤◌, ◌⊎◌, true, false, List, Contains}
use Rattle.cp_log_rules.specs.Persistent.{PersistentState, last}
use Rattle.cp_rules.specs.declared.role.Role.{Role}
use Rattle.cp_rules.specs.declared.role.Role.TheVariants.{Candidate, Leader}
use Rattle.cp_rules.specs.Persistent.{after_part}
use Rattle.cp_rules.specs.Volatile.{Look, VolatileState, no_reads}
use Rattle.cp_rules.specs.Local.{Body, PreVote, PreVoteReply, Vote, VoteReply, Append, AppendReply, Snapshot, SnapshotReply, Confirm, Confirmed, Sent, Event, Got, Read}
use Rattle.cp_rules.specs.Confirming.{round_of}
use Rattle.cp_rules.specs.Steps.{step}

-- A Confirm is sent by one that leads its term, and names its latest round. A yes answers a Confirm that came, at a member of no later term,
-- which then has that term. `role` and `latest` are those after the step.
abbrev pub SaysTruly : PersistentState → Event → PersistentState → Role → ℕ → Body → Type 0
SaysTruly p event q role latest (PreVote term candidate) = Unit {0}
SaysTruly p event q role latest (PreVoteReply term granted) = Unit {0}
SaysTruly p event q role latest (Vote term candidate) = Unit {0}
SaysTruly p event q role latest (VoteReply term granted) = Unit {0}
SaysTruly p event q role latest (Append term previous previous_term commit entries) = Unit {0}
SaysTruly p event q role latest (AppendReply term taken index) = Unit {0}
SaysTruly p event q role latest (Snapshot term index offset is_last bytes) = Unit {0}
SaysTruly p event q role latest (SnapshotReply term index done received) = Unit {0}
SaysTruly p event q role latest (Confirm term round) = (role ≡ Leader) × (term ≡ q.term) × (round ≡ latest)
SaysTruly p event q role latest (Confirmed term true round) = (p.term ≤ term) × (q.term ≡ term) × ((from : ℕ) × (event ≡ Got from (Confirm term round)))
SaysTruly p event q role latest (Confirmed term false round) = Unit {0}

-- The look is of the read that comes, at one that leads: it has the last index, and begins a new round.
pub record TakesLook (p : PersistentState) (v : VolatileState) (event : Event) (look : Look) : Type 0 where
  pub event_is : event ≡ Read look.call look.attempt look.op
  pub role : v.role ≡ Leader
  pub index : look.index ≡ last p
  pub round : look.round ≡ suc v.reads.round

-- One that led leads on in its term. Its round never falls, and rises by one at a time; what it counts as confirmed it counted before, or it
-- has just come; and each look that waits waited before, or has just been taken.
pub record LeadsOn (p : PersistentState) (v : VolatileState) (event : Event) (q : PersistentState) (w : VolatileState) : Type 0 where
  pub role : v.role ≡ Leader
  pub in_term : q.term ≡ p.term
  pub round : v.reads.round ≤ w.reads.round
  pub by_one : w.reads.round ≤ suc v.reads.round
  pub confirmed : (f : ℕ) → (round_of w.reads f ≤ round_of v.reads f) ⊎ ((r : ℕ) × (round_of w.reads f ≤ r) × (event ≡ Got f (Confirmed q.term true r)))
  pub looks : (look : Look) → Contains w.reads.looks look → Contains v.reads.looks look ⊎ TakesLook p v event look

-- The member was a Candidate of the term that it then has, or the term is new to it.
abbrev pub ComesTo : PersistentState → VolatileState → PersistentState → Type 0
ComesTo p v q = ((v.role ≡ Candidate) × (q.term ≡ p.term)) ⊎ (p.term < q.term)

-- Confirmations are true. Who leads after a step led before it, or its leadership begins, without a read. So in one term nobody comes to lead
-- twice.
pub record RoundsConfirmed (p : PersistentState) (v : VolatileState) (event : Event) (q : PersistentState) (w : VolatileState) (sends : List Sent) : Type 0 where
  pub term : p.term ≤ q.term
  pub says : (x : Sent) → Contains sends x → SaysTruly p event q w.role w.reads.round x.body
  pub leads : w.role ≡ Leader → LeadsOn p v event q w ⊎ (ComesTo p v q × (w.reads ≡ no_reads))
  pub stands : w.role ≡ Candidate → ComesTo p v q

abbrev pub StepsConfirmRounds : Type 0
StepsConfirmRounds = (me : ℕ) (p : PersistentState) (v : VolatileState) (event : Event)
    → let s = step me p v event in RoundsConfirmed p v event (after_part s.part p) s.state s.sends

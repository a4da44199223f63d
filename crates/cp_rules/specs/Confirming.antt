-- Reads without entries: a leader answers one once a quorum has confirmed, after it came, that it still leads.
use Rattle.std.specs.Prelude.{ℕ, suc, ◌==◌, Bool, true, false, not, ◌&&◌, ◌||◌, if◌then◌else◌, List, [], ◌∷◌, ◌++◌, length, map, filter, max, None, nat_lt, nat_le, slice_index_or, slice_set}
use Rattle.cp_base.specs.declared.identifier.Invocation.{Invocation}
use Rattle.cp_answers.specs.declared.refusal.Refusal.TheVariants.{NotLeader, Overloaded}
use Rattle.cp_rules.specs.declared.outcome.Outcome.TheVariants.{Refused}
use Rattle.cp_rules.specs.Limits.{most_looks}
use Rattle.cp_log_rules.specs.Persistent.{PersistentState, last}
use Rattle.cp_rules.specs.Persistent.{ballot, members, others, is_quorum, ballot_part, after_part}
use Rattle.cp_rules.specs.Volatile.{Look, Reads, VolatileState, no_reads}
use Rattle.cp_rules.specs.Local.{LocalStep, does, reply, send, Sent, Confirm, Confirmed, is_leader}
use Rattle.cp_rules.specs.Terms.{adopted, steps_down_for, adopts}

-- ---- a round

abbrev pub confirms : ℕ → PersistentState → Reads → List Sent
confirms me p reads = map (λ f. send f (Confirm p.term reads.round)) (others me (members p))

-- The sender leads; a Candidate of the same term stays one.
abbrev pub on_confirm : PersistentState → VolatileState → ℕ → ℕ → ℕ → LocalStep
on_confirm p v from term round =
    if nat_lt term p.term then does None v (reply from (Confirmed p.term false 0))
    else does (ballot_part p (adopted term (ballot p))) (record (steps_down_for term p v) { leader = from; heard = v.clock }) (reply from (Confirmed term true round))

abbrev pub round_of : Reads → ℕ → ℕ
round_of reads member = slice_index_or reads.confirmed member 0

abbrev pub with_round : ℕ → ℕ → Reads → Reads
with_round member round reads = record reads { confirmed = slice_set reads.confirmed member (max (round_of reads member) round) }

abbrev pub on_confirmed : PersistentState → VolatileState → ℕ → ℕ → Bool → ℕ → LocalStep
on_confirmed p v from term taken round =
    if nat_lt p.term term then adopts term p v
    else if taken && (is_leader v.role && (term == p.term)) then does None (record v { reads = with_round from round v.reads }) []
    else does None v []

-- ---- a read

abbrev pub waits : PersistentState → Reads → Invocation → ℕ → List ℕ → Reads
waits p reads call attempt op = record reads {
  round = suc reads.round;
  looks = reads.looks ++ record { call = call; attempt = attempt; index = last p; round = suc reads.round; op = op } ∷ [];
}

abbrev pub begins_round : ℕ → PersistentState → VolatileState → Reads → LocalStep
begins_round me p v reads = does None (record v { reads = reads }) (confirms me p reads)

abbrev pub on_read : ℕ → PersistentState → VolatileState → Invocation → ℕ → List ℕ → LocalStep
on_read me p v call attempt op =
    if not (is_leader v.role) then record (does None v []) { outcome = Refused (NotLeader v.leader) }
    else if nat_le most_looks (length v.reads.looks) then record (does None v []) { outcome = Refused (Overloaded most_looks) }
    else begins_round me p v (waits p v.reads call attempt op)

-- ---- after each step

-- A quorum, with the leader itself, has confirmed the read's round or a later one, and what was in the log when it came is committed.
abbrev pub is_ready : ℕ → List ℕ → Reads → ℕ → Look → Bool
is_ready me members reads commit look = nat_le look.index commit && is_quorum members (λ f. (f == me) || nat_le look.round (round_of reads f))

-- One that leads answers the reads that are ready. Who doesn't lead keeps none: those that waited are lost.
abbrev pub settles : ℕ → PersistentState → VolatileState → LocalStep → LocalStep
settles me p v s =
    if is_leader s.state.role
    then (let ready = is_ready me (members (after_part s.part p)) s.state.reads s.state.commit in
    record s {
      answered = filter ready s.state.reads.looks;
      state = record s.state { reads = record s.state.reads { looks = filter (λ look. not (ready look)) s.state.reads.looks } };
    })
    else record s { lost = v.reads.looks; state = record s.state { reads = no_reads } }

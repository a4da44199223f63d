-- A step for an attempt refuses it, or writes a part; never both.
use Rattle.std.proofs.Common.{◌≡◌, ℕ, ◌⊎◌, inl, inr, Bool, true, false, List, length, Some, None, Option, refl, if◌then◌else◌}
use Rattle.std.specs.Prelude.{not, nat_le}
use Rattle.cp_answers.specs.declared.refusal.Refusal.{Refusal}
use Rattle.cp_base.specs.declared.identifier.Invocation.{Invocation}
use Rattle.cp_ops.specs.declared.op.Op.{Op}
use Rattle.cp_ops.specs.declared.op.Op.TheVariants as op
use Rattle.cp_log_rules.specs.Persistent.{PersistentState}
use Rattle.cp_rules.specs.declared.change.Change.{Change}
use Rattle.cp_rules.specs.declared.outcome.Outcome.{Outcome}
use Rattle.cp_rules.specs.declared.outcome.Outcome.TheVariants as outcome
use Rattle.cp_rules.specs.Changes.{refuses_change, changes}
use Rattle.cp_rules.specs.Confirming.{settles}
use Rattle.cp_rules.specs.Limits.{most_looks}
use Rattle.cp_rules.specs.Local as raft
use Rattle.cp_rules.specs.Local.{LocalStep, is_leader}
use Rattle.cp_rules.specs.Requests.{refuses_entry, unless_refused, proposes}
use Rattle.cp_rules.specs.Steps.{step, rule}
use Rattle.cp_rules.specs.Volatile.{VolatileState}
use Rattle.cp_group_rules.specs.Events.{asked, by_entry}

abbrev pub IsRefused : Outcome → Type 0
IsRefused outcome.Done = ⊥
IsRefused (outcome.Proposed index) = ⊥
IsRefused (outcome.Refused r) = Unit {0}

-- nothing is written, or nothing refused
abbrev pub Writes : LocalStep → Type 0
Writes s = (s.part ≡ None) ⊎ (IsRefused s.outcome → ⊥)

unless : (o : Option Refusal) (v : VolatileState) (s : LocalStep) → Writes s → Writes (unless_refused o v s)
unless None v s h = h
unless (Some r) v s h = inl refl

either : (b : Bool) (s t : LocalStep) → Writes s → Writes t → Writes (if b then s else t)
either true s t h k = h
either false s t h k = k

settled : (me : ℕ) (p : PersistentState) (v : VolatileState) (s : LocalStep) → Writes s → Writes (settles me p v s)
settled me p v s h = either (is_leader s.state.role) _ _ h h

module _ (me : ℕ) (p : PersistentState) (v : VolatileState) where
  entry : (bytes : List ℕ) → Writes (step me p v (raft.Propose bytes))
  entry bytes = settled me p v (rule me p v (raft.Propose bytes)) (unless (refuses_entry p v) v (proposes me p v bytes) (inr (λ h. h)))

  change : (c : Change) (plan : ℕ) (call : Option Invocation) → Writes (step me p v (raft.ChangeMembers c plan call))
  change c plan call = settled me p v (rule me p v (raft.ChangeMembers c plan call))
      (unless (refuses_entry p v) v (unless_refused (refuses_change p v c) v (changes me p v c plan call)) (unless (refuses_change p v c) v (changes me p v c plan call) (inr (λ h. h))))

  read : (call : Invocation) (attempt : ℕ) (o : List ℕ) → Writes (step me p v (raft.Read call attempt o))
  read call attempt o = settled me p v (rule me p v (raft.Read call attempt o))
      (either (not (is_leader v.role)) _ _ (inl refl) (either (nat_le most_looks (length v.reads.looks)) _ _ (inl refl) (inl refl)))

  by_entries : (call : Invocation) (o : Op) → Writes (step me p v (by_entry call o))
  by_entries call (op.Change o) = change _ 0 (Some call)
  by_entries call (op.Long a b) = entry _
  by_entries call (op.Ref a b) = entry _
  by_entries call (op.Lock a b) = entry _
  by_entries call (op.Sem a b) = entry _
  by_entries call (op.Jsem a b) = entry _
  by_entries call (op.Latch a b) = entry _
  by_entries call (op.Session a) = entry _
  by_entries call (op.Destroy a b) = entry _
  by_entries call (op.Group a) = entry _
  by_entries call (op.Member a) = entry _
  by_entries call (op.Map a b) = entry _

  -- the step of an attempt
  pub writes_asked : (reads : Bool) (call : Invocation) (attempt : ℕ) (o : Op) → Writes (step me p v (asked reads call attempt o))
  writes_asked true call attempt o = read call attempt _
  writes_asked false call attempt o = by_entries call o

-- What a member keeps of one group in memory, and what it says to clients and to other members.
use Rattle.std.specs.Prelude.{ℕ, Bool, List, [], map, ◌++◌, is_ok}
use Rattle.cp_base.specs.declared.identifier.Invocation.{Invocation}
use Rattle.cp_answers.specs.declared.answer.Answer.{Answer}
use Rattle.cp_answers.specs.declared.refusal.Refusal.{Refusal}
use Rattle.cp_log_rules.specs.Persistent.{PersistentState}
use Rattle.cp_rules.specs.Local.{Body, Sent}
use Rattle.cp_rules.specs.Volatile.{VolatileState, started}
use Rattle.cp_group_rules.specs.declared.attempt.Attempt.{Attempt}
use Rattle.cp_group_rules.specs.declared.running.Running.{Running}
use Rattle.cp_group_rules.specs.Machines.{Machine}
use Rattle.cp_group_rules.specs.Views.{restored_at, base_view}
use Rattle.cp_group_rules.specs.Times.{anew}

-- A crash leaves none of this. What the machine stands for is no field: the log and the commit say it.
pub record VolatileGroup : Type 0 where
  pub raft : VolatileState
  -- the attempts that wait for the answer to their call, by the index of their entries
  pub pending : List Attempt
  -- the reads that wait for their rounds, in order
  pub reading : List Attempt
  -- the times that run, in the machine's order
  pub running : List Running

module _ {V : Type 0} (m : Machine V) where
  -- the machine's bytes in the member's snapshot, if it has one, restore a machine
  abbrev pub may_begin : PersistentState → Bool
  may_begin p = is_ok (restored_at m p.base p.snapshot)

  -- after a start, or where the group begins, at this clock
  abbrev pub begun : PersistentState → ℕ → VolatileGroup
  begun p clock = record { raft = started p.base clock; pending = []; reading = []; running = anew clock (m.timers (base_view m p)) }

-- ---- what is said

-- An attempt is answered or refused; to a member goes what Raft sends it.
pub data Said : Type 0 where
  Replies : (to : ℕ) (call : Invocation) (attempt : ℕ) (answer : Answer) → Said
  Refuses : (to : ℕ) (call : Invocation) (attempt : ℕ) (refusal : Refusal) → Said
  Tells : (to : ℕ) (body : Body) → Said

abbrev pub replies : Answer → Attempt → Said
replies answer x = Replies x.from x.call x.number answer

abbrev pub refuses : Refusal → Attempt → Said
refuses refusal x = Refuses x.from x.call x.number refusal

abbrev pub tells : List Sent → List Said
tells sends = map (λ s. Tells s.to s.body) sends

-- What is said where the member ends the group: to each attempt, and then to each read.
abbrev pub last_words : Answer → VolatileGroup → List Said
last_words answer g = map (replies answer) g.pending ++ map (replies answer) g.reading

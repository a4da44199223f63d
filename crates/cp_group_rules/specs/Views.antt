-- What the machine of a member stands for, its view: what the member's snapshot restores, and then its committed entries, one by one.
use Rattle.std.specs.Prelude.{ℕ, suc, ◌-◌, ◌==◌, List, [], ◌∷◌, ◌++◌, map, take, drop, Result, Ok, Err, if◌then◌else◌}
use Rattle.cp_base.specs.declared.identifier.Invocation.{Invocation}
use Rattle.cp_answers.specs.declared.answer.Answer.{Answer}
use Rattle.cp_grammar.specs.Grammar.{Read}
use Rattle.cp_parts.specs.declared.log_entry.LogEntry.{LogEntry}
use Rattle.cp_parts.specs.declared.snapshot_head.SnapshotHead.{SnapshotHead}
use Rattle.cp_parts.specs.Heads.{head_grammar}
use Rattle.cp_log_rules.specs.Persistent.{PersistentState}
use Rattle.cp_group_rules.specs.Machines.{Machine}

-- an answer, the call to which it is given, and the index of the entry that gives it
pub record Given : Type 0 where
  pub index : ℕ
  pub call : Invocation
  pub answer : Answer

abbrev pub given_at : ℕ → Invocation × Answer → Given
given_at index told = record { index = index; call = told.0; answer = told.1 }

abbrev pub rest_of : Read ℕ SnapshotHead → List ℕ
rest_of (Ok read) = read.1
rest_of (Err left) = []

-- the machine's bytes in a snapshot, which stand behind its head
unfoldable pub machine_in : List ℕ → List ℕ
machine_in snapshot = rest_of (head_grammar.reading snapshot)

-- the entries of the log behind one index up to another, neither of which is below the base
abbrev pub entries_between : PersistentState → ℕ → ℕ → List LogEntry
entries_between p after upto = drop (after - p.base) (take (upto - p.base) p.log)

module _ {V : Type 0} (m : Machine V) where
  -- what entries from this index on leave
  abbrev pub view_after : ℕ → List LogEntry → V → V
  view_after index [] view = view
  view_after index (e ∷ entries) view = view_after (suc index) entries (m.step view index e.bytes).view

  -- the answers that they give
  abbrev pub answers_of : ℕ → List LogEntry → V → List Given
  answers_of index [] view = []
  answers_of index (e ∷ entries) view = map (given_at index) (m.step view index e.bytes).answers ++ answers_of (suc index) entries (m.step view index e.bytes).view

  -- what a snapshot at this base restores, or the place at which its machine's bytes fail; at 0 there is none
  abbrev pub restored_at : ℕ → List ℕ → Result V ℕ
  restored_at base snapshot = if base == 0 then Ok m.first else m.restored (machine_in snapshot)

  abbrev pub or_first : Result V ℕ → V
  or_first (Ok view) = view
  or_first (Err place) = m.first

  -- the view at the base
  abbrev pub base_view : PersistentState → V
  base_view p = or_first (restored_at p.base p.snapshot)

  -- the view where this much is committed
  abbrev pub view_at : PersistentState → ℕ → V
  view_at p commit = view_after (suc p.base) (take (commit - p.base) p.log) (base_view p)

-- Fences of a lock over a history.
use Rattle.std.specs.Prelude.{◌≡◌, ℕ, ◌<◌, ◌≤◌, ◌⊎◌, false, List, Some, slice_get, Contains}
use Rattle.cp_base.specs.declared.identifier.Invocation.{Invocation}
use Rattle.cp_op_values.specs.declared.kind.Kind.TheVariants as kind
use Rattle.cp_ops.specs.declared.op.Op.{Op}
use Rattle.cp_ops.specs.declared.entry.Entry.TheVariants as entry
use Rattle.cp_answers.specs.declared.answer.Answer.{Answer}
use Rattle.cp_answers.specs.declared.answer.Answer.TheVariants as answer
use Rattle.cp_group_state.specs.Rows.{Named}
use Rattle.cp_group_state.specs.Locks.{LockRow, lock_at, is_free}
use Rattle.cp_group_state.specs.Destroying.{object_of}
use Rattle.cp_group_state.specs.Protected.{session_in}
use Rattle.cp_group_state.specs.History.{History, IsGivenAt, state_before}

-- one owner under one fence
abbrev pub IsSameHold : LockRow → LockRow → Type 0
IsSameHold a b = (b.holder ≡ a.holder) × (b.fence ≡ a.fence)

-- The rows of locks at each moment.
module _ (locks : ℕ → Named LockRow) where
  -- the lock of this name at a moment
  abbrev pub lock_then : List ℕ → ℕ → LockRow
  lock_then name moment = lock_at (locks moment) name

  abbrev pub IsHeldThen : List ℕ → ℕ → Type 0
  IsHeldThen name moment = is_free (lock_at (locks moment) name) ≡ false

  -- one hold lasts from a moment to a later one: at each moment between them the lock is held, by one owner under one fence
  abbrev pub IsOneHold : List ℕ → ℕ → ℕ → Type 0
  IsOneHold name j k = (moment : ℕ) → j ≤ moment → moment ≤ k → IsHeldThen name moment × IsSameHold (lock_then name j) (lock_then name moment)

  -- Of two holds of one lock the later has the greater fence: where a lock is held at two moments, one hold lasts from the
  -- one to the other, or the later fence is greater. So also where one thread gives a lock back and gets it again.
  abbrev pub HoldsRise : Type 0
  HoldsRise = (j k : ℕ) (name : List ℕ) → j ≤ k → IsHeldThen name j → IsHeldThen name k
      → IsOneHold name j k ⊎ ((lock_then name j).fence < (lock_then name k).fence)

  -- each lock has one row, and so one owner at most
  abbrev pub HaveOneOwner : Type 0
  HaveOneOwner = (moment j k : ℕ) (a b : List ℕ × LockRow) → slice_get (locks moment) j ≡ Some a → slice_get (locks moment) k ≡ Some b → a.0 ≡ b.0 → j ≡ k

-- the rows of locks once so many entries were applied
abbrev pub locks_of : History → ℕ → Named LockRow
locks_of history moment = (state_before history moment).locks

abbrev pub FencesRise : History → Type 0
FencesRise history = HoldsRise (locks_of history)

abbrev pub LocksHaveOneOwner : History → Type 0
LocksHaveOneOwner history = HaveOneOwner (locks_of history)

-- the call asks for this lock, in this session
abbrev pub IsAskedFor : History → Invocation → List ℕ → ℕ → Type 0
IsAskedFor history call name session = (o : Op) × Contains history (entry.Call call o) × (object_of o ≡ Some (name, kind.Lock)) × (session_in o ≡ Some session)

-- the call names this lock
abbrev pub IsNamedBy : History → Invocation → List ℕ → Type 0
IsNamedBy history call name = (o : Op) × Contains history (entry.Call call o) × (object_of o ≡ Some (name, kind.Lock))

-- A fence that is answered to a call is that of the lock which it asks for, and which its thread holds in its session. Who
-- asks for the owner of a lock is told the owner and the fence of its hold.
abbrev pub IsHeldUnder : History → Named LockRow → Invocation → Answer → Type 0
IsHeldUnder history locks call (answer.Fence f) = (name : List ℕ) × (session : ℕ) × IsAskedFor history call name session × (is_free (lock_at locks name) ≡ false)
    × ((lock_at locks name).holder ≡ record { session = session; thread = call.thread }) × ((lock_at locks name).fence ≡ f)
IsHeldUnder history locks call (answer.Held session thread holds f) = (name : List ℕ) × IsNamedBy history call name × (is_free (lock_at locks name) ≡ false)
    × ((lock_at locks name).holder ≡ record { session = session; thread = thread }) × ((lock_at locks name).holds ≡ holds) × ((lock_at locks name).fence ≡ f)
IsHeldUnder history locks call a = Unit {0}

-- an entry of a lower index gave this answer to the call
abbrev pub WasGivenBefore : History → ℕ → Invocation → Answer → Type 0
WasGivenBefore history index call a = (earlier : ℕ) × (earlier < index) × IsGivenAt history earlier call a

-- Each fence that is answered is that of a lock which is so held after the entry, or it was told to the call before. So is
-- what is told of the owner of a lock.
abbrev pub FencesStand : History → Type 0
FencesStand history = (index : ℕ) (call : Invocation) (a : Answer) → IsGivenAt history index call a
    → WasGivenBefore history index call a ⊎ IsHeldUnder history (locks_of history index) call a

-- What is promised of the locks of a history.
pub record HasFences (history : History) : Type 0 where
  -- of two holds of one lock the later has the greater fence
  pub rise : FencesRise history
  -- a lock has one owner at most
  pub one_owner : LocksHaveOneOwner history
  -- each fence that is answered is that of a hold
  pub stand : FencesStand history

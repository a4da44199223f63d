-- Which rows of a group's lists have a spelling.
use Rattle.std.specs.Prelude.{◌≡◌, ℕ, ◌-◌, ◌^◌, ◌≤◌, ℤ, pos, neg_ℤ, ◌≤ℤ◌, Bool, true, false, List, Option}
use Rattle.std.specs.List.{AllByRecursion}
use Rattle.cp_base.specs.declared.limits.TheConstants.{MOST_COUNT}
use Rattle.cp_base.specs.declared.identifier.Invocation.{Invocation}
use Rattle.cp_grammar.specs.Fields.{byte, at_least, signed, optional}
use Rattle.cp_grammar.specs.Common.{index, name, thread_no, client_id, invocation}
use Rattle.cp_op_values.specs.declared.kind.Kind.{Kind}
use Rattle.cp_op_values.specs.declared.kind.Kind.TheVariants as kind
use Rattle.cp_op_values.specs.Numbers.{any_u32, permits}
use Rattle.cp_op_values.specs.Values.{reference, key, value, kind_grammar}
use Rattle.cp_op_values.specs.Wishes.{wish_grammar}
use Rattle.cp_answers.specs.declared.answer.Answer.{Answer}
use Rattle.cp_answers.specs.Answers.{answer_grammar}
use Rattle.cp_group_state.specs.Rows.{Object}
use Rattle.cp_group_state.specs.declared.rows.Waiter.{Waiter}
use Rattle.cp_group_state.specs.declared.rows.MemoryRow.{MemoryRow}
use Rattle.cp_group_state.specs.declared.rows.SessionRow.{SessionRow}
use Rattle.cp_group_state.specs.declared.rows.LockRow.{LockRow}
use Rattle.cp_group_state.specs.declared.rows.SemaphoreRow.{SemaphoreRow}
use Rattle.cp_group_state.specs.declared.rows.LatchRow.{LatchRow}
use Rattle.cp_group_state.specs.Invariants.{IsHeldOrFree}

-- a session's number, its client, and its version
pub record SessionFits (e : ℕ × SessionRow) : Type 0 where
  pub number : index.Fits e.0
  pub client : client_id.Fits e.1.client
  pub version : index.Fits e.1.version

pub record LockFits (e : List ℕ × LockRow) : Type 0 where
  pub name : name.Fits e.0
  pub session : index.Fits e.1.holder.session
  pub thread : thread_no.Fits e.1.holder.thread
  pub fence : index.Fits e.1.fence
  pub holds : any_u32.Fits e.1.holds
  pub held_or_free : IsHeldOrFree e.1

abbrev pub is_semaphore : Kind → Bool
is_semaphore kind.Long = false
is_semaphore kind.Ref = false
is_semaphore kind.Lock = false
is_semaphore kind.Sem = true
is_semaphore kind.Jsem = true
is_semaphore kind.Latch = false
is_semaphore kind.Map = false

-- a number of permits, which may be below 0: from -2^31 to 2^31 - 1
pub record IsPermits (z : ℤ) : Type 0 where
  pub least : neg_ℤ (pos (2 ^ 31)) ≤ℤ z
  pub most : z ≤ℤ pos (2 ^ 31 - 1)

pub record SemaphoreFits (e : Object × SemaphoreRow) : Type 0 where
  pub name : name.Fits e.0.0
  pub kind : is_semaphore e.0.1 ≡ true
  pub total : IsPermits e.1.total
  pub available : IsPermits e.1.available

-- a session's permits of a semaphore, from 1
pub record HoldingFits (e : (ℕ × List ℕ) × ℕ) : Type 0 where
  pub session : index.Fits e.0.0
  pub name : name.Fits e.0.1
  pub permits : (at_least 1 permits).Fits e.1

pub record LatchFits (e : List ℕ × LatchRow) : Type 0 where
  pub name : name.Fits e.0
  pub round : index.Fits e.1.round
  pub count : e.1.count ≤ MOST_COUNT
  pub counted : AllByRecursion invocation.Fits e.1.counted

pub record LongFits (e : List ℕ × ℤ) : Type 0 where
  pub name : name.Fits e.0
  pub long : signed.Fits e.1

-- null, or at most 4,000 bytes
pub record RefFits (e : List ℕ × Option (List ℕ)) : Type 0 where
  pub name : name.Fits e.0
  pub reference : (reference 4000).Fits e.1

-- a pair of a map: a key of 1 to 64 bytes, and a value of at most 1,024
pub record PairFits (e : (List ℕ × List ℕ) × List ℕ) : Type 0 where
  pub name : name.Fits e.0.0
  pub key : key.Fits e.0.1
  pub value : value.Fits e.1

-- a destroyed object
pub record GoneFits (e : Object × Unit {0}) : Type 0 where
  pub name : name.Fits e.0.0
  pub kind : kind_grammar.Fits e.0.1

-- the kinds on which calls wait
abbrev pub can_wait : Kind → Bool
can_wait kind.Long = false
can_wait kind.Ref = false
can_wait kind.Lock = true
can_wait kind.Sem = true
can_wait kind.Jsem = true
can_wait kind.Latch = true
can_wait kind.Map = false

pub record WaiterFits (w : Waiter) : Type 0 where
  pub call : invocation.Fits w.call
  pub kind : can_wait w.kind ≡ true
  pub name : name.Fits w.name
  pub session : index.Fits w.session
  pub permits : permits.Fits w.permits
  pub wish : wish_grammar.Fits w.wish

-- a thread of a session, the number of its last call, and that call's answer where it doesn't wait
pub record MemoryFits (e : (ℕ × ℕ) × MemoryRow) : Type 0 where
  pub session : index.Fits e.0.0
  pub thread : (byte 8).Fits e.0.1
  pub number : index.Fits e.1.number
  pub answer : (optional answer_grammar).Fits e.1.answer

-- an answer, and the call that it is for
abbrev pub AnswerFits : Invocation × Answer → Type 0
AnswerFits told = invocation.Fits told.0 × answer_grammar.Fits told.1

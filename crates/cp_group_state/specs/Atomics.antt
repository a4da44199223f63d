-- Longs and references: an absent long is 0, an absent reference is null.
use Rattle.std.specs.Prelude.{ℕ, ℤ, pos, Bool, true, false, List, Option, Some, None, if◌then◌else◌, unwrap_or, bytes_eq}
use Rattle.std.specs.Ordering.{int_eq}
use Rattle.std.specs.Int.{int_wrapping_add, w64}
use Rattle.cp_answers.specs.declared.answer.Answer.{Answer}
use Rattle.cp_answers.specs.declared.answer.Answer.TheVariants as answer
use Rattle.cp_object_ops.specs.declared.long_op.LongOp.{LongOp}
use Rattle.cp_object_ops.specs.declared.long_op.LongOp.TheVariants as long
use Rattle.cp_object_ops.specs.declared.ref_op.RefOp.{RefOp}
use Rattle.cp_object_ops.specs.declared.ref_op.RefOp.TheVariants as ref
use Rattle.cp_group_state.specs.Rows.{Named, find, put, has_room, most, name_cmp}

-- the rows after a call on one value, and its answer
pub record AtomicStep (X : Type 0) : Type 0 where
  pub after : Named X
  pub answer : Answer

-- a call that sets makes a row, where there is room
abbrev pub set_value : {X : Type 0} → Named X → List ℕ → Option X → Answer → AtomicStep X
set_value rows name None a = record { after = rows; answer = a }
set_value rows name (Some x) a = if has_room name_cmp most rows name
    then record { after = put name_cmp rows name x; answer = a }
    else record { after = rows; answer = answer.TableFull most }

-- the value that a call sets, if it does
abbrev pub long_set : ℤ → LongOp → Option ℤ
long_set now long.Get = None
long_set now (long.Set x) = Some x
long_set now (long.GetSet x) = Some x
long_set now (long.Add x) = Some (int_wrapping_add w64 now x)
long_set now (long.GetAdd x) = Some (int_wrapping_add w64 now x)
long_set now (long.Cas old x) = if int_eq now old then Some x else None

abbrev pub long_answer : ℤ → LongOp → Answer
long_answer now long.Get = answer.Value now
long_answer now (long.Set x) = answer.Ok
long_answer now (long.GetSet x) = answer.Value now
long_answer now (long.Add x) = answer.Value (int_wrapping_add w64 now x)
long_answer now (long.GetAdd x) = answer.Value now
long_answer now (long.Cas old x) = answer.Bool (int_eq now old)

abbrev pub long_at : Named ℤ → List ℕ → ℤ
long_at rows name = unwrap_or (find name_cmp rows name) (pos 0)

abbrev pub long_step : Named ℤ → List ℕ → LongOp → AtomicStep ℤ
long_step rows name op = set_value rows name (long_set (long_at rows name) op) (long_answer (long_at rows name) op)

abbrev pub same_value : Option (List ℕ) → Option (List ℕ) → Bool
same_value None None = true
same_value None (Some b) = false
same_value (Some a) None = false
same_value (Some a) (Some b) = bytes_eq a b

abbrev pub ref_set : Option (List ℕ) → RefOp → Option (Option (List ℕ))
ref_set now ref.Get = None
ref_set now (ref.Set x) = Some x
ref_set now (ref.GetSet x) = Some x
ref_set now (ref.Cas old x) = if same_value now old then Some x else None
ref_set now (ref.Contains x) = None

abbrev pub ref_answer : Option (List ℕ) → RefOp → Answer
ref_answer now ref.Get = answer.Ref now
ref_answer now (ref.Set x) = answer.Ok
ref_answer now (ref.GetSet x) = answer.Ref now
ref_answer now (ref.Cas old x) = answer.Bool (same_value now old)
ref_answer now (ref.Contains x) = answer.Bool (same_value now x)

abbrev pub ref_at : Named (Option (List ℕ)) → List ℕ → Option (List ℕ)
ref_at rows name = unwrap_or (find name_cmp rows name) None

abbrev pub ref_step : Named (Option (List ℕ)) → List ℕ → RefOp → AtomicStep (Option (List ℕ))
ref_step rows name op = set_value rows name (ref_set (ref_at rows name) op) (ref_answer (ref_at rows name) op)

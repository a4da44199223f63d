-- Reading latches, and how many counted calls they have so far.
use Rattle.std.proofs.Common.{◌≡◌, ℕ, ◌+◌, ◌-◌, ◌≤◌, List, [], ◌∷◌, ◌++◌, length, Result, Ok, Err, arith}
use Rattle.std.specs.Prelude.{IfOk}
use Rattle.std.specs.Borrow.{Bor}
use Rattle.std.specs.List.{AllByRecursion}
use Rattle.cp_base.specs.declared.identifier.Invocation.{Invocation}
use Rattle.cp_codec.specs.Exact.{IsByte}
use Rattle.cp_grammar.specs.declared.stop.Stop.{Stop}
use Rattle.cp_grammar.specs.Readers.{Reads}
use Rattle.cp_group_state.specs.declared.rows.LatchRow.{LatchRow}
use Rattle.cp_group_state.specs.Latches.{counted_calls, most_counted}
use Rattle.cp_state_bytes.specs.Rows.{counted_list}
use Rattle.cp_state_bytes.specs.RowLaws.{counted_list_lawful}
use Rattle.cp_state_bytes.proofs.Facts.{counted_push}

few : (so_far : ℕ) (calls : List Invocation) → (counted_list so_far).Fits calls → length calls ≤ most_counted - so_far
unfolding counted_list
few so_far calls h = h.0

pub few_read : (so_far : ℕ) (bytes : List ℕ) (r : Result (List Invocation × Bor (List ℕ)) Stop) → AllByRecursion IsByte bytes → Reads r ((counted_list so_far).reading bytes) → IfOk r (λ x. length x.0 ≤ most_counted - so_far)
few_read so_far bytes (Ok x) good reads = few so_far x.0 ((counted_list_lawful so_far).takes bytes x.0 x.1.now good reads).1
few_read so_far bytes (Err e) good reads = tt

pub more_counted : (before after : List (List ℕ × LatchRow)) (e : List ℕ × LatchRow) (so_far next : ℕ) → so_far ≡ counted_calls before → next ≡ so_far + length e.1.counted → after ≡ before ++ e ∷ [] → next ≡ counted_calls after
more_counted before after e so_far next was is push = rw push (omega (arith, counted_push before [] e))

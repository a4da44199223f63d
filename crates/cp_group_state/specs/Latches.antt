-- Countdown latches in rounds.
use Rattle.std.specs.Prelude.{ℕ, ◌+◌, ◌-◌, pos, Bool, true, false, not, ◌||◌, ◌==◌, List, [], ◌∷◌, ◌++◌, length, map, min, sum, Option, Some, None, if◌then◌else◌, nat_lt}
use Rattle.std.specs.List.{list_any}
use Rattle.cp_base.specs.declared.identifier.Invocation.{Invocation}
use Rattle.cp_base.specs.declared.limits.TheConstants.{LAST_NUMBER, MOST_COUNTED}
use Rattle.cp_answers.specs.declared.answer.Answer.{Answer}
use Rattle.cp_answers.specs.declared.answer.Answer.TheVariants as answer
use Rattle.cp_object_ops.specs.declared.latch_op.LatchOp.{LatchOp}
use Rattle.cp_object_ops.specs.declared.latch_op.LatchOp.TheVariants as latch
use Rattle.cp_group_state.specs.Rows.{Named, find, put, has_room, most, name_cmp}
use Rattle.cp_group_state.specs.Waiters.{same_call}
pub use Rattle.cp_group_state.specs.declared.rows.LatchRow.{LatchRow}
pub use Rattle.cp_group_state.specs.declared.outcome.LatchOutcome.{LatchOutcome}
pub use Rattle.cp_group_state.specs.declared.outcome.LatchOutcome.TheVariants.{Done, Wants, Opened}

abbrev pub new_latch : LatchRow
new_latch = record { round = 0; count = 0; counted = [] }

abbrev pub or_new : Option LatchRow → LatchRow
or_new None = new_latch
or_new (Some row) = row

abbrev pub latch_at : Named LatchRow → List ℕ → LatchRow
latch_at rows name = or_new (find name_cmp rows name)

abbrev pub is_counted : Invocation → LatchRow → Bool
is_counted call row = list_any (λ c. same_call call c) row.counted

-- the counted calls of all latches together
abbrev pub counted_calls : Named LatchRow → ℕ
counted_calls rows = sum (map (λ e. length e.1.counted) rows)

abbrev pub most_counted : ℕ
most_counted = MOST_COUNTED

-- the rows after a call, and what it leads to
pub record LatchStep : Type 0 where
  pub after : Named LatchRow
  pub outcome : LatchOutcome

abbrev pub next_round : LatchRow → ℕ → LatchRow
next_round row n = record { round = min (row.round + 1) LAST_NUMBER; count = n; counted = [] }

abbrev pub set_latch : Named LatchRow → List ℕ → LatchRow → ℕ → LatchStep
set_latch rows name row n = if row.count == 0
    then (if has_room name_cmp most rows name
    then record { after = put name_cmp rows name (next_round row n); outcome = Done (answer.Bool true) }
    else record { after = rows; outcome = Done (answer.TableFull most) })
    else record { after = rows; outcome = Done (answer.Bool false) }

abbrev pub counted_down : Invocation → LatchRow → LatchRow
counted_down call row = record row { count = row.count - 1; counted = row.counted ++ call ∷ [] }

-- whether this count down changes nothing: its round is over or its call was counted
abbrev pub is_over : Invocation → ℕ → LatchRow → Bool
is_over call round row = not (round == row.round) || ((row.count == 0) || is_counted call row)

abbrev pub count_down : Named LatchRow → List ℕ → Invocation → ℕ → LatchRow → LatchStep
count_down rows name call round row = if is_over call round row
    then record { after = rows; outcome = Done answer.Ok }
    else if nat_lt (counted_calls rows) most_counted
    then record { after = put name_cmp rows name (counted_down call row); outcome = if row.count == 1 then Opened else Done answer.Ok }
    else record { after = rows; outcome = Done (answer.TableFull most_counted) }

abbrev pub latch_step_at : Named LatchRow → List ℕ → Invocation → LatchOp → LatchRow → LatchStep
latch_step_at rows name call latch.Count row = record { after = rows; outcome = Done (answer.Value (pos row.count)) }
latch_step_at rows name call latch.Round row = record { after = rows; outcome = Done (answer.Value (pos row.round)) }
latch_step_at rows name call (latch.Set n) row = set_latch rows name row n
latch_step_at rows name call (latch.Down round) row = count_down rows name call round row
latch_step_at rows name call (latch.Await millis) row =
    record { after = rows; outcome = if row.count == 0 then Done (answer.Bool true) else Wants }

abbrev pub latch_step : Named LatchRow → List ℕ → Invocation → LatchOp → LatchStep
latch_step rows name call op = latch_step_at rows name call op (latch_at rows name)

-- What a call on the latch of a name meets, and what it does to the rows.
use Rattle.std.specs.Prelude.{◌≡◌, ◌≤◌, ◌+◌, All, ℕ, Bool, true, false, ◌==◌, List, length, None, is_some, if◌then◌else◌}
use Rattle.cp_base.specs.declared.limits.TheConstants.{LAST_NUMBER}
use Rattle.cp_base.specs.declared.identifier.Invocation.{Invocation}
use Rattle.cp_group_state.specs.Rows.{Named, find, put, has_room, most, name_cmp}
use Rattle.cp_group_state.specs.declared.outcome.LatchOutcome.TheVariants.{Done}
use Rattle.cp_group_state.specs.Latches.{LatchStep, latch_at, counted_calls, next_round, counted_down, is_over}
use Rattle.cp_group_state.specs.declared.rows.LatchRow.{LatchRow}
use Rattle.cp_answers.specs.declared.answer.Answer.TheVariants as answer
use Rattle.cp_latch.specs.declared.rounds.Begun.{Begun}
use Rattle.cp_latch.specs.declared.rounds.Begun.TheVariants as begun
use Rattle.cp_latch.specs.declared.rounds.Down.{Down}
use Rattle.cp_latch.specs.declared.rounds.Down.TheVariants as down

-- no round is beyond the greatest
abbrev pub AreRounds : Named LatchRow → Type 0
AreRounds rows = All (λ e. e.1.round ≤ LAST_NUMBER) rows

-- the row of a latch that had none, where there is room
abbrev pub with_row : Named LatchRow → List ℕ → LatchRow → LatchStep
with_row rows name row = if has_room name_cmp most rows name
    then record { after = put name_cmp rows name row; outcome = Done (answer.Bool true) }
    else record { after = rows; outcome = Done (answer.TableFull most) }

-- a round begins where the count is 0
abbrev pub IsBegun : Begun → ℕ → LatchRow → LatchRow → Type 0
IsBegun begun.NoRow n old new = ⊥
IsBegun begun.Counting n old new = ((old.count == 0) ≡ false) × (new ≡ old)
IsBegun (begun.Forgotten calls) n old new = ((old.count == 0) ≡ true) × (new ≡ next_round old n) × (calls ≡ length old.counted)

-- the same at the latch of a name; so many calls are counted no more
abbrev pub IsBegunIn : Begun → List ℕ → ℕ → Named LatchRow → Named LatchRow → Type 0
IsBegunIn begun.NoRow name n old new = (find name_cmp old name ≡ None) × (new ≡ old)
IsBegunIn begun.Counting name n old new = (((latch_at old name).count == 0) ≡ false) × (new ≡ old)
IsBegunIn (begun.Forgotten calls) name n old new = (is_some (find name_cmp old name) ≡ true) × (((latch_at old name).count == 0) ≡ true)
    × (new ≡ put name_cmp old name (next_round (latch_at old name) n)) × (counted_calls new + calls ≡ counted_calls old)

-- a call is counted where its round goes on and there is room
abbrev pub IsDown : Down → Invocation → ℕ → Bool → LatchRow → LatchRow → Type 0
IsDown down.Over call round room old new = (is_over call round old ≡ true) × (new ≡ old)
IsDown down.Full call round room old new = (is_over call round old ≡ false) × (room ≡ false) × (new ≡ old)
IsDown (down.Counted opens) call round room old new = (is_over call round old ≡ false) × (room ≡ true) × (new ≡ counted_down call old) × (opens ≡ (old.count == 1))

-- the same at the latch of a name; one call more is counted
abbrev pub IsDownIn : Down → List ℕ → Invocation → ℕ → Bool → Named LatchRow → Named LatchRow → Type 0
IsDownIn down.Over name call round room old new = (is_over call round (latch_at old name) ≡ true) × (new ≡ old)
IsDownIn down.Full name call round room old new = (is_over call round (latch_at old name) ≡ false) × (room ≡ false) × (new ≡ old)
IsDownIn (down.Counted opens) name call round room old new = (is_over call round (latch_at old name) ≡ false) × (room ≡ true)
    × (new ≡ put name_cmp old name (counted_down call (latch_at old name))) × (opens ≡ ((latch_at old name).count == 1)) × (counted_calls new ≡ counted_calls old + 1)

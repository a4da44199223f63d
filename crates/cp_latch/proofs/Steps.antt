-- What a call does to the row of a latch that is there is done to the rows.
use Rattle.std.proofs.Common.{◌≡◌, ℕ, ◌+◌, ◌<◌, Bool, true, false, not, ◌||◌, List, [], Some, None, ◌∷◌, ◌++◌, ◌≤◌, ◌^◌, refl, ap, sym, ◌∙◌, subst, append_assoc, arith, length}
use Rattle.std.specs.Prelude.{◌==◌, nat_lt, is_some, Result, Ok, Err, OnErr, IfOk}
use Rattle.std.specs.BTreeMap.{is_at}
use Rattle.std.specs.Map as map
use Rattle.std.specs.Map.{keys_of}
use Rattle.std.specs.List.Sorted.{IsStrictlySortedBy}
use Rattle.std.proofs.lemmas.Map.Steps.{set_value_same}
use Rattle.std.proofs.lemmas.Bool.Decides.{nat_tests}
use Rattle.std.proofs.lemmas.List.Elements.{All-head, All-tail, All-cons, All-nil}
use Rattle.std.proofs.lemmas.Cmp.{nat_list_cmp_total}
use Rattle.std.proofs.lemmas.List.{length-append}
use Rattle.cp_answers.specs.declared.answer.Answer.TheVariants as answer
use Rattle.cp_base.specs.declared.identifier.Invocation.{Invocation}
use Rattle.cp_group_state.specs.Rows.{Named, find, put, most, name_cmp}
use Rattle.cp_group_state.specs.Invariants.{IsRising}
use Rattle.cp_group_state.specs.declared.outcome.LatchOutcome.TheVariants.{Done}
use Rattle.cp_group_state.specs.Latches.{set_latch, or_new, latch_at, new_latch, counted_calls, next_round, counted_down, is_over, is_counted}
use Rattle.cp_group_state.specs.declared.rows.LatchRow.{LatchRow}
use Rattle.cp_latch.specs.declared.rounds.Begun.{Begun}
use Rattle.cp_latch.specs.declared.rounds.Begun.TheVariants as begun
use Rattle.cp_latch.specs.declared.rounds.Down.{Down}
use Rattle.cp_latch.specs.declared.rounds.Down.TheVariants as down
use Rattle.cp_latch.specs.Rounds.{AreRounds, with_row, IsBegun, IsBegunIn, IsDown, IsDownIn}
use Rattle.cp_rows.proofs.Ordered.{put_there}
use Rattle.cp_rows.proofs.Changes.{rises_one}
use Rattle.cp_latch.proofs.Totals.{calls_written, same_total}

-- the row under a name, and the rows with another one written there
record Written (rows next : Named LatchRow) (name : List ℕ) (old new : LatchRow) : Type 0 where
  here : latch_at rows name ≡ old
  kept : new ≡ old → next ≡ rows
  put : next ≡ put name_cmp rows name new
  total : counted_calls next + length old.counted ≡ counted_calls rows + length new.counted

written : (rows next : Named LatchRow) (name : List ℕ) (old new : LatchRow) → IsRising name_cmp rows → find name_cmp rows name ≡ Some old → next ≡ map.set_value (is_at (name_cmp name)) rows new → Written rows next name old new
written rows next name old new rising there wrote = record {
  here = ap or_new there;
  kept = λ same. wrote ∙ ap (map.set_value (is_at (name_cmp name)) rows) same ∙ set_value_same (is_at (name_cmp name)) rows old there;
  put = wrote ∙ put_there name_cmp nat_list_cmp_total rows name old new rising there;
  total = let all : counted_calls next ≡ counted_calls (map.set_value (is_at (name_cmp name)) rows new) = ap counted_calls wrote in
      omega (arith, all, calls_written (is_at (name_cmp name)) rows old new there);
}

pub begun_in : (rows next : Named LatchRow) (name : List ℕ) (n : ℕ) (old new : LatchRow) (b : Begun) → IsRising name_cmp rows → find name_cmp rows name ≡ Some old → IsBegun b n old new
    → next ≡ map.set_value (is_at (name_cmp name)) rows new → IsBegunIn b name n rows next
begun_in rows next name n old new begun.NoRow rising there is wrote = absurd is
begun_in rows next name n old new begun.Counting rising there is wrote = let w = written rows next name old new rising there wrote in
    (ap (λ r. r.count == 0) w.here ∙ is.0, w.kept is.1)
begun_in rows next name n old new (begun.Forgotten calls) rising there is wrote = let w = written rows next name old new rising there wrote in
    let none : length new.counted ≡ 0 = ap (λ (r : LatchRow). length r.counted) is.1 in
    (ap is_some there, ap (λ r. r.count == 0) w.here ∙ is.0, w.put ∙ ap (put name_cmp rows name) (is.1 ∙ ap (λ r. next_round r n) (sym w.here)), omega (arith, w.total, none, is.2))

down_in_row : (rows next : Named LatchRow) (name : List ℕ) (call : Invocation) (round : ℕ) (room : Bool) (old new : LatchRow) (d : Down) → Written rows next name old new → IsDown d call round room old new → IsDownIn d name call round room rows next
down_in_row rows next name call round room old new down.Over w is = (ap (is_over call round) w.here ∙ is.0, w.kept is.1)
down_in_row rows next name call round room old new down.Full w is = (ap (is_over call round) w.here ∙ is.0, is.1, w.kept is.2)
down_in_row rows next name call round room old new (down.Counted opens) w is =
    let more : length new.counted ≡ length old.counted + 1 = ap (λ (r : LatchRow). length r.counted) is.2 ∙ length-append old.counted _ in
    (ap (is_over call round) w.here ∙ is.0, is.1, w.put ∙ ap (put name_cmp rows name) (is.2 ∙ ap (counted_down call) (sym w.here)), is.3 ∙ ap (λ r. r.count == 1) (sym w.here), omega (arith, w.total, more))

pub down_in : {E : Type 0} (rows next : Named LatchRow) (name : List ℕ) (call : Invocation) (round : ℕ) (room : Bool) (old new : LatchRow) (r : Result Down E) → IsRising name_cmp rows → find name_cmp rows name ≡ Some old
    → next ≡ map.set_value (is_at (name_cmp name)) rows new → IfOk r (λ d. IsDown d call round room old new) → OnErr r (new ≡ old) → (IfOk r (λ d. IsDownIn d name call round room rows next)) × (OnErr r (next ≡ rows))
down_in rows next name call round room old new (Ok d) rising there wrote is kept = (down_in_row rows next name call round room old new d (written rows next name old new rising there wrote) is, tt)
down_in rows next name call round room old new (Err e) rising there wrote is kept = (tt, (written rows next name old new rising there wrote).kept kept)

or_over : (a c : Bool) → (a || (true || c)) ≡ true
or_over true c = refl
or_over false c = refl

-- a latch without a row counts nothing
pub over_absent : (rows : Named LatchRow) (name : List ℕ) (call : Invocation) (round : ℕ) → find name_cmp rows name ≡ None → is_over call round (latch_at rows name) ≡ true
over_absent rows name call round absent = ap (λ o. is_over call round (or_new o)) absent ∙ or_over (not (round == 0)) (is_counted call new_latch)

-- a latch that is there is set
pub set_there : (rows : Named LatchRow) (name : List ℕ) (row : LatchRow) (n : ℕ) → is_some (find name_cmp rows name) ≡ true → (row.count == 0) ≡ true
    → set_latch rows name row n ≡ record { after = put name_cmp rows name (next_round row n); outcome = Done (answer.Bool true) }
set_there rows name row n there over = rw (over, there) refl

-- a row that is made where there is room
pub made : (rows next : Named LatchRow) (name copy : List ℕ) (row : LatchRow) → find name_cmp rows name ≡ None → length rows < most → row.counted ≡ [] → copy ≡ name → next ≡ put name_cmp rows copy row
    → (next ≡ (with_row rows name row).after) × (Done (answer.Bool true) ≡ (with_row rows name row).outcome) × (counted_calls next ≡ counted_calls rows)
made rows next name copy row absent few fresh same put_in =
    let room : nat_lt (length rows) most ≡ true = grind (arith, nat_tests) in
    let here : next ≡ put name_cmp rows name row = put_in ∙ ap (λ k. put name_cmp rows k row) same in
    (here ∙ rw (absent, room) refl, rw (absent, room) refl, same_total rows next name row absent fresh here)

-- the first row to come goes behind those that stand
pub goes_behind : (stand next left rest rows : Named LatchRow) (e : List ℕ × LatchRow) → next ≡ stand ++ e ∷ [] → left ≡ e ∷ rest → stand ++ left ≡ rows → next ++ rest ≡ rows
goes_behind stand next left rest rows e put_in first all = ap (λ (r : Named LatchRow). r ++ rest) put_in ∙ append_assoc stand (e ∷ []) rest ∙ ap (λ (r : Named LatchRow). stand ++ r) (sym first) ∙ all

pub first_round_fits : (left rest : Named LatchRow) (e : List ℕ × LatchRow) → AreRounds left → left ≡ e ∷ rest → e.1.round ≤ 2 ^ 62
first_round_fits left rest e fit first = All-head (λ (x : List ℕ × LatchRow). x.1.round ≤ 2 ^ 62) e rest (subst (λ r. AreRounds r) first fit)

pub other_rounds_fit : (left rest : Named LatchRow) (e : List ℕ × LatchRow) → AreRounds left → left ≡ e ∷ rest → AreRounds rest
other_rounds_fit left rest e fit first = All-tail (λ (x : List ℕ × LatchRow). x.1.round ≤ 2 ^ 62) e rest (subst (λ r. AreRounds r) first fit)

-- one row rises
pub one_rises : (rows : Named LatchRow) (e : List ℕ × LatchRow) → rows ≡ e ∷ [] → IsStrictlySortedBy name_cmp (keys_of rows)
one_rises rows e one = rises_one name_cmp [] rows e refl one

pub one_fits : (rows : Named LatchRow) (e : List ℕ × LatchRow) → rows ≡ e ∷ [] → e.1.round ≤ 2 ^ 62 → AreRounds rows
one_fits rows e one fits = subst (λ r. AreRounds r) (sym one) (All-cons (λ (x : List ℕ × LatchRow). x.1.round ≤ 2 ^ 62) e [] fits (All-nil (λ (x : List ℕ × LatchRow). x.1.round ≤ 2 ^ 62)))

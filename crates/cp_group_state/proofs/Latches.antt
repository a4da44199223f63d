-- Count downs that are over stay so, and one that was not refused is over.
use Rattle.std.proofs.Common.{◌≡◌, ℕ, ◌+◌, ◌-◌, ◌^◌, ◌<◌, ◌≤◌, ◌⊎◌, inl, inr, Bool, true, false, not, ◌||◌, List, [], ◌∷◌, ◌++◌, refl, sym, subst, arith, min}
use Rattle.std.specs.Prelude.{◌==◌, nat_lt}
use Rattle.std.proofs.lemmas.Bool.Decides.{nat_tests}
use Rattle.std.specs.List.{list_any}
use Rattle.std.specs.BTreeMap.{is_at}
use Rattle.cp_base.specs.declared.identifier.Invocation.{Invocation}
use Rattle.cp_base.proofs.Tests.{number_itself}
use Rattle.cp_answers.specs.declared.answer.Answer.TheVariants as answer
use Rattle.cp_object_ops.specs.declared.latch_op.LatchOp.{LatchOp}
use Rattle.cp_object_ops.specs.declared.latch_op.LatchOp.TheVariants as latch
use Rattle.cp_group_state.specs.Rows.{put, has_room, most, name_cmp}
use Rattle.cp_group_state.specs.Waiters.{same_call}
use Rattle.cp_group_state.specs.Latches.{LatchRow, LatchStep, Done, latch_at, is_over, is_counted, counted_down, next_round, latch_step, counted_calls, most_counted}
use Rattle.cp_group_state.proofs.Keyed.{client-itself, equal_is, find-put_same, find-put_other, name_key}
use Rattle.cp_group_state.proofs.Walk.{cases, either}
use Rattle.cp_group_state.proofs.Grows.{Over}

pub apart_test : (a b : ℕ) → a < b → (a == b) ≡ false
apart_test a b h = grind (arith, nat_tests)

pub same_call_itself : (call : Invocation) → same_call call call ≡ true
same_call_itself call = rw (client-itself call.client, number_itself call.thread.0, number_itself call.number)

put-at : (rows : List (List ℕ × LatchRow)) (name : List ℕ) (row : LatchRow) → latch_at (put name_cmp rows name row) name ≡ row
put-at rows name row = rw (find-put_same name_cmp name_key rows name row)

over-put : (rows : List (List ℕ × LatchRow)) (name : List ℕ) (row : LatchRow) (q : List ℕ) (call : Invocation) (round : ℕ) → Over rows q call round
    → (Over rows name call round → (round ≤ row.round) × (is_over call round row ≡ true)) → Over (put name_cmp rows name row) q call round
over-put rows name row q call round over at = by (is_at (name_cmp q) name) refl where
  by : (b : Bool) → is_at (name_cmp q) name ≡ b → Over (put name_cmp rows name row) q call round
  by true e = let same : q ≡ name = name_key.same q name (equal_is _ e) in
      let here : Over rows name call round = subst (λ y. Over rows y call round) same over in
      subst (λ y. Over (put name_cmp rows name row) y call round) (sym same) (rw (put-at rows name row) (at here))
  by false e = rw (find-put_other name_cmp name_key rows name q row e) over

next-over : (row : LatchRow) (n : ℕ) (call : Invocation) (round : ℕ) → row.round < 2 ^ 62 → round ≤ row.round → (round ≤ (next_round row n).round) × (is_over call round (next_round row n) ≡ true)
next-over row n call round few h = let more : round < min (row.round + 1) (2 ^ 62) = omega arith in (omega arith, rw (apart_test round (min (row.round + 1) (2 ^ 62)) more))

kept_or : (a b c d e : Bool) → b ≡ false → (c ≡ true → e ≡ true) → (a || (b || c)) ≡ true → (a || (d || e)) ≡ true
kept_or true b c d e f g h = refl
kept_or false true c d e f g h = cc
kept_or false false c true e f g h = refl
kept_or false false c false e f g h = g h

any-more : (call added : Invocation) (cs : List Invocation) → list_any (λ c. same_call call c) cs ≡ true → list_any (λ c. same_call call c) (cs ++ added ∷ []) ≡ true
any-more call added [] h = cc
any-more call added (c ∷ cs) h = by (same_call call c) refl h (any-more call added cs) where
  by : (b : Bool) → same_call call c ≡ b → (b || list_any (λ c. same_call call c) cs) ≡ true → (list_any (λ c. same_call call c) cs ≡ true → list_any (λ c. same_call call c) (cs ++ added ∷ []) ≡ true) → list_any (λ c. same_call call c) ((c ∷ cs) ++ added ∷ []) ≡ true
  by true e k rest = rw e
  by false e k rest = rw e (rest k)

pub any-last : (call : Invocation) (cs : List Invocation) → list_any (λ c. same_call call c) (cs ++ call ∷ []) ≡ true
any-last call [] = rw (same_call_itself call)
any-last call (c ∷ cs) = by (same_call call c) (any-last call cs) where
  by : (b : Bool) → list_any (λ c. same_call call c) (cs ++ call ∷ []) ≡ true → (b || list_any (λ c. same_call call c) (cs ++ call ∷ [])) ≡ true
  by true rest = refl
  by false rest = rest

not_over_count : (a b c : Bool) → (a || (b || c)) ≡ false → b ≡ false
not_over_count true b c h = cc
not_over_count false true c h = cc
not_over_count false false c h = refl

counted-over : (row : LatchRow) (added : Invocation) (now : ℕ) (call : Invocation) (round : ℕ) → is_over added now row ≡ false → (round ≤ row.round) × (is_over call round row ≡ true) → (round ≤ (counted_down added row).round) × (is_over call round (counted_down added row) ≡ true)
counted-over row added now call round not_over over = (over.0, kept_or (not (round == row.round)) (row.count == 0) (is_counted call row) (row.count - 1 == 0) (is_counted call (counted_down added row)) (not_over_count (not (now == row.round)) (row.count == 0) (is_counted added row) not_over) (any-more call added row.counted) over.1)

pub over-step : (rows : List (List ℕ × LatchRow)) (name : List ℕ) (by : Invocation) (o : LatchOp) (q : List ℕ) (call : Invocation) (round : ℕ) → (latch_at rows name).round < 2 ^ 62 → Over rows q call round → Over (latch_step rows name by o).after q call round
over-step rows name by latch.Count q call round few over = over
over-step rows name by latch.Round q call round few over = over
over-step rows name by (latch.Await millis) q call round few over = over
over-step rows name by (latch.Set n) q call round few over = let row = latch_at rows name in
    either (λ (r : LatchStep). Over r.after q call round) (row.count == 0) _ _
    (either (λ (r : LatchStep). Over r.after q call round) (has_room name_cmp most rows name) _ _
    (over-put rows name (next_round row n) q call round over (λ h. next-over row n call round few h.0)) over) over
over-step rows name by (latch.Down now) q call round few over = let row = latch_at rows name in
    cases (λ (r : LatchStep). Over r.after q call round) (is_over by now row) _ _ (λ e. over)
    (λ not_over. either (λ (r : LatchStep). Over r.after q call round) (nat_lt (counted_calls rows) most_counted) _ _
    (over-put rows name (counted_down by row) q call round over (λ h. counted-over row by now call round not_over h)) over)

-- a count down is over, or the latches are full and nothing changed
pub down-over : (rows : List (List ℕ × LatchRow)) (name : List ℕ) (call : Invocation) (round : ℕ) → round ≤ (latch_at rows name).round
    → ((latch_step rows name call (latch.Down round)).outcome ≡ Done (answer.TableFull most_counted)) ⊎ Over (latch_step rows name call (latch.Down round)).after name call round
down-over rows name call round reached = let row = latch_at rows name in
    cases (λ (r : LatchStep). (r.outcome ≡ Done (answer.TableFull most_counted)) ⊎ Over r.after name call round) (is_over call round row) _ _ (λ e. inr (reached, e))
    (λ not_over. either (λ (r : LatchStep). (r.outcome ≡ Done (answer.TableFull most_counted)) ⊎ Over r.after name call round) (nat_lt (counted_calls rows) most_counted) _ _
    (inr (rw (put-at rows name (counted_down call row)) (reached, last_or (not (round == row.round)) (row.count - 1 == 0) _ (any-last call row.counted)))) (inl refl))
  where
    last_or : (a b c : Bool) → c ≡ true → (a || (b || c)) ≡ true
    last_or true b c h = refl
    last_or false true c h = refl
    last_or false false c h = h

-- a count down that is over changes nothing and is answered Done
pub down-again : (rows : List (List ℕ × LatchRow)) (name : List ℕ) (call : Invocation) (round : ℕ) → Over rows name call round → latch_step rows name call (latch.Down round) ≡ record { after = rows; outcome = Done answer.Ok }
down-again rows name call round over = rw over.1

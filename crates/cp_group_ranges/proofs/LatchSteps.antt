-- Latches keep their ranges.
use Rattle.std.proofs.Common.{◌≡◌, ℕ, ◌+◌, ◌^◌, ◌<◌, ◌≤◌, Bool, true, false, not, ◌||◌, List, [], ◌∷◌, map, length, Some, None, Option, refl, arith, cond, is_some, length-append}
use Rattle.std.specs.Prelude.{◌==◌, nat_lt, min, pos}
use Rattle.std.specs.List.Sorted.{IsStrictlySortedBy}
use Rattle.std.specs.declared.cmp.Ordering.{Ordering}
use Rattle.std.specs.declared.cmp.Ordering.TheVariants.{Less, Equal, Greater}
use Rattle.std.specs.Ordering.{match_ordering, is_eq}
use Rattle.std.specs.BTreeMap.{is_at}
use Rattle.std.proofs.lemmas.Cmp.{nat_list_cmp_total}
use Rattle.std.proofs.lemmas.List.Sums.{sum_by-cons}
use Rattle.cp_base.specs.declared.identifier.Invocation.{Invocation}
use Rattle.cp_base.proofs.Tests.{no_true}
use Rattle.cp_grammar.specs.Common as spelled
use Rattle.cp_grammar.specs.Common.{invocation}
use Rattle.cp_object_ops.specs.declared.latch_op.LatchOp.{LatchOp}
use Rattle.cp_object_ops.specs.declared.latch_op.LatchOp.TheVariants as latch
use Rattle.cp_answers.specs.Answers.{answer_grammar}
use Rattle.cp_answers.specs.declared.answer.Answer.TheVariants as answer
use Rattle.cp_group_state.specs.declared.rows.LatchRow.{LatchRow}
use Rattle.cp_group_state.specs.Rows.{Named, find, put, without, has_room, most, name_cmp}
use Rattle.cp_group_state.specs.declared.outcome.LatchOutcome.{LatchOutcome}
use Rattle.cp_group_state.specs.declared.outcome.LatchOutcome.TheVariants.{Done, Wants, Opened}
use Rattle.cp_group_state.specs.Latches.{LatchStep, new_latch, or_new, latch_at, is_counted, counted_calls, most_counted, next_round, set_latch, counted_down, is_over, count_down, latch_step}
use Rattle.cp_group_state.specs.Invariants.{IsRising}
use Rattle.cp_group_state.proofs.Keyed.{name_key}
use Rattle.cp_group_state.proofs.Rising.{less-none, above-all}
use Rattle.cp_group_state.proofs.Walk.{cases, either}
use Rattle.cp_group_ranges.specs.Rows.{LatchFits}
use Rattle.cp_group_ranges.proofs.Listed.{Kept, kept-put, kept-there, kept-without, kept-or, each-append, test_less}
use Rattle.cp_group_ranges.proofs.Fitting.{index_fits, index_most, signed_natural, fits_ok, fits_bool, fits_value, fits_table_full}
use Rattle.cp_group_ranges.proofs.Parts.{LatchParts}

pub record LatchesKept (rows : Named LatchRow) : Type 0 where
  pub kept : Kept name_cmp LatchFits rows
  pub counted : counted_calls rows ≤ most_counted

-- ---- counted calls

counted-cons : (e : List ℕ × LatchRow) (es : Named LatchRow) → counted_calls (e ∷ es) ≡ length e.1.counted + counted_calls es
counted-cons e es = sum_by-cons (λ (n : ℕ). n) (length e.1.counted) (map (λ e. length e.1.counted) es)

counted-put : (rows : Named LatchRow) (n : List ℕ) (x : LatchRow) → IsRising name_cmp rows → counted_calls (put name_cmp rows n x) + length (latch_at rows n).counted ≡ counted_calls rows + length x.counted
unfolding IsStrictlySortedBy
counted-put [] n x r = let one = counted-cons (n, x) [] in omega (arith, one)
counted-put (e ∷ es) n x r = by (counted-put es n x r.1) (name_cmp n e.0) refl
  where
    by : counted_calls (put name_cmp es n x) + length (latch_at es n).counted ≡ counted_calls es + length x.counted → (o : Ordering) → name_cmp n e.0 ≡ o
        → counted_calls (match_ordering o ((n, x) ∷ e ∷ es) ((e.0, x) ∷ es) (e ∷ put name_cmp es n x)) + length (or_new (cond (is_eq o) (Some e.1) (find name_cmp es n))).counted ≡ counted_calls (e ∷ es) + length x.counted
    by rest Less i = let none : find name_cmp es n ≡ None = less-none name_cmp name_key nat_list_cmp_total n es (above-all name_cmp name_key nat_list_cmp_total n e.0 es i r.0) in
        let one = counted-cons (n, x) (e ∷ es) in rw none (omega (arith, one))
    by rest Equal i = let one = counted-cons (e.0, x) es in let was = counted-cons e es in omega (arith, one, was)
    by rest Greater i = let one = counted-cons e (put name_cmp es n x) in let was = counted-cons e es in omega (arith, one, was, rest)

counted-without : (rows : Named LatchRow) (n : List ℕ) → counted_calls (without name_cmp rows n) ≤ counted_calls rows
counted-without [] n = omega arith
counted-without (e ∷ es) n = let was = counted-cons e es in
    either (λ (r : Named LatchRow). counted_calls r ≤ counted_calls (e ∷ es)) (is_at (name_cmp n) e.0) es (e ∷ without name_cmp es n)
    (omega (arith, was)) (let one = counted-cons e (without name_cmp es n) in let rest = counted-without es n in omega (arith, one, was, rest))

-- ---- steps

new-fits : (n : List ℕ) → spelled.name.Fits n → LatchFits (n, new_latch)
new-fits n f = record { name = f; round = index_fits 0 (omega arith); count = omega arith; counted = tt }

latch-found : (rows : Named LatchRow) (n : List ℕ) → spelled.name.Fits n → LatchesKept rows → LatchFits (n, latch_at rows n)
latch-found rows n f h = kept-or name_cmp name_key nat_list_cmp_total LatchFits (λ (r : LatchRow). LatchFits (n, r)) rows n h.kept or_new (new-fits n f) (λ x p. p)

abbrev pub LatchSays : LatchOutcome → Type 0
LatchSays (Done a) = answer_grammar.Fits a
LatchSays Wants = Unit {0}
LatchSays Opened = Unit {0}

abbrev LatchStepFits : LatchStep → Type 0
LatchStepFits r = LatchesKept r.after × LatchSays r.outcome

or-over : (a b : Bool) → (a || (true || b)) ≡ false → ⊥
or-over true b e = no_true e
or-over false b e = no_true e

found-latch : (call : Invocation) (round : ℕ) (o : Option LatchRow) → is_over call round (or_new o) ≡ false → is_some o ≡ true
found-latch call round None e = absurd (or-over (not (round == 0)) (is_counted call new_latch) e)
found-latch call round (Some row) e = refl

kept-set : (rows : Named LatchRow) (n : List ℕ) (count : ℕ) → spelled.name.Fits n → count ≤ 10000 → LatchesKept rows → LatchStepFits (set_latch rows n (latch_at rows n) count)
kept-set rows n count f few h = let row = latch_at rows n in
    either LatchStepFits (row.count == 0) _ _
    (cases LatchStepFits (has_room name_cmp most rows n) _ _
    (λ room. (record { kept = kept-put name_cmp name_key nat_list_cmp_total LatchFits rows n (next_round row count) room next h.kept; counted = sum_less }, fits_bool true))
    (λ room. (h, fits_table_full most (omega arith))))
    (h, fits_bool false)
  where
    next : LatchFits (n, next_round (latch_at rows n) count)
    next = record { name = f; round = index_fits (min ((latch_at rows n).round + 1) (2 ^ 62)) (omega arith); count = few; counted = tt }

    sum_less : counted_calls (put name_cmp rows n (next_round (latch_at rows n) count)) ≤ most_counted
    sum_less = let sums = counted-put rows n (next_round (latch_at rows n) count) h.kept.rising in let was = h.counted in omega (arith, sums, was)

kept-down : (rows : Named LatchRow) (n : List ℕ) (call : Invocation) (round : ℕ) → spelled.name.Fits n → invocation.Fits call → LatchesKept rows → LatchStepFits (count_down rows n call round (latch_at rows n))
kept-down rows n call round f c h = let row = latch_at rows n in
    cases LatchStepFits (is_over call round row) _ _ (λ e. (h, fits_ok))
    (λ e. cases LatchStepFits (nat_lt (counted_calls rows) most_counted) _ _
    (λ less. (
      record { kept = kept-there name_cmp name_key nat_list_cmp_total LatchFits rows n (counted_down call row) (found-latch call round (find name_cmp rows n) e) (down row (latch-found rows n f h)) h.kept; counted = sum_more (test_less (counted_calls rows) most_counted less) },
      either LatchSays (row.count == 1) Opened (Done answer.Ok) tt fits_ok,
    ))
    (λ less. (h, fits_table_full most_counted (omega arith))))
  where
    down : (row : LatchRow) → LatchFits (n, row) → LatchFits (n, counted_down call row)
    down row p = record { name = p.name; round = p.round; count = (let most = p.count in omega (arith, most)); counted = each-append invocation.Fits row.counted (call ∷ []) p.counted (c, tt) }

    sum_more : counted_calls rows < most_counted → counted_calls (put name_cmp rows n (counted_down call (latch_at rows n))) ≤ most_counted
    sum_more less = let sums = counted-put rows n (counted_down call (latch_at rows n)) h.kept.rising in
        let one = length-append (latch_at rows n).counted (call ∷ []) in omega (arith, sums, one, less)

pub kept-latch : (rows : Named LatchRow) (n : List ℕ) (call : Invocation) (o : LatchOp) → spelled.name.Fits n → invocation.Fits call → LatchParts o → LatchesKept rows → LatchStepFits (latch_step rows n call o)
kept-latch rows n call latch.Count f c p h = (h, fits_value (pos (latch_at rows n).count) (signed_natural (latch_at rows n).count (let few = (latch-found rows n f h).count in omega (arith, few))))
kept-latch rows n call latch.Round f c p h = (h, fits_value (pos (latch_at rows n).round) (signed_natural (latch_at rows n).round (let few = index_most (latch_at rows n).round (latch-found rows n f h).round in omega (arith, few))))
kept-latch rows n call (latch.Set count) f c p h = kept-set rows n count f p h
kept-latch rows n call (latch.Down round) f c p h = kept-down rows n call round f c h
kept-latch rows n call (latch.Await millis) f c p h = (h, either LatchSays ((latch_at rows n).count == 0) (Done (answer.Bool true)) Wants (fits_bool true) tt)

pub kept-latch_gone : (rows : Named LatchRow) (n : List ℕ) → LatchesKept rows → LatchesKept (without name_cmp rows n)
kept-latch_gone rows n h = record {
  kept = kept-without name_cmp name_key nat_list_cmp_total LatchFits rows n h.kept;
  counted = let fewer = counted-without rows n in let was = h.counted in omega (arith, fewer, was);
}

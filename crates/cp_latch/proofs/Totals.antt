-- How many calls are counted in all, after a change of one row.
use Rattle.std.proofs.Common.{◌≡◌, ℕ, ◌+◌, ◌-◌, ◌<◌, ◌≤◌, Bool, true, false, not, ◌||◌, List, [], ◌∷◌, Some, None, refl, ap, sym, cond, arith, length}
use Rattle.std.specs.Prelude.{◌==◌, map}
use Rattle.std.specs.declared.cmp.Ordering.{Ordering}
use Rattle.std.specs.declared.cmp.Ordering.TheVariants.{Less, Equal, Greater}
use Rattle.std.specs.Ordering.{match_ordering, is_eq}
use Rattle.std.specs.Map as map
use Rattle.std.proofs.lemmas.Bool.Decides.{nat_tests}
use Rattle.std.proofs.lemmas.List.Sums.{sum_by-cons}
use Rattle.cp_base.specs.declared.identifier.Invocation.{Invocation}
use Rattle.cp_group_state.specs.Rows.{Named, find, put, name_cmp}
use Rattle.cp_group_state.specs.Latches.{counted_calls, is_over, is_counted}
use Rattle.cp_group_state.specs.declared.rows.LatchRow.{LatchRow}

abbrev calls : LatchRow → ℕ
calls row = length row.counted

head : (e : List ℕ × LatchRow) (es : Named LatchRow) → counted_calls (e ∷ es) ≡ calls e.1 + counted_calls es
head e es = sum_by-cons (λ n. n) (calls e.1) (map (λ e. calls e.1) es)

some_same : (a b : LatchRow) → Some a ≡ Some b → a ≡ b
some_same a b e = cc

none_some : (a : LatchRow) → None ≡ Some a → ⊥
none_some a e = cc

some_none : (a : LatchRow) → Some a ≡ None → ⊥
some_none a e = cc

pub calls_written : (test : List ℕ → Bool) (rows : Named LatchRow) (old new : LatchRow) → map.lookup test rows ≡ Some old → counted_calls (map.set_value test rows new) + calls old ≡ counted_calls rows + calls new
calls_written test [] old new there = absurd (none_some old there)
calls_written test (e ∷ es) old new there = by (test e.0) (calls_written test es old new) there where
  by : (b : Bool) → (map.lookup test es ≡ Some old → counted_calls (map.set_value test es new) + calls old ≡ counted_calls es + calls new) → cond b (Some e.1) (map.lookup test es) ≡ Some old
      → counted_calls (cond b ((e.0, new) ∷ es) (e ∷ map.set_value test es new)) + calls old ≡ counted_calls (e ∷ es) + calls new
  by true rest h = let same : calls e.1 ≡ calls old = ap (λ r. calls r) (some_same e.1 old h) in omega (arith, head e es, head (e.0, new) es, same)
  by false rest h = let r = rest h in omega (arith, head e es, head e (map.set_value test es new), r)

pub calls_made : (rows : Named LatchRow) (name : List ℕ) (row : LatchRow) → find name_cmp rows name ≡ None → counted_calls (put name_cmp rows name row) ≡ counted_calls rows + calls row
calls_made [] name row absent = omega (arith, head (name, row) [])
calls_made (e ∷ es) name row absent = by (name_cmp name e.0) (calls_made es name row) absent where
  by : (o : Ordering) → (find name_cmp es name ≡ None → counted_calls (put name_cmp es name row) ≡ counted_calls es + calls row) → cond (is_eq o) (Some e.1) (find name_cmp es name) ≡ None
      → counted_calls (match_ordering o ((name, row) ∷ e ∷ es) ((e.0, row) ∷ es) (e ∷ put name_cmp es name row)) ≡ counted_calls (e ∷ es) + calls row
  by Less rest h = omega (arith, head (name, row) (e ∷ es))
  by Equal rest h = absurd (some_none e.1 h)
  by Greater rest h = let r = rest h in omega (arith, head e es, head e (put name_cmp es name row), r)

pub calls_taken : (test : List ℕ → Bool) (rows : Named LatchRow) (old : LatchRow) → map.lookup test rows ≡ Some old → counted_calls (map.remove_entry test rows) + calls old ≡ counted_calls rows
calls_taken test [] old there = absurd (none_some old there)
calls_taken test (e ∷ es) old there = by (test e.0) (calls_taken test es old) there where
  by : (b : Bool) → (map.lookup test es ≡ Some old → counted_calls (map.remove_entry test es) + calls old ≡ counted_calls es) → cond b (Some e.1) (map.lookup test es) ≡ Some old
      → counted_calls (cond b es (e ∷ map.remove_entry test es)) + calls old ≡ counted_calls (e ∷ es)
  by true rest h = let same : calls e.1 ≡ calls old = ap (λ r. calls r) (some_same e.1 old h) in omega (arith, head e es, same)
  by false rest h = let r = rest h in omega (arith, head e es, head e (map.remove_entry test es), r)

-- a latch that is taken out takes its calls along
pub taken : (test : List ℕ → Bool) (rows next : Named LatchRow) (old : LatchRow) (n total : ℕ) → Some old ≡ map.lookup test rows → next ≡ map.remove_entry test rows → n ≡ calls old → total ≡ counted_calls rows → (n ≤ total) × (total - n ≡ counted_calls next)
taken test rows next old n total there gone has all =
    let left : counted_calls next ≡ counted_calls (map.remove_entry test rows) = ap counted_calls gone in
    let before : counted_calls (map.remove_entry test rows) + calls old ≡ counted_calls rows = calls_taken test rows old (sym there) in
    (omega (arith, left, before, has, all), omega (arith, left, before, has, all))

-- a row without counted calls
pub same_total : (rows next : Named LatchRow) (name : List ℕ) (row : LatchRow) → find name_cmp rows name ≡ None → row.counted ≡ [] → next ≡ put name_cmp rows name row → counted_calls next ≡ counted_calls rows
same_total rows next name row absent fresh made = let none : calls row ≡ 0 = ap (λ (c : List Invocation). length c) fresh in
    let all : counted_calls next ≡ counted_calls (put name_cmp rows name row) = ap counted_calls made in
    omega (arith, calls_made rows name row absent, none, all)

-- a countdown that is not over leaves something to count
pub goes_on : (call : Invocation) (round : ℕ) (row : LatchRow) → is_over call round row ≡ false → 0 < row.count
goes_on call round row h = by (not (round == row.round)) (row.count == 0) (is_counted call row) refl h where
  by : (a b c : Bool) → (row.count == 0) ≡ b → (a || (b || c)) ≡ false → 0 < row.count
  by true b c e h = cc
  by false true c e h = cc
  by false false c e h = grind (arith, nat_tests)

-- the calls of the first row, and those of the others
pub first_counted : (total next before : ℕ) (e : List ℕ × LatchRow) (rest : Named LatchRow) → total + counted_calls (e ∷ rest) ≡ before → next ≡ total + calls e.1 → next + counted_calls rest ≡ before
first_counted total next before e rest all more = omega (arith, head e rest, all, more)

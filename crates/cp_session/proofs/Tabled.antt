-- Tables of sessions: no client has two.
use Rattle.std.proofs.Common.{◌≡◌, ℕ, Bool, true, false, List, [], ◌∷◌, ◌++◌, Some, None, refl, sym, ap, ◌∙◌, subst, append_assoc, cond}
use Rattle.std.specs.declared.cmp.Ordering.{Ordering}
use Rattle.std.specs.declared.cmp.Ordering.TheVariants.{Less, Equal, Greater}
use Rattle.std.specs.Ordering.{is_lt, is_eq, ordering_reverse}
use Rattle.std.specs.BTreeMap.{is_at}
use Rattle.std.proofs.lemmas.Cmp.{nat_cmp_total}
use Rattle.cp_base.specs.declared.identifier.ClientId.{ClientId}
use Rattle.std.specs.Ordering.{nat_cmp}
use Rattle.std.proofs.lemmas.Option.{none-some}
use Rattle.std.proofs.lemmas.Bool.{and_parts}
use Rattle.cp_base.proofs.Tests.{no_true}
use Rattle.cp_group_state.specs.declared.rows.SessionRow.{SessionRow}
use Rattle.cp_group_state.specs.Rows.{find, put}
use Rattle.cp_group_state.specs.Sessions.{is_open_for}
use Rattle.cp_group_state.specs.Invariants.{OneSession}
use Rattle.cp_group_state.proofs.Keyed.{number_key}
use Rattle.cp_rows.specs.Behind.{is_above}
use Rattle.cp_rows.proofs.Ordered.{put_last, above_front}
use Rattle.cp_session.specs.Index.{IsIndexed, Sets, client_cmp}
use Rattle.cp_session.specs.Tables.{IsTable}
use Rattle.cp_session.proofs.Indexed.{row_where, open_where, put_sets}

some_same : (x y : ℕ) → Some x ≡ Some y → x ≡ y
some_same x y e = cc

named_open : (rows : List (ℕ × SessionRow)) (numbers : List (ClientId × ℕ)) → IsIndexed rows numbers → (n : ℕ) (client : ClientId) → is_open_for rows n client ≡ true → find client_cmp numbers client ≡ Some n
named_open rows numbers indexed n client h = let its = row_where rows n client h in
    ap (find client_cmp numbers) (sym its.2) ∙ indexed.are_named n its.0 its.1

pub one_session : (rows : List (ℕ × SessionRow)) (numbers : List (ClientId × ℕ)) → IsIndexed rows numbers → OneSession rows
one_session rows numbers indexed a b client x y = some_same a b (sym (named_open rows numbers indexed a client x) ∙ named_open rows numbers indexed b client y)

-- a number above all that stand is new
below_apart : (a k : ℕ) → is_lt (nat_cmp a k) ≡ true → is_at (nat_cmp k) a ≡ false
below_apart a k h = by (nat_cmp a k) refl h where
  by : (o : Ordering) → nat_cmp a k ≡ o → is_lt o ≡ true → is_at (nat_cmp k) a ≡ false
  by Less e l = ap is_eq (nat_cmp_total.antisymm k a ∙ ap ordering_reverse e)
  by Equal e l = absurd (no_true (sym l))
  by Greater e l = absurd (no_true (sym l))

pub above_none : (rows : List (ℕ × SessionRow)) (k : ℕ) → is_above nat_cmp rows k ≡ true → find nat_cmp rows k ≡ None
above_none [] k h = refl
above_none (e ∷ es) k h = let parts = and_parts (is_lt (nat_cmp e.0 k)) (is_above nat_cmp es k) h in rw (below_apart e.0 k parts.0) (above_none es k parts.1)

-- a row that is put behind all others is set under its number
pub behind_sets : (rows rows' : List (ℕ × SessionRow)) (k : ℕ) (row : SessionRow) → is_above nat_cmp rows k ≡ true → rows' ≡ rows ++ (k, row) ∷ [] → Sets nat_cmp k (Some row) rows rows'
behind_sets rows rows' k row above behind = subst (λ r. Sets nat_cmp k (Some row) rows r) (put_last nat_cmp nat_cmp_total rows k row above ∙ sym behind) (put_sets nat_cmp number_key rows k row)

find_front : (rows tail : List (ℕ × SessionRow)) (n : ℕ) (row : SessionRow) → find nat_cmp rows n ≡ Some row → find nat_cmp (rows ++ tail) n ≡ Some row
find_front [] tail n row h = absurd (none-some row h)
find_front (e ∷ es) tail n row h = by (is_at (nat_cmp n) e.0) h (find_front es tail n row) where
  by : (b : Bool) → cond b (Some e.1) (find nat_cmp es n) ≡ Some row → (find nat_cmp es n ≡ Some row → find nat_cmp (es ++ tail) n ≡ Some row) → cond b (Some e.1) (find nat_cmp (es ++ tail) n) ≡ Some row
  by true h rest = h
  by false h rest = rest h

find_behind : (rows tail : List (ℕ × SessionRow)) (n : ℕ) → find nat_cmp rows n ≡ None → find nat_cmp (rows ++ tail) n ≡ find nat_cmp tail n
find_behind [] tail n h = refl
find_behind (e ∷ es) tail n h = by (is_at (nat_cmp n) e.0) h (find_behind es tail n) where
  by : (b : Bool) → cond b (Some e.1) (find nat_cmp es n) ≡ None → (find nat_cmp es n ≡ None → find nat_cmp (es ++ tail) n ≡ find nat_cmp tail n) → cond b (Some e.1) (find nat_cmp (es ++ tail) n) ≡ find nat_cmp tail n
  by true h rest = absurd (none-some e.1 (sym h))
  by false h rest = rest h

-- no table has a second session of a client
pub client_unfit : (rows : List (ℕ × SessionRow)) (numbers : List (ClientId × ℕ)) (k n : ℕ) (row : SessionRow) → IsIndexed rows numbers → find client_cmp numbers row.client ≡ Some n
    → (rest : List (ℕ × SessionRow)) → IsTable (rows ++ (k, row) ∷ rest) → ⊥
client_unfit rows numbers k n row indexed had rest table =
    let free : find nat_cmp rows k ≡ None = above_none rows k (above_front nat_cmp nat_cmp_total rows rest k row table.rising) in
    let its = row_where rows n row.client (indexed.are_open row.client n had) in
    let first = open_where (rows ++ (k, row) ∷ rest) n its.0 row.client (find_front rows ((k, row) ∷ rest) n its.0 its.1) its.2 in
    let here : find nat_cmp ((k, row) ∷ rest) k ≡ Some row = rw (number_key.here k) refl in
    let second = open_where (rows ++ (k, row) ∷ rest) k row row.client (find_behind rows ((k, row) ∷ rest) k free ∙ here) refl in
    let same : n ≡ k = table.one n k row.client first second in
    none-some its.0 (sym free ∙ ap (find nat_cmp rows) (sym same) ∙ its.1)

-- nor a row whose number isn't above those in front
pub order_unfit : (rows : List (ℕ × SessionRow)) (k : ℕ) (row : SessionRow) → is_above nat_cmp rows k ≡ false → (rest : List (ℕ × SessionRow)) → IsTable (rows ++ (k, row) ∷ rest) → ⊥
order_unfit rows k row apart rest table = no_true (sym (above_front nat_cmp nat_cmp_total rows rest k row table.rising) ∙ apart)

-- what stands and what is left are the same rows, when the first that is left is put behind
pub goes_on : (stand next left rest rows : List (ℕ × SessionRow)) (k : ℕ) (x : SessionRow) → next ≡ stand ++ (k, x) ∷ [] → stand ++ left ≡ rows → left ≡ (k, x) ∷ rest → next ++ rest ≡ rows
goes_on stand next left rest rows k x put all first =
    ap (λ (r : List (ℕ × SessionRow)). r ++ rest) put ∙ append_assoc stand ((k, x) ∷ []) rest ∙ ap (λ (r : List (ℕ × SessionRow)). stand ++ r) (sym first) ∙ all

-- rows are no table's where one of them is unfit behind those in front
pub refused : (stand left rest rows : List (ℕ × SessionRow)) (k : ℕ) (x : SessionRow) → ((rest : List (ℕ × SessionRow)) → IsTable (stand ++ (k, x) ∷ rest) → ⊥) → stand ++ left ≡ rows → left ≡ (k, x) ∷ rest → IsTable rows → ⊥
refused stand left rest rows k x unfit all first table =
    unfit rest (subst (λ r. IsTable r) (sym all ∙ ap (λ (r : List (ℕ × SessionRow)). stand ++ r) first) table)

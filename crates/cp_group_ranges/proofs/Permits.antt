-- Semaphores keep their ranges: totals and available permits by the balance of each semaphore.
use Rattle.std.proofs.Common.{◌≡◌, ℕ, ◌+◌, ◌-◌, ◌^◌, ◌<◌, ◌≤◌, ◌⊎◌, inl, inr, Bool, true, false, List, [], ◌∷◌, Some, None, Option, refl, ap, sym, ◌∙◌, subst, arith, cond, is_some, if◌then◌else◌}
use Rattle.std.specs.Prelude.{◌==◌, nat_lt, nat_le, ℤ, pos, negsuc, neg_ℤ, int_lt, ◌+ℤ◌, ◌-ℤ◌, ◌≤ℤ◌, unwrap_or, bytes_eq}
use Rattle.std.specs.List.{AllByRecursion}
use Rattle.std.specs.declared.cmp.Ordering.{Ordering}
use Rattle.std.specs.declared.cmp.Ordering.TheVariants.{Less, Equal, Greater}
use Rattle.std.specs.Ordering.{is_eq}
use Rattle.std.proofs.lemmas.Bool.Decides.{nat_tests}
use Rattle.std.proofs.lemmas.Int.{ints}
use Rattle.std.proofs.lemmas.Slice.Eq.{bytes_eq-Decides}
use Rattle.cp_grammar.specs.Common as spelled
use Rattle.cp_grammar.specs.Common.{index}
use Rattle.cp_object_ops.specs.declared.sem_op.SemOp.{SemOp}
use Rattle.cp_object_ops.specs.declared.sem_op.SemOp.TheVariants as sem
use Rattle.cp_answers.specs.declared.answer.Answer.{Answer}
use Rattle.cp_answers.specs.Answers.{answer_grammar}
use Rattle.cp_group_state.specs.declared.rows.SemaphoreRow.{SemaphoreRow}
use Rattle.cp_group_state.specs.declared.rows.Waiter.{Waiter}
use Rattle.cp_group_state.specs.Rows.{Object, find, put, has_room, most, object_cmp, holding_cmp}
use Rattle.cp_group_state.specs.Waiters.{waits_on}
use Rattle.cp_group_state.specs.declared.outcome.SemOutcome.{SemOutcome}
use Rattle.cp_group_state.specs.declared.outcome.SemOutcome.TheVariants.{Done, Wants, Served}
use Rattle.cp_group_state.specs.Semaphores.{Semaphores, SemStep, is_held, held, set_held, take, give_back, change_total, at_least_none, raise_total, release_held, sem_step, sem_step_on, served, take_on, take_all}
use Rattle.cp_group_state.specs.Invariants.{IsRising, IsBalanced, IsBalancedAt, held_by_all, held_of}
use Rattle.cp_group_state.proofs.Keyed.{find-put_same, object_key}
use Rattle.cp_group_state.proofs.Walk.{cases, either}
use Rattle.cp_group_state.proofs.Ordered.{SemsRise, object_total, holding_total, holding_key, take_all-rises, step-rises}
use Rattle.cp_group_state.proofs.Balance.{Holdings, step-balanced, take_all-balanced}
use Rattle.cp_group_ranges.specs.Rows.{SemaphoreFits, HoldingFits, WaiterFits, is_semaphore}
use Rattle.cp_group_ranges.proofs.Listed.{Kept, kept-put, kept-there, each-put, each-without, each-find, found-put}
use Rattle.cp_group_ranges.proofs.Fitting.{signed_permits, signed_natural, fits_ok, fits_bool, fits_value, fits_not_held, fits_not_initialized, fits_table_full, fits_overflow}
use Rattle.cp_group_ranges.proofs.Parts.{SemParts}

-- What is kept of a row by itself. The other two bounds follow from its balance.
pub record RowFits (e : Object × SemaphoreRow) : Type 0 where
  pub name : spelled.name.Fits e.0.0
  pub kind : is_semaphore e.0.1 ≡ true
  pub total : e.1.total ≤ℤ pos (2 ^ 31 - 1)
  pub available : neg_ℤ (pos (2 ^ 31)) ≤ℤ e.1.available

pub record PermitsKept (s : Semaphores) : Type 0 where
  pub rows : Kept object_cmp RowFits s.rows
  pub holdings : AllByRecursion HoldingFits s.holdings
  pub rising : IsRising holding_cmp s.holdings
  pub balanced : IsBalanced s

-- ---- balance

balance-of : (s : Semaphores) (key : Object) (row : SemaphoreRow) → IsBalanced s → find object_cmp s.rows key ≡ Some row → row.total ≡ row.available +ℤ pos (held_of key s.holdings)
balance-of s key row b is = subst (λ (o : Option SemaphoreRow). IsBalancedAt o (held_of key s.holdings)) is (b key)

total-permits : (total available : ℤ) (n : ℕ) → total ≡ available +ℤ pos n → total ≤ℤ pos (2 ^ 31 - 1) → neg_ℤ (pos (2 ^ 31)) ≤ℤ available → neg_ℤ (pos (2 ^ 31)) ≤ℤ total
total-permits total available n e t a = omega (arith, ints)

available-permits : (total available : ℤ) (n : ℕ) → total ≡ available +ℤ pos n → total ≤ℤ pos (2 ^ 31 - 1) → available ≤ℤ pos (2 ^ 31 - 1)
available-permits total available n e t = omega (arith, ints)

ranges : (e : Object × SemaphoreRow) (n : ℕ) → e.1.total ≡ e.1.available +ℤ pos n → RowFits e → SemaphoreFits e
ranges e n b p = record {
  name = p.name;
  kind = p.kind;
  total = record { least = total-permits e.1.total e.1.available n b p.total p.available; most = p.total };
  available = record { least = p.available; most = available-permits e.1.total e.1.available n b p.total };
}

pub row-ranges : (s : Semaphores) (key : Object) (row : SemaphoreRow) → PermitsKept s → find object_cmp s.rows key ≡ Some row → SemaphoreFits (key, row)
row-ranges s key row h is = ranges (key, row) (held_of key s.holdings) (balance-of s key row h.balanced is) (each-find object_cmp object_key object_total RowFits s.rows key row h.rows.all is)

-- a session's permits are among those that are held
pub held-part : (session : ℕ) (name : List ℕ) (h : Holdings) → held h session name ≤ held_by_all name h
held-part session name [] = omega arith
held-part session name (e ∷ es) = by (holding_cmp (session, name) e.0) refl (held-part session name es)
  where
    at-key : holding_cmp (session, name) e.0 ≡ Equal → bytes_eq name e.0.1 ≡ true
    at-key i = subst (λ (q : ℕ × List ℕ). bytes_eq name q.1 ≡ true) (holding_key.same (session, name) e.0 i) ((bytes_eq-Decides name name).1 refl)

    by : (o : Ordering) → holding_cmp (session, name) e.0 ≡ o → held es session name ≤ held_by_all name es → unwrap_or (cond (is_eq o) (Some e.1) (find holding_cmp es (session, name))) 0 ≤ held_by_all name (e ∷ es)
    by Less i rest = omega (arith, rest)
    by Equal i rest = rw (at-key i) (omega arith)
    by Greater i rest = omega (arith, rest)

held-most : (session : ℕ) (name : List ℕ) (h : Holdings) → AllByRecursion HoldingFits h → held h session name ≤ 2 ^ 31 - 1
held-most session name h all = at (find holding_cmp h (session, name)) refl
  where
    at : (o : Option ℕ) → find holding_cmp h (session, name) ≡ o → unwrap_or o 0 ≤ 2 ^ 31 - 1
    at None is = omega arith
    at (Some n) is = (each-find holding_cmp holding_key holding_total HoldingFits h (session, name) n all is).permits.0

-- ---- holdings

one-or-more : (n : ℕ) → (n == 0) ≡ false → nat_le 1 n ≡ true
one-or-more n e = grind (arith, nat_tests)

set-held : (h : Holdings) (session : ℕ) (name : List ℕ) (n : ℕ) → index.Fits session → spelled.name.Fits name → n ≤ 2 ^ 31 - 1 → AllByRecursion HoldingFits h → AllByRecursion HoldingFits (set_held h session name n)
set-held h session name n s f few all = cases (AllByRecursion HoldingFits) (n == 0) _ _ (λ e. each-without holding_cmp holding_key holding_total HoldingFits h (session, name) all)
    (λ e. each-put holding_cmp holding_key holding_total HoldingFits h (session, name) n (record { session = s; name = f; permits = (few, one-or-more n e) }) all)

-- ---- one step

-- semaphores that were there are there
abbrev pub Grew : Semaphores → Semaphores → Type 0
Grew s t = (q : Object) → is_some (find object_cmp s.rows q) ≡ true → is_some (find object_cmp t.rows q) ≡ true

abbrev Parts : Semaphores → Semaphores → Type 0
Parts s t = Kept object_cmp RowFits t.rows × AllByRecursion HoldingFits t.holdings × Grew s t

not-less : (a b : ℤ) → int_lt a b ≡ false → b ≤ℤ a
not-less a b e = grind (arith, ints)

-- what may be taken: what is available, or nothing
abbrev MayTake : ℤ → ℕ → Type 0
MayTake available n = (n ≡ 0) ⊎ (pos n ≤ℤ available)

taken-available : (a : ℤ) (n : ℕ) → MayTake a n → neg_ℤ (pos (2 ^ 31)) ≤ℤ a → neg_ℤ (pos (2 ^ 31)) ≤ℤ (a -ℤ pos n)
taken-available a n (inl e) le = omega (arith, ints, e, le)
taken-available a n (inr e) le = omega (arith, ints, e, le)

taken-total : (a : ℤ) (n : ℕ) → a ≤ℤ pos (2 ^ 31 - 1) → (a -ℤ pos n) ≤ℤ pos (2 ^ 31 - 1)
taken-total a n le = omega (arith, ints, le)

taken-held : (total available : ℤ) (one all n : ℕ) → total ≡ available +ℤ pos all → one ≤ all → one ≤ 2 ^ 31 - 1 → MayTake available n → total ≤ℤ pos (2 ^ 31 - 1) → one + n ≤ 2 ^ 31 - 1
taken-held total available one all n b part few (inl e) le = omega (arith, few, e)
taken-held total available one all n b part few (inr e) le = omega (arith, ints, b, part, e, le)

pub more-available : (a : ℤ) (n : ℕ) → neg_ℤ (pos (2 ^ 31)) ≤ℤ a → neg_ℤ (pos (2 ^ 31)) ≤ℤ (a +ℤ pos n)
more-available a n le = omega (arith, ints, le)

less-total : (a : ℤ) (n : ℕ) → a ≤ℤ pos (2 ^ 31 - 1) → (a +ℤ neg_ℤ (pos n)) ≤ℤ pos (2 ^ 31 - 1)
less-total a n le = omega (arith, ints, le)

less-available : (a : ℤ) (n : ℕ) → neg_ℤ (pos (2 ^ 31)) ≤ℤ (a -ℤ pos n) → neg_ℤ (pos (2 ^ 31)) ≤ℤ (a +ℤ neg_ℤ (pos n))
less-available a n le = omega (arith, ints, le)

-- the semaphore is there
module _ (key : Object) (row : SemaphoreRow) (s : Semaphores) (h : PermitsKept s) (is : find object_cmp s.rows key ≡ Some row) where
  fits : RowFits (key, row)
  fits = each-find object_cmp object_key object_total RowFits s.rows key row h.rows.all is

  there : is_some (find object_cmp s.rows key) ≡ true
  there = ap is_some is

  grew : (next : SemaphoreRow) (q : Object) → is_some (find object_cmp s.rows q) ≡ true → is_some (find object_cmp (put object_cmp s.rows key next) q) ≡ true
  grew next q was = found-put object_cmp object_key object_total s.rows key q next was

  parts-take : (session n : ℕ) → index.Fits session → MayTake row.available n → Parts s (take key row session n s)
  parts-take session n f may = cases (Parts s) (is_held key.1) _ _ of_session of_none
    where
      of_session : is_held key.1 ≡ true → Parts s (record { rows = put object_cmp s.rows key (record row { available = row.available -ℤ pos n }); holdings = set_held s.holdings session key.0 (held s.holdings session key.0 + n) })
      of_session e = (
        kept-there object_cmp object_key object_total RowFits s.rows key (record row { available = row.available -ℤ pos n }) there
            (record { name = fits.name; kind = fits.kind; total = fits.total; available = taken-available row.available n may fits.available }) h.rows,
        set-held s.holdings session key.0 (held s.holdings session key.0 + n) f fits.name
            (taken-held row.total row.available (held s.holdings session key.0) (held_by_all key.0 s.holdings) n all_held (held-part session key.0 s.holdings) (held-most session key.0 s.holdings h.holdings) may fits.total) h.holdings,
        grew (record row { available = row.available -ℤ pos n }),
      )
        where
          all_held : row.total ≡ row.available +ℤ pos (held_by_all key.0 s.holdings)
          all_held = balance-of s key row h.balanced is ∙ ap (λ (b : Bool). row.available +ℤ pos (if b then held_by_all key.0 s.holdings else 0)) e

      of_none : is_held key.1 ≡ false → Parts s (record { rows = put object_cmp s.rows key (record { total = row.total -ℤ pos n; available = row.available -ℤ pos n }); holdings = s.holdings })
      of_none e = (
        kept-there object_cmp object_key object_total RowFits s.rows key (record { total = row.total -ℤ pos n; available = row.available -ℤ pos n }) there
            (record { name = fits.name; kind = fits.kind; total = taken-total row.total n fits.total; available = taken-available row.available n may fits.available }) h.rows,
        h.holdings,
        grew (record { total = row.total -ℤ pos n; available = row.available -ℤ pos n }),
      )

  parts-back : (session n : ℕ) → index.Fits session → Parts s (give_back key row session n s)
  parts-back session n f = (
    kept-there object_cmp object_key object_total RowFits s.rows key (record row { available = row.available +ℤ pos n }) there
        (record { name = fits.name; kind = fits.kind; total = fits.total; available = more-available row.available n fits.available }) h.rows,
    set-held s.holdings session key.0 (held s.holdings session key.0 - n) f fits.name (let few = held-most session key.0 s.holdings h.holdings in omega (arith, few)) h.holdings,
    grew (record row { available = row.available +ℤ pos n }),
  )

  parts-raise : (n : ℕ) → (row.total +ℤ pos n) ≤ℤ pos (2 ^ 31 - 1) → Parts s (change_total key row (pos n) s)
  parts-raise n le = (
    kept-there object_cmp object_key object_total RowFits s.rows key (record { total = row.total +ℤ pos n; available = row.available +ℤ pos n }) there
        (record { name = fits.name; kind = fits.kind; total = le; available = more-available row.available n fits.available }) h.rows,
    h.holdings,
    grew (record { total = row.total +ℤ pos n; available = row.available +ℤ pos n }),
  )

  parts-reduce : (n : ℕ) → neg_ℤ (pos (2 ^ 31)) ≤ℤ (row.available -ℤ pos n) → Parts s (change_total key row (neg_ℤ (pos n)) s)
  parts-reduce n le = (
    kept-there object_cmp object_key object_total RowFits s.rows key (record { total = row.total +ℤ neg_ℤ (pos n); available = row.available +ℤ neg_ℤ (pos n) }) there
        (record { name = fits.name; kind = fits.kind; total = less-total row.total n fits.total; available = less-available row.available n le }) h.rows,
    h.holdings,
    grew (record { total = row.total +ℤ neg_ℤ (pos n); available = row.available +ℤ neg_ℤ (pos n) }),
  )

abbrev pub SemSays : SemOutcome → Type 0
SemSays (Done a) = answer_grammar.Fits a
SemSays Wants = Unit {0}
SemSays (Served a available) = answer_grammar.Fits a

abbrev StepFits : Semaphores → SemStep → Type 0
StepFits s r = Parts s r.after × SemSays r.outcome

none-taken : (z : ℤ) → MayTake z (at_least_none z)
none-taken (pos n) = inr (omega (arith, ints))
none-taken (negsuc n) = inl refl

drained-few : (z : ℤ) → z ≤ℤ pos (2 ^ 31 - 1) → at_least_none z < 2 ^ 63
drained-few (pos n) le = omega (arith, ints, le)
drained-few (negsuc n) le = omega arith

parts-step : (key : Object) (o : SemOp) (s : Semaphores) → spelled.name.Fits key.0 → is_semaphore key.1 ≡ true → SemParts o → PermitsKept s → StepFits s (sem_step key o s)
parts-step key o s f k p h = on (find object_cmp s.rows key) refl o p
  where
    same : Parts s s
    same = (h.rows, h.holdings, λ q was. was)

    raise : (row : SemaphoreRow) (n : ℕ) → find object_cmp s.rows key ≡ Some row → StepFits s (raise_total key row n s)
    raise row n is = cases (StepFits s) (int_lt (pos (2 ^ 31 - 1)) (row.total +ℤ pos n)) _ _ (λ e. (same, fits_overflow)) (λ e. (parts-raise key row s h is n (not-less _ _ e), fits_ok))

    release : (row : SemaphoreRow) (session n : ℕ) → find object_cmp s.rows key ≡ Some row → index.Fits session → StepFits s (release_held key row session n s)
    release row session n is g = either (StepFits s) (nat_lt (held s.holdings session key.0) n) _ _
        (same, fits_not_held (held s.holdings session key.0) (let few = held-most session key.0 s.holdings h.holdings in omega (arith, few))) (parts-back key row s h is session n g, fits_ok)

    on : (o : Option SemaphoreRow) → find object_cmp s.rows key ≡ o → (l : SemOp) → SemParts l → StepFits s (sem_step_on key l o s)
    on None is sem.Available p = (same, fits_not_initialized)
    on None is (sem.Init n) p = cases (StepFits s) (has_room object_cmp most s.rows key) _ _
        (λ room. (
          (
            kept-put object_cmp object_key object_total RowFits s.rows key (record { total = pos n; available = pos n }) room (record { name = f; kind = k; total = omega (arith, ints, p); available = omega (arith, ints) }) h.rows,
            h.holdings,
            λ q was. found-put object_cmp object_key object_total s.rows key q (record { total = pos n; available = pos n }) was,
          ),
          fits_bool true,
        ))
        (λ room. (same, fits_table_full most (omega arith)))
    on None is (sem.Acquire session n wish) p = (same, fits_not_initialized)
    on None is (sem.Release session n) p = (same, fits_not_initialized)
    on None is (sem.Drain session) p = (same, fits_not_initialized)
    on None is (sem.Increase session n) p = (same, fits_not_initialized)
    on None is (sem.Reduce session n) p = (same, fits_not_initialized)
    on (Some row) is sem.Available p = (same, fits_value row.available (signed_permits row.available (row-ranges s key row h is).available))
    on (Some row) is (sem.Init n) p = (same, fits_bool false)
    on (Some row) is (sem.Acquire session n wish) p = cases (StepFits s) (int_lt row.available (pos n)) _ _ (λ e. (same, tt)) (λ e. (parts-take key row s h is session n p.0 (inr (not-less _ _ e)), fits_ok))
    on (Some row) is (sem.Release session n) p = either (StepFits s) (is_held key.1) _ _ (release row session n is p.0) (raise row n is)
    on (Some row) is (sem.Drain session) p = (
      parts-take key row s h is session (at_least_none row.available) p (none-taken row.available),
      fits_value (pos (at_least_none row.available)) (signed_natural (at_least_none row.available) (drained-few row.available (row-ranges s key row h is).available.most)),
    )
    on (Some row) is (sem.Increase session n) p = raise row n is
    on (Some row) is (sem.Reduce session n) p = cases (StepFits s) (int_lt (row.available -ℤ pos n) (neg_ℤ (pos (2 ^ 31)))) _ _ (λ e. (same, fits_overflow)) (λ e. (parts-reduce key row s h is n (not-less _ _ e), fits_ok))

pub kept-step : (key : Object) (o : SemOp) (s : Semaphores) → spelled.name.Fits key.0 → is_semaphore key.1 ≡ true → SemParts o → PermitsKept s → PermitsKept (sem_step key o s).after × SemSays (sem_step key o s).outcome × Grew s (sem_step key o s).after
kept-step key o s f k p h = let parts = parts-step key o s f k p h in
    (record { rows = parts.0.0; holdings = parts.0.1; rising = (step-rises key o s (h.rows.rising, h.rising)).1; balanced = step-balanced key o s (h.rows.rising, h.rising) h.balanced }, parts.1, parts.0.2)

-- a call that wants permits wants them of a semaphore that is there
pub wants-there : (key : Object) (o : SemOp) (s : Semaphores) → (sem_step key o s).outcome ≡ Wants → is_some (find object_cmp s.rows key) ≡ true
wants-there key o s e = on (find object_cmp s.rows key) o e
  where
    done : (a : Answer) → Done a ≡ Wants → ⊥
    done a e = cc

    on : (r : Option SemaphoreRow) (l : SemOp) → (sem_step_on key l r s).outcome ≡ Wants → is_some r ≡ true
    on (Some row) l e = refl
    on None sem.Available e = absurd (done _ e)
    on None (sem.Init n) e = absurd (cases (λ (r : SemStep). r.outcome ≡ Wants → ⊥) (has_room object_cmp most s.rows key) _ _ (λ room. done _) (λ room. done _) e)
    on None (sem.Acquire session n wish) e = absurd (done _ e)
    on None (sem.Release session n) e = absurd (done _ e)
    on None (sem.Drain session) e = absurd (done _ e)
    on None (sem.Increase session n) e = absurd (done _ e)
    on None (sem.Reduce session n) e = absurd (done _ e)

-- ---- waiters that are served

taken-row : (key : Object) (row : SemaphoreRow) (session n : ℕ) (s : Semaphores) → (next : SemaphoreRow) × (find object_cmp (take key row session n s).rows key ≡ Some next) × (next.available ≡ row.available -ℤ pos n)
taken-row key row session n s = either (λ (t : Semaphores). (next : SemaphoreRow) × (find object_cmp t.rows key ≡ Some next) × (next.available ≡ row.available -ℤ pos n)) (is_held key.1) _ _
    (record row { available = row.available -ℤ pos n }, find-put_same object_cmp object_key s.rows key (record row { available = row.available -ℤ pos n }), refl)
    (record { total = row.total -ℤ pos n; available = row.available -ℤ pos n }, find-put_same object_cmp object_key s.rows key (record { total = row.total -ℤ pos n; available = row.available -ℤ pos n }), refl)

kept-take : (key : Object) (row : SemaphoreRow) (w : Waiter) (s : Semaphores) → find object_cmp s.rows key ≡ Some row → index.Fits w.session → MayTake row.available w.permits → PermitsKept s → PermitsKept (take key row w.session w.permits s) × Grew s (take key row w.session w.permits s)
kept-take key row w s is f may h = let parts = parts-take key row s h is w.session w.permits f may in
    let rises : SemsRise (take key row w.session w.permits s) = subst (λ (o : Option SemaphoreRow). SemsRise (take_on key o w s)) is (take_all-rises key (w ∷ []) s (h.rows.rising, h.rising)) in
    (record { rows = parts.0; holdings = parts.1; rising = rises.1; balanced = subst (λ (o : Option SemaphoreRow). IsBalanced (take_on key o w s)) is (take_all-balanced key (w ∷ []) s (h.rows.rising, h.rising) h.balanced) }, parts.2)

abbrev ServedKept : Semaphores → Semaphores → Type 0
ServedKept s t = PermitsKept t × Grew s t

pub kept-served : (key : Object) (ws : List Waiter) (s : Semaphores) (row : SemaphoreRow) → find object_cmp s.rows key ≡ Some row → AllByRecursion WaiterFits ws → PermitsKept s → ServedKept s (take_all key (served key row.available ws) s)
kept-served key [] s row is f h = (h, λ q was. was)
kept-served key (w ∷ ws) s row is f h = either (λ (vs : List Waiter). ServedKept s (take_all key vs s)) (waits_on key.1 key.0 w) _ _
    (cases (λ (vs : List Waiter). ServedKept s (take_all key vs s)) (int_lt row.available (pos w.permits)) [] (w ∷ served key (row.available -ℤ pos w.permits) ws) (λ e. (h, λ q was. was)) (λ e. one e (λ t r i g. kept-served key ws t r i f.1 g)))
    (kept-served key ws s row is f.1 h)
  where
    one : int_lt row.available (pos w.permits) ≡ false → ((t : Semaphores) (r : SemaphoreRow) → find object_cmp t.rows key ≡ Some r → PermitsKept t → ServedKept t (take_all key (served key r.available ws) t))
        → ServedKept s (take_all key (w ∷ served key (row.available -ℤ pos w.permits) ws) s)
    one e rest = let next = taken-row key row w.session w.permits s in
        let first = kept-take key row w s is f.0.session (inr (not-less _ _ e)) h in
        let t = take key row w.session w.permits s in
        let more : ServedKept t (take_all key (served key next.0.available ws) t) = rest t next.0 next.1 first.0 in
        subst (λ (o : Option SemaphoreRow). ServedKept s (take_all key (served key (row.available -ℤ pos w.permits) ws) (take_on key o w s))) (sym is)
        (subst (λ (z : ℤ). ServedKept s (take_all key (served key z ws) t)) next.2 (more.0, λ q was. more.1 q (first.1 q was)))

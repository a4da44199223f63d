-- Locks keep their ranges.
use Rattle.std.proofs.Common.{◌≡◌, ℕ, ◌+◌, ◌-◌, ◌^◌, ◌≤◌, Bool, true, false, not, ◌&&◌, List, Some, None, Option, refl, ap, sym, arith, is_some}
use Rattle.std.specs.Prelude.{◌==◌, nat_lt}
use Rattle.std.specs.List.{filter, AllByRecursion}
use Rattle.std.proofs.lemmas.Bool.Decides.{nat_tests}
use Rattle.std.proofs.lemmas.Cmp.{nat_list_cmp_total}
use Rattle.cp_base.proofs.Tests.{no_true}
use Rattle.cp_grammar.specs.Common as spelled
use Rattle.cp_grammar.specs.Common.{index, thread_no}
use Rattle.cp_answers.specs.Answers.{answer_grammar}
use Rattle.cp_group_state.specs.declared.rows.Holder.{Holder}
use Rattle.cp_group_state.specs.declared.rows.LockRow.{LockRow}
use Rattle.cp_group_state.specs.Rows.{Named, find, put, has_room, most, name_cmp}
use Rattle.cp_group_state.specs.declared.outcome.Released.TheVariants as locks
use Rattle.cp_group_state.specs.declared.outcome.Taken.{Taken}
use Rattle.cp_group_state.specs.declared.outcome.Taken.TheVariants.{Fence, Limit, Busy}
use Rattle.cp_group_state.specs.declared.outcome.Released.TheVariants.{Freed, NotOwner}
use Rattle.cp_group_state.specs.Locks.{Acquired, Release, free_lock, held_once, or_free, lock_at, is_free, is_held_by, is_held_among, most_holds, acquired, released_by, held_among, freed, freed_all}
use Rattle.cp_group_state.specs.LockRules.{owner_answer}
use Rattle.cp_group_state.proofs.Keyed.{name_key, find-put_same}
use Rattle.cp_group_state.proofs.Walk.{cases, either}
use Rattle.cp_group_ranges.specs.Rows.{LockFits}
use Rattle.cp_group_ranges.proofs.Listed.{Kept, kept-put, kept-there, kept-map, kept-or, each-both, each-filter, each-map, each-weaker, each-found, found-map}
use Rattle.cp_group_ranges.proofs.Fitting.{index_fits, no_thread, fits_free, fits_held}

abbrev pub LocksKept : Named LockRow → Type 0
LocksKept rows = Kept name_cmp LockFits rows

free-fits : (n : List ℕ) → spelled.name.Fits n → LockFits (n, free_lock)
free-fits n f = record { name = f; session = index_fits 0 (omega arith); thread = no_thread; fence = index_fits 0 (omega arith); holds = omega arith; held_or_free = λ e. refl }

pub held-fits : (i : ℕ) (n : List ℕ) (who : Holder) → index.Fits i → spelled.name.Fits n → index.Fits who.session → thread_no.Fits who.thread → LockFits (n, held_once who i)
held-fits i n who g f s t = record { name = f; session = s; thread = t; fence = g; holds = omega arith; held_or_free = λ e. absurd (no_true (sym e)) }

lock-found : (rows : Named LockRow) (n : List ℕ) → spelled.name.Fits n → LocksKept rows → LockFits (n, lock_at rows n)
lock-found rows n f h = kept-or name_cmp name_key nat_list_cmp_total LockFits (λ (r : LockRow). LockFits (n, r)) rows n h or_free (free-fits n f) (λ x p. p)

abbrev pub TakenFits : Option Taken → Type 0
TakenFits (Some (Fence f)) = index.Fits f
TakenFits (Some (Limit n)) = n ≤ 2 ^ 32 - 1
TakenFits None = Unit {0}
TakenFits (Some Busy) = Unit {0}

abbrev AcquiredFits : Acquired → Type 0
AcquiredFits r = LocksKept r.rows × TakenFits r.taken

limit-most : (limit : ℕ) → limit ≤ 2 ^ 32 - 1 → most_holds limit ≤ 2 ^ 32 - 1
limit-most limit le = either (λ (n : ℕ). n ≤ 2 ^ 32 - 1) (limit == 0) (2 ^ 31 - 1) limit (omega arith) le

more-not-none : (n : ℕ) → (n + 1 == 0) ≡ true → ⊥
more-not-none n e = grind (arith, nat_tests)

below : (a b : ℕ) → nat_lt a b ≡ true → a + 1 ≤ b
below a b e = grind (arith, nat_tests)

found-lock : (o : Option LockRow) → is_free (or_free o) ≡ false → is_some o ≡ true
found-lock None e = absurd (no_true e)
found-lock (Some row) e = refl

held-lock : (a b : Bool) → (not a && b) ≡ true → a ≡ false
held-lock true b e = sym e
held-lock false b e = refl

positive : (n : ℕ) → (n == 0) ≡ false → (n == 1) ≡ false → (n - 1 == 0) ≡ true → ⊥
positive n a b e = grind (arith, nat_tests)

put-there : (rows : Named LockRow) (n : List ℕ) (row : LockRow) → is_free (lock_at rows n) ≡ false → LockFits (n, row) → LocksKept rows → LocksKept (put name_cmp rows n row)
put-there rows n row e p h = kept-there name_cmp name_key nat_list_cmp_total LockFits rows n row (found-lock (find name_cmp rows n) e) p h

pub kept-acquired : (i : ℕ) (rows : Named LockRow) (n : List ℕ) (who : Holder) (limit : ℕ) → index.Fits i → spelled.name.Fits n → index.Fits who.session → thread_no.Fits who.thread → limit ≤ 2 ^ 32 - 1
    → LocksKept rows → AcquiredFits (acquired rows i n who limit)
kept-acquired i rows n who limit g f s t l h = let row = lock_at rows n in
    cases AcquiredFits (is_free row) _ _
    (λ e. cases AcquiredFits (has_room name_cmp most rows n) _ _ (λ room. (kept-put name_cmp name_key nat_list_cmp_total LockFits rows n (held_once who i) room (held-fits i n who g f s t) h, g)) (λ room. (h, tt)))
    (λ e. either AcquiredFits (is_held_by who row) _ _
    (cases AcquiredFits (nat_lt row.holds (most_holds limit)) _ _ (λ few. (put-there rows n (record row { holds = row.holds + 1 }) e (again row (lock-found rows n f h) (below row.holds (most_holds limit) few)) h, (lock-found rows n f h).fence))
    (λ few. (h, limit-most limit l)))
    (h, tt))
  where
    again : (row : LockRow) → LockFits (n, row) → row.holds + 1 ≤ most_holds limit → LockFits (n, record row { holds = row.holds + 1 })
    again row p few = record { name = p.name; session = p.session; thread = p.thread; fence = p.fence; holds = (let most = limit-most limit l in omega (arith, few, most)); held_or_free = λ e. absurd (more-not-none row.holds e) }

-- ---- locks that are handed over are there

abbrev pub Handed : Named LockRow → List ℕ → Type 0
Handed rows n = spelled.name.Fits n × (is_some (find name_cmp rows n) ≡ true)

abbrev ReleaseFits : List ℕ → Release → Type 0
ReleaseFits n r = LocksKept r.rows × (r.released ≡ Freed → Handed r.rows n)

pub kept-released : (rows : Named LockRow) (n : List ℕ) (who : Holder) → spelled.name.Fits n → LocksKept rows → ReleaseFits n (released_by rows n who)
kept-released rows n who f h = let row = lock_at rows n in
    cases (ReleaseFits n) (is_held_by who row) _ _
    (λ e. let held : is_free row ≡ false = held-lock (is_free row) _ e in
    cases (ReleaseFits n) (row.holds == 1) _ _
    (λ one. (put-there rows n free_lock held (free-fits n f) h, λ is. (f, ap is_some (find-put_same name_cmp name_key rows n free_lock))))
    (λ one. (put-there rows n (record row { holds = row.holds - 1 }) held (fewer row (lock-found rows n f h) held one) h, λ is. absurd (not-kept is))))
    (λ e. (h, λ is. absurd (not-owned is)))
  where
    not-kept : locks.Kept ≡ Freed → ⊥
    not-kept e = cc

    not-owned : NotOwner ≡ Freed → ⊥
    not-owned e = cc

    fewer : (row : LockRow) → LockFits (n, row) → is_free row ≡ false → (row.holds == 1) ≡ false → LockFits (n, record row { holds = row.holds - 1 })
    fewer row p held one = record { name = p.name; session = p.session; thread = p.thread; fence = p.fence; holds = (let most = p.holds in omega (arith, most)); held_or_free = λ e. absurd (positive row.holds held one e) }

pub kept-freed : (sessions : List ℕ) (rows : Named LockRow) → LocksKept rows → LocksKept (freed_all sessions rows)
kept-freed sessions rows h = kept-map name_cmp name_key nat_list_cmp_total LockFits (λ (e : List ℕ × LockRow). freed sessions e.1)
    (λ e p. either (λ (r : LockRow). LockFits (e.0, r)) (is_held_among sessions e.1) free_lock e.1 (free-fits e.0 p.name) p) rows h

pub owner-fits : (rows : Named LockRow) (n : List ℕ) → spelled.name.Fits n → LocksKept rows → answer_grammar.Fits (owner_answer (lock_at rows n))
owner-fits rows n f h = at (lock_at rows n) (lock-found rows n f h)
  where
    at : (row : LockRow) → LockFits (n, row) → answer_grammar.Fits (owner_answer row)
    at row p = either answer_grammar.Fits (is_free row) _ _ fits_free (fits_held row.holder.session row.holder.thread row.holds row.fence p.session p.thread p.holds p.fence)

pub kept-handed : (i : ℕ) (rows : Named LockRow) (n : List ℕ) (who : Holder) → index.Fits i → Handed rows n → index.Fits who.session → thread_no.Fits who.thread → LocksKept rows → LocksKept (put name_cmp rows n (held_once who i))
kept-handed i rows n who g there s t h = kept-there name_cmp name_key nat_list_cmp_total LockFits rows n (held_once who i) there.1 (held-fits i n who g there.0 s t) h

-- the names of these locks, where they were freed
pub handed-among : (sessions : List ℕ) (rows : Named LockRow) → LocksKept rows → AllByRecursion (Handed (freed_all sessions rows)) (held_among sessions rows)
handed-among sessions rows h = each-map (Handed (freed_all sessions rows)) (λ (e : List ℕ × LockRow). e.0) (filter (λ e. is_held_among sessions e.1) rows)
    (each-filter (λ (e : List ℕ × LockRow). Handed (freed_all sessions rows) e.0) (λ e. is_held_among sessions e.1) rows
    (each-both (λ (e : List ℕ × LockRow). spelled.name.Fits e.0) (λ (e : List ℕ × LockRow). is_some (find name_cmp (freed_all sessions rows) e.0) ≡ true) rows
    (each-weaker LockFits (λ (e : List ℕ × LockRow). spelled.name.Fits e.0) (λ e p. p.name) rows h.all)
    (each-weaker (λ (e : List ℕ × LockRow). is_some (find name_cmp rows e.0) ≡ true) (λ (e : List ℕ × LockRow). is_some (find name_cmp (freed_all sessions rows) e.0) ≡ true)
    (λ e there. found-map name_cmp name_key nat_list_cmp_total (λ (e : List ℕ × LockRow). freed sessions e.1) rows e.0 there) rows (each-found name_cmp name_key nat_list_cmp_total rows))))

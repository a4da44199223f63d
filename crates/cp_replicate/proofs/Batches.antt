-- What one turn of the loop over a log takes into a batch, and what a batch holds.
use Rattle.std.proofs.Common.{◌≡◌, ℕ, zero, suc, ◌+◌, ◌-◌, ◌<◌, ◌≤◌, ⊎_elim, true, false, List, [], ◌∷◌, length, take, drop, refl, ap, sym, ◌∙◌, arith, Option, Some, None, option_map, slice_get, nat_lt, nat_le}
use Rattle.std.proofs.lemmas.Bool.{cases_Bool, lt-ltb, leb-true}
use Rattle.std.proofs.lemmas.Option.{same_Some}
use Rattle.cp_parts.specs.declared.log_entry.LogEntry.{LogEntry}
use Rattle.cp_log_rules.specs.Persistent.{PersistentState, last}
use Rattle.cp_rules.specs.Sending.{within, batch}
use Rattle.cp_replicate.specs.Logs.{size_at, fitting, from}
use Rattle.cp_replicate.specs.Laws.{bytes_of, BatchesFit}

abbrev size_in : List LogEntry → ℕ → Option ℕ
size_in xs k = option_map (λ e. length e.bytes) (slice_get xs k)

-- ---- a list of entries from a place on

fits_none : (s b : ℕ) → fitting (Some s) b ≡ None → nat_le s b ≡ false
fits_none s b h = ⊎_elim
    (λ (e : nat_le s b ≡ true). let z : Some s ≡ None = rw e at h in cc)
    (λ (e : nat_le s b ≡ false). e)
    (cases_Bool (nat_le s b))

record Took (s t b : ℕ) : Type 0 where
  same : s ≡ t
  room : nat_le s b ≡ true

fits_some : (s t b : ℕ) → fitting (Some s) b ≡ Some t → Took s t b
fits_some s t b h = ⊎_elim
    (λ (e : nat_le s b ≡ true). let z : Some s ≡ Some t = rw e at h in record { same = same_Some s t z; room = e })
    (λ (e : nat_le s b ≡ false). let z : None ≡ Some t = rw e at h in absurd (cc))
    (cases_Bool (nat_le s b))

stops_in : (xs : List LogEntry) (k c b : ℕ) → fitting (size_in xs k) b ≡ None → length (within (drop k xs) c b) ≡ 0
stops_in [] zero c b h = refl
stops_in [] (suc k) c b h = refl
stops_in (e ∷ xs) zero zero b h = refl
stops_in (e ∷ xs) zero (suc c) b h =
    let f : nat_le (length e.bytes) b ≡ false = fits_none (length e.bytes) b h in
    let a : nat_lt 0 (suc c) ≡ true = lt-ltb 0 (suc c) (omega arith) in
    rw (a, f) refl
stops_in (e ∷ xs) (suc k) c b h = stops_in xs k c b h

goes_on_in : (xs : List LogEntry) (k c b s : ℕ) → 0 < c → fitting (size_in xs k) b ≡ Some s → length (within (drop k xs) c b) ≡ 1 + length (within (drop (suc k) xs) (c - 1) (b - s))
goes_on_in [] k c b s room h = absurd (let z : None ≡ Some s = h in cc)
goes_on_in (e ∷ xs) zero c b s room h =
    let t = fits_some (length e.bytes) s b h in
    let a : nat_lt 0 c ≡ true = lt-ltb 0 c room in
    rw (a, t.room, ← t.same) (omega arith)
goes_on_in (e ∷ xs) (suc k) c b s room h = goes_on_in xs k c b s room h

-- ---- the same at an index of a log

place_of : (p : PersistentState) (i : ℕ) → p.base < i → size_at p i ≡ size_in p.log (i - 1 - p.base)
place_of p i low = let e : i - p.base - 1 ≡ i - 1 - p.base = omega arith in rw (lt-ltb p.base i low, e) refl

pub stops : (p : PersistentState) (i c b : ℕ) → p.base < i → fitting (size_at p i) b ≡ None → length (within (from p i) c b) ≡ 0
stops p i c b low h = stops_in p.log (i - 1 - p.base) c b (sym (ap (λ s. fitting s b) (place_of p i low)) ∙ h)

pub goes_on : (p : PersistentState) (i c b s : ℕ) → p.base < i → 0 < c → fitting (size_at p i) b ≡ Some s → length (within (from p i) c b) ≡ 1 + length (within (from p (i + 1)) (c - 1) (b - s))
goes_on p i c b s low room h =
    let e : i + 1 - 1 - p.base ≡ suc (i - 1 - p.base) = omega arith in
    goes_on_in p.log (i - 1 - p.base) c b s room (sym (ap (λ x. fitting x b) (place_of p i low)) ∙ h)
    ∙ ap (λ k. 1 + length (within (drop k p.log) (c - 1) (b - s))) (sym e)

pub at_most : (o : Option ℕ) (b s : ℕ) → fitting o b ≡ Some s → s ≤ b
at_most None b s h = absurd (let z : None ≡ Some s = h in cc)
at_most (Some t) b s h = let x = fits_some t s b h in let l = leb-true t b x.room in let e = x.same in omega (arith, l, e)

sized_in : (xs : List LogEntry) (k s : ℕ) → size_in xs k ≡ Some s → k < length xs
sized_in [] k s h = absurd (let z : None ≡ Some s = h in cc)
sized_in (e ∷ xs) zero s h = omega arith
sized_in (e ∷ xs) (suc k) s h = let r = sized_in xs k s h in omega (arith, r)

pub within_log : (p : PersistentState) (i s : ℕ) → p.base < i → size_at p i ≡ Some s → i ≤ last p
within_log p i s low h = let r = sized_in p.log (i - 1 - p.base) s (sym (place_of p i low) ∙ h) in omega (arith, r, low)

fitted : (o : Option ℕ) (b s : ℕ) → fitting o b ≡ Some s → o ≡ Some s
fitted None b s h = absurd (let z : None ≡ Some s = h in cc)
fitted (Some t) b s h = ap Some (fits_some t s b h).same

pub in_log : (p : PersistentState) (i b s : ℕ) → p.base < i → fitting (size_at p i) b ≡ Some s → i ≤ last p
in_log p i b s low h = within_log p i s low (fitted (size_at p i) b s h)

no_room : (xs : List LogEntry) (b : ℕ) → length (within xs 0 b) ≡ 0
no_room [] b = refl
no_room (e ∷ xs) b = refl

-- where the count is used up
pub ends : (xs : List LogEntry) (c b taken all : ℕ) → c ≤ 0 → taken + length (within xs c b) ≡ all → taken ≡ all
ends xs zero b taken all low h = let z = no_room xs b in omega (arith, z, h)
ends xs (suc c) b taken all low h = absurd (omega (arith, low))

-- ---- a batch

nothing_in : (xs : List LogEntry) (k : ℕ) → size_in xs k ≡ None → length (batch (drop k xs)) ≡ 0
nothing_in [] zero h = refl
nothing_in [] (suc k) h = refl
nothing_in (e ∷ xs) zero h = absurd (let z : Some (length e.bytes) ≡ None = h in cc)
nothing_in (e ∷ xs) (suc k) h = nothing_in xs k h

first_in : (xs : List LogEntry) (k s : ℕ) → size_in xs k ≡ Some s → length (batch (drop k xs)) ≡ 1 + length (within (drop (suc k) xs) 99 (32768 - s))
first_in [] k s h = absurd (let z : None ≡ Some s = h in cc)
first_in (e ∷ xs) zero s h = let t : length e.bytes ≡ s = same_Some (length e.bytes) s h in rw (← t) (omega arith)
first_in (e ∷ xs) (suc k) s h = first_in xs k s h

pub nothing : (p : PersistentState) (i : ℕ) → p.base < i → size_at p i ≡ None → length (batch (from p i)) ≡ 0
nothing p i low h = nothing_in p.log (i - 1 - p.base) (sym (place_of p i low) ∙ h)

pub first : (p : PersistentState) (i s : ℕ) → p.base < i → size_at p i ≡ Some s → length (batch (from p i)) ≡ 1 + length (within (from p (i + 1)) 99 (32768 - s))
first p i s low h =
    let e : i + 1 - 1 - p.base ≡ suc (i - 1 - p.base) = omega arith in
    first_in p.log (i - 1 - p.base) s (sym (place_of p i low) ∙ h)
    ∙ ap (λ k. 1 + length (within (drop k p.log) 99 (32768 - s))) (sym e)

-- ---- what a batch holds

record Holds (xs : List LogEntry) (c b : ℕ) (es : List LogEntry) : Type 0 where
  front : es ≡ take (length es) xs
  few : length es ≤ c
  room : bytes_of es ≤ b

holds : (xs : List LogEntry) (c b : ℕ) → Holds xs c b (within xs c b)
holds [] c b = record { front = refl; few = omega arith; room = omega arith }
holds (e ∷ xs) zero b = record { front = refl; few = omega arith; room = omega arith }
holds (e ∷ xs) (suc c) b = ⊎_elim
    (λ (h : nat_le (length e.bytes) b ≡ true).
    let a : nat_lt 0 (suc c) ≡ true = lt-ltb 0 (suc c) (omega arith) in
    let s : suc c - 1 ≡ c = omega arith in
    let l = leb-true (length e.bytes) b h in
    let r = holds xs c (b - length e.bytes) in
    let few = r.few in
    let room = r.room in
    let sum : bytes_of (e ∷ within xs c (b - length e.bytes)) ≡ length e.bytes + bytes_of (within xs c (b - length e.bytes)) = refl in
    rw (a, h, s) (record { front = ap (λ y. e ∷ y) r.front; few = omega (arith, few); room = omega (arith, room, l, sum) }))
    (λ (h : nat_le (length e.bytes) b ≡ false).
    let a : nat_lt 0 (suc c) ≡ true = lt-ltb 0 (suc c) (omega arith) in
    rw (a, h) (record { front = refl; few = omega arith; room = omega arith }))
    (cases_Bool (nat_le (length e.bytes) b))

pub batches_fit : BatchesFit
batches_fit [] = record { front = refl; some = λ h. h; few = omega arith; room = omega arith }
batches_fit (e ∷ xs) =
    let r = holds xs 99 (32768 - length e.bytes) in
    let few = r.few in
    let room = r.room in
    let sum : bytes_of (batch (e ∷ xs)) ≡ length e.bytes + bytes_of (within xs 99 (32768 - length e.bytes)) = refl in
    let one : bytes_of (take 1 (e ∷ xs)) ≡ length e.bytes + 0 = refl in
    record { front = ap (λ y. e ∷ y) r.front; some = λ h. omega arith; few = omega (arith, few); room = omega (arith, room, sum, one) }

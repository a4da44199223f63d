-- Entries of a log, as they are copied into an append.
use Rattle.std.proofs.Common.{◌≡◌, ℕ, zero, suc, ◌+◌, ◌-◌, ◌<◌, ◌≤◌, ◌==◌, List, [], ◌∷◌, ◌++◌, length, map, take, drop, refl, ap, sym, ◌∙◌, arith, Bool, true, false}
use Rattle.std.proofs.lemmas.List.{append_assoc, append-nil}
use Rattle.std.proofs.lemmas.Bool.Decides.{nat_tests}
use Rattle.std.specs.Prelude.{Option, Some, None, slice_get, unwrap_or, nat_lt}
use Rattle.std.specs.Option.{option_map}
use Rattle.cp_parts.specs.declared.log_entry.LogEntry.{LogEntry}
use Rattle.cp_message.specs.declared.entries.LogEntry as wire
use Rattle.cp_log_rules.specs.Persistent.{PersistentState, last, entry_at}
use Rattle.cp_rules.specs.Persistent.{known_term}
use Rattle.cp_rules.specs.Sending.{batch}
use Rattle.cp_rules_ranges.specs.Messages.{entry_of}
use Rattle.cp_replicate.specs.Logs.{from}
use Rattle.cp_replicate.proofs.Batches.{batches_fit}

-- ---- one entry

abbrev bytes_in : Option LogEntry → Option (List ℕ)
bytes_in e = option_map (λ x. x.bytes) e

-- the entry at an index above the base is that place of the log
place_of : (p : PersistentState) (i : ℕ) → p.base < i → entry_at p i ≡ slice_get p.log (i - 1 - p.base)
place_of p i low =
    let t : nat_lt p.base i ≡ true = grind (arith, nat_tests) in
    let e : i - p.base - 1 ≡ i - 1 - p.base = omega arith in
    rw (t, e) refl

-- where there is an entry, its term is known
known_in : (e : Option LogEntry) (bytes : List ℕ) → bytes_in e ≡ Some bytes → option_map entry_of e ≡ Some (record { term = unwrap_or (option_map (λ x. x.term) e) 0; bytes = bytes })
known_in None bytes h = absurd (let z : None ≡ Some bytes = h in cc)
known_in (Some e) bytes h = let z : Some e.bytes ≡ Some bytes = h in let w : e.bytes ≡ bytes = cc in rw (← w) refl

-- at the base there is none
none_at_base : (p : PersistentState) (i : ℕ) → i ≡ p.base → entry_at p i ≡ None
none_at_base p i same = let t : nat_lt p.base i ≡ false = grind (arith, nat_tests) in rw t refl

pub entry_known : (p : PersistentState) (i : ℕ) (bytes : List ℕ) → bytes_in (entry_at p i) ≡ Some bytes → option_map entry_of (entry_at p i) ≡ Some (record { term = known_term p i; bytes = bytes })
entry_known p i bytes h = go (i == p.base) refl
  where
    go : (t : Bool) → (i == p.base) ≡ t → option_map entry_of (entry_at p i) ≡ Some (record { term = known_term p i; bytes = bytes })
    go true is = let same : i ≡ p.base = grind (arith, nat_tests) in
        absurd (let z : None ≡ Some bytes = sym (ap bytes_in (none_at_base p i same)) ∙ h in cc)
    go false is = rw is (known_in (entry_at p i) bytes h)

no_bytes : (e : Option LogEntry) → bytes_in e ≡ None → option_map entry_of e ≡ None
no_bytes None h = refl
no_bytes (Some e) h = absurd (let z : Some e.bytes ≡ None = h in cc)

pub no_entry : (p : PersistentState) (i : ℕ) → bytes_in (entry_at p i) ≡ None → option_map entry_of (entry_at p i) ≡ None
no_entry p i h = no_bytes (entry_at p i) h

-- ---- some of them, from an index on

inside : (log : List LogEntry) (k : ℕ) (e : wire.LogEntry) → option_map entry_of (slice_get log k) ≡ Some e → k < length log
inside [] k e h = absurd (let z : None ≡ Some e = h in cc)
inside (x ∷ log) zero e h = omega arith
inside (x ∷ log) (suc k) e h = let r = inside log k e h in omega (arith, r)

taken_in : (log : List LogEntry) (k n : ℕ) (e : wire.LogEntry) → 0 < n → option_map entry_of (slice_get log k) ≡ Some e → map entry_of (take n (drop k log)) ≡ e ∷ map entry_of (take (n - 1) (drop (suc k) log))
taken_in [] k n e some h = absurd (let z : None ≡ Some e = h in cc)
taken_in (x ∷ log) zero zero e some h = absurd (omega (arith, some))
taken_in (x ∷ log) zero (suc n) e some h =
    let z : Some (entry_of x) ≡ Some e = h in
    let w : entry_of x ≡ e = cc in
    let s : suc n - 1 ≡ n = omega arith in
    rw (s, ← w) refl
taken_in (x ∷ log) (suc k) n e some h = taken_in log k n e some h

none_in : (log : List LogEntry) (k n : ℕ) → option_map entry_of (slice_get log k) ≡ None → map entry_of (take n (drop k log)) ≡ []
none_in [] zero zero h = refl
none_in [] zero (suc n) h = refl
none_in [] (suc k) zero h = refl
none_in [] (suc k) (suc n) h = refl
none_in (x ∷ log) zero n h = absurd (let z : Some (entry_of x) ≡ None = h in cc)
none_in (x ∷ log) (suc k) n h = none_in log k n h

abbrev copied_at : PersistentState → ℕ → Option wire.LogEntry
copied_at p i = option_map entry_of (entry_at p i)

-- an entry more
pub one_more : (p : PersistentState) (i n : ℕ) (e : wire.LogEntry) (before : List wire.LogEntry) → Some e ≡ copied_at p i → p.base < i → 0 < n
    → (before ++ e ∷ []) ++ map entry_of (take (n - 1) (from p (i + 1))) ≡ before ++ map entry_of (take n (from p i))
one_more p i n e before is low some =
    let place : i + 1 - 1 - p.base ≡ suc (i - 1 - p.base) = omega arith in
    append_assoc before (e ∷ []) (map entry_of (take (n - 1) (from p (i + 1)))) ∙ ap (λ (xs : List wire.LogEntry). before ++ xs) (ap (λ (k : ℕ). e ∷ map entry_of (take (n - 1) (drop k p.log))) place
    ∙ sym (taken_in p.log (i - 1 - p.base) n e some (sym (ap (option_map entry_of) (place_of p i low)) ∙ sym is)))

pub in_log : (p : PersistentState) (i : ℕ) (e : wire.LogEntry) → Some e ≡ copied_at p i → p.base < i → i ≤ last p
in_log p i e is low = let r = inside p.log (i - 1 - p.base) e (sym (ap (option_map entry_of) (place_of p i low)) ∙ sym is) in omega (arith, r, low)

-- no entry more
ends : (p : PersistentState) (i n : ℕ) → None ≡ copied_at p i → p.base < i → map entry_of (take n (from p i)) ≡ []
ends p i n is low = none_in p.log (i - 1 - p.base) n (sym (ap (option_map entry_of) (place_of p i low)) ∙ sym is)

pub stops : (p : PersistentState) (i n : ℕ) (before all : List wire.LogEntry) → None ≡ copied_at p i → p.base < i → before ++ map entry_of (take n (from p i)) ≡ all → before ≡ all
stops p i n before all is low whole = sym (append-nil before) ∙ ap (λ (xs : List wire.LogEntry). before ++ xs) (sym (ends p i n is low)) ∙ whole

-- no entry is wanted
pub all_taken : (p : PersistentState) (i n : ℕ) → n ≤ 0 → map entry_of (take n (from p i)) ≡ []
all_taken p i zero none = refl
all_taken p i (suc n) none = absurd (omega (arith, none))

-- ---- a batch is a front

pub as_batch : (p : PersistentState) (next : ℕ) → map entry_of (take (length (batch (from p next))) (from p next)) ≡ map entry_of (batch (from p next))
as_batch p next = ap (λ (xs : List LogEntry). map entry_of xs) (sym (batches_fit (from p next)).front)

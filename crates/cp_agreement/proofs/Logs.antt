-- What two logs share, by places counted from 0.
use Rattle.std.proofs.Common.{◌≡◌, ◌≢◌, ℕ, zero, suc, ◌+◌, ◌<◌, ◌≤◌, ◌⊎◌, inl, inr, ⊎_elim, ◌-◌, le_of_lt, List, [], ◌∷◌, ◌++◌, length, take, drop, refl, ap, sym, ◌∙◌, arith, Some, slice_get, zero-add, suc-add, add-zero, add-suc, length-take, length-append, length-drop}
use Rattle.std.proofs.lemmas.Option.{slice_get_within, same_Some}
use Rattle.std.proofs.lemmas.Bool.{cases_lt}
use Rattle.cp_parts.specs.declared.log_entry.LogEntry.{LogEntry}
use Rattle.cp_agreement_facts.specs.Logs.{HasEntries, HasTerm, HasTerms, IsUpToDate, Replaces}

-- Both logs have n first entries, and these are equal. It stays so when either grows.
abbrev pub Share : ℕ → List LogEntry → List LogEntry → Type 0
Share n a b = (k : ℕ) → k < n → (e : LogEntry) × (slice_get a k ≡ Some e) × (slice_get b k ≡ Some e)

pub share_less : (a b : List LogEntry) (n m : ℕ) → n ≤ m → Share m a b → Share n a b
share_less a b n m h both k l = both k (omega arith)

pub share_sym : (a b : List LogEntry) (n : ℕ) → Share n a b → Share n b a
share_sym a b n both k l = let x = both k l in (x.0, x.2, x.1)

pub share_trans : (a b c : List LogEntry) (n : ℕ) → Share n a b → Share n b c → Share n a c
share_trans a b c n ab bc k l = let x = ab k l in let y = bc k l in (x.0, x.1, y.2 ∙ sym y.1 ∙ x.2)

-- an entry of the one is the entry of the other
pub share_at : (a b : List LogEntry) (n k : ℕ) (e : LogEntry) → Share n a b → k < n → slice_get a k ≡ Some e → slice_get b k ≡ Some e
share_at a b n k e both l is = let x = both k l in x.2 ∙ sym x.1 ∙ is

pub has_place : {X : Type 0} (l : List X) (k : ℕ) → k < length l → (e : X) × (slice_get l k ≡ Some e)
has_place [] k h = absurd (omega arith)
has_place (x ∷ l) zero h = (x, refl)
has_place (x ∷ l) (suc k) h = has_place l k (omega arith)

pub get-take : {X : Type 0} (l : List X) (n k : ℕ) → k < n → slice_get (take n l) k ≡ slice_get l k
get-take [] zero k h = refl
get-take [] (suc n) k h = refl
get-take (x ∷ l) zero k h = absurd (omega arith)
get-take (x ∷ l) (suc n) zero h = refl
get-take (x ∷ l) (suc n) (suc k) h = get-take l n k (omega arith)

pub get-drop : {X : Type 0} (l : List X) (d k : ℕ) → slice_get (drop d l) k ≡ slice_get l (d + k)
get-drop l zero k = rw zero-add refl
get-drop [] (suc d) k = refl
get-drop (x ∷ l) (suc d) k = rw suc-add (get-drop l d k)

pub get-append_left : {X : Type 0} (a b : List X) (k : ℕ) → k < length a → slice_get (a ++ b) k ≡ slice_get a k
get-append_left [] b k h = absurd (omega arith)
get-append_left (x ∷ a) b zero h = refl
get-append_left (x ∷ a) b (suc k) h = get-append_left a b k (omega arith)

pub get-append_right : {X : Type 0} (a b : List X) (k : ℕ) → slice_get (a ++ b) (length a + k) ≡ slice_get b k
get-append_right [] b k = rw zero-add refl
get-append_right (x ∷ a) b k = rw suc-add (get-append_right a b k)

-- Entries of one term at one place have equal fronts.
abbrev pub Matches : List LogEntry → List LogEntry → Type 0
Matches a b = (k : ℕ) (e f : LogEntry) → slice_get a k ≡ Some e → slice_get b k ≡ Some f → e.term ≡ f.term → Share (suc k) a b

-- Two logs that have the same term at an index share what lies up to it.
pub reach_at : (a b : List LogEntry) (i t : ℕ) → Matches a b → HasTerm a i t → HasTerm b i t → Share i a b
reach_at a b zero t m ha hb = λ k l. absurd (omega arith)
reach_at a b (suc i) t m ha hb = m i ha.0 hb.0 ha.1 hb.1 (ha.2 ∙ sym hb.2)

-- A log that has the terms of the first d entries of a piece of b, which begins after p, shares with b what lies up to there.
pub reach : (a b : List LogEntry) (p pt : ℕ) (es : List LogEntry) (d : ℕ) → Matches a b → HasTerm a p pt → HasTerm b p pt → HasEntries b p es → HasTerms a p es d → d ≤ length es → Share (p + d) a b
reach a b p pt es zero m ha hb piece terms l = rw add-zero (reach_at a b p pt m ha hb)
reach a b p pt es (suc d) m ha hb piece terms l =
    let e = has_place es d (omega arith) in
    rw add-suc (reach_at a b (suc (p + d)) e.0.term m (terms d e.0 (omega arith) e.1) (e.0, piece d e.0 e.1, refl))

module _ (a after : List LogEntry) (p : ℕ) (es : List LogEntry) (r : Replaces a p es after) where
  -- What a replacement does to a log.
  replaced_fits : p + r.kept ≤ length a
  replaced_fits = ⊎_elim (λ e. omega (arith, e)) (λ x. le_of_lt (slice_get_within a (p + r.kept) x.0 x.1)) r.differs

  replaced_kept : length (take (p + r.kept) a) ≡ p + r.kept
  replaced_kept = omega (arith, length-take (p + r.kept) a, replaced_fits)

  pub replaced_low : (k : ℕ) → k < p + r.kept → slice_get after k ≡ slice_get a k
  replaced_low k l = rw r.result (get-append_left (take (p + r.kept) a) (drop r.kept es) k (omega (arith, replaced_kept)) ∙ get-take a (p + r.kept) k l)

  pub replaced_high : (k : ℕ) → slice_get after ((p + r.kept) + k) ≡ slice_get es (r.kept + k)
  replaced_high k = ap (λ l. slice_get l ((p + r.kept) + k)) r.result ∙ ap (λ n. slice_get (take (p + r.kept) a ++ drop r.kept es) (n + k)) (sym replaced_kept) ∙ get-append_right (take (p + r.kept) a) (drop r.kept es) k ∙ get-drop es r.kept k

  pub replaced_length : length after ≡ p + length es
  replaced_length = omega (arith, ap length r.result, length-append (take (p + r.kept) a) (drop r.kept es), replaced_kept, length-drop r.kept es, slice_get_within es r.kept r.entry r.there)

-- A log that follows a piece of the leader's log b by a replacement is a front of b.
pub replaced_front : (a b after : List LogEntry) (p pt : ℕ) (es : List LogEntry) → Matches a b → HasTerm a p pt → HasTerm b p pt → HasEntries b p es → (r : Replaces a p es after) → Share (length after) after b
replaced_front a b after p pt es m ha hb piece r k l = ⊎_elim low high (cases_lt k (p + r.kept))
  where
    low : k < p + r.kept → (e : LogEntry) × (slice_get after k ≡ Some e) × (slice_get b k ≡ Some e)
    low h = let x = reach a b p pt es r.kept m ha hb piece r.same (le_of_lt (slice_get_within es r.kept r.entry r.there)) k h in
        (x.0, replaced_low a after p es r k h ∙ x.1, x.2)

    high : p + r.kept ≤ k → (e : LogEntry) × (slice_get after k ≡ Some e) × (slice_get b k ≡ Some e)
    high h = let x = has_place es (k - p) (omega (arith, replaced_length a after p es r)) in (
      x.0,
      ap (slice_get after) (omega arith) ∙ replaced_high a after p es r (k - (p + r.kept)) ∙ ap (slice_get es) (omega arith) ∙ x.1,
      ap (slice_get b) (omega arith) ∙ piece (k - p) x.0 x.1,
    )

-- at some place up to k the two have entries of different terms
abbrev pub Differ : ℕ → List LogEntry → List LogEntry → Type 0
Differ k a b = (j : ℕ) × (j ≤ k) × (e : LogEntry) × (f : LogEntry) × (slice_get a j ≡ Some e) × (slice_get b j ≡ Some f) × (e.term ≢ f.term)

-- What a log shares with c, it keeps through a replacement by a piece of b, or b and c differ there.
pub kept_or_differ : (a b c after : List LogEntry) (p : ℕ) (es : List LogEntry) → HasEntries b p es → (r : Replaces a p es after) → (k : ℕ) → Share (suc k) a c → Share (suc k) after c ⊎ Differ k b c
kept_or_differ a b c after p es piece r k both = ⊎_elim kept lost (cases_lt k (p + r.kept))
  where
    kept : k < p + r.kept → Share (suc k) after c ⊎ Differ k b c
    kept h = inl (λ j l. let x = both j l in (x.0, replaced_low a after p es r j (omega arith) ∙ x.1, x.2))

    lost : p + r.kept ≤ k → Share (suc k) after c ⊎ Differ k b c
    lost h = let x = both (p + r.kept) (omega arith) in
        inr (
          p + r.kept,
          h,
          r.entry,
          x.0,
          piece r.kept r.entry r.there,
          x.2,
          ⊎_elim
              (λ e. absurd (omega (arith, e, slice_get_within a (p + r.kept) x.0 x.1)))
              (λ y. λ same. y.2 (ap (λ z. z.term) (same_Some y.0 x.0 (sym y.1 ∙ x.1)) ∙ sym same))
              r.differs,
        )

-- No replacement by a piece of b changes a log that is b.
pub own_unchanged : (a after : List LogEntry) (p : ℕ) (es : List LogEntry) → HasEntries a p es → Replaces a p es after → ⊥
own_unchanged a after p es piece r =
    ⊎_elim
    (λ e. omega (arith, e, slice_get_within a (p + r.kept) r.entry (piece r.kept r.entry r.there)))
    (λ y. y.2 (ap (λ z. z.term) (same_Some y.0 r.entry (sym y.1 ∙ piece r.kept r.entry r.there))))
    r.differs

pub share_refl : (l : List LogEntry) (n : ℕ) → n ≤ length l → Share n l l
share_refl l n le k less = let x = has_place l k (omega arith) in (x.0, x.1, x.1)

pub share_length : (a b : List LogEntry) (n : ℕ) → Share n a b → n ≤ length b
share_length a b n both = ⊎_elim (λ (less : length b < n). let x = both (length b) less in absurd (omega (arith, slice_get_within b (length b) x.0 x.2))) (λ le. le) (cases_lt (length b) n)

pub longer : (a b : List LogEntry) → ((k : ℕ) (e : LogEntry) → slice_get a k ≡ Some e → slice_get b k ≡ Some e) → length a ≤ length b
longer a b h = share_length a b (length a) (λ k less. let x = has_place a k less in (x.0, x.1, h k x.0 x.1))

-- an entry of a log with one more entry at its end
pub push_cases : {X : Type 0} (l : List X) (x e : X) (k : ℕ) → slice_get (l ++ (x ∷ [])) k ≡ Some e → (slice_get l k ≡ Some e) ⊎ ((k ≡ length l) × (e ≡ x))
push_cases [] x e zero is = inr (refl, same_Some e x (sym is))
push_cases [] x e (suc k) is = absurd (cc)
push_cases (y ∷ l) x e zero is = inl is
push_cases (y ∷ l) x e (suc k) is = ⊎_elim inl (λ h. inr (ap suc h.0, h.1)) (push_cases l x e k is)

pub has_term_grows : (a b : List LogEntry) → ((k : ℕ) (e : LogEntry) → slice_get a k ≡ Some e → slice_get b k ≡ Some e) → (i t : ℕ) → HasTerm a i t → HasTerm b i t
has_term_grows a b h zero t has = has
has_term_grows a b h (suc i) t has = (has.0, h i has.0 has.1, has.2)

-- Every log ends somewhere.
pub ends_somewhere : (log : List LogEntry) (n : ℕ) → n ≤ length log → (t : ℕ) × HasTerm log n t
ends_somewhere log zero le = (0, refl)
ends_somewhere log (suc n) le = let x = has_place log n le in (x.0.term, (x.0, x.1, refl))

pub up_to_date_trans : (t i u j v k : ℕ) → IsUpToDate t i u j → IsUpToDate u j v k → IsUpToDate t i v k
up_to_date_trans t i u j v k a b = grind arith

pub differ_shared : (k n : ℕ) (a b : List LogEntry) → Differ k a b → Share n b a → k < n → ⊥
differ_shared k n a b (j, l, e, f, he, hf, ne) both less = ne (ap (λ x. x.term) (same_Some e f (sym he ∙ share_at b a n j f both (omega arith) hf)))

pub share_take : (a b : List LogEntry) (n : ℕ) → Share n a b → take n a ≡ take n b
share_take a b zero both = refl
share_take [] b (suc n) both = absurd (let x = both zero (omega arith) in let y = x.1 in cc)
share_take (e ∷ a) [] (suc n) both = absurd (let x = both zero (omega arith) in let y = x.2 in cc)
share_take (e ∷ a) (f ∷ b) (suc n) both = let x = both zero (omega arith) in let same : e ≡ f = same_Some e f (x.1 ∙ sym x.2) in
    ap (λ h. h ∷ take n a) same ∙ ap (λ l. f ∷ l) (share_take a b n (λ k less. both (suc k) (omega arith)))

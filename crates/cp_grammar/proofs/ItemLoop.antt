-- Reading items one after another, as a loop does.
use Rattle.std.proofs.Common.{◌≡◌, ℕ, suc, ◌-◌, ◌+◌, ◌≤◌, ◌<◌, List, [], ◌∷◌, ◌++◌, Ok, Err, refl, sym, ap, ◌∙◌, append_assoc, arith}
use Rattle.std.proofs.lemmas.List.{append-nil}
use Rattle.cp_grammar.specs.Grammar.{Grammar, Read, ◌>>=◌}
use Rattle.cp_grammar.specs.Lists.{items_reading}
use Rattle.cp_grammar.specs.Readers.{Stops}
use Rattle.cp_grammar.specs.declared.stop.Stop.{Stop}
use Rattle.cp_grammar.specs.declared.stop.Stop.TheVariants as stops

-- what was read before, and what is still read
abbrev pub with_front : {T A : Type 0} → List A → Read T (List A) → Read T (List A)
with_front front read = read >>= λ x. Ok (front ++ x.0, x.1)

pub with_none : {T A : Type 0} (read : Read T (List A)) → with_front [] read ≡ read
with_none (Ok x) = refl
with_none (Err n) = refl

pub regroup : {T A : Type 0} (front : List A) (x : A) (read : Read T (List A)) → with_front front (◌>>=◌ {B = List A × List T} read (λ xs. Ok (x ∷ xs.0, xs.1))) ≡ with_front (front ++ x ∷ []) read
regroup {T} {A} front x (Ok xs) = ap (λ (ys : List A). Ok (ys, xs.1)) (simp append_assoc)
regroup front x (Err n) = refl

module _ {T A : Type 0} (item : List A → Grammar T A) where
  pub begins : (none : List A) (count : ℕ) (ts : List T) → none ≡ [] → with_front none (items_reading item none (count - 0) ts) ≡ items_reading item [] count ts
  begins none count ts e =
      let k : count - 0 ≡ count = omega arith in
      rw (e, k) (with_none (items_reading item [] count ts))

  pub goes_on : (front : List A) (count i : ℕ) (ts : List T) (x : A) (after : List T) (total : Read T (List A)) → i < count → (item front).reading ts ≡ Ok (x, after)
      → with_front front (items_reading item front (count - i) ts) ≡ total → with_front (front ++ x ∷ []) (items_reading item (front ++ x ∷ []) (count - (i + 1)) after) ≡ total
  unfolding items_reading
  goes_on front count i ts x after total lt h so_far =
      let k : count - i ≡ suc (count - (i + 1)) = omega arith in
      let one : with_front front (items_reading item front (count - i) ts) ≡ with_front (front ++ x ∷ []) (items_reading item (front ++ x ∷ []) (count - (i + 1)) after) = rw (k, h) (regroup front x (items_reading item (front ++ x ∷ []) (count - (i + 1)) after)) in
      sym one ∙ so_far

  pub ends : (e : Stop) (front : List A) (count i : ℕ) (ts : List T) (total : Read T (List A)) → i < count → Stops e ((item front).reading ts)
      → with_front front (items_reading item front (count - i) ts) ≡ total → Stops e total
  unfolding items_reading
  ends stops.NoMemory front count i ts total lt h so_far = tt
  ends (stops.Left n) front count i ts total lt h so_far =
      let k : count - i ≡ suc (count - (i + 1)) = omega arith in
      let one : with_front front (items_reading item front (count - i) ts) ≡ Err n = rw (k, h) refl in
      sym so_far ∙ one

  pub is_done : (front : List A) (count i : ℕ) (ts : List T) (total : Read T (List A)) → count ≤ i → with_front front (items_reading item front (count - i) ts) ≡ total → total ≡ Ok (front, ts)
  unfolding items_reading
  is_done front count i ts total le so_far =
      let k : count - i ≡ 0 = omega arith in
      let one : with_front front (items_reading item front (count - i) ts) ≡ Ok (front, ts) = rw k (ap (λ (xs : List A). Ok (xs, ts)) (append-nil front)) in
      sym so_far ∙ one

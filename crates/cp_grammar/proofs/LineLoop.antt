-- Reading lines up to the last one, as a loop does.
use Rattle.std.proofs.Common.{◌≡◌, ℕ, suc, ◌-◌, ◌+◌, ◌≤◌, ◌<◌, List, [], ◌∷◌, ◌++◌, length, Ok, Err, refl, sym, ap, ◌∙◌, arith}
use Rattle.std.specs.Prelude.{Option, Some, None}
use Rattle.std.proofs.lemmas.List.{append-nil}
use Rattle.cp_grammar.specs.Grammar.{Grammar, Read}
use Rattle.cp_grammar.specs.Lists.{until_reading}
use Rattle.cp_grammar.specs.Readers.{Stops}
use Rattle.cp_grammar.specs.declared.stop.Stop.{Stop}
use Rattle.cp_grammar.specs.declared.stop.Stop.TheVariants as stops
use Rattle.cp_grammar.proofs.ItemLoop.{with_front, with_none, regroup}

module _ {T A : Type 0} (item : List A → Grammar T (Option A)) where
  pub turns : (front : List A) (fuel i : ℕ) (ts : List T) (x : A) (after : List T) (total : Read T (List A)) → i < fuel → (item front).reading ts ≡ Ok (Some x, after)
      → with_front front (until_reading item front (fuel - i) ts) ≡ total → with_front (front ++ x ∷ []) (until_reading item (front ++ x ∷ []) (fuel - (i + 1)) after) ≡ total
  unfolding until_reading
  turns front fuel i ts x after total lt h so_far =
      let k : fuel - i ≡ suc (fuel - (i + 1)) = omega arith in
      let one : with_front front (until_reading item front (fuel - i) ts) ≡ with_front (front ++ x ∷ []) (until_reading item (front ++ x ∷ []) (fuel - (i + 1)) after) =
      rw (k, h) (regroup front x (until_reading item (front ++ x ∷ []) (fuel - (i + 1)) after)) in
      sym one ∙ so_far

  pub fails : (e : Stop) (front : List A) (fuel i : ℕ) (ts : List T) (total : Read T (List A)) → i < fuel → Stops e ((item front).reading ts)
      → with_front front (until_reading item front (fuel - i) ts) ≡ total → Stops e total
  unfolding until_reading
  fails stops.NoMemory front fuel i ts total lt h so_far = tt
  fails (stops.Left n) front fuel i ts total lt h so_far =
      let k : fuel - i ≡ suc (fuel - (i + 1)) = omega arith in
      let one : with_front front (until_reading item front (fuel - i) ts) ≡ Err n = rw (k, h) refl in
      sym so_far ∙ one

  pub last : (front : List A) (fuel i : ℕ) (ts after : List T) (total : Read T (List A)) → i < fuel → (item front).reading ts ≡ Ok (None, after)
      → with_front front (until_reading item front (fuel - i) ts) ≡ total → total ≡ Ok (front, after)
  unfolding until_reading
  last front fuel i ts after total lt h so_far =
      let k : fuel - i ≡ suc (fuel - (i + 1)) = omega arith in
      let one : with_front front (until_reading item front (fuel - i) ts) ≡ Ok (front, after) = rw (k, h) (ap (λ (xs : List A). Ok (xs, after)) (append-nil front)) in
      sym so_far ∙ one

  pub out : (front : List A) (fuel i : ℕ) (ts : List T) (total : Read T (List A)) → fuel ≤ i → with_front front (until_reading item front (fuel - i) ts) ≡ total → total ≡ Err (length ts)
  unfolding until_reading
  out front fuel i ts total le so_far =
      let k : fuel - i ≡ 0 = omega arith in
      let one : with_front front (until_reading item front (fuel - i) ts) ≡ Err (length ts) = rw k refl in
      sym so_far ∙ one

  pub starts : (none : List A) (fuel : ℕ) (ts : List T) → none ≡ [] → with_front none (until_reading item none (fuel - 0) ts) ≡ until_reading item [] fuel ts
  starts none fuel ts e = let k : fuel - 0 ≡ fuel = omega arith in rw (e, k) (with_none (until_reading item [] fuel ts))

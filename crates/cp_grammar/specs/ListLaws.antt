-- Lists of lawful items are lawful.
use Rattle.std.proofs.Common.{◌≡◌, ℕ, zero, suc, ◌<◌, ◌≤◌, List, [], ◌∷◌, ◌++◌, length, Ok, Err, refl, sym, ap, subst, ◌∙◌, append_assoc, arith}
use Rattle.std.specs.Prelude.{Option, Some, None}
use Rattle.std.specs.List.{AllByRecursion}
use Rattle.std.proofs.lemmas.List.{length-append}
use Rattle.cp_grammar.specs.Grammar.{Read, ◌>>=◌, Grammar}
use Rattle.cp_grammar.specs.Lists.{items_spelling, ItemsFit, items_reading, items, listed, each, until_spelling, UntilFits, goes_on, until_reading, until}
use Rattle.cp_grammar.specs.Lawful.{IsLawful}
use Rattle.cp_grammar.specs.Laws.{ok_is, bind_ok, good_after, keyed_lawful}

module _ {T A : Type 0} (Good : T → Type 0) (item : List A → Grammar T A) (laws : (before : List A) → IsLawful Good (item before)) where
  items_again : (before : List A) (xs : List A) (rest : List T) → ItemsFit item before xs → items_reading item before (length xs) (items_spelling item before xs ++ rest) ≡ Ok (xs, rest)
  unfolding items_reading items_spelling ItemsFit
  items_again before [] rest fits = refl
  items_again before (x ∷ xs) rest fits =
      let regrouped = append_assoc ((item before).spelling x) (items_spelling item (before ++ x ∷ []) xs) rest in
      rw (regrouped, (laws before).again x (items_spelling item (before ++ x ∷ []) xs ++ rest) fits.0, items_again (before ++ x ∷ []) xs rest fits.1) refl

  items_take : (n : ℕ) (before : List A) (ts : List T) (xs : List A) (rest : List T) → AllByRecursion Good ts → items_reading item before n ts ≡ Ok (xs, rest) → (ts ≡ items_spelling item before xs ++ rest) × ((length xs ≡ n) × ItemsFit item before xs)
  unfolding items_reading items_spelling ItemsFit
  items_take zero before ts xs rest good e =
      let made : List A × List T = ([], ts) in
      subst (λ (v : List A × List T). (ts ≡ items_spelling item before v.0 ++ v.1) × ((length v.0 ≡ 0) × ItemsFit item before v.0)) (ok_is made (xs, rest) e) (refl, (refl, tt))
  items_take (suc n) before ts xs rest good e =
      let a = bind_ok ((item before).reading ts) (λ (x : A × List T). items_reading item (before ++ x.0 ∷ []) n x.1 >>= λ ys. Ok (x.0 ∷ ys.0, ys.1)) (xs, rest) e in
      let b = bind_ok (items_reading item (before ++ a.0.0 ∷ []) n a.0.1) (λ (ys : List A × List T). Ok (a.0.0 ∷ ys.0, ys.1)) (xs, rest) a.2 in
      let first = (laws before).takes ts a.0.0 a.0.1 good a.1 in
      let second = items_take n (before ++ a.0.0 ∷ []) a.0.1 b.0.0 b.0.1 (good_after Good ts ((item before).spelling a.0.0) a.0.1 first.0 good) b.1 in
      let made : List A × List T = (a.0.0 ∷ b.0.0, b.0.1) in
      subst (λ (v : List A × List T). (ts ≡ items_spelling item before v.0 ++ v.1) × ((length v.0 ≡ suc n) × ItemsFit item before v.0)) (ok_is made (xs, rest) b.2)
      (first.0 ∙ ap (λ (r : List T). (item before).spelling a.0.0 ++ r) second.0 ∙ sym (append_assoc ((item before).spelling a.0.0) (items_spelling item (before ++ a.0.0 ∷ []) b.0.0) b.0.1), (ap suc second.1.0, (first.1, second.1.1)))

  pub items_lawful : (before : List A) (n : ℕ) → IsLawful Good (items item before n)
  items_lawful before n = record {
    again = λ xs rest fits. subst (λ (k : ℕ). items_reading item before k (items_spelling item before xs ++ rest) ≡ Ok (xs, rest)) fits.0 (items_again before xs rest fits.1);
    takes = λ ts xs rest good e. items_take n before ts xs rest good e;
  }

  pub listed_lawful : (count : Grammar T ℕ) → IsLawful Good count → IsLawful Good (listed count item)
  listed_lawful count law = keyed_lawful Good count law length (items item []) (items_lawful []) (λ n xs fits. fits.0)

pub each_lawful : {T A B : Type 0} (Good : T → Type 0) (g : Grammar T A) → IsLawful Good g → (before : List B) → IsLawful Good (each g before)
unfolding each
each_lawful Good g law before = law

-- ---- items up to a last one

module _ {T A : Type 0} (Good : T → Type 0) (item : List A → Grammar T (Option A)) (laws : (before : List A) → IsLawful Good (item before)) where
  until_again : (xs before : List A) (fuel : ℕ) (rest : List T) → length xs < fuel → UntilFits item before xs → until_reading item before fuel (until_spelling item before xs ++ rest) ≡ Ok (xs, rest)
  unfolding until_reading until_spelling UntilFits
  until_again xs before zero rest lt fits = absurd (omega arith)
  until_again [] before (suc fuel) rest lt fits = rw ((laws before).again None rest fits) refl
  until_again (x ∷ xs) before (suc fuel) rest lt fits =
      let regrouped = append_assoc ((item before).spelling (Some x)) (until_spelling item (before ++ x ∷ []) xs) rest in
      let small : length xs < fuel = omega arith in
      rw (regrouped, (laws before).again (Some x) (until_spelling item (before ++ x ∷ []) xs ++ rest) fits.0, until_again xs (before ++ x ∷ []) fuel rest small fits.1) refl

  until_step : (before : List A) (ts : List T) (xs : List A) (rest : List T) (o : Option A) (after : List T) (more : A → Read T (List A))
      → ((x : A) (ys : List A) (end : List T) → more x ≡ Ok (ys, end) → (after ≡ until_spelling item (before ++ x ∷ []) ys ++ end) × UntilFits item (before ++ x ∷ []) ys)
      → ts ≡ (item before).spelling o ++ after → (item before).Fits o → goes_on o after more ≡ Ok (xs, rest) → (ts ≡ until_spelling item before xs ++ rest) × UntilFits item before xs
  unfolding until_spelling UntilFits
  until_step before ts xs rest None after more ih spelled fits e =
      let made : List A × List T = ([], after) in
      subst (λ (v : List A × List T). (ts ≡ until_spelling item before v.0 ++ v.1) × UntilFits item before v.0) (ok_is made (xs, rest) e) (spelled, fits)
  until_step before ts xs rest (Some x) after more ih spelled fits e =
      let b = bind_ok (more x) (λ (ys : List A × List T). Ok (x ∷ ys.0, ys.1)) (xs, rest) e in
      let second = ih x b.0.0 b.0.1 b.1 in
      let made : List A × List T = (x ∷ b.0.0, b.0.1) in
      subst (λ (v : List A × List T). (ts ≡ until_spelling item before v.0 ++ v.1) × UntilFits item before v.0) (ok_is made (xs, rest) b.2)
      (spelled ∙ ap (λ (r : List T). (item before).spelling (Some x) ++ r) second.0 ∙ sym (append_assoc ((item before).spelling (Some x)) (until_spelling item (before ++ x ∷ []) b.0.0) b.0.1), (fits, second.1))

  until_takes : (fuel : ℕ) (before : List A) (ts : List T) (xs : List A) (rest : List T) → AllByRecursion Good ts → until_reading item before fuel ts ≡ Ok (xs, rest) → (ts ≡ until_spelling item before xs ++ rest) × UntilFits item before xs
  unfolding until_reading
  until_takes zero before ts xs rest good e = absurd cc
  until_takes (suc fuel) before ts xs rest good e =
      let a = bind_ok ((item before).reading ts) (λ (x : Option A × List T). goes_on x.0 x.1 (λ y. until_reading item (before ++ y ∷ []) fuel x.1)) (xs, rest) e in
      let first = (laws before).takes ts a.0.0 a.0.1 good a.1 in
      let ok = good_after Good ts ((item before).spelling a.0.0) a.0.1 first.0 good in
      until_step before ts xs rest a.0.0 a.0.1 (λ y. until_reading item (before ++ y ∷ []) fuel a.0.1) (λ y ys end e'. until_takes fuel (before ++ y ∷ []) a.0.1 ys end ok e') first.0 first.1 a.2

  until_long : ((before : List A) (x : A) → (item before).Fits (Some x) → 1 ≤ length ((item before).spelling (Some x))) → (xs before : List A) → UntilFits item before xs → length xs ≤ length (until_spelling item before xs)
  unfolding until_spelling UntilFits
  until_long some [] before fits = omega arith
  until_long some (x ∷ xs) before fits =
      omega (arith, length-append ((item before).spelling (Some x)) (until_spelling item (before ++ x ∷ []) xs), some before x fits.0, until_long some xs (before ++ x ∷ []) fits.1)

  pub until_lawful : ((before : List A) (x : A) → (item before).Fits (Some x) → 1 ≤ length ((item before).spelling (Some x))) → IsLawful Good (until item)
  until_lawful some = record {
    again = λ xs rest fits. until_again xs [] (suc (length (until_spelling item [] xs ++ rest))) rest (omega (arith, length-append (until_spelling item [] xs) rest, until_long some xs [] fits)) fits;
    takes = λ ts xs rest good e. until_takes (suc (length ts)) [] ts xs rest good e;
  }

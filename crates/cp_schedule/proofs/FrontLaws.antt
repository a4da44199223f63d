-- Lines that begin with words of their own are lawful; lines that may be left out are, before texts that don't begin so.
use Rattle.std.proofs.Common.{◌≡◌, ℕ, zero, suc, ◌<◌, ◌≤◌, Bool, true, false, cond, eqb, List, [], ◌∷◌, ◌++◌, length, Ok, refl, sym, ap, subst, ◌∙◌, append_assoc, arith}
use Rattle.std.specs.Prelude.{Option, Some, None}
use Rattle.std.specs.List.{AllByRecursion}
use Rattle.std.proofs.lemmas.Bool.{eqb-true, eq-eqb}
use Rattle.std.proofs.lemmas.List.{length-append}
use Rattle.cp_codec.specs.Exact.{IsByte}
use Rattle.cp_grammar.specs.Grammar.{Read, ◌>>=◌, Grammar, seq, mapped}
use Rattle.cp_grammar.specs.Lists.{until_spelling, UntilFits, goes_on, until_reading, until}
use Rattle.cp_grammar.specs.Lawful.{IsLawful}
use Rattle.cp_grammar.specs.Laws.{ok_is, bind_ok, good_after}
use Rattle.cp_schedule.specs.Fronts.{behind, needed, after, spelling_if_there, FitsIfThere, if_there, optional}

-- ---- fronts of texts

pub behind_again : (front rest : List ℕ) → behind front (front ++ rest) ≡ Some rest
unfolding behind
behind_again [] rest = refl
behind_again (k ∷ ks) rest = rw (eq-eqb k k refl) (behind_again ks rest)

test_some : {A : Type 0} (b : Bool) (r : Option A) (y : A) → cond b r None ≡ Some y → (b ≡ true) × (r ≡ Some y)
test_some true r y e = (refl, e)
test_some false r y e = absurd cc

pub behind_takes : (front ts rest : List ℕ) → behind front ts ≡ Some rest → ts ≡ front ++ rest
unfolding behind
behind_takes [] ts rest e = cc
behind_takes (k ∷ ks) [] rest e = absurd cc
behind_takes (k ∷ ks) (t ∷ ts) rest e =
    let h = test_some (eqb t k) (behind ks ts) rest e in
    rw (eqb-true t k h.0, behind_takes ks ts rest h.1) refl

module _ {A : Type 0} (front : List ℕ) (g : Grammar ℕ A) (law : IsLawful IsByte g) where
  needed_takes : (ts : List ℕ) (x : A) (rest : List ℕ) → AllByRecursion IsByte ts → (o : Option (List ℕ)) → behind front ts ≡ o → needed g (length ts) o ≡ Ok (x, rest) → (ts ≡ (front ++ g.spelling x) ++ rest) × g.Fits x
  needed_takes ts x rest good None was e = absurd cc
  needed_takes ts x rest good (Some more) was e =
      let is = behind_takes front ts more was in
      let h = law.takes more x rest (good_after IsByte ts front more is good) e in
      (is ∙ ap (λ (r : List ℕ). front ++ r) h.0 ∙ sym (append_assoc front (g.spelling x) rest), h.1)

  pub after_lawful : IsLawful IsByte (after front g)
  after_lawful = record {
    again = λ x rest fits. rw (append_assoc front (g.spelling x) rest, behind_again front (g.spelling x ++ rest)) (law.again x rest fits);
    takes = λ ts x rest good e. needed_takes ts x rest good (behind front ts) refl e;
  }

-- ---- before texts of some kind

-- The laws of a grammar where only texts of some kind may follow.
pub record IsLawfulBefore {A : Type 0} (May : List ℕ → Type 0) (g : Grammar ℕ A) : Type 0 where
  pub again : (x : A) (rest : List ℕ) → May rest → g.Fits x → g.reading (g.spelling x ++ rest) ≡ Ok (x, rest)
  pub takes : (ts : List ℕ) (x : A) (rest : List ℕ) → AllByRecursion IsByte ts → g.reading ts ≡ Ok (x, rest) → (ts ≡ g.spelling x ++ rest) × g.Fits x

pub before_all : {A : Type 0} (May : List ℕ → Type 0) (g : Grammar ℕ A) → IsLawful IsByte g → IsLawfulBefore May g
before_all May g law = record { again = λ x rest may fits. law.again x rest fits; takes = law.takes }

-- the text doesn't begin so
abbrev pub Avoids : List ℕ → List ℕ → Type 0
Avoids front ts = behind front ts ≡ None

module _ {A : Type 0} (front : List ℕ) (g : Grammar ℕ A) (law : IsLawful IsByte g) where
  optional_again : (o : Option A) (rest : List ℕ) → Avoids front rest → FitsIfThere g o → if_there g (spelling_if_there front g o ++ rest) (behind front (spelling_if_there front g o ++ rest)) ≡ Ok (o, rest)
  optional_again None rest may fits = rw may refl
  optional_again (Some x) rest may fits = rw (append_assoc front (g.spelling x) rest, behind_again front (g.spelling x ++ rest), law.again x rest fits) refl

  optional_takes : (ts : List ℕ) (x : Option A) (rest : List ℕ) → AllByRecursion IsByte ts → (o : Option (List ℕ)) → behind front ts ≡ o → if_there g ts o ≡ Ok (x, rest) → (ts ≡ spelling_if_there front g x ++ rest) × FitsIfThere g x
  optional_takes ts x rest good None was e =
      let made : Option A × List ℕ = (None, ts) in
      subst (λ (v : Option A × List ℕ). (ts ≡ spelling_if_there front g v.0 ++ v.1) × FitsIfThere g v.0) (ok_is made (x, rest) e) (refl, tt)
  optional_takes ts x rest good (Some more) was e =
      let b = bind_ok (g.reading more) (λ (y : A × List ℕ). Ok (Some y.0, y.1)) (x, rest) e in
      let is = behind_takes front ts more was in
      let h = law.takes more b.0.0 b.0.1 (good_after IsByte ts front more is good) b.1 in
      let made : Option A × List ℕ = (Some b.0.0, b.0.1) in
      subst (λ (v : Option A × List ℕ). (ts ≡ spelling_if_there front g v.0 ++ v.1) × FitsIfThere g v.0) (ok_is made (x, rest) b.2)
      (is ∙ ap (λ (r : List ℕ). front ++ r) h.0 ∙ sym (append_assoc front (g.spelling b.0.0) b.0.1), h.1)

  pub optional_lawful : IsLawfulBefore (Avoids front) (optional front g)
  optional_lawful = record {
    again = λ x rest may fits. optional_again x rest may fits;
    takes = λ ts x rest good e. optional_takes ts x rest good (behind front ts) refl e;
  }

-- one after another, where what the second spells may follow the first
module _ {A B : Type 0} (First Last : List ℕ → Type 0) (g : Grammar ℕ A) (h : A → Grammar ℕ B) (law : IsLawfulBefore First g) (laws : (x : A) → IsLawfulBefore Last (h x)) where
  pub seq_before : ((x : A) (y : B) (rest : List ℕ) → Last rest → (h x).Fits y → First ((h x).spelling y ++ rest)) → IsLawfulBefore Last (seq g h)
  seq_before follows = record {
    again = λ p rest may fits.
        rw (append_assoc (g.spelling p.0) ((h p.0).spelling p.1) rest, law.again p.0 ((h p.0).spelling p.1 ++ rest) (follows p.0 p.1 rest may fits.1) fits.0, (laws p.0).again p.1 rest may fits.1) refl;
    takes = λ ts p rest good e.
        let a = bind_ok (g.reading ts) (λ (x : A × List ℕ). (h x.0).reading x.1 >>= λ y. Ok ((x.0, y.0), y.1)) (p, rest) e in
        let b = bind_ok ((h a.0.0).reading a.0.1) (λ (y : B × List ℕ). Ok ((a.0.0, y.0), y.1)) (p, rest) a.2 in
        let first = law.takes ts a.0.0 a.0.1 good a.1 in
        let second = (laws a.0.0).takes a.0.1 b.0.0 b.0.1 (good_after IsByte ts (g.spelling a.0.0) a.0.1 first.0 good) b.1 in
        let made : (A × B) × List ℕ = ((a.0.0, b.0.0), b.0.1) in
        subst (λ (v : (A × B) × List ℕ). (ts ≡ (g.spelling v.0.0 ++ (h v.0.0).spelling v.0.1) ++ v.1) × (g.Fits v.0.0 × (h v.0.0).Fits v.0.1)) (ok_is made (p, rest) b.2)
        (first.0 ∙ ap (λ (r : List ℕ). g.spelling a.0.0 ++ r) second.0 ∙ sym (append_assoc (g.spelling a.0.0) ((h a.0.0).spelling b.0.0) b.0.1), (first.1, second.1));
  }

pub mapped_before : {A B : Type 0} (Last : List ℕ → Type 0) (g : Grammar ℕ A) → IsLawfulBefore Last g → (make : A → B) (parts : B → A) → ((x : A) → parts (make x) ≡ x) → IsLawfulBefore Last (mapped make parts g)
mapped_before {A} {B} Last g law make parts back = record {
  again = λ y rest may fits. rw (law.again (parts y) rest may fits.0, fits.1) refl;
  takes = λ ts y rest good e.
      let a = bind_ok (g.reading ts) (λ (x : A × List ℕ). Ok (make x.0, x.1)) (y, rest) e in
      let h = law.takes ts a.0.0 a.0.1 good a.1 in
      let b = back a.0.0 in
      subst (λ (v : B × List ℕ). (ts ≡ g.spelling (parts v.0) ++ v.1) × (g.Fits (parts v.0) × (make (parts v.0) ≡ v.0))) (ok_is (make a.0.0, a.0.1) (y, rest) a.2)
      (rw b h.0, (rw b h.1, ap make b));
}

-- lines that may be left out, up to where none follows
module _ {A : Type 0} (front : List ℕ) (some : 1 ≤ length front) (item : List A → Grammar ℕ A) (laws : (before : List A) → IsLawful IsByte (item before)) where
  lines_again : (xs before : List A) (fuel : ℕ) (rest : List ℕ) → Avoids front rest → length xs < fuel → UntilFits (λ b. optional front (item b)) before xs
      → until_reading (λ b. optional front (item b)) before fuel (until_spelling (λ b. optional front (item b)) before xs ++ rest) ≡ Ok (xs, rest)
  unfolding until_reading until_spelling UntilFits
  lines_again xs before zero rest may lt fits = absurd (omega arith)
  lines_again [] before (suc fuel) rest may lt fits = rw may refl
  lines_again (x ∷ xs) before (suc fuel) rest may lt fits =
      let more = until_spelling (λ b. optional front (item b)) (before ++ x ∷ []) xs in
      let regrouped = append_assoc (front ++ (item before).spelling x) more rest in
      let small : length xs < fuel = omega arith in
      rw (regrouped, append_assoc front ((item before).spelling x) (more ++ rest), behind_again front ((item before).spelling x ++ (more ++ rest)), (laws before).again x (more ++ rest) fits.0, lines_again xs (before ++ x ∷ []) fuel rest may small fits.1) refl

  lines_step : (before : List A) (ts : List ℕ) (xs : List A) (rest : List ℕ) (o : Option A) (after : List ℕ) (more : A → Read ℕ (List A))
      → ((x : A) (ys : List A) (end : List ℕ) → more x ≡ Ok (ys, end) → (after ≡ until_spelling (λ b. optional front (item b)) (before ++ x ∷ []) ys ++ end) × UntilFits (λ b. optional front (item b)) (before ++ x ∷ []) ys)
      → ts ≡ spelling_if_there front (item before) o ++ after → FitsIfThere (item before) o → goes_on o after more ≡ Ok (xs, rest) → (ts ≡ until_spelling (λ b. optional front (item b)) before xs ++ rest) × UntilFits (λ b. optional front (item b)) before xs
  unfolding until_spelling UntilFits
  lines_step before ts xs rest None after more ih spelled fits e =
      let made : List A × List ℕ = ([], after) in
      subst (λ (v : List A × List ℕ). (ts ≡ until_spelling (λ b. optional front (item b)) before v.0 ++ v.1) × UntilFits (λ b. optional front (item b)) before v.0) (ok_is made (xs, rest) e) (spelled, fits)
  lines_step before ts xs rest (Some x) after more ih spelled fits e =
      let b = bind_ok (more x) (λ (ys : List A × List ℕ). Ok (x ∷ ys.0, ys.1)) (xs, rest) e in
      let second = ih x b.0.0 b.0.1 b.1 in
      let made : List A × List ℕ = (x ∷ b.0.0, b.0.1) in
      subst (λ (v : List A × List ℕ). (ts ≡ until_spelling (λ b. optional front (item b)) before v.0 ++ v.1) × UntilFits (λ b. optional front (item b)) before v.0) (ok_is made (xs, rest) b.2)
      (spelled ∙ ap (λ (r : List ℕ). (front ++ (item before).spelling x) ++ r) second.0 ∙ sym (append_assoc (front ++ (item before).spelling x) (until_spelling (λ b. optional front (item b)) (before ++ x ∷ []) b.0.0) b.0.1), (fits, second.1))

  lines_take : (fuel : ℕ) (before : List A) (ts : List ℕ) (xs : List A) (rest : List ℕ) → AllByRecursion IsByte ts → until_reading (λ b. optional front (item b)) before fuel ts ≡ Ok (xs, rest)
      → (ts ≡ until_spelling (λ b. optional front (item b)) before xs ++ rest) × UntilFits (λ b. optional front (item b)) before xs
  unfolding until_reading
  lines_take zero before ts xs rest good e = absurd cc
  lines_take (suc fuel) before ts xs rest good e =
      let a = bind_ok ((optional front (item before)).reading ts) (λ (x : Option A × List ℕ). goes_on x.0 x.1 (λ y. until_reading (λ b. optional front (item b)) (before ++ y ∷ []) fuel x.1)) (xs, rest) e in
      let first = (optional_lawful front (item before) (laws before)).takes ts a.0.0 a.0.1 good a.1 in
      let ok = good_after IsByte ts (spelling_if_there front (item before) a.0.0) a.0.1 first.0 good in
      lines_step before ts xs rest a.0.0 a.0.1 (λ y. until_reading (λ b. optional front (item b)) (before ++ y ∷ []) fuel a.0.1) (λ y ys end e'. lines_take fuel (before ++ y ∷ []) a.0.1 ys end ok e') first.0 first.1 a.2

  lines_long : (xs before : List A) → length xs ≤ length (until_spelling (λ b. optional front (item b)) before xs)
  unfolding until_spelling
  lines_long [] before = omega arith
  lines_long (x ∷ xs) before =
      omega (arith, some, length-append (front ++ (item before).spelling x) (until_spelling (λ b. optional front (item b)) (before ++ x ∷ []) xs), length-append front ((item before).spelling x), lines_long xs (before ++ x ∷ []))

  pub lines_lawful : IsLawfulBefore (Avoids front) (until (λ b. optional front (item b)))
  lines_lawful = record {
    again = λ xs rest may fits. lines_again xs [] (suc (length (until_spelling (λ b. optional front (item b)) [] xs ++ rest))) rest may
        (omega (arith, length-append (until_spelling (λ b. optional front (item b)) [] xs) rest, lines_long xs [])) fits;
    takes = λ ts xs rest good e. lines_take (suc (length ts)) [] ts xs rest good e;
  }

  -- what they spell begins with their front, or there is none
  pub lines_avoid : (other : List ℕ) → ((ts : List ℕ) → Avoids other (front ++ ts)) → (xs : List A) (rest : List ℕ) → Avoids other rest → Avoids other (until_spelling (λ b. optional front (item b)) [] xs ++ rest)
  unfolding until_spelling
  lines_avoid other apart [] rest may = may
  lines_avoid other apart (x ∷ xs) rest may =
      let more = until_spelling (λ b. optional front (item b)) (x ∷ []) xs in
      rw (append_assoc (front ++ (item []).spelling x) more rest, append_assoc front ((item []).spelling x) (more ++ rest)) (apart ((item []).spelling x ++ (more ++ rest)))

pub optional_avoids : {A : Type 0} (front : List ℕ) (g : Grammar ℕ A) (other : List ℕ) → ((ts : List ℕ) → Avoids other (front ++ ts)) → (o : Option A) (rest : List ℕ) → Avoids other rest → Avoids other (spelling_if_there front g o ++ rest)
optional_avoids front g other apart None rest may = may
optional_avoids front g other apart (Some x) rest may = rw (append_assoc front (g.spelling x) rest) (apart (g.spelling x ++ rest))

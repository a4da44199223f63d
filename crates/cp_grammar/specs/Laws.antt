-- The laws of a grammar, and that each way to put grammars together keeps them.
use Rattle.std.proofs.Common.{◌≡◌, ℕ, zero, suc, ◌-◌, ◌<◌, ◌≤◌, Bool, true, false, cond, eqb, ltb, List, [], ◌∷◌, ◌++◌, length, take, drop, Result, Ok, Err, refl, sym, ap, subst, ◌∙◌, append_assoc, arith}
use Rattle.std.specs.Prelude.{Option, Some, None}
use Rattle.std.specs.List.{AllByRecursion}
use Rattle.std.proofs.lemmas.Bool.{ltb-false, le-ltb, eqb-true}
use Rattle.std.proofs.lemmas.List.{take_at, drop_at, take-append-drop, length-append, length-take, append-nil, nil_from_length}
use Rattle.cp_grammar.specs.Grammar.{Read, ◌>>=◌, Grammar, tokens, always, never, failing_at, one_field, checked, settled, seq, ◌then◌, keyed, mapped, spelled_of, FitsOf, variant, Chosen, case_by, case, no_case, placed, whole}
use Rattle.cp_grammar.specs.Lawful.{IsLawful}

-- ---- tools

abbrev done : {A : Type 0} → A → Result A ℕ
done x = Ok x

pub ok_is : {A : Type 0} (x y : A) → done x ≡ done y → x ≡ y
ok_is x y e = cc

pub bind_ok : {A B : Type 0} (r : Result A ℕ) (f : A → Result B ℕ) (y : B) → (r >>= f) ≡ Ok y → (x : A) × (r ≡ Ok x) × (f x ≡ Ok y)
bind_ok (Ok x) f y e = (x, refl, e)
bind_ok (Err d) f y e = absurd cc

pub guard_ok : {A : Type 0} (b : Bool) (d : ℕ) (x y : A) → cond b (Err d) (Ok x) ≡ Ok y → (b ≡ false) × (x ≡ y)
guard_ok true d x y e = absurd cc
guard_ok false d x y e = (refl, cc)

pub guard_rest : {A : Type 0} (b : Bool) (d : ℕ) (r : Result A ℕ) (y : A) → cond b (Err d) r ≡ Ok y → (b ≡ false) × (r ≡ Ok y)
guard_rest true d r y e = absurd cc
guard_rest false d r y e = (refl, e)

pub test_ok : {A : Type 0} (b : Bool) (d : ℕ) (x y : A) → cond b (Ok x) (Err d) ≡ Ok y → (b ≡ true) × (x ≡ y)
test_ok true d x y e = (refl, cc)
test_ok false d x y e = absurd cc

pub test_rest : {A : Type 0} (b : Bool) (d : ℕ) (r : Result A ℕ) (y : A) → cond b r (Err d) ≡ Ok y → (b ≡ true) × (r ≡ Ok y)
test_rest true d r y e = (refl, e)
test_rest false d r y e = absurd cc

pub good_rest : {T : Type 0} (Good : T → Type 0) (xs ys : List T) → AllByRecursion Good (xs ++ ys) → AllByRecursion Good ys
good_rest Good [] ys h = h
good_rest Good (x ∷ xs) ys h = good_rest Good xs ys h.1

-- the tokens after what was read are good
pub good_after : {T : Type 0} (Good : T → Type 0) (ts xs rest : List T) → ts ≡ xs ++ rest → AllByRecursion Good ts → AllByRecursion Good rest
good_after Good ts xs rest e h = good_rest Good xs rest (subst (AllByRecursion Good) e h)

-- ---- leaves

pub always_lawful : {T A : Type 0} (Good : T → Type 0) (a : A) → IsLawful Good (always a)
always_lawful Good a = record {
  again = λ x rest fits. ap (λ (v : _). Ok (v, rest)) (sym fits);
  takes = λ ts x rest good e. let h = ok_is (a, ts) (x, rest) e in (ap (λ (p : _ × _). p.1) h, sym (ap (λ (p : _ × _). p.0) h));
}

pub never_lawful : {T A : Type 0} (Good : T → Type 0) → IsLawful {A = A} Good never
never_lawful Good = record {
  again = λ x rest fits. absurd fits;
  takes = λ ts x rest good e. absurd cc;
}

tokens_again : {T : Type 0} (n : ℕ) (x rest : List T) → length x ≡ n → (tokens n).reading (x ++ rest) ≡ Ok (x, rest)
tokens_again n x rest fits =
    let long : ltb (length (x ++ rest)) n ≡ false = le-ltb _ _ (omega (arith, length-append x rest)) in
    rw (long, take_at x rest n fits, drop_at x rest n fits) refl

tokens_takes : {T : Type 0} (n : ℕ) (ts x rest : List T) → (tokens n).reading ts ≡ Ok (x, rest) → (ts ≡ x ++ rest) × (length x ≡ n)
tokens_takes {T} n ts x rest e =
    let g = guard_ok {A = List T × List T} (ltb (length ts) n) (length ts) (take n ts, drop n ts) (x, rest) e in
    let long : n ≤ length ts = ltb-false _ _ g.0 in
    let whole_is : ts ≡ take n ts ++ drop n ts = sym (take-append-drop n ts) in
    let len : length (take n ts) ≡ n = omega (arith, length-take n ts) in
    subst (λ (p : List T × List T). (ts ≡ p.0 ++ p.1) × (length p.0 ≡ n)) g.1 (whole_is, len)

pub tokens_lawful : {T : Type 0} (Good : T → Type 0) (n : ℕ) → IsLawful Good (tokens n)
tokens_lawful Good n = record {
  again = tokens_again n;
  takes = λ ts x rest good e. tokens_takes n ts x rest e;
}

-- ---- one field

failing_ok : {T A : Type 0} (left : ℕ) (r : Read T A) (x : A × List T) → failing_at left r ≡ Ok x → r ≡ Ok x
failing_ok left (Ok y) x e = e
failing_ok left (Err d) x e = absurd cc

module _ {T A : Type 0} (Good : T → Type 0) (g : Grammar T A) (law : IsLawful Good g) where
  pub one_field_lawful : IsLawful Good (one_field g)
  one_field_lawful = record {
    again = λ x rest fits. rw (law.again x rest fits) refl;
    takes = λ ts x rest good e. law.takes ts x rest good (failing_ok _ _ _ e);
  }

  pub checked_lawful : (rule : A → Bool) → IsLawful Good (checked g rule)
  checked_lawful rule = record {
    again = λ x rest fits. rw (law.again x rest fits.0, fits.1) refl;
    takes = λ ts x rest good e.
        let a = bind_ok (g.reading ts) (λ (y : A × List T). cond (rule y.0) (Ok y) (Err (length ts))) (x, rest) e in
        let t = test_ok (rule a.0.0) (length ts) a.0 (x, rest) a.2 in
        let was : g.reading ts ≡ Ok (x, rest) = a.1 ∙ ap (λ (v : A × List T). Ok v) t.1 in
        let h = law.takes ts x rest good was in
        (h.0, (h.1, subst (λ (y : A × List T). rule y.0 ≡ true) t.1 t.0));
  }

  pub settled_lawful : (rule : A → Bool) → IsLawful Good (settled g rule)
  settled_lawful rule = record {
    again = λ x rest fits. rw (law.again x rest fits.0, fits.1) refl;
    takes = λ ts x rest good e.
        let a = bind_ok (g.reading ts) (λ (y : A × List T). cond (rule y.0) (Ok y) (Err (length y.1))) (x, rest) e in
        let t = test_ok (rule a.0.0) (length a.0.1) a.0 (x, rest) a.2 in
        let was : g.reading ts ≡ Ok (x, rest) = a.1 ∙ ap (λ (v : A × List T). Ok v) t.1 in
        let h = law.takes ts x rest good was in
        (h.0, (h.1, subst (λ (y : A × List T). rule y.0 ≡ true) t.1 t.0));
  }

  pub mapped_lawful : {B : Type 0} (make : A → B) (parts : B → A) → ((x : A) → g.Fits x → parts (make x) ≡ x) → IsLawful Good (mapped make parts g)
  mapped_lawful {B} make parts back = record {
    again = λ y rest fits. rw (law.again (parts y) rest fits.0, fits.1) refl;
    takes = λ ts y rest good e.
        let a = bind_ok (g.reading ts) (λ (x : A × List T). Ok (make x.0, x.1)) (y, rest) e in
        let h = law.takes ts a.0.0 a.0.1 good a.1 in
        let b = back a.0.0 h.1 in
        subst (λ (v : B × List T). (ts ≡ g.spelling (parts v.0) ++ v.1) × (g.Fits (parts v.0) × (make (parts v.0) ≡ v.0))) (ok_is (make a.0.0, a.0.1) (y, rest) a.2)
        (rw b h.0, (rw b h.1, ap make b));
  }

  pub variant_lawful : {B : Type 0} (make : A → B) (parts : B → Option A) → ((x : A) → parts (make x) ≡ Some x) → IsLawful Good (variant make parts g)
  variant_lawful {B} make parts back = record {
    again = λ y rest fits. variant_again make parts y rest (parts y) fits;
    takes = λ ts y rest good e.
        let a = bind_ok (g.reading ts) (λ (x : A × List T). Ok (make x.0, x.1)) (y, rest) e in
        let h = law.takes ts a.0.0 a.0.1 good a.1 in
        let made : B × List T = (make a.0.0, a.0.1) in
        subst (λ (v : B × List T). (ts ≡ spelled_of g (parts v.0) ++ v.1) × FitsOf g make v.0 (parts v.0)) (ok_is made (y, rest) a.2)
        (rw (back a.0.0) h.0, rw (back a.0.0) (h.1, refl));
  }
    where
      variant_again : {B : Type 0} (make : A → B) (parts : B → Option A) (y : B) (rest : List T) (o : Option A) → FitsOf g make y o → ◌>>=◌ {B = B × List T} (g.reading (spelled_of g o ++ rest)) (λ x. Ok (make x.0, x.1)) ≡ Ok (y, rest)
      variant_again make parts y rest None fits = absurd fits
      variant_again make parts y rest (Some x) fits = rw (law.again x rest fits.0, fits.1) refl

  pub seq_lawful : {B : Type 0} (h : A → Grammar T B) → ((x : A) → IsLawful Good (h x)) → IsLawful Good (seq g h)
  seq_lawful {B} h laws = record {
    again = λ p rest fits.
        rw (append_assoc (g.spelling p.0) ((h p.0).spelling p.1) rest, law.again p.0 ((h p.0).spelling p.1 ++ rest) fits.0, (laws p.0).again p.1 rest fits.1) refl;
    takes = λ ts p rest good e.
        let a = bind_ok (g.reading ts) (λ (x : A × List T). (h x.0).reading x.1 >>= λ y. Ok ((x.0, y.0), y.1)) (p, rest) e in
        let b = bind_ok ((h a.0.0).reading a.0.1) (λ (y : B × List T). Ok ((a.0.0, y.0), y.1)) (p, rest) a.2 in
        let first = law.takes ts a.0.0 a.0.1 good a.1 in
        let second = (laws a.0.0).takes a.0.1 b.0.0 b.0.1 (good_after Good ts (g.spelling a.0.0) a.0.1 first.0 good) b.1 in
        let made : (A × B) × List T = ((a.0.0, b.0.0), b.0.1) in
        subst (λ (v : (A × B) × List T). (ts ≡ (g.spelling v.0.0 ++ (h v.0.0).spelling v.0.1) ++ v.1) × (g.Fits v.0.0 × (h v.0.0).Fits v.0.1)) (ok_is made (p, rest) b.2)
        (first.0 ∙ ap (λ (r : List T). g.spelling a.0.0 ++ r) second.0 ∙ sym (append_assoc (g.spelling a.0.0) ((h a.0.0).spelling b.0.0) b.0.1), (first.1, second.1));
  }

  pub then_lawful : {B : Type 0} (h : Grammar T B) → IsLawful Good h → IsLawful Good (g then h)
  then_lawful h other = seq_lawful (λ _. h) (λ _. other)

  pub keyed_lawful : {B : Type 0} (key : B → A) (h : A → Grammar T B) → ((k : A) → IsLawful Good (h k)) → ((k : A) (x : B) → (h k).Fits x → key x ≡ k) → IsLawful Good (keyed key g h)
  keyed_lawful {B} key h laws keys = record {
    again = λ x rest fits.
        rw (append_assoc (g.spelling (key x)) ((h (key x)).spelling x) rest, law.again (key x) ((h (key x)).spelling x ++ rest) fits.0, (laws (key x)).again x rest fits.1) refl;
    takes = λ ts x rest good e.
        let a = bind_ok (g.reading ts) (λ (k : A × List T). (h k.0).reading k.1) (x, rest) e in
        let first = law.takes ts a.0.0 a.0.1 good a.1 in
        let second = (laws a.0.0).takes a.0.1 x rest (good_after Good ts (g.spelling a.0.0) a.0.1 first.0 good) a.2 in
        subst (λ (k : A). (ts ≡ (g.spelling k ++ (h k).spelling x) ++ rest) × (g.Fits k × (h k).Fits x)) (sym (keys a.0.0 x second.1))
        (first.0 ∙ ap (λ (r : List T). g.spelling a.0.0 ++ r) second.0 ∙ sym (append_assoc (g.spelling a.0.0) ((h a.0.0).spelling x) rest), (first.1, second.1));
  }

-- ---- cases by a tag

-- each case is lawful, and fits only values with its tag
pub record AreCases {T K A : Type 0} (Good : T → Type 0) (tag_of : A → K) (cases : K → Grammar T A) : Type 0 where
  pub laws : (tag : K) → IsLawful Good (cases tag)
  pub tags : (tag : K) (x : A) → (cases tag).Fits x → tag_of x ≡ tag

pub no_cases : {T K A : Type 0} (Good : T → Type 0) (tag_of : A → K) → AreCases {T = T} Good tag_of no_case
no_cases Good tag_of = record {
  laws = λ tag. never_lawful Good;
  tags = λ tag x fits. absurd fits;
}

-- `is` stands for the test of the tag
case_laws : {T A : Type 0} (Good : T → Type 0) (is : Bool) (g h : Grammar T A) → IsLawful Good g → IsLawful Good h → IsLawful {A = A} Good (record {
  spelling = λ x. cond is (g.spelling x) (h.spelling x);
  Fits = λ x. Chosen is (g.Fits x) (h.Fits x);
  reading = λ ts. cond is (g.reading ts) (h.reading ts);
})
case_laws Good true g h a b = record { again = a.again; takes = a.takes }
case_laws Good false g h a b = record { again = b.again; takes = b.takes }

case_tags : {K : Type 0} (is : Bool) (G H : Type 0) (t tag k : K) → (is ≡ true → tag ≡ k) → (G → t ≡ k) → (H → t ≡ tag) → Chosen is G H → t ≡ tag
case_tags true G H t tag k e a b fits = a fits ∙ sym (e refl)
case_tags false G H t tag k e a b fits = b fits

variant_tag : {T A B K : Type 0} (g : Grammar T A) (make : A → B) (tag_of : B → K) (k : K) → ((x : A) → tag_of (make x) ≡ k) → (y : B) (o : Option A) → FitsOf g make y o → tag_of y ≡ k
variant_tag g make tag_of k tags y None fits = absurd fits
variant_tag g make tag_of k tags y (Some x) fits = ap tag_of (sym fits.1) ∙ tags x

module _ {T K B : Type 0} (Good : T → Type 0) (same : K → K → Bool) (exact : (a b : K) → same a b ≡ true → a ≡ b) (tag_of : B → K) (k : K) where
  one_case : (g : Grammar T B) (others : K → Grammar T B) → IsLawful Good g → ((x : B) → g.Fits x → tag_of x ≡ k) → AreCases Good tag_of others → AreCases Good tag_of (case_by same k g others)
  one_case g others law tags rest = record {
    laws = λ tag. case_laws Good (same tag k) g (others tag) law (rest.laws tag);
    tags = λ tag x fits. case_tags (same tag k) (g.Fits x) ((others tag).Fits x) (tag_of x) tag k (exact tag k) (tags x) (rest.tags tag x) fits;
  }

  -- one more variant: its grammar's law, its parts and its tag
  pub with_variant_by : {A : Type 0} (make : A → B) (parts : B → Option A) (g : Grammar T A) (others : K → Grammar T B)
      → IsLawful Good g → ((x : A) → parts (make x) ≡ Some x) → ((x : A) → tag_of (make x) ≡ k) → AreCases Good tag_of others → AreCases Good tag_of (case_by same k (variant make parts g) others)
  with_variant_by make parts g others law back tags rest =
      one_case (variant make parts g) others (variant_lawful Good g law make parts back) (λ y fits. variant_tag g make tag_of k tags y (parts y) fits) rest

  -- one more variant without fields
  pub with_unit_by : (y : B) (others : K → Grammar T B) → tag_of y ≡ k → AreCases Good tag_of others → AreCases Good tag_of (case_by same k (always y) others)
  with_unit_by y others tag rest = one_case (always y) others (always_lawful Good y) (λ x fits. ap tag_of fits ∙ tag) rest

pub with_variant : {T A B : Type 0} (Good : T → Type 0) (tag_of : B → ℕ) (k : ℕ) (make : A → B) (parts : B → Option A) (g : Grammar T A) (others : ℕ → Grammar T B)
    → IsLawful Good g → ((x : A) → parts (make x) ≡ Some x) → ((x : A) → tag_of (make x) ≡ k) → AreCases Good tag_of others → AreCases Good tag_of (case k (variant make parts g) others)
with_variant Good tag_of k make parts g others law back tags rest = with_variant_by Good eqb eqb-true tag_of k make parts g others law back tags rest

pub with_unit : {T B : Type 0} (Good : T → Type 0) (tag_of : B → ℕ) (k : ℕ) (y : B) (others : ℕ → Grammar T B)
    → tag_of y ≡ k → AreCases Good tag_of others → AreCases Good tag_of (case k (always y) others)
with_unit Good tag_of k y others tag rest = with_unit_by Good eqb eqb-true tag_of k y others tag rest

-- an enum: a tag, and what follows it
pub enum_lawful : {T K A : Type 0} (Good : T → Type 0) (tag : Grammar T K) (tag_of : A → K) (cases : K → Grammar T A) → IsLawful Good tag → AreCases Good tag_of cases → IsLawful Good (keyed tag_of tag cases)
enum_lawful Good tag tag_of cases law all = keyed_lawful Good tag law tag_of cases all.laws all.tags

-- ---- all of the tokens, and no spelling begins another

module _ {T A : Type 0} (Good : T → Type 0) (g : Grammar T A) (law : IsLawful Good g) where
  pub whole_again : (x : A) → g.Fits x → whole g (g.spelling x) ≡ Ok x
  unfolding whole
  whole_again x fits =
      let e : g.reading (g.spelling x) ≡ Ok (x, []) = subst (λ (ts : List T). g.reading ts ≡ Ok (x, [])) (append-nil (g.spelling x)) (law.again x [] fits) in
      rw e refl

  pub whole_takes : (ts : List T) (x : A) → AllByRecursion Good ts → whole g ts ≡ Ok x → (ts ≡ g.spelling x) × g.Fits x
  unfolding whole
  whole_takes ts x good e = go (g.reading ts) refl e
    where
      go : (r : Read T A) → g.reading ts ≡ r → placed (length ts) r ≡ Ok x → (ts ≡ g.spelling x) × g.Fits x
      go (Ok y) was e =
          let t = test_ok (eqb (length y.1) 0) (length ts - length y.1) y.0 x e in
          let none : y.1 ≡ [] = nil_from_length y.1 (eqb-true _ _ t.0) in
          let h = law.takes ts y.0 y.1 good was in
          subst (λ (v : A). (ts ≡ g.spelling v) × g.Fits v) t.1 (h.0 ∙ ap (λ (r : List T). g.spelling y.0 ++ r) none ∙ append-nil (g.spelling y.0), h.1)
      go (Err d) was e = absurd cc

  -- No spelling begins another.
  pub prefix_free : (x y : A) (a b : List T) → g.Fits x → g.Fits y → g.spelling x ++ a ≡ g.spelling y ++ b → (x ≡ y) × (a ≡ b)
  prefix_free x y a b fx fy e =
      let both = sym (law.again x a fx) ∙ ap g.reading e ∙ law.again y b fy in
      let h = ok_is (x, a) (y, b) both in
      (ap (λ (p : A × List T). p.0) h, ap (λ (p : A × List T). p.1) h)

-- What a grammar is, and how grammars are put together from smaller ones. The tokens are bytes in this workspace.
use Rattle.std.specs.Prelude.{◌≡◌, ℕ, ◌-◌, Bool, true, false, cond, List, [], ◌++◌, length, take, drop, Option, Some, None, Result, Ok, Err, IsTrue, nat_lt, ◌==◌}

-- What is read at the front of tokens: a value and the tokens after it, or how many tokens are left from the first field that fails on.
abbrev pub Read : Type 0 → Type 0 → Type 0
Read T A = Result (A × List T) ℕ

-- A format of values: how each is spelled, which values have a spelling, and what reading gives.
pub record Grammar (T A : Type 0) : Type 1 where
  pub spelling : A → List T
  pub Fits : A → Type 0
  pub reading : List T → Read T A

-- Reading goes on with what was read, and stops at the first failure.
infixl 10 ◌>>=◌
abbrev pub ◌>>=◌ : {A B : Type 0} → Result A ℕ → (A → Result B ℕ) → Result B ℕ
(Ok x) >>= f = f x
(Err left) >>= f = Err left

-- ---- all of the tokens

-- the place of what fails, and the place after the spelling where tokens are left over
abbrev pub placed : {T A : Type 0} → ℕ → Read T A → Result A ℕ
placed total (Ok x) = cond (length x.1 == 0) (Ok x.0) (Err (total - length x.1))
placed total (Err left) = Err (total - left)

-- The value that all of the tokens spell, else the place at which they fail, counted from 0.
unfoldable pub whole : {T A : Type 0} → Grammar T A → List T → Result A ℕ
whole g ts = placed (length ts) (g.reading ts)

-- ---- the smallest grammars

-- so many tokens, whatever they are
abbrev pub tokens : {T : Type 0} → ℕ → Grammar T (List T)
tokens n = record {
  spelling = λ xs. xs;
  Fits = λ xs. length xs ≡ n;
  reading = λ ts. cond (nat_lt (length ts) n) (Err (length ts)) (Ok (take n ts, drop n ts));
}

-- one value, spelled by nothing at all
abbrev pub always : {T A : Type 0} → A → Grammar T A
always x = record {
  spelling = λ _. [];
  Fits = λ y. y ≡ x;
  reading = λ ts. Ok (x, ts);
}

-- no value
abbrev pub never : {T A : Type 0} → Grammar T A
never = record {
  spelling = λ _. [];
  Fits = λ _. ⊥;
  reading = λ ts. Err (length ts);
}

-- ---- where a field fails

abbrev pub failing_at : {T A : Type 0} → ℕ → Read T A → Read T A
failing_at left (Ok x) = Ok x
failing_at left (Err _) = Err left

-- What fails inside fails where it begins: it is one field.
abbrev pub one_field : {T A : Type 0} → Grammar T A → Grammar T A
one_field g = record {
  spelling = g.spelling;
  Fits = g.Fits;
  reading = λ ts. failing_at (length ts) (g.reading ts);
}

-- The values that keep a rule; what breaks it fails where it begins.
abbrev pub checked : {T A : Type 0} → Grammar T A → (A → Bool) → Grammar T A
checked g rule = record {
  spelling = g.spelling;
  Fits = λ x. g.Fits x × IsTrue (rule x);
  reading = λ ts. g.reading ts >>= λ x. cond (rule x.0) (Ok x) (Err (length ts));
}

-- The same for a rule that is of no field: what breaks it fails at the place after it.
abbrev pub settled : {T A : Type 0} → Grammar T A → (A → Bool) → Grammar T A
settled g rule = record {
  spelling = g.spelling;
  Fits = λ x. g.Fits x × IsTrue (rule x);
  reading = λ ts. g.reading ts >>= λ x. cond (rule x.0) (Ok x) (Err (length x.1));
}

-- ---- one after another

-- The second may depend on the value of the first.
abbrev pub seq : {T A B : Type 0} → Grammar T A → (A → Grammar T B) → Grammar T (A × B)
seq g h = record {
  spelling = λ p. g.spelling p.0 ++ (h p.0).spelling p.1;
  Fits = λ p. g.Fits p.0 × (h p.0).Fits p.1;
  reading = λ ts. g.reading ts >>= λ x. (h x.0).reading x.1 >>= λ y. Ok ((x.0, y.0), y.1);
}

infixr 20 ◌then◌
abbrev pub ◌then◌ : {T A B : Type 0} → Grammar T A → Grammar T B → Grammar T (A × B)
g then h = seq g (λ _. h)

-- A first field that the value itself gives, and that says which grammar follows: a tag, a length, a count.
abbrev pub keyed : {T K A : Type 0} → (A → K) → Grammar T K → (K → Grammar T A) → Grammar T A
keyed key g h = record {
  spelling = λ x. g.spelling (key x) ++ (h (key x)).spelling x;
  Fits = λ x. g.Fits (key x) × (h (key x)).Fits x;
  reading = λ ts. g.reading ts >>= λ k. (h k.0).reading k.1;
}

-- ---- values made of their fields

-- the values of a record, made of its fields and taken apart again
abbrev pub mapped : {T A B : Type 0} → (A → B) → (B → A) → Grammar T A → Grammar T B
mapped make parts g = record {
  spelling = λ y. g.spelling (parts y);
  Fits = λ y. g.Fits (parts y) × (make (parts y) ≡ y);
  reading = λ ts. g.reading ts >>= λ x. Ok (make x.0, x.1);
}

abbrev pub spelled_of : {T A : Type 0} → Grammar T A → Option A → List T
spelled_of g None = []
spelled_of g (Some x) = g.spelling x

abbrev pub FitsOf : {T A B : Type 0} → Grammar T A → (A → B) → B → Option A → Type 0
FitsOf g make y None = ⊥
FitsOf g make y (Some x) = g.Fits x × (make x ≡ y)

-- the values of one variant of an enum; those of the others have no parts
abbrev pub variant : {T A B : Type 0} → (A → B) → (B → Option A) → Grammar T A → Grammar T B
variant make parts g = record {
  spelling = λ y. spelled_of g (parts y);
  Fits = λ y. FitsOf g make y (parts y);
  reading = λ ts. g.reading ts >>= λ x. Ok (make x.0, x.1);
}

-- ---- a choice by a tag

abbrev pub Chosen : Bool → Type 0 → Type 0 → Type 0
Chosen true G H = G
Chosen false G H = H

-- What follows the tag `k`, and what follows other tags. `same` tells tags apart.
abbrev pub case_by : {T K A : Type 0} → (K → K → Bool) → K → Grammar T A → (K → Grammar T A) → K → Grammar T A
case_by same k g others tag = record {
  spelling = λ x. cond (same tag k) (g.spelling x) ((others tag).spelling x);
  Fits = λ x. Chosen (same tag k) (g.Fits x) ((others tag).Fits x);
  reading = λ ts. cond (same tag k) (g.reading ts) ((others tag).reading ts);
}

abbrev pub case : {T A : Type 0} → ℕ → Grammar T A → (ℕ → Grammar T A) → ℕ → Grammar T A
case k g others = case_by (λ a b. a == b) k g others

abbrev pub no_case : {T K A : Type 0} → K → Grammar T A
no_case tag = never

-- The length of what is put together from smaller parts.
use Rattle.std.proofs.Common.{◌≡◌, ◌≤◌, ℕ, ◌+◌, ◌*◌, Bool, true, false, cond, List, [], ◌∷◌, ◌++◌, length, refl, arith}
use Rattle.std.specs.Prelude.{Option, Some, None, ◌==◌}
use Rattle.std.specs.Int.{w32, w64}
use Rattle.std.proofs.lemmas.List.{length-append}
use Rattle.cp_codec.specs.Fields.{big_endian}
use Rattle.cp_grammar.specs.Grammar.{Grammar, tokens, always, checked, ◌then◌, keyed, mapped, spelled_of, FitsOf, variant, Chosen, case, no_case}
use Rattle.cp_grammar.specs.Fields.{byte, number, marked, bytes, optional}
use Rattle.cp_grammar.specs.Lists.{items_spelling, ItemsFit, listed}
use Rattle.cp_ops.specs.Sizes.{IsShort}

-- ---- fields

pub byte_short : (n : ℕ) → IsShort 1 (byte n)
byte_short n = record { bound = λ x fits. omega arith }

len32 : (n : ℕ) → length (big_endian w32 n) ≡ 4
unfolding big_endian
len32 n = refl

len64 : (n : ℕ) → length (big_endian w64 n) ≡ 8
unfolding big_endian
len64 n = refl

pub u32_short : (n : ℕ) → IsShort 4 (number w32 n)
u32_short n = record { bound = λ x fits. omega (arith, len32 x) }

pub u64_short : (n : ℕ) → IsShort 8 (number w64 n)
u64_short n = record { bound = λ x fits. omega (arith, len64 x) }

pub bytes_short : (n : ℕ) → IsShort (4 + n) (bytes n)
bytes_short n = record { bound = λ x fits. omega (arith, length-append (big_endian w32 (length x)) x, len32 (length x)) }

pub tokens_short : {T : Type 0} (n : ℕ) → IsShort {T = T} n (tokens n)
tokens_short n = record { bound = λ x fits. omega (arith, fits) }

pub marked_short : {A : Type 0} (most b : ℕ) (g : Grammar ℕ A) → IsShort most g → IsShort (1 + most) (marked b g)
marked_short most b g short = record { bound = λ x fits. omega (arith, short.bound x fits) }

-- ---- what is put together

pub always_short : {T A : Type 0} (most : ℕ) (x : A) → IsShort {T = T} most (always x)
always_short most x = record { bound = λ y fits. omega arith }

pub no_case_short : {T A K : Type 0} (most : ℕ) (k : K) → IsShort {T = T} {A = A} most (no_case k)
no_case_short most k = record { bound = λ y fits. absurd fits }

module _ {T A : Type 0} (most : ℕ) (g : Grammar T A) (short : IsShort most g) where
  pub shorter : (n : ℕ) → most ≤ n → IsShort n g
  shorter n below = record { bound = λ x fits. omega (arith, below, short.bound x fits) }

  pub checked_short : (rule : A → Bool) → IsShort most (checked g rule)
  checked_short rule = record { bound = λ x fits. short.bound x fits.0 }

  pub mapped_short : {B : Type 0} (make : A → B) (parts : B → A) → IsShort most (mapped make parts g)
  mapped_short make parts = record { bound = λ y fits. short.bound (parts y) fits.0 }

  of_parts : {B : Type 0} (make : A → B) (y : B) (o : Option A) → FitsOf g make y o → length (spelled_of g o) ≤ most
  of_parts make y None fits = absurd fits
  of_parts make y (Some x) fits = short.bound x fits.0

  pub variant_short : {B : Type 0} (make : A → B) (parts : B → Option A) → IsShort most (variant make parts g)
  variant_short make parts = record { bound = λ y fits. of_parts make y (parts y) fits }

  pub then_short : {B : Type 0} (n : ℕ) (h : Grammar T B) → IsShort n h → IsShort (most + n) (g then h)
  then_short n h second = record { bound = λ p fits. omega (arith, length-append (g.spelling p.0) (h.spelling p.1), short.bound p.0 fits.0, second.bound p.1 fits.1) }

  pub keyed_short : {B : Type 0} (n : ℕ) (key : B → A) (h : A → Grammar T B) → ((k : A) → IsShort n (h k)) → IsShort (most + n) (keyed key g h)
  keyed_short n key h second = record {
    bound = λ x fits.
        omega (arith, length-append (g.spelling (key x)) ((h (key x)).spelling x), short.bound (key x) fits.0, (second (key x)).bound x fits.1);
  }

chosen : {T A : Type 0} (most : ℕ) (b : Bool) (g h : Grammar T A) → IsShort most g → IsShort most h → (x : A) → Chosen b (g.Fits x) (h.Fits x) → length (cond b (g.spelling x) (h.spelling x)) ≤ most
chosen most true g h first second x fits = first.bound x fits
chosen most false g h first second x fits = second.bound x fits

pub case_short : {T A : Type 0} (most k : ℕ) (g : Grammar T A) (others : ℕ → Grammar T A) → IsShort most g → ((tag : ℕ) → IsShort most (others tag)) → (tag : ℕ) → IsShort most (case k g others tag)
case_short most k g others first second tag = record { bound = chosen most (tag == k) g (others tag) first (second tag) }

pub optional_short : {A : Type 0} (most : ℕ) (g : Grammar ℕ A) → IsShort most g → IsShort (1 + most) (optional g)
optional_short most g short =
    keyed_short 1 (byte 1) (byte_short 1) most _ _ (case_short most 0 (always None) _ (always_short most None)
    (case_short most 1 (variant Some (λ o. o) g) _ (variant_short most g short Some (λ o. o)) (no_case_short most)))

-- ---- lists

module _ {T A : Type 0} (most : ℕ) (item : List A → Grammar T A) (short : (before : List A) → IsShort most (item before)) where
  items_short : (before xs : List A) → ItemsFit item before xs → length (items_spelling item before xs) ≤ length xs * most
  unfolding items_spelling ItemsFit
  items_short before [] fits = omega arith
  items_short before (x ∷ xs) fits =
      omega (arith, length-append ((item before).spelling x) (items_spelling item (before ++ x ∷ []) xs), (short before).bound x fits.0, items_short (before ++ x ∷ []) xs fits.1)

  pub listed_short : (c n : ℕ) (count : Grammar T ℕ) → IsShort c count → ((xs : List A) → ItemsFit item [] xs → count.Fits (length xs) → length xs ≤ n) → IsShort (c + n * most) (listed count item)
  listed_short c n count first few = record {
    bound = λ xs fits.
        let front = first.bound (length xs) fits.0 in
        let back = items_short [] xs fits.1.1 in
        let most_items = few xs fits.1.1 fits.0 in
        let scaled = scale (length xs) n most_items in
        omega (arith, length-append (count.spelling (length xs)) (items_spelling item [] xs), front, back, scaled);
  }
    where
      scale : (a b : ℕ) → a ≤ b → a * most ≤ b * most
      scale a b below = grind (arith, below)

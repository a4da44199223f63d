-- Lists. What stands before an item may change the item's grammar: so lists rise, or name nothing twice.
use Rattle.std.specs.Prelude.{◌≡◌, ℕ, zero, suc, List, [], ◌∷◌, ◌++◌, length, Option, Some, None, Ok, Err}
use Rattle.cp_grammar.specs.Grammar.{Read, ◌>>=◌, Grammar, keyed}

-- ---- so many items

unfoldable pub items_spelling : {T A : Type 0} → (List A → Grammar T A) → List A → List A → List T
items_spelling item before [] = []
items_spelling item before (x ∷ xs) = (item before).spelling x ++ items_spelling item (before ++ x ∷ []) xs

unfoldable pub ItemsFit : {T A : Type 0} → (List A → Grammar T A) → List A → List A → Type 0
ItemsFit item before [] = Unit {0}
ItemsFit item before (x ∷ xs) = (item before).Fits x × ItemsFit item (before ++ x ∷ []) xs

unfoldable pub items_reading : {T A : Type 0} → (List A → Grammar T A) → List A → ℕ → List T → Read T (List A)
items_reading item before zero ts = Ok ([], ts)
items_reading item before (suc n) ts =
    (item before).reading ts >>= λ x. items_reading item (before ++ x.0 ∷ []) n x.1 >>= λ xs. Ok (x.0 ∷ xs.0, xs.1)

abbrev pub items : {T A : Type 0} → (List A → Grammar T A) → List A → ℕ → Grammar T (List A)
items item before n = record {
  spelling = items_spelling item before;
  Fits = λ xs. (length xs ≡ n) × ItemsFit item before xs;
  reading = items_reading item before n;
}

-- a count, and so many items
abbrev pub listed : {T A : Type 0} → Grammar T ℕ → (List A → Grammar T A) → Grammar T (List A)
listed count item = keyed length count (items item [])

-- one grammar for every item, whatever stands before it
unfoldable pub each : {T A B : Type 0} → Grammar T A → List B → Grammar T A
each g before = g

-- ---- items up to a last one

unfoldable pub until_spelling : {T A : Type 0} → (List A → Grammar T (Option A)) → List A → List A → List T
until_spelling line before [] = (line before).spelling None
until_spelling line before (x ∷ xs) = (line before).spelling (Some x) ++ until_spelling line (before ++ x ∷ []) xs

unfoldable pub UntilFits : {T A : Type 0} → (List A → Grammar T (Option A)) → List A → List A → Type 0
UntilFits line before [] = (line before).Fits None
UntilFits line before (x ∷ xs) = (line before).Fits (Some x) × UntilFits line (before ++ x ∷ []) xs

abbrev pub goes_on : {T A : Type 0} → Option A → List T → (A → Read T (List A)) → Read T (List A)
goes_on None rest more = Ok ([], rest)
goes_on (Some x) rest more = more x >>= λ xs. Ok (x ∷ xs.0, xs.1)

-- At most `turns` lines are read: each takes a token at least, so one more turn than there are tokens is enough.
unfoldable pub until_reading : {T A : Type 0} → (List A → Grammar T (Option A)) → List A → ℕ → List T → Read T (List A)
until_reading line before zero ts = Err (length ts)
until_reading line before (suc turns) ts =
    (line before).reading ts >>= λ x. goes_on x.0 x.1 (λ a. until_reading line (before ++ a ∷ []) turns x.1)

-- Lines up to the one that is read as None, which ends them.
abbrev pub until : {T A : Type 0} → (List A → Grammar T (Option A)) → Grammar T (List A)
until line = record {
  spelling = until_spelling line [];
  Fits = UntilFits line [];
  reading = λ ts. until_reading line [] (suc (length ts)) ts;
}

-- How many line feeds a grammar spells: none in words that a space ends, one in a line.
use Rattle.std.proofs.Common.{◌≡◌, ℕ, ◌+◌, ◌^◌, ◌<◌, ◌≤◌, Bool, true, false, cond, not, eqb, ltb, List, [], ◌∷◌, ◌++◌, refl, ap, ◌∙◌, arith}
use Rattle.std.specs.Prelude.{◌==◌, ◌||◌, Option, Some, None}
use Rattle.std.specs.Fmt.{decimal}
use Rattle.std.specs.List.{count_by}
use Rattle.std.proofs.lemmas.Bool.{ltb-true, and_parts}
use Rattle.std.proofs.lemmas.List.Sums.{sum_by-append}
use Rattle.cp_grammar.specs.Grammar.{Grammar, always, one_field, checked, ◌then◌, keyed, mapped, spelled_of, FitsOf, variant, Chosen, no_case}
use Rattle.cp_grammar.specs.Words.{is_end, is_word, Token, token, word, same_token, keyword, number_word}
use Rattle.cp_grammar.specs.WordLaws.{exact_token}
use Rattle.cp_schedule.specs.Fronts.{after}
use Rattle.cp_schedule.proofs.EventLaws.{decimal_word}

unfoldable pub feeds : List ℕ → ℕ
feeds bs = count_by (λ b. b == 10) bs

-- of the byte that ends a word
unfoldable pub feed : ℕ → ℕ
feed e = cond (e == 10) 1 0

pub feeds_append : (xs ys : List ℕ) → feeds (xs ++ ys) ≡ feeds xs + feeds ys
unfolding feeds
feeds_append xs ys = sum_by-append (λ b. cond (eqb b 10) 1 0) xs ys

pub feeds_none : feeds [] ≡ 0
unfolding feeds
feeds_none = refl

feeds_end : (e : ℕ) → feeds (e ∷ []) ≡ feed e
unfolding feeds feed
feeds_end e = omega arith

pub feed_space : feed 32 ≡ 0
unfolding feed
feed_space = refl

pub feed_line : feed 10 ≡ 1
unfolding feed
feed_line = refl

no_feed : (space line : Bool) → not (space || line) ≡ true → line ≡ false
no_feed true line e = absurd cc
no_feed false true e = absurd cc
no_feed false false e = refl

feeds_more : (b : ℕ) (bs : List ℕ) → not (is_end b) ≡ true → feeds bs ≡ 0 → feeds (b ∷ bs) ≡ 0
unfolding feeds
feeds_more b bs inside none = rw (no_feed (eqb b 32) (eqb b 10) inside, none) refl

pub word_feeds : (w : List ℕ) → is_word w ≡ true → feeds w ≡ 0
unfolding is_word
word_feeds [] is = absurd cc
word_feeds (b ∷ []) is = feeds_more b [] is feeds_none
word_feeds (b ∷ c ∷ bs) is = let h = and_parts (not (is_end b)) (is_word (c ∷ bs)) is in feeds_more b (c ∷ bs) h.0 (word_feeds (c ∷ bs) h.1)

-- of a word and its end
pub ended_feeds : (w : List ℕ) (e : ℕ) → is_word w ≡ true → feeds (w ++ e ∷ []) ≡ feed e
ended_feeds w e is = omega (arith, feeds_append w (e ∷ []), word_feeds w is, feeds_end e)

-- every spelling has so many line feeds
pub record Counts {A : Type 0} (g : Grammar ℕ A) (n : ℕ) : Type 0 where
  pub counts : (x : A) → g.Fits x → feeds (g.spelling x) ≡ n

-- with the end of the word before it, each case ends its line
pub record CountsCases {A : Type 0} (cases : Token → Grammar ℕ A) : Type 0 where
  pub counts : (t : Token) (x : A) → (cases t).Fits x → feeds ((cases t).spelling x) + feed t.1 ≡ 1

pub counts_enum : {A : Type 0} (tag_of : A → Token) (cases : Token → Grammar ℕ A) → CountsCases cases → Counts (keyed tag_of token cases) 1
counts_enum tag_of cases all = record {
  counts = λ x fits.
      let front = ended_feeds (tag_of x).0 (tag_of x).1 fits.0.0 in
      let rest = all.counts (tag_of x) x fits.1 in
      omega (arith, feeds_append ((tag_of x).0 ++ (tag_of x).1 ∷ []) ((cases (tag_of x)).spelling x), front, rest);
}

of_parts : {A B : Type 0} (g : Grammar ℕ A) (make : A → B) (n : ℕ) → Counts g n → (y : B) (o : Option A) → FitsOf g make y o → feeds (spelled_of g o) ≡ n
of_parts g make n law y None fits = absurd fits
of_parts g make n law y (Some x) fits = law.counts x fits.0

chosen_feeds : (is : Bool) (G H : Type 0) (one other : List ℕ) (t : ℕ) (k : ℕ) → (is ≡ true → t ≡ k) → (G → feeds one + feed k ≡ 1) → (H → feeds other + feed t ≡ 1) → Chosen is G H → feeds (cond is one other) + feed t ≡ 1
chosen_feeds true G H one other t k same first rest fits = rw (same refl) (first fits)
chosen_feeds false G H one other t k same first rest fits = rest fits

-- a keyword with a space behind it, and what ends the line
pub counts_row : {A B : Type 0} (text : List ℕ) (make : A → B) (parts : B → Option A) (g : Grammar ℕ A) (others : Token → Grammar ℕ B) → Counts g 1 → CountsCases others → CountsCases (keyword text 32 (variant make parts g) others)
counts_row {A} {B} text make parts g others law rest = record {
  counts = λ t x fits. chosen_feeds (same_token t (text, 32)) (FitsOf g make x (parts x)) ((others t).Fits x) (spelled_of g (parts x)) ((others t).spelling x) t.1 32
      (λ e. ap (λ (s : Token). s.1) (exact_token t (text, 32) e)) (λ h. omega (arith, of_parts g make 1 law x (parts x) h, feed_space)) (rest.counts t x) fits;
}

-- a keyword that ends the line
pub counts_alone : {B : Type 0} (text : List ℕ) (y : B) (others : Token → Grammar ℕ B) → CountsCases others → CountsCases (keyword text 10 (always y) others)
counts_alone {B} text y others rest = record {
  counts = λ t x fits. chosen_feeds (same_token t (text, 10)) (x ≡ y) ((others t).Fits x) [] ((others t).spelling x) t.1 10
      (λ e. ap (λ (s : Token). s.1) (exact_token t (text, 10) e)) (λ h. omega (arith, feeds_none, feed_line)) (rest.counts t x) fits;
}

pub counts_no_case : {B : Type 0} → CountsCases {A = B} no_case
counts_no_case = record { counts = λ t x fits. absurd fits }

pub counts_then : {A B : Type 0} (g : Grammar ℕ A) (h : Grammar ℕ B) (n : ℕ) → Counts g 0 → Counts h n → Counts (g then h) n
counts_then g h n first second = record {
  counts = λ p fits. omega (arith, feeds_append (g.spelling p.0) (h.spelling p.1), first.counts p.0 fits.0, second.counts p.1 fits.1);
}

pub counts_mapped : {A B : Type 0} (make : A → B) (parts : B → A) (g : Grammar ℕ A) (n : ℕ) → Counts g n → Counts (mapped make parts g) n
counts_mapped make parts g n law = record { counts = λ y fits. law.counts (parts y) fits.0 }

pub counts_checked : {A : Type 0} (g : Grammar ℕ A) (rule : A → Bool) (n : ℕ) → Counts g n → Counts (checked g rule) n
counts_checked g rule n law = record { counts = λ x fits. law.counts x fits.0 }

pub counts_one_field : {A : Type 0} (g : Grammar ℕ A) (n : ℕ) → Counts g n → Counts (one_field g) n
counts_one_field g n law = record { counts = λ x fits. law.counts x fits }

pub counts_after : {A : Type 0} (front : List ℕ) (g : Grammar ℕ A) (n : ℕ) → feeds front ≡ 0 → Counts g n → Counts (after front g) n
counts_after front g n none law = record { counts = λ x fits. omega (arith, feeds_append front (g.spelling x), none, law.counts x fits) }

pub counts_word_space : Counts (word 32) 0
counts_word_space = record { counts = λ w fits. ended_feeds w 32 fits.0.0.0 ∙ feed_space }

pub counts_word_line : Counts (word 10) 1
counts_word_line = record { counts = λ w fits. ended_feeds w 10 fits.0.0.0 ∙ feed_line }

number_feeds : (n most end : ℕ) → ltb most (2 ^ 64) ≡ true → n ≤ most → feeds (decimal n ++ end ∷ []) ≡ feed end
number_feeds n most end small le = let lt : most < 2 ^ 64 = ltb-true _ _ small in ended_feeds (decimal n) end (decimal_word n (omega arith))

pub counts_number_space : (most : ℕ) → ltb most (2 ^ 64) ≡ true → Counts (number_word 32 most) 0
counts_number_space most small = record { counts = λ n le. number_feeds n most 32 small le ∙ feed_space }

pub counts_number_line : (most : ℕ) → ltb most (2 ^ 64) ≡ true → Counts (number_word 10 most) 1
counts_number_line most small = record { counts = λ n le. number_feeds n most 10 small le ∙ feed_line }

pub ruleset counted = (counts_enum, counts_row, counts_alone, counts_no_case, counts_then, counts_mapped, counts_checked, counts_one_field, counts_after, counts_word_space, counts_word_line, counts_number_space, counts_number_line)

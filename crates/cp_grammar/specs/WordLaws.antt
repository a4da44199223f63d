-- The fields of text are lawful.
use Rattle.std.proofs.Common.{◌≡◌, ℕ, ◌+◌, ◌^◌, ◌<◌, ◌≤◌, Bool, true, false, cond, not, eqb, ltb, leb, ◌&&◌, List, [], ◌∷◌, ◌++◌, length, Result, Ok, refl, sym, ap, subst, ◌∙◌, append_assoc, arith, ◌%◌}
use Rattle.std.specs.Prelude.{Option, Some}
use Rattle.std.specs.Fmt.{decimal}
use Rattle.std.specs.Str.Parse.{digits_value}
use Rattle.std.proofs.lemmas.Bool.{eqb-true, eq-eqb, le-leb, leb-true, ltb-true, cases_lt, and_parts, not-true}
use Rattle.std.proofs.lemmas.Fmt.{decimal_is_IsNumeral, decimal_by_steps, parse-decimal, IsAscii-decimal}
use Rattle.std.proofs.lemmas.Str.{IsUtf8-from_ascii}
use Rattle.std.specs.Str.{IsUtf8}
use Rattle.std.specs.Str.Parse.{ParsesUnsigned}
use Rattle.std.proofs.Common.{inl, inr}
use Rattle.cp_grammar.specs.Grammar.{Grammar, checked, variant, always}
use Rattle.cp_grammar.specs.Words.{is_end, before_end, from_end, is_word, Token, cut, token_reading, token, word, same_bytes, same_token, keyword, is_decimal, number_word_reading, number_word, texted}
use Rattle.cp_codec.specs.Exact.{IsByte}
use Rattle.cp_grammar.specs.Lawful.{IsLawful}
use Rattle.cp_grammar.specs.ListLaws.{until_lawful}
use Rattle.cp_grammar.specs.Laws.{AreCases, ok_is, checked_lawful, mapped_lawful, with_variant_by, with_unit_by, enum_lawful, no_cases, then_lawful, seq_lawful}

-- a word and its end are cut where they were put together
before_word : (w : List ℕ) (e : ℕ) (rest : List ℕ) → is_word w ≡ true → is_end e ≡ true → (before_end (w ++ e ∷ rest) ≡ w) × (from_end (w ++ e ∷ rest) ≡ e ∷ rest)
unfolding before_end from_end is_word
before_word [] e rest p q = absurd cc
before_word (b ∷ []) e rest p q = let n = not-true (is_end b) p in rw (n, q) (refl, refl)
before_word (b ∷ c ∷ bs) e rest p q =
    let n = and_parts (not (is_end b)) (is_word (c ∷ bs)) p in
    let m = not-true (is_end b) n.0 in
    let ih = before_word (c ∷ bs) e rest n.1 q in
    rw m (ap (λ (x : List ℕ). b ∷ x) ih.0, ih.1)

parts_step : (b : ℕ) (bs front back : List ℕ) (is : Bool) → bs ≡ front ++ back → b ∷ bs ≡ cond is [] (b ∷ front) ++ cond is (b ∷ bs) back
parts_step b bs front back true e = refl
parts_step b bs front back false e = ap (λ (x : List ℕ). b ∷ x) e

parts : (bs : List ℕ) → bs ≡ before_end bs ++ from_end bs
unfolding before_end from_end
parts [] = refl
parts (b ∷ bs) = parts_step b bs (before_end bs) (from_end bs) (is_end b) (parts bs)

end_step : (b : ℕ) (bs back : List ℕ) (e : ℕ) (rest : List ℕ) (is : Bool) → is_end b ≡ is → (back ≡ e ∷ rest → is_end e ≡ true) → cond is (b ∷ bs) back ≡ e ∷ rest → is_end e ≡ true
end_step b bs back e rest true q ih h = let same : b ≡ e = cc in rw (← same) q
end_step b bs back e rest false q ih h = ih h

end_is : (bs : List ℕ) (e : ℕ) (rest : List ℕ) → from_end bs ≡ e ∷ rest → is_end e ≡ true
unfolding from_end
end_is [] e rest h = absurd cc
end_is (b ∷ bs) e rest h = end_step b bs (from_end bs) e rest (is_end b) refl (end_is bs e rest) h

-- what stands before the end is a word, if it is anything
before_step : (b : ℕ) (bs front : List ℕ) (is : Bool) → is_end b ≡ is → (x : ℕ) (xs : List ℕ) → ((y : ℕ) (ys : List ℕ) → front ≡ y ∷ ys → is_word (y ∷ ys) ≡ true) → cond is [] (b ∷ front) ≡ x ∷ xs → is_word (x ∷ xs) ≡ true
unfolding is_word
before_step b bs front true q x xs ih h = absurd cc
before_step b bs [] false q x xs ih h = let same : b ∷ [] ≡ x ∷ xs = h in subst (λ (w : List ℕ). is_word w ≡ true) same (rw q refl)
before_step b bs (y ∷ ys) false q x xs ih h = let same : b ∷ y ∷ ys ≡ x ∷ xs = h in subst (λ (w : List ℕ). is_word w ≡ true) same (rw (q, ih y ys refl) refl)

before_is : (bs : List ℕ) (x : ℕ) (xs : List ℕ) → before_end bs ≡ x ∷ xs → is_word (x ∷ xs) ≡ true
unfolding before_end
before_is [] x xs h = absurd cc
before_is (b ∷ bs) x xs h = before_step b bs (before_end bs) (is_end b) refl x xs (before_is bs) h

cut_again : (w : List ℕ) (e : ℕ) (rest : List ℕ) (left : ℕ) → is_word w ≡ true → cut w (e ∷ rest) left ≡ Ok ((w, e), rest)
unfolding is_word
cut_again [] e rest left p = absurd cc
cut_again (b ∷ bs) e rest left p = refl

token_again : (t : Token) (rest : List ℕ) → (is_word t.0 ≡ true) × (is_end t.1 ≡ true) → token_reading ((t.0 ++ t.1 ∷ []) ++ rest) ≡ Ok (t, rest)
unfolding token_reading
token_again t rest fits =
    let regrouped : (t.0 ++ t.1 ∷ []) ++ rest ≡ t.0 ++ t.1 ∷ rest = append_assoc t.0 (t.1 ∷ []) rest in
    let h = before_word t.0 t.1 rest fits.0 fits.1 in
    rw (regrouped, h.0, h.1) (cut_again t.0 t.1 rest _ fits.0)

cut_takes : (w from : List ℕ) (left : ℕ) (t : Token) (rest : List ℕ) → ((x : ℕ) (xs : List ℕ) → w ≡ x ∷ xs → is_word (x ∷ xs) ≡ true) → cut w from left ≡ Ok (t, rest) → (w ≡ t.0) × (from ≡ t.1 ∷ rest) × (is_word t.0 ≡ true)
cut_takes [] from left t rest words e = absurd cc
cut_takes (b ∷ bs) [] left t rest words e = absurd cc
cut_takes (b ∷ bs) (x ∷ xs) left t rest words e =
    let made : Token × List ℕ = ((b ∷ bs, x), xs) in
    let g = ok_is made (t, rest) e in
    (ap (λ (p : Token × List ℕ). p.0.0) g, ap (λ (p : Token × List ℕ). p.0.1 ∷ p.1) g, subst (λ (p : Token × List ℕ). is_word p.0.0 ≡ true) g (words b bs refl))

pub token_lawful : IsLawful IsByte token
unfolding token_reading
token_lawful = record {
  again = token_again;
  takes = λ bs t rest good e.
      let h = cut_takes (before_end bs) (from_end bs) (length bs) t rest (before_is bs) e in
      let ends = end_is bs t.1 rest h.1 in
      (parts bs ∙ rw (h.0, h.1) (sym (append_assoc t.0 (t.1 ∷ []) rest)), (h.2, ends));
}

pub word_lawful : (end : ℕ) → IsLawful IsByte (word end)
word_lawful end = mapped_lawful IsByte (checked token (λ t. eqb t.1 end)) (checked_lawful IsByte token token_lawful (λ t. eqb t.1 end)) (λ t. t.0) (λ w. (w, end))
    (λ t fits. let e : t.1 ≡ end = eqb-true _ _ fits.1 in ap (λ (n : ℕ). (t.0, n)) (sym e))

pub exact_bytes : (xs ys : List ℕ) → same_bytes xs ys ≡ true → xs ≡ ys
exact_bytes [] [] e = refl
exact_bytes [] (y ∷ ys) e = absurd cc
exact_bytes (x ∷ xs) [] e = absurd cc
exact_bytes (x ∷ xs) (y ∷ ys) e = let h = and_parts (eqb x y) (same_bytes xs ys) e in rw (eqb-true x y h.0, exact_bytes xs ys h.1) refl

pub exact_token : (s t : Token) → same_token s t ≡ true → s ≡ t
exact_token s t e = let h = and_parts (same_bytes s.0 t.0) (eqb s.1 t.1) e in let p = exact_bytes s.0 t.0 h.0 in let q = eqb-true s.1 t.1 h.1 in λ i. (p i, q i)

same_self : (xs : List ℕ) → same_bytes xs xs ≡ true
same_self [] = refl
same_self (x ∷ xs) = rw (eq-eqb x x refl, same_self xs) refl

digit_no_end : (d : ℕ) → d < 10 → is_end (48 + d) ≡ false
digit_no_end d lt = grind arith

word_push : (w : List ℕ) (b : ℕ) → is_word w ≡ true → is_end b ≡ false → is_word (w ++ b ∷ []) ≡ true
unfolding is_word
word_push [] b p q = absurd cc
word_push (x ∷ []) b p q = rw (p, q) refl
word_push (x ∷ y ∷ xs) b p q = let h = and_parts (not (is_end x)) (is_word (y ∷ xs)) p in rw (h.0, word_push (y ∷ xs) b h.1 q) refl

one_digit : (d : ℕ) → d < 10 → is_word ((48 + d) ∷ []) ≡ true
unfolding is_word
one_digit d lt = rw (digit_no_end d lt) refl

decimal_word : (n : ℕ) → n < 2 ^ 64 → is_word (decimal n) ≡ true
decimal_word n lt = decimal_by_steps (λ _ w. is_word w ≡ true) one_digit (λ m ds le p. word_push ds (48 + m % 10) p (digit_no_end (m % 10) (omega arith))) n lt

pub number_word_lawful : (end most : ℕ) → is_end end ≡ true → most < 2 ^ 64 → IsLawful IsByte (number_word end most)
unfolding number_word_reading is_decimal
number_word_lawful end most q lt =
    let law = mapped_lawful IsByte (checked (word end) (λ w. is_decimal w && leb (digits_value 10 w) most)) (checked_lawful IsByte (word end) (word_lawful end) _) (digits_value 10) decimal
    (λ w fits. let h = and_parts (same_bytes w (decimal (digits_value 10 w))) (leb (digits_value 10 w) most) fits.1 in sym (exact_bytes _ _ h.0)) in
    record {
      again = λ n rest le.
          let back : digits_value 10 (decimal n) ≡ n = (decimal_is_IsNumeral n (omega arith)).1 in
          let canonical : same_bytes (decimal n) (decimal (digits_value 10 (decimal n))) ≡ true = rw back (same_self (decimal n)) in
          let small : leb (digits_value 10 (decimal n)) most ≡ true = rw back (le-leb _ _ le) in
          law.again n rest (((((decimal_word n (omega arith), q), eq-eqb end end refl), refl), rw (canonical, small) refl), back);
      takes = λ bs n rest good e.
          let h = law.takes bs n rest good e in
          let g = and_parts (same_bytes (decimal n) (decimal (digits_value 10 (decimal n)))) (leb (digits_value 10 (decimal n)) most) h.1.0.1 in
          let small : digits_value 10 (decimal n) ≤ most = leb-true _ _ g.1 in
          (h.0, subst (λ (k : ℕ). k ≤ most) h.1.1 small);
    }

pub number_word_below : (end most : ℕ) → is_end end ≡ true → ltb most (2 ^ 64) ≡ true → IsLawful IsByte (number_word end most)
number_word_below end most q e = number_word_lawful end most q (ltb-true _ _ e)

pub with_keyword : {A B : Type 0} (tag_of : B → Token) (text : List ℕ) (end : ℕ) (make : A → B) (parts : B → Option A) (g : Grammar ℕ A) (others : Token → Grammar ℕ B)
    → IsLawful IsByte g → ((x : A) → parts (make x) ≡ Some x) → ((x : A) → tag_of (make x) ≡ (text, end)) → AreCases IsByte tag_of others → AreCases IsByte tag_of (keyword text end (variant make parts g) others)
with_keyword tag_of text end make parts g others law back tags rest = with_variant_by IsByte same_token exact_token tag_of (text, end) make parts g others law back tags rest

pub with_keyword_alone : {B : Type 0} (tag_of : B → Token) (text : List ℕ) (end : ℕ) (y : B) (others : Token → Grammar ℕ B)
    → tag_of y ≡ (text, end) → AreCases IsByte tag_of others → AreCases IsByte tag_of (keyword text end (always y) others)
with_keyword_alone tag_of text end y others tag rest = with_unit_by IsByte same_token exact_token tag_of (text, end) y others tag rest

-- ---- what a reader of decimals tells

is_own : (w : List ℕ) → is_decimal w ≡ true → w ≡ decimal (digits_value 10 w)
unfolding is_decimal
is_own w d = exact_bytes w (decimal (digits_value 10 w)) d

own_is : (w : List ℕ) (n : ℕ) → n < 2 ^ 64 → w ≡ decimal n → (is_decimal w ≡ true) × (n ≡ digits_value 10 w)
unfolding is_decimal
own_is w n lt e =
    let back : digits_value 10 (decimal n) ≡ n = (decimal_is_IsNumeral n lt).1 in
    rw e (rw back (same_self (decimal n)), sym back)

pub no_text : (w : List ℕ) → (IsUtf8 w → ⊥) → is_decimal w ≡ true → 2 ^ 64 ≤ digits_value 10 w
no_text w never_text d =
    elim (cases_lt (digits_value 10 w) (2 ^ 64)) [
      | inl lt ↦ absurd (never_text (subst IsUtf8 (sym (is_own w d)) (IsUtf8-from_ascii (decimal (digits_value 10 w)) (IsAscii-decimal (digits_value 10 w) lt))))
      | inr le ↦ le
    ]

pub no_number : {E : Type 0} (w t : List ℕ) (r : Result ℕ E) → t ≡ w → ParsesUnsigned 64 10 t r → ((x : ℕ) → r ≡ Ok x → ⊥) → is_decimal w ≡ true → 2 ^ 64 ≤ digits_value 10 w
no_number w t r same parsed not_ok d =
    elim (cases_lt (digits_value 10 w) (2 ^ 64)) [
      | inl lt ↦ absurd (not_ok (digits_value 10 w) (parse-decimal 64 (digits_value 10 w) t r lt lt (same ∙ is_own w d) parsed))
      | inr le ↦ le
    ]

pub written : (w b : List ℕ) (n : ℕ) → n < 2 ^ 64 → b ≡ decimal n → same_bytes b w ≡ true → (is_decimal w ≡ true) × (n ≡ digits_value 10 w)
written w b n lt e same = own_is w n lt (sym (exact_bytes b w same) ∙ e)

pub other : {E : Type 0} (w t b : List ℕ) (n : ℕ) (r : Result ℕ E) → t ≡ w → ParsesUnsigned 64 10 t r → r ≡ Ok n → b ≡ decimal n → same_bytes b w ≡ false → is_decimal w ≡ true → 2 ^ 64 ≤ digits_value 10 w
other {E} w t b n r same parsed was e differs d =
    elim (cases_lt (digits_value 10 w) (2 ^ 64)) [
      | inl lt ↦
          let value : r ≡ Ok (digits_value 10 w) = parse-decimal 64 (digits_value 10 w) t r lt lt (same ∙ is_own w d) parsed in
          let n-is : n ≡ digits_value 10 w = cc in
          let b-is : b ≡ w = e ∙ ap decimal n-is ∙ sym (is_own w d) in
          let yes : same_bytes b w ≡ true = rw b-is (same_self w) in
          absurd cc
      | inr le ↦ le
    ]

-- As the set for bytes, for the words of a line.
pub ruleset lawful_text = (enum_lawful, with_keyword, with_keyword_alone, no_cases, then_lawful, seq_lawful, mapped_lawful, checked_lawful, token_lawful, word_lawful, number_word_below, until_lawful)

pub texted_lawful : {A : Type 0} (end : ℕ) (text : A → List ℕ) (parse : List ℕ → A) (rule : A → Bool) → IsLawful IsByte (texted end text parse rule)
texted_lawful end text parse rule =
    mapped_lawful IsByte (checked (word end) (λ w. same_bytes w (text (parse w)) && rule (parse w)))
    (checked_lawful IsByte (word end) (word_lawful end) (λ w. same_bytes w (text (parse w)) && rule (parse w))) parse text
    (λ w fits. let h = and_parts (same_bytes w (text (parse w))) (rule (parse w)) fits.1 in sym (exact_bytes w (text (parse w)) h.0))

-- The fields of bytes are lawful.
use Rattle.std.proofs.Common.{◌≡◌, ℕ, zero, suc, ◌+◌, ◌-◌, ◌^◌, ◌<◌, ◌≤◌, true, false, cond, eqb, ltb, leb, List, [], ◌∷◌, ◌++◌, length, get_or, take, drop, Ok, Err, refl, sym, ap, subst, ◌∙◌, arith, inl, inr}
use Rattle.std.specs.Prelude.{Some, None}
use Rattle.std.specs.List.{AllByRecursion}
use Rattle.std.specs.Int.{Width, w32, w64, byte_len, from_be_bytes, to_be_bytes}
use Rattle.std.proofs.Common.{to_z, of_z}
use Rattle.std.proofs.Math.Facts.{of_z-to_z}
use Rattle.std.proofs.lemmas.Bool.{cases_lt, ltb-false, ltb-true, le-ltb, eqb-true, eq-eqb}
use Rattle.std.proofs.lemmas.List.{take_at, drop_at, take-append-drop, length-append, length-take, get_or-take, get_or_past}
use Rattle.std.proofs.lemmas.Nat.{be_bytes_4, be_bytes_8, from_be_bytes-to_be_bytes_4, from_be_bytes-to_be_bytes_8}
use Rattle.cp_grammar.specs.Grammar.{Grammar, tokens, keyed}
use Rattle.cp_grammar.specs.Fields.{byte_reading, byte, mark_reading, marked, number_reading, number, at_least, signed, flag, bytes_reading, bytes, has, optional}
use Rattle.cp_codec.specs.Exact.{IsByte}
use Rattle.cp_codec.specs.Fields.{big_endian}
use Rattle.cp_codec.proofs.Wide.{IsWide, wide32, wide64, take_bytes}
use Rattle.cp_grammar.specs.Lawful.{IsLawful}
use Rattle.cp_grammar.specs.ListLaws.{listed_lawful, each_lawful}
use Rattle.cp_grammar.specs.Laws.{AreCases, bind_ok, guard_ok, guard_rest, test_ok, good_after, ok_is, always_lawful, never_lawful, tokens_lawful, one_field_lawful, checked_lawful, settled_lawful, mapped_lawful, seq_lawful, then_lawful, keyed_lawful, no_cases, with_unit, with_variant, enum_lawful}

mark_is : (b : ℕ) (bs rest : List ℕ) → mark_reading b bs ≡ Ok rest → bs ≡ b ∷ rest
unfolding mark_reading
mark_is b [] rest e = absurd cc
mark_is b (c ∷ bs) rest e = let t = test_ok (eqb c b) (length (c ∷ bs)) bs rest e in rw (eqb-true c b t.0, t.1) refl

mark_again : (b : ℕ) (rest : List ℕ) → mark_reading b (b ∷ rest) ≡ Ok rest
unfolding mark_reading
mark_again b rest = rw (eq-eqb b b refl) refl

pub marked_lawful : {A : Type 0} (b : ℕ) (g : Grammar ℕ A) → IsLawful IsByte g → IsLawful IsByte (marked b g)
marked_lawful {A} b g law = record {
  again = λ x rest fits. rw (mark_again b (g.spelling x ++ rest)) (law.again x rest fits);
  takes = λ bs x rest good e.
      let a = bind_ok {B = A × List ℕ} (mark_reading b bs) (λ (r : List ℕ). g.reading r) (x, rest) e in
      let whole_is = mark_is b bs a.0 a.1 in
      let h = law.takes a.0 x rest (good_after IsByte bs (b ∷ []) a.0 whole_is good) a.2 in
      (whole_is ∙ ap (λ (r : List ℕ). b ∷ r) h.0, h.1);
}

number_again : (w : Width) (limit most : ℕ) → IsWide w limit → most < limit → (n : ℕ) (rest : List ℕ) → n ≤ most → number_reading w most (big_endian w n ++ rest) ≡ Ok (n, rest)
unfolding big_endian number_reading
number_again w limit most wide lt n rest le =
    let len = wide.len n in
    let long : ltb (length (to_be_bytes w n ++ rest)) (byte_len w) ≡ false = le-ltb _ _ (omega (arith, length-append (to_be_bytes w n) rest)) in
    let back : from_be_bytes w (to_be_bytes w n) ≡ n = wide.again n (omega arith) in
    let small : ltb most n ≡ false = le-ltb _ _ le in
    rw (long, take_at (to_be_bytes w n) rest (byte_len w) len, drop_at (to_be_bytes w n) rest (byte_len w) len, back, small) refl

number_takes : (w : Width) (limit most : ℕ) → IsWide w limit → (bs : List ℕ) (n : ℕ) (rest : List ℕ) → AllByRecursion IsByte bs → number_reading w most bs ≡ Ok (n, rest) → (bs ≡ big_endian w n ++ rest) × (n ≤ most)
unfolding big_endian number_reading
number_takes w limit most wide bs n rest good e =
    let front = take (byte_len w) bs in
    let g = guard_rest {A = ℕ × List ℕ} (ltb (length bs) (byte_len w)) (length bs) (cond (ltb most (from_be_bytes w front)) (Err (length bs)) (Ok (from_be_bytes w front, drop (byte_len w) bs))) (n, rest) e in
    let h = guard_ok {A = ℕ × List ℕ} (ltb most (from_be_bytes w front)) (length bs) (from_be_bytes w front, drop (byte_len w) bs) (n, rest) g.1 in
    let long : byte_len w ≤ length bs = ltb-false _ _ g.0 in
    let small : from_be_bytes w front ≤ most = ltb-false _ _ h.0 in
    let spelled : to_be_bytes w (from_be_bytes w front) ≡ front = wide.back front (omega (arith, length-take (byte_len w) bs)) (take_bytes (byte_len w) bs good) in
    subst (λ (p : ℕ × List ℕ). (bs ≡ to_be_bytes w p.0 ++ p.1) × (p.0 ≤ most)) h.1 (rw spelled (sym (take-append-drop (byte_len w) bs)), small)

pub number_lawful : (w : Width) (limit most : ℕ) → IsWide w limit → most < limit → IsLawful IsByte (number w most)
number_lawful w limit most wide lt = record {
  again = number_again w limit most wide lt;
  takes = number_takes w limit most wide;
}

byte_takes : (most : ℕ) (bs : List ℕ) (n : ℕ) (rest : List ℕ) → byte_reading most bs ≡ Ok (n, rest) → (bs ≡ n ∷ rest) × (n ≤ most)
byte_takes most [] n rest e = absurd cc
byte_takes most (b ∷ bs) n rest e =
    let g = guard_ok {A = ℕ × List ℕ} (ltb most b) (length (b ∷ bs)) (b, bs) (n, rest) e in
    subst (λ (p : ℕ × List ℕ). (b ∷ bs ≡ p.0 ∷ p.1) × (p.0 ≤ most)) g.1 (refl, ltb-false _ _ g.0)

pub byte_lawful : (most : ℕ) → IsLawful IsByte (byte most)
byte_lawful most = record {
  again = λ n rest le. let small : ltb most n ≡ false = le-ltb _ _ le in rw small refl;
  takes = λ bs n rest good e. byte_takes most bs n rest e;
}

pub u32_lawful : (most : ℕ) → most < 2 ^ 32 → IsLawful IsByte (number w32 most)
u32_lawful most lt = number_lawful w32 (2 ^ 32) most wide32 lt

pub u64_lawful : (most : ℕ) → most < 2 ^ 64 → IsLawful IsByte (number w64 most)
u64_lawful most lt = number_lawful w64 (2 ^ 64) most wide64 lt

pub at_least_lawful : (least : ℕ) (g : Grammar ℕ ℕ) → IsLawful IsByte g → IsLawful IsByte (at_least least g)
at_least_lawful least g law = checked_lawful IsByte g law (λ n. leb least n)

pub signed_lawful : IsLawful IsByte signed
unfolding signed
signed_lawful = mapped_lawful IsByte (number w64 (2 ^ 64 - 1)) (u64_lawful (2 ^ 64 - 1) (omega arith)) (to_z w64) (of_z w64) (λ n le. of_z-to_z {w = w64} (omega arith))

flag_back : (n : ℕ) → n ≤ 1 → cond (eqb n 1) 1 0 ≡ n
flag_back zero le = refl
flag_back (suc zero) le = refl
flag_back (suc (suc n)) le = absurd (omega arith)

pub flag_lawful : IsLawful IsByte flag
unfolding flag
flag_lawful = mapped_lawful IsByte (byte 1) (byte_lawful 1) (λ n. eqb n 1) (λ b. cond b 1 0) flag_back

pub bytes_lawful : (most : ℕ) → most < 2 ^ 32 → IsLawful IsByte (bytes most)
unfolding bytes_reading
bytes_lawful most lt =
    let law = one_field_lawful IsByte (keyed length (number w32 most) tokens) (keyed_lawful IsByte (number w32 most) (u32_lawful most lt) length tokens (tokens_lawful IsByte) (λ n xs fits. fits)) in
    record {
      again = λ xs rest fits. law.again xs rest (fits, refl);
      takes = λ ts xs rest good e. let h = law.takes ts xs rest good e in (h.0, h.1.0);
    }

pub optional_lawful : {A : Type 0} (g : Grammar ℕ A) → IsLawful IsByte g → IsLawful IsByte (optional g)
optional_lawful {A} g law = enum_lawful IsByte (byte 1) has _ (byte_lawful 1)
    (with_unit IsByte has 0 None _ refl (with_variant IsByte has 1 Some (λ o. o) g _ law (λ x. refl) (λ x. refl) (no_cases IsByte has)))

-- for numerals, whose test computes
pub u32_below : (most : ℕ) → ltb most (2 ^ 32) ≡ true → IsLawful IsByte (number w32 most)
u32_below most e = u32_lawful most (ltb-true _ _ e)

pub u64_below : (most : ℕ) → ltb most (2 ^ 64) ≡ true → IsLawful IsByte (number w64 most)
u64_below most e = u64_lawful most (ltb-true _ _ e)

pub bytes_below : (most : ℕ) → ltb most (2 ^ 32) ≡ true → IsLawful IsByte (bytes most)
bytes_below most e = bytes_lawful most (ltb-true _ _ e)

-- What proves that a grammar is lawful, part by part; list the laws of the parts that have names beside it.
pub ruleset lawful = (enum_lawful, with_unit, with_variant, no_cases, then_lawful, seq_lawful, keyed_lawful, mapped_lawful, checked_lawful, settled_lawful, one_field_lawful, tokens_lawful, always_lawful, marked_lawful, listed_lawful, each_lawful, byte_lawful, u32_below, u64_below, at_least_lawful, signed_lawful, flag_lawful, bytes_below, optional_lawful)

-- Each field has one spelling, both ways.
use Rattle.std.proofs.Common.{◌≡◌, ℕ, zero, suc, ◌+◌, ◌-◌, ◌^◌, ◌<◌, ◌≤◌, Bool, true, false, cond, eqb, ltb, List, [], ◌∷◌, ◌++◌, length, take, drop, Result, Ok, Err, refl, sym, ap, subst, ◌∙◌, append_assoc, arith}
use Rattle.std.specs.Prelude.{ℤ, FitsSigned}
use Rattle.std.specs.List.{AllByRecursion}
use Rattle.std.specs.Int.{Width, w8, w32, w64, byte_len, from_be_bytes, to_be_bytes, cast_signed, cast_unsigned}
use Rattle.std.proofs.lemmas.Bool.{ltb-false, le-ltb}
use Rattle.std.proofs.lemmas.List.{take_at, drop_at, take-append-drop, length-append, length-take, drop-drop}
use Rattle.std.proofs.lemmas.Int.{to_z-of_z, of_z-to_z}
use Rattle.std.proofs.Math.Facts.{sfits_to_z}
use mir.ValLaws.{of_z_fits}
use Rattle.cp_codec.specs.Fields.{big_endian, front_number, number_field, read_as, signed_bytes, signed_field, flag_bytes, flag_field, counted_bytes, behind, bytes_field}
use Rattle.cp_codec.specs.Exact.{IsByte, IsExact, FieldsAreExact}
use Rattle.cp_codec.specs.declared.error.FieldError.{FieldError}
use Rattle.cp_codec.specs.declared.error.FieldError.TheVariants.{OutOfRange, Short}
use Rattle.cp_codec.proofs.Wide.{IsWide, wide8, wide32, wide64, take_bytes}

-- what a reader of fields gives
abbrev pub Field : Type 0 → Type 0
Field A = Result (A × ℕ) FieldError

abbrev read : {A : Type 0} → A × ℕ → Field A
read x = Ok x

read_is : {A : Type 0} (x y : A × ℕ) → read x ≡ read y → x ≡ y
read_is x y e = cc

-- what passes a test is the value behind it
passed : {A : Type 0} (b : Bool) (why : FieldError) (r : Field A) (y : A × ℕ) → cond b (Err why) r ≡ Ok y → (b ≡ false) × (r ≡ Ok y)
passed true why r y e = absurd cc
passed false why r y e = (refl, e)

good_rest : (xs ys : List ℕ) → AllByRecursion IsByte (xs ++ ys) → AllByRecursion IsByte ys
good_rest [] ys h = h
good_rest (x ∷ xs) ys h = good_rest xs ys h.1

-- What reads its spelling again, whatever follows, has no spelling that begins another.
module _ {A : Type 0} (spelling : A → List ℕ) (Fits : A → Type 0) (field : List ℕ → Field A)
    (again : (x : A) (rest : List ℕ) → Fits x → field (spelling x ++ rest) ≡ Ok (x, length (spelling x))) where
  same : (x y : A) (a b : List ℕ) → Fits x → Fits y → spelling x ++ a ≡ spelling y ++ b → x ≡ y
  same x y a b fx fy e =
      let both : read (x, length (spelling x)) ≡ read (y, length (spelling y)) = sym (again x a fx) ∙ ap field e ∙ again y b fy in
      ap (λ (p : A × ℕ). p.0) (read_is (x, length (spelling x)) (y, length (spelling y)) both)

  rests : (x y : A) (a b : List ℕ) → x ≡ y → spelling x ++ a ≡ spelling y ++ b → a ≡ b
  rests x y a b s e =
      let cut : drop (length (spelling x)) (spelling x ++ a) ≡ drop (length (spelling y)) (spelling y ++ b) = rw (e, s) refl in
      sym (drop_at (spelling x) a (length (spelling x)) refl) ∙ cut ∙ drop_at (spelling y) b (length (spelling y)) refl

  pub exact : ((bytes : List ℕ) (x : A) (place : ℕ) → AllByRecursion IsByte bytes → field bytes ≡ Ok (x, place) → (bytes ≡ spelling x ++ drop place bytes) × Fits x) → IsExact spelling Fits field
  exact takes = record {
    again = again;
    takes = takes;
    begins = λ x y a b fx fy e. let s = same x y a b fx fy e in (s, rests x y a b s e);
  }

-- ---- numbers

module _ (w : Width) (limit most : ℕ) (wide : IsWide w limit) (lt : most < limit) where
  number_again : (n : ℕ) (rest : List ℕ) → n ≤ most → number_field w most (big_endian w n ++ rest) ≡ Ok (n, length (big_endian w n))
  unfolding big_endian number_field
  number_again n rest le =
      let len = wide.len n in
      let long : ltb (length (to_be_bytes w n ++ rest)) (byte_len w) ≡ false = le-ltb _ _ (omega (arith, length-append (to_be_bytes w n) rest)) in
      let back : from_be_bytes w (to_be_bytes w n) ≡ n = wide.again n (omega arith) in
      let small : ltb most n ≡ false = le-ltb _ _ le in
      rw (long, take_at (to_be_bytes w n) rest (byte_len w) len, back, small, len) refl

  number_takes : (bytes : List ℕ) (n place : ℕ) → AllByRecursion IsByte bytes → number_field w most bytes ≡ Ok (n, place) → (bytes ≡ big_endian w n ++ drop place bytes) × (n ≤ most)
  unfolding big_endian number_field
  number_takes bytes n place good e =
      let front = take (byte_len w) bytes in
      let g = passed {A = ℕ} (ltb (length bytes) (byte_len w)) Short (cond (ltb most (from_be_bytes w front)) (Err (OutOfRange (from_be_bytes w front))) (Ok (from_be_bytes w front, byte_len w))) (n, place) e in
      let h = passed {A = ℕ} (ltb most (from_be_bytes w front)) (OutOfRange (from_be_bytes w front)) (Ok (from_be_bytes w front, byte_len w)) (n, place) g.1 in
      let long : byte_len w ≤ length bytes = ltb-false _ _ g.0 in
      let small : from_be_bytes w front ≤ most = ltb-false _ _ h.0 in
      let spelled : to_be_bytes w (from_be_bytes w front) ≡ front = wide.back front (omega (arith, length-take (byte_len w) bytes)) (take_bytes (byte_len w) bytes good) in
      subst (λ (p : ℕ × ℕ). (bytes ≡ to_be_bytes w p.0 ++ drop p.1 bytes) × (p.0 ≤ most)) (read_is (from_be_bytes w front, byte_len w) (n, place) h.1)
      (rw spelled (sym (take-append-drop (byte_len w) bytes)), small)

  pub number_exact : IsExact (big_endian w) (λ n. n ≤ most) (number_field w most)
  number_exact = exact (big_endian w) (λ n. n ≤ most) (number_field w most) number_again number_takes

-- ---- values that a number stands for

module _ {B : Type 0} (w : Width) (most : ℕ) (make : ℕ → B) (parts : B → ℕ) (Fits : B → Type 0) (law : IsExact (big_endian w) (λ n. n ≤ most) (number_field w most))
    (there : (y : B) → Fits y → (parts y ≤ most) × (make (parts y) ≡ y)) (back : (n : ℕ) → n ≤ most → (parts (make n) ≡ n) × Fits (make n)) where
  as_takes : (bytes : List ℕ) (r : Field ℕ) (y : B) (place : ℕ) → AllByRecursion IsByte bytes → number_field w most bytes ≡ r → read_as make r ≡ Ok (y, place) → (bytes ≡ big_endian w (parts y) ++ drop place bytes) × Fits y
  as_takes bytes (Ok x) y place good was e =
      let h = law.takes bytes x.0 x.1 good was in
      let b = back x.0 h.1 in
      let same_is = read_is (make x.0, x.1) (y, place) e in
      subst (λ (p : B × ℕ). (bytes ≡ big_endian w (parts p.0) ++ drop p.1 bytes) × Fits p.0) same_is (rw b.0 h.0, b.1)
  as_takes bytes (Err why) y place good was e = absurd cc

  pub as_exact : IsExact (λ y. big_endian w (parts y)) Fits (λ bytes. read_as make (number_field w most bytes))
  as_exact = exact (λ y. big_endian w (parts y)) Fits (λ bytes. read_as make (number_field w most bytes))
      (λ y rest fits. let t = there y fits in rw (law.again (parts y) rest t.0, t.1) refl)
      (λ bytes y place good e. as_takes bytes (number_field w most bytes) y place good refl e)

signed_there : (z : ℤ) → FitsSigned w64 z → (cast_unsigned w64 z ≤ 2 ^ 64 - 1) × (cast_signed w64 (cast_unsigned w64 z) ≡ z)
signed_there z fits = let lt : cast_unsigned w64 z < 2 ^ 64 = (of_z_fits w64 z fits).fits in (omega (arith, lt), to_z-of_z w64 z fits)

signed_back : (n : ℕ) → n ≤ 2 ^ 64 - 1 → (cast_unsigned w64 (cast_signed w64 n) ≡ n) × FitsSigned w64 (cast_signed w64 n)
signed_back n le = let lt : n < 2 ^ 64 = omega arith in (of_z-to_z w64 n lt, sfits_to_z {w = w64} (omega arith))

flag_there : (b : Bool) → Unit {0} → (cond b 1 0 ≤ 1) × (eqb (cond b 1 0) 1 ≡ b)
flag_there true u = (omega arith, refl)
flag_there false u = (omega arith, refl)

flag_back : (n : ℕ) → n ≤ 1 → (cond (eqb n 1) 1 0 ≡ n) × Unit {0}
flag_back zero le = (refl, tt)
flag_back (suc zero) le = (refl, tt)
flag_back (suc (suc n)) le = absurd (omega arith)

-- ---- bytes behind their length

module _ (most : ℕ) (lt : most < 2 ^ 32) (law : IsExact (big_endian w32) (λ n. n ≤ most) (number_field w32 most)) where
  bytes_again : (xs rest : List ℕ) → length xs ≤ most → bytes_field most (counted_bytes xs ++ rest) ≡ Ok (xs, length (counted_bytes xs))
  bytes_again xs rest le =
      let len = length (big_endian w32 (length xs)) in
      let regrouped : counted_bytes xs ++ rest ≡ big_endian w32 (length xs) ++ (xs ++ rest) = append_assoc (big_endian w32 (length xs)) xs rest in
      let after : drop len (big_endian w32 (length xs) ++ (xs ++ rest)) ≡ xs ++ rest = drop_at (big_endian w32 (length xs)) (xs ++ rest) len refl in
      let long : ltb (length (xs ++ rest)) (length xs) ≡ false = le-ltb _ _ (omega (arith, length-append xs rest)) in
      let total : len + length xs ≡ length (counted_bytes xs) = sym (length-append (big_endian w32 (length xs)) xs) in
      rw (regrouped, law.again (length xs) (xs ++ rest) le, after, long, take_at xs rest (length xs) refl, total) refl

  bytes_take : (bytes : List ℕ) (r : Field ℕ) (xs : List ℕ) (place : ℕ) → AllByRecursion IsByte bytes → number_field w32 most bytes ≡ r → behind bytes r ≡ Ok (xs, place) → (bytes ≡ counted_bytes xs ++ drop place bytes) × (length xs ≤ most)
  bytes_take bytes (Err why) xs place good was e = absurd cc
  bytes_take bytes (Ok x) xs place good was e =
      let g = passed {A = List ℕ} (ltb (length (drop x.1 bytes)) x.0) Short (Ok (take x.0 (drop x.1 bytes), x.1 + x.0)) (xs, place) e in
      let h = law.takes bytes x.0 x.1 good was in
      let long : x.0 ≤ length (drop x.1 bytes) = ltb-false _ _ g.0 in
      let len : length (take x.0 (drop x.1 bytes)) ≡ x.0 = omega (arith, length-take x.0 (drop x.1 bytes)) in
      let cut : drop x.1 bytes ≡ take x.0 (drop x.1 bytes) ++ drop (x.1 + x.0) bytes = sym (take-append-drop x.0 (drop x.1 bytes)) ∙ ap (λ (r : List ℕ). take x.0 (drop x.1 bytes) ++ r) (drop-drop x.0 x.1 bytes) in
      subst (λ (p : List ℕ × ℕ). (bytes ≡ (big_endian w32 (length p.0) ++ p.0) ++ drop p.1 bytes) × (length p.0 ≤ most))
      (read_is (take x.0 (drop x.1 bytes), x.1 + x.0) (xs, place) g.1)
      (h.0 ∙ ap (λ (r : List ℕ). big_endian w32 x.0 ++ r) cut ∙ sym (rw len (append_assoc (big_endian w32 x.0) (take x.0 (drop x.1 bytes)) (drop (x.1 + x.0) bytes))), rw len h.1)

  pub bytes_exact : IsExact counted_bytes (λ xs. length xs ≤ most) (bytes_field most)
  bytes_exact = exact counted_bytes (λ xs. length xs ≤ most) (bytes_field most) bytes_again (λ bytes xs place good e. bytes_take bytes (number_field w32 most bytes) xs place good refl e)

pub fields_exact : FieldsAreExact
fields_exact = record {
  u8 = λ most lt. number_exact w8 (2 ^ 8) most wide8 lt;
  u32 = λ most lt. number_exact w32 (2 ^ 32) most wide32 lt;
  u64 = λ most lt. number_exact w64 (2 ^ 64) most wide64 lt;
  i64 = as_exact w64 (2 ^ 64 - 1) (cast_signed w64) (cast_unsigned w64) (FitsSigned w64) (number_exact w64 (2 ^ 64) (2 ^ 64 - 1) wide64 (omega arith)) signed_there signed_back;
  flag = as_exact w8 1 (λ n. eqb n 1) (λ b. cond b 1 0) (λ b. Unit {0}) (number_exact w8 (2 ^ 8) 1 wide8 (omega arith)) flag_there flag_back;
  bytes = λ most lt. bytes_exact most lt (number_exact w32 (2 ^ 32) most wide32 lt);
}

-- What a crash leaves of a file while it is opened.
use Rattle.std.proofs.Common.{◌≡◌, ◌≤◌, ◌<◌, ◌+◌, ◌-◌, ℕ, List, [], ◌∷◌, length, take, refl, sym, ◌∙◌, ap, subst, arith, length-take}
use Rattle.std.specs.Prelude.{slice_index}
use Rattle.std.proofs.lemmas.Grind.{common_steps}
use Rattle.cp_disk.specs.Images.{Only, Shortened, Torn, written}
use Rattle.cp_journal.specs.Frames.{IsAtRest, IsClosed}
use Rattle.cp_journal.specs.Opening.{IsOpened}
use Rattle.cp_journal.specs.Records.{closed_gate, records_of}
use Rattle.cp_journal.proofs.Walks.{closed_records, closed_same, cut_behind, short_file}
use Rattle.cp_journal.specs.Moments.{LeavesOnly, Stays}
use Rattle.cp_journal.proofs.Moments.{joined, weaker}
use Rattle.cp_journal.proofs.Resting.{at_rest}

-- a file of at most one byte, while it is made one closed gate
pub short_leaves : (file image : List ℕ) → length file ≤ 1 → Torn 0 1 file image → records_of image ≡ records_of file
short_leaves file image short torn = short_file image (omega (arith, torn.no_longer)) ∙ sym (short_file file short)

one_gate : (file : List ℕ) → length file ≤ 1 → written file 0 (0 ∷ []) ≡ 0 ∷ []
one_gate [] short = refl
one_gate (byte ∷ []) short = refl
one_gate (byte ∷ second ∷ file) short = absurd (omega arith)

pub started_file : (file now : List ℕ) (images : List ℕ → Type 0) → length file ≤ 1 → now ≡ written file 0 (0 ∷ []) → Only now images → IsOpened [] 1 file now images
started_file file now images short is only =
    let gate : now ≡ 0 ∷ [] = is ∙ one_gate file short in
    record {
      records = short_file file short;
      same = short_file now (omega (arith, ap length gate)) ∙ sym (short_file file short);
      rest = record { closed = ap closed_gate gate; within = omega (arith, ap length gate); durable = only };
    }

pub cut_leaves : (bodies : List (List ℕ)) (gate : ℕ) (file image : List ℕ) → IsClosed bodies gate file → Shortened (gate + 1) file image → records_of image ≡ records_of file
cut_leaves bodies gate file image is cut = closed_records bodies gate image (cut_behind bodies gate (gate + 1) file image is refl cut) ∙ sym (closed_records bodies gate file is)

front_closed : (bodies : List (List ℕ)) (gate : ℕ) (file : List ℕ) → IsClosed bodies gate file → IsClosed bodies gate (take (gate + 1) file)
front_closed bodies gate file is =
    let long : gate < length (take (gate + 1) file) = front_long gate (gate + 1) file (omega arith) (omega (arith, is.within)) in
    closed_same bodies gate file (take (gate + 1) file) is (λ i below. front_same (gate + 1) file i below) long
  where
    front_same : (n : ℕ) (file : List ℕ) (i : ℕ) → i < n → slice_index (take n file) i ≡ slice_index file i
    front_same n file i below = grind (arith, common_steps)

    front_long : (m n : ℕ) (file : List ℕ) → m < n → n ≤ length file → m < length (take n file)
    front_long m n file less within = omega (arith, length-take n file)

pub cut_rest : (bodies : List (List ℕ)) (gate : ℕ) (file now : List ℕ) (images : List ℕ → Type 0) → IsClosed bodies gate file → now ≡ take (gate + 1) file → Only now images
    → IsAtRest gate now images × (records_of now ≡ records_of file)
cut_rest bodies gate file now images is front only =
    let closed : IsClosed bodies gate now = subst (IsClosed bodies gate) (sym front) (front_closed bodies gate file is) in
    (at_rest gate now images (record { bodies = bodies; closed = closed; durable = only }), closed_records bodies gate now closed ∙ sym (closed_records bodies gate file is))

pub whole_rest : (bodies : List (List ℕ)) (gate : ℕ) (file : List ℕ) (images : List ℕ → Type 0) → IsClosed bodies gate file → Only file images → IsAtRest gate file images × (records_of file ≡ records_of file)
whole_rest bodies gate file images is only = (at_rest gate file images (record { bodies = bodies; closed = is; durable = only }), refl)

-- an opening that read its records, and then cut what stands behind them
module _ {D : Type 0} (seen : D → List ℕ) (may_leave : D → List ℕ → Type 0) (moment : D → ℕ) (left_since : D → ℕ → List ℕ → Type 0) (old mid new : D) where
  pub read_leaves : LeavesOnly moment left_since old new (λ image. image ≡ seen old) → LeavesOnly moment left_since old new (λ image. records_of image ≡ records_of (seen old))
  read_leaves leaves = weaker moment left_since old new (λ image. image ≡ seen old) (λ image. records_of image ≡ records_of (seen old)) leaves (λ image (is : image ≡ seen old). ap records_of is)

  pub opening_leaves : Stays seen may_leave moment left_since old mid → LeavesOnly moment left_since mid new (λ image. records_of image ≡ records_of (seen mid))
      → LeavesOnly moment left_since old new (λ image. records_of image ≡ records_of (seen old))
  opening_leaves stays leaves =
      joined moment left_since old mid new (λ image. records_of image ≡ records_of (seen old))
      (weaker moment left_since old mid (λ image. image ≡ seen old) (λ image. records_of image ≡ records_of (seen old)) stays.leaves (λ image (is : image ≡ seen old). ap records_of is))
      (weaker moment left_since mid new (λ image. records_of image ≡ records_of (seen mid)) (λ image. records_of image ≡ records_of (seen old)) leaves
      (λ image (is : records_of image ≡ records_of (seen mid)). is ∙ ap records_of stays.same))

  pub opened_file : (bodies : List (List ℕ)) (gate : ℕ) → IsClosed bodies gate (seen old) → seen mid ≡ seen old → IsAtRest gate (seen new) (may_leave new) × (records_of (seen new) ≡ records_of (seen mid))
      → IsOpened bodies (gate + 1) (seen old) (seen new) (may_leave new)
  opened_file bodies gate is same rest =
      let place : gate ≡ gate + 1 - 1 = omega arith in
      record {
        records = closed_records bodies gate (seen old) is;
        same = rest.1 ∙ ap records_of same;
        rest = subst (λ (g : ℕ). IsAtRest g (seen new) (may_leave new)) place rest.0;
      }

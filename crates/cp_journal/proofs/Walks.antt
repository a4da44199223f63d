-- What files of frames spell.
use Rattle.std.proofs.Common.{Bool, true, false, ◌≡◌, ◌≤◌, ◌<◌, ◌+◌, ◌-◌, ◌++◌, inl, inr, ◌⊎◌, ℕ, max, zero, suc, List, [], ◌∷◌, length, take, drop, refl, sym, ◌∙◌, ap, subst, arith, length-append, length-take, append_assoc}
use Rattle.std.specs.Prelude.{slice_index, Result, Ok, Err, nat_lt, ◌==◌}
use Rattle.std.specs.Int.{w32, to_be_bytes, from_be_bytes}
use Rattle.std.proofs.lemmas.Grind.{common_steps}
use Rattle.std.proofs.lemmas.Bool.Decides.{nat_tests}
use Rattle.std.proofs.Math.Seq.{get_or-append_seam}
use Rattle.std.proofs.lemmas.Nat.{from_be_bytes-to_be_bytes_4}
use Rattle.cp_disk.specs.Images.{written, Torn, Shortened}
use Rattle.cp_base.specs.declared.limits.TheConstants.{BODY_LIMIT}
use Rattle.cp_journal.specs.Records.{IsBody, IsBeforeOrAfter, and_record, body_at, is_whole, next_gate, record_bytes, records_from, records_of, size_at, with_first}
use Rattle.cp_journal.specs.Frames.{AreFrames, IsClosed, IsFrame}
use Rattle.cp_journal.proofs.Lists.{same_part, middle}

pub frames_le : (bodies : List (List ℕ)) (gate end : ℕ) (file : List ℕ) → AreFrames bodies gate end file → gate + length bodies ≤ end
frames_le [] gate end file are = omega arith
frames_le (body ∷ bodies) gate end file are = omega (arith, frames_le bodies (gate + 5 + length body) end file are.1)

-- one frame more
pub frames_push : (bodies : List (List ℕ)) (body : List ℕ) (gate end next : ℕ) (file : List ℕ) → AreFrames bodies gate end file → IsFrame end body file → next ≡ end + 5 + length body
    → AreFrames (bodies ++ body ∷ []) gate next file
frames_push [] body gate end next file are is ends =
    (subst (λ (g : ℕ). IsFrame g body file) (sym are) is, omega arith)
frames_push (first ∷ bodies) body gate end next file are is ends = (are.0, frames_push bodies body (gate + 5 + length first) end next file are.1 is ends)

frame_same : (gate end : ℕ) (body file other : List ℕ) → IsFrame gate body file → ((i : ℕ) → i < end → slice_index other i ≡ slice_index file i)
    → gate + 5 + length body ≤ end → end ≤ length file → end ≤ length other → IsFrame gate body other
frame_same gate end body file other is same fits within within_other =
    let size : size_at gate other ≡ size_at gate file = ap (from_be_bytes w32) (same_part 4 (gate + 1) other file (λ k below. same (gate + 1 + k) (omega arith)) (omega arith) (omega arith)) in
    let length_is : size_at gate other ≡ length body = size ∙ is.size in
    let n : ℕ = length body in
    record {
      is_open = omega (arith, is.is_open, same gate (omega arith));
      size = length_is;
      holds = ap (λ (k : ℕ). take k (drop (gate + 5) other)) length_is ∙ same_part n (gate + 5) other file (λ k below. same (gate + 5 + k) (omega arith)) (omega arith) (omega arith)
          ∙ ap (λ (k : ℕ). take k (drop (gate + 5) file)) (sym is.size) ∙ is.holds;
      is_body = is.is_body;
    }

-- frames are told by the bytes before their end
pub frames_same : (bodies : List (List ℕ)) (gate end : ℕ) (file other : List ℕ) → AreFrames bodies gate end file → ((i : ℕ) → i < end → slice_index other i ≡ slice_index file i)
    → end ≤ length file → end ≤ length other → AreFrames bodies gate end other
frames_same [] gate end file other are same within within_other = are
frames_same (body ∷ bodies) gate end file other are same within within_other = (
  frame_same gate end body file other are.0 same (omega (arith, frames_le bodies (gate + 5 + length body) end file are.1)) within within_other,
  frames_same bodies (gate + 5 + length body) end file other are.1 same within within_other,
)

-- these bodies before what is read behind them
abbrev with_bodies : List (List ℕ) → Result (List (List ℕ)) ℕ → Result (List (List ℕ)) ℕ
with_bodies [] rest = rest
with_bodies (body ∷ bodies) rest = with_first body (with_bodies bodies rest)

pub open_gate : (gate : ℕ) (file : List ℕ) → 0 < slice_index file gate → (slice_index file gate == 0) ≡ false
open_gate gate file is = grind (arith, nat_tests)

pub whole : (gate : ℕ) (body file : List ℕ) → IsFrame gate body file → gate + 5 + length body < length file → is_whole gate file ≡ true
whole gate body file is within =
    let some : 1 ≤ size_at gate file = omega (arith, is.size, is.is_body.some) in
    let most : size_at gate file ≤ BODY_LIMIT = omega (arith, is.size, is.is_body.most) in
    let next : next_gate gate file < length file = omega (arith, is.size, within) in
    grind (arith, nat_tests, some, most, next)

one_frame : (most gate : ℕ) (body file : List ℕ) → IsFrame gate body file → gate + 5 + length body < length file
    → records_from (suc most) gate file ≡ with_first body (records_from most (gate + 5 + length body) file)
one_frame most gate body file is within =
    let next : next_gate gate file ≡ gate + 5 + length body = omega (arith, is.size) in
    rw (open_gate gate file is.is_open, whole gate body file is within, is.holds, next) refl

frames_read : (bodies : List (List ℕ)) (most rest gate end : ℕ) (file : List ℕ) → AreFrames bodies gate end file → end < length file → most ≡ length bodies + rest
    → records_from most gate file ≡ with_bodies bodies (records_from rest end file)
frames_read [] most rest gate end file are within is =
    let same : most ≡ rest = omega arith in
    ap (λ (m : ℕ). records_from m gate file) same ∙ ap (λ (g : ℕ). records_from rest g file) are
frames_read (body ∷ bodies) zero rest gate end file are within is = absurd (omega arith)
frames_read (body ∷ bodies) (suc most) rest gate end file are within is =
    one_frame most gate body file are.0 (omega (arith, frames_le bodies (gate + 5 + length body) end file are.1))
    ∙ ap (with_first body) (frames_read bodies most rest (gate + 5 + length body) end file are.1 within (omega arith))

oks : (bodies : List (List ℕ)) → with_bodies bodies (Ok []) ≡ Ok bodies
oks [] = refl
oks (body ∷ bodies) = ap (with_first body) (oks bodies)

errs : (bodies : List (List ℕ)) (place : ℕ) → with_bodies bodies (Err place) ≡ Err place
errs [] place = refl
errs (body ∷ bodies) place = ap (with_first body) (errs bodies place)

closed_end : (most gate : ℕ) (file : List ℕ) → slice_index file gate ≡ 0 → records_from (suc most) gate file ≡ Ok []
closed_end most gate file shut =
    let test : (slice_index file gate == 0) ≡ true = grind (arith, nat_tests) in
    rw test refl

bad_end : (most gate : ℕ) (file : List ℕ) → 0 < slice_index file gate → is_whole gate file ≡ false → records_from (suc most) gate file ≡ Err gate
bad_end most gate file is torn = rw (open_gate gate file is, torn) refl

long_file : (file : List ℕ) → 2 ≤ length file → records_of file ≡ records_from (length file) 0 file
long_file file long =
    let test : nat_lt (length file) 2 ≡ false = grind (arith, nat_tests) in
    rw test refl

pub short_file : (file : List ℕ) → length file ≤ 1 → records_of file ≡ Ok []
short_file file short =
    let test : nat_lt (length file) 2 ≡ true = grind (arith, nat_tests) in
    rw test refl

-- a closed gate ends the records
pub closed_long : (bodies : List (List ℕ)) (gate : ℕ) (file : List ℕ) → IsClosed bodies gate file → 2 ≤ length file → records_of file ≡ Ok bodies
closed_long bodies gate file is long =
    let rest : ℕ = length file - length bodies - 1 in
    let most : length file ≡ length bodies + suc rest = omega (arith, frames_le bodies 0 gate file is.frames, is.within) in
    long_file file long ∙ frames_read bodies (length file) (suc rest) 0 gate file is.frames is.within most
    ∙ ap (with_bodies bodies) (closed_end rest gate file is.shut) ∙ oks bodies

no_bodies : (bodies : List (List ℕ)) (gate : ℕ) (file : List ℕ) → AreFrames bodies 0 gate file → gate ≤ 0 → bodies ≡ []
no_bodies [] gate file are none = refl
no_bodies (body ∷ bodies) gate file are none = absurd (omega (arith, frames_le (body ∷ bodies) 0 gate file are))

pub closed_records : (bodies : List (List ℕ)) (gate : ℕ) (file : List ℕ) → IsClosed bodies gate file → records_of file ≡ Ok bodies
closed_records bodies gate file is = closed_by bodies gate file is (nat_lt (length file) 2) refl
  where
    closed_by : (bodies : List (List ℕ)) (gate : ℕ) (file : List ℕ) → IsClosed bodies gate file → (short : Bool) → short ≡ nat_lt (length file) 2 → records_of file ≡ Ok bodies
    closed_by bodies gate file is true short =
        let less : length file ≤ 1 = grind (arith, nat_tests) in
        short_file file less ∙ ap Ok (sym (no_bodies bodies gate file is.frames (omega (arith, is.within))))
    closed_by bodies gate file is false long =
        let more : 2 ≤ length file = grind (arith, nat_tests) in
        closed_long bodies gate file is more

-- an open gate with no whole record behind it
pub bad_records : (bodies : List (List ℕ)) (gate : ℕ) (file : List ℕ) → AreFrames bodies 0 gate file → gate < length file → 2 ≤ length file → 0 < slice_index file gate → is_whole gate file ≡ false
    → records_of file ≡ Err gate
bad_records bodies gate file are within long is torn =
    let rest : ℕ = length file - length bodies - 1 in
    let most : length file ≡ length bodies + suc rest = omega (arith, frames_le bodies 0 gate file are, within) in
    long_file file long ∙ frames_read bodies (length file) (suc rest) 0 gate file are within most
    ∙ ap (with_bodies bodies) (bad_end rest gate file is torn) ∙ errs bodies gate

-- a file that agrees up to the closed gate has the same records
pub closed_same : (bodies : List (List ℕ)) (gate : ℕ) (file other : List ℕ) → IsClosed bodies gate file → ((i : ℕ) → i < gate + 1 → slice_index other i ≡ slice_index file i)
    → gate < length other → IsClosed bodies gate other
closed_same bodies gate file other is same within = record {
  frames = frames_same bodies 0 gate file other is.frames (λ i below. same i (omega arith)) (omega (arith, is.within)) (omega arith);
  within = within;
  shut = same gate (omega arith) ∙ is.shut;
}

pub torn_behind : (bodies : List (List ℕ)) (gate at n : ℕ) (file image : List ℕ) → IsClosed bodies gate file → at ≡ gate + 1 → Torn at n file image → IsClosed bodies gate image
torn_behind bodies gate at n file image is place torn =
    closed_same bodies gate file image is (λ i below. torn.same i (omega (arith, is.within)) (inl (omega arith))) (omega (arith, is.within, torn.no_shorter))

pub cut_behind : (bodies : List (List ℕ)) (gate end : ℕ) (file image : List ℕ) → IsClosed bodies gate file → end ≡ gate + 1 → Shortened end file image → IsClosed bodies gate image
cut_behind bodies gate end file image is place cut =
    let long : gate < length image = omega (arith, is.within, cut.no_shorter) in
    closed_same bodies gate file image is (λ i below. cut.same i (omega arith) (omega arith)) long

-- the record of a body and a closed gate stand whole behind a gate
pub record IsStaged (gate : ℕ) (body file : List ℕ) : Type 0 where
  pub size : size_at gate file ≡ length body
  pub holds : body_at gate file ≡ body
  pub next : slice_index file (gate + 5 + length body) ≡ 0
  pub within : gate + 5 + length body < length file

regroup : (front head body rest : List ℕ) → (front ++ (head ++ body ++ 0 ∷ [])) ++ rest ≡ front ++ head ++ (body ++ 0 ∷ rest)
regroup front head body rest = simp append_assoc

regroup_body : (front head body rest : List ℕ) → (front ++ (head ++ body ++ 0 ∷ [])) ++ rest ≡ (front ++ head) ++ body ++ (0 ∷ rest)
regroup_body front head body rest = simp append_assoc

zero_behind : (front rest : List ℕ) (place : ℕ) → place ≡ length front → slice_index (front ++ 0 ∷ rest) place ≡ 0
zero_behind front rest place is = ap (λ (k : ℕ). slice_index (front ++ 0 ∷ rest) k) is ∙ get_or-append_seam front 0 rest 0

four : (n : ℕ) → length (to_be_bytes w32 n) ≡ 4
four n = refl

pub record_length : (body : List ℕ) → length (record_bytes body) ≡ length body + 5
record_length body = grind (arith, common_steps, four (length body))

-- what was written behind the closed gate is a staged record
pub written_staged : (gate at : ℕ) (body file : List ℕ) → IsBody body → gate < length file → at ≡ gate + 1 → IsStaged gate body (written file at (record_bytes body))
written_staged gate at body file is within place =
    let head : List ℕ = to_be_bytes w32 (length body) in
    let front : List ℕ = take at file in
    let rest : List ℕ = drop (at + length (record_bytes body)) file in
    let new : List ℕ = written file at (record_bytes body) in
    let front_length : length front ≡ gate + 1 = omega (arith, length-take at file) in
    let first : new ≡ front ++ head ++ (body ++ 0 ∷ rest) = regroup front head body rest in
    let second : new ≡ (front ++ head) ++ body ++ (0 ∷ rest) = regroup_body front head body rest in
    let bytes : take 4 (drop (gate + 1) new) ≡ head = ap (λ (xs : List ℕ). take 4 (drop (gate + 1) xs)) first ∙ middle front head (body ++ 0 ∷ rest) (gate + 1) 4 (sym front_length) (sym (four (length body))) in
    let size_is : size_at gate new ≡ length body = ap (from_be_bytes w32) bytes ∙ from_be_bytes-to_be_bytes_4 (length body) (omega (arith, is.most)) in
    let both : length (front ++ head) ≡ gate + 5 = omega (arith, length-append front head, front_length, four (length body)) in
    record {
      size = size_is;
      holds = ap (λ (k : ℕ). take k (drop (gate + 5) new)) size_is ∙ ap (λ (xs : List ℕ). take (length body) (drop (gate + 5) xs)) second
          ∙ middle (front ++ head) body (0 ∷ rest) (gate + 5) (length body) (sym both) refl;
      next = ap (λ (xs : List ℕ). slice_index xs (gate + 5 + length body)) second ∙ zero_behind ((front ++ head) ++ body) rest (gate + 5 + length body) (omega (arith, length-append (front ++ head) body, both));
      within = omega (arith, ap length second, length-append ((front ++ head) ++ body) (0 ∷ rest), length-append (front ++ head) body, both);
    }

staged_same : (gate : ℕ) (body file other : List ℕ) → IsStaged gate body file → ((i : ℕ) → i < length file → gate + 1 ≤ i → slice_index other i ≡ slice_index file i) → length file ≤ length other
    → IsStaged gate body other
staged_same gate body file other is same longer =
    let n : ℕ = length body in
    let size : size_at gate other ≡ size_at gate file =
    ap (from_be_bytes w32) (same_part 4 (gate + 1) other file (λ k below. same (gate + 1 + k) (omega (arith, is.within)) (omega arith)) (omega (arith, is.within)) (omega (arith, is.within))) in
    record {
      size = size ∙ is.size;
      holds = ap (λ (k : ℕ). take k (drop (gate + 5) other)) (size ∙ is.size)
          ∙ same_part n (gate + 5) other file (λ k below. same (gate + 5 + k) (omega (arith, is.within)) (omega arith)) (omega (arith, is.within)) (omega (arith, is.within))
          ∙ ap (λ (k : ℕ). take k (drop (gate + 5) file)) (sym is.size) ∙ is.holds;
      next = same (gate + 5 + n) is.within (omega arith) ∙ is.next;
      within = omega (arith, is.within);
    }

-- an open gate before a staged record makes it the last record
opened : (bodies : List (List ℕ)) (gate : ℕ) (body file : List ℕ) → AreFrames bodies 0 gate file → IsStaged gate body file → IsBody body → 0 < slice_index file gate
    → IsClosed (bodies ++ body ∷ []) (gate + 5 + length body) file
opened bodies gate body file are is is_body is_open = record {
  frames = frames_push bodies body 0 gate (gate + 5 + length body) file are (record { is_open = is_open; size = is.size; holds = is.holds; is_body = is_body }) refl;
  within = is.within;
  shut = is.next;
}

pub written_torn : (at : ℕ) (bytes old : List ℕ) → at ≤ length old → Torn at (length bytes) old (written old at bytes)
written_torn at bytes old within = record {
  same = written_same at bytes old within;
  no_shorter = omega (arith, written_length at bytes old within);
  no_longer = omega (arith, written_length at bytes old within);
}
  where
    written_same : (at : ℕ) (bytes old : List ℕ) → at ≤ length old → (i : ℕ) → i < length old → (i < at) ⊎ (at + length bytes ≤ i) → slice_index (written old at bytes) i ≡ slice_index old i
    written_same at bytes old within i below place = grind (arith, common_steps)

    written_length : (at : ℕ) (bytes old : List ℕ) → at ≤ length old → length (written old at bytes) ≡ max (length old) (at + length bytes)
    written_length at bytes old within = grind (arith, common_steps)

first_written : (at byte : ℕ) (old : List ℕ) → at < length old → slice_index (written old at (byte ∷ [])) at ≡ byte
first_written at byte old within = grind (arith, common_steps)

-- one append, from a file with a closed gate
module _ (bodies : List (List ℕ)) (gate : ℕ) (body file : List ℕ) (closed : IsClosed bodies gate file) (is_body : IsBody body) where
  -- the record stands behind the closed gate
  staged : IsStaged gate body (written file (gate + 1) (record_bytes body))
  staged = written_staged gate (gate + 1) body file is_body closed.within refl

  pub stage_closed : IsClosed bodies gate (written file (gate + 1) (record_bytes body))
  stage_closed = torn_behind bodies gate (gate + 1) (length (record_bytes body)) file _ closed refl (written_torn (gate + 1) (record_bytes body) file (omega (arith, closed.within)))

  -- a crash during the first write and its sync
  pub stage_leaves : (n : ℕ) (image : List ℕ) → Torn (gate + 1) n file image → IsBeforeOrAfter (records_of file) body image
  stage_leaves n image torn =
      inl (closed_records bodies gate image (torn_behind bodies gate (gate + 1) n file image closed refl torn) ∙ sym (closed_records bodies gate file closed))

  gate_cases : (image : List ℕ) → Torn gate 1 (written file (gate + 1) (record_bytes body)) image → (test : Bool) → test ≡ nat_lt 0 (slice_index image gate) → IsBeforeOrAfter (records_of file) body image
  gate_cases image torn false shut =
      let zero_gate : slice_index image gate ≡ 0 = grind (arith, nat_tests) in
      let is : IsClosed bodies gate image = record {
        frames = frames_same bodies 0 gate _ image stage_closed.frames (λ i below. torn.same i (omega (arith, stage_closed.within)) (inl below)) (omega (arith, stage_closed.within)) (omega (arith, stage_closed.within, torn.no_shorter));
        within = omega (arith, stage_closed.within, torn.no_shorter);
        shut = zero_gate;
      } in
      inl (closed_records bodies gate image is ∙ sym (closed_records bodies gate file closed))
  gate_cases image torn true is_open =
      let more : 0 < slice_index image gate = grind (arith, nat_tests) in
      let are = frames_same bodies 0 gate _ image stage_closed.frames (λ i below. torn.same i (omega (arith, stage_closed.within)) (inl below)) (omega (arith, stage_closed.within)) (omega (arith, stage_closed.within, torn.no_shorter)) in
      let is = opened bodies gate body image are (staged_same gate body _ image staged (λ i below behind. torn.same i below (inr behind)) torn.no_shorter) is_body more in
      inr (closed_records (bodies ++ body ∷ []) (gate + 5 + length body) image is ∙ sym (ap (λ (r : Result (List (List ℕ)) ℕ). and_record r body) (closed_records bodies gate file closed)))

  -- a crash during the second, which opens the gate, and its sync
  pub gate_leaves : (image : List ℕ) → Torn gate 1 (written file (gate + 1) (record_bytes body)) image → IsBeforeOrAfter (records_of file) body image
  gate_leaves image torn = gate_cases image torn (nat_lt 0 (slice_index image gate)) refl

  pub gate_opened : IsClosed (bodies ++ body ∷ []) (gate + 5 + length body) (written (written file (gate + 1) (record_bytes body)) gate (1 ∷ []))
  gate_opened =
      let torn = written_torn gate (1 ∷ []) (written file (gate + 1) (record_bytes body)) (omega (arith, stage_closed.within)) in
      let image : List ℕ = written (written file (gate + 1) (record_bytes body)) gate (1 ∷ []) in
      let one : slice_index image gate ≡ 1 = first_written gate 1 (written file (gate + 1) (record_bytes body)) stage_closed.within in
      let are = frames_same bodies 0 gate _ image stage_closed.frames (λ i below. torn.same i (omega (arith, stage_closed.within)) (inl below)) (omega (arith, stage_closed.within)) (omega (arith, stage_closed.within, torn.no_shorter)) in
      opened bodies gate body image are (staged_same gate body _ image staged (λ i below behind. torn.same i below (inr behind)) torn.no_shorter) is_body (omega (arith, one))

  pub opened_records : records_of (written (written file (gate + 1) (record_bytes body)) gate (1 ∷ [])) ≡ and_record (records_of file) body
  opened_records = closed_records (bodies ++ body ∷ []) (gate + 5 + length body) _ gate_opened
      ∙ sym (ap (λ (r : Result (List (List ℕ)) ℕ). and_record r body) (closed_records bodies gate file closed))

  -- where the gate was not opened for want of memory, the record stands behind it and does not count
  pub stage_records : records_of (written file (gate + 1) (record_bytes body)) ≡ records_of file
  stage_records = closed_records bodies gate _ stage_closed ∙ sym (closed_records bodies gate file closed)

-- A file at rest, with its bodies by name.
use Rattle.std.proofs.Common.{Bool, true, false, ◌≡◌, ◌≤◌, ◌<◌, ◌+◌, ℕ, zero, suc, List, [], ◌∷◌, length, refl, sym, ◌∙◌, ap, subst, arith}
use Rattle.std.specs.Prelude.{slice_index, Some, None, ◌==◌, if◌then◌else◌}
use Rattle.std.proofs.lemmas.Grind.{common_steps}
use Rattle.std.proofs.lemmas.Bool.Decides.{nat_tests}
use Rattle.cp_base.specs.declared.limits.TheConstants.{BODY_LIMIT}
use Rattle.cp_journal.specs.Records.{body_at, gate_from, is_whole, next_gate, size_at}
use Rattle.cp_journal.specs.Frames.{AreFrames, IsAtRest, IsFrame, Rests}
use Rattle.cp_journal.proofs.Walks.{frames_le, open_gate, whole}

-- frames up to a closed gate
record Found (gate end : ℕ) (file : List ℕ) : Type 0 where
  bodies : List (List ℕ)
  frames : AreFrames bodies gate end file
  within : end < length file
  shut : slice_index file end ≡ 0

body_length : (gate : ℕ) (file : List ℕ) → next_gate gate file < length file → length (body_at gate file) ≡ size_at gate file
body_length gate file within = grind (arith, common_steps)

-- what the tests of a whole record say
pub frame_of : (gate : ℕ) (file : List ℕ) → 0 < slice_index file gate → is_whole gate file ≡ true → IsFrame gate (body_at gate file) file × (next_gate gate file < length file)
frame_of gate file is_open test =
    let some : 1 ≤ size_at gate file = grind (arith, nat_tests) in
    let most : size_at gate file ≤ BODY_LIMIT = grind (arith, nat_tests) in
    let within : next_gate gate file < length file = grind (arith, nat_tests) in
    let size = body_length gate file within in (
      record { is_open = is_open; size = sym size; holds = refl; is_body = record { some = omega (arith, size, some); most = omega (arith, size, most) } },
      within,
    )

mutual_step : (most gate end : ℕ) (file : List ℕ) → gate < length file → ((next : ℕ) → gate_from most next file ≡ Some end → next < length file → Found next end file)
    → (shut whole_test : Bool) → shut ≡ (slice_index file gate == 0) → whole_test ≡ is_whole gate file
    → (if shut then Some gate else if whole_test then gate_from most (next_gate gate file) file else None) ≡ Some end → Found gate end file
mutual_step most gate end file within next true whole_test shut_is whole_is found =
    let same : gate ≡ end = cc in
    let zero_gate : slice_index file gate ≡ 0 = grind (arith, nat_tests) in
    record { bodies = []; frames = same; within = omega (arith, same, within); shut = subst (λ (g : ℕ). slice_index file g ≡ 0) same zero_gate }
mutual_step most gate end file within next false true shut_is whole_is found =
    let is_open : 0 < slice_index file gate = grind (arith, nat_tests) in
    let frame = frame_of gate file is_open (sym whole_is) in
    let rest = next (next_gate gate file) found frame.1 in
    let place : next_gate gate file ≡ gate + 5 + length (body_at gate file) = omega (arith, frame.0.size) in
    record {
      bodies = body_at gate file ∷ rest.bodies;
      frames = (frame.0, subst (λ (g : ℕ). AreFrames rest.bodies g end file) place rest.frames);
      within = rest.within;
      shut = rest.shut;
    }
mutual_step most gate end file within next false false shut_is whole_is found = absurd (none_some end found)
  where
    none_some : (end : ℕ) → None ≡ Some end → ⊥
    none_some end e = cc

find : (most gate end : ℕ) (file : List ℕ) → gate_from most gate file ≡ Some end → gate < length file → Found gate end file
find zero gate end file found within = absurd (cc)
find (suc most) gate end file found within =
    mutual_step most gate end file within (λ next is inside. find most next end file is inside) (slice_index file gate == 0) (is_whole gate file) refl refl found

pub resting : (gate : ℕ) (file : List ℕ) (images : List ℕ → Type 0) → IsAtRest gate file images → Rests gate file images
resting gate file images rest =
    let found = find (length file) 0 gate file rest.closed (omega (arith, rest.within)) in
    record { bodies = found.bodies; closed = record { frames = found.frames; within = found.within; shut = found.shut }; durable = rest.durable }

walk : (bodies : List (List ℕ)) (most gate end : ℕ) (file : List ℕ) → AreFrames bodies gate end file → end < length file → slice_index file end ≡ 0 → length bodies < most → gate_from most gate file ≡ Some end
walk bodies zero gate end file are within shut less = absurd (omega arith)
walk [] (suc most) gate end file are within shut less =
    let zero_gate : slice_index file gate ≡ 0 = ap (slice_index file) are ∙ shut in
    let test : (slice_index file gate == 0) ≡ true = grind (arith, nat_tests) in
    rw test (ap Some are)
walk (body ∷ bodies) (suc most) gate end file are within shut less =
    let next : next_gate gate file ≡ gate + 5 + length body = omega (arith, are.0.size) in
    let inside : gate + 5 + length body < length file = omega (arith, frames_le bodies (gate + 5 + length body) end file are.1, within) in
    rw (open_gate gate file are.0.is_open, whole gate body file are.0 inside, next) (walk bodies most (gate + 5 + length body) end file are.1 within shut (omega arith))

pub at_rest : (gate : ℕ) (file : List ℕ) (images : List ℕ → Type 0) → Rests gate file images → IsAtRest gate file images
at_rest gate file images rest = record {
  closed = walk rest.bodies (length file) 0 gate file rest.closed.frames rest.closed.within rest.closed.shut (omega (arith, frames_le rest.bodies 0 gate file rest.closed.frames, rest.closed.within));
  within = rest.closed.within;
  durable = rest.durable;
}

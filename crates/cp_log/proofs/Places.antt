-- Places of a journal's file.
use Rattle.std.proofs.Common.{◌≡◌, ◌≤◌, ◌<◌, ◌+◌, ◌*◌, ◌^◌, ℕ, suc, List, [], ◌∷◌, length, Vec, refl, ap, arith}
use Rattle.std.specs.Prelude.{Option, Some, None, Result, Ok, Err}
use Rattle.std.specs.declared.alloc.Global.{Global}
use Rattle.cp_base.specs.declared.limits.TheConstants.{LAST_NUMBER}
use Rattle.cp_journal.specs.Found.{lists}
use Rattle.cp_log_rules.proofs.Recoveries.{restart_bound}
use Rattle.cp_journal.specs.Frames.{AreFrames, IsAtRest}
use Rattle.cp_journal.specs.Records.{records_of}
use Rattle.cp_journal.proofs.Resting.{resting}
use Rattle.cp_journal.proofs.Walks.{closed_records}
use Rattle.cp_log_rules.specs.Durable.{DurableState}
use Rattle.cp_log_rules.specs.Recovery.{after_body, or_bad, recovered_from}
use Rattle.cp_log.specs.Files.{sizes}

frames_end : (bodies : List (List ℕ)) (gate end : ℕ) (file : List ℕ) → AreFrames bodies gate end file → end ≡ gate + sizes bodies
frames_end [] gate end file are = omega (arith, are)
frames_end (body ∷ bodies) gate end file are = omega (arith, frames_end bodies (gate + 5 + length body) end file are.1)

same_bodies : (r : Result (List (List ℕ)) ℕ) (bodies others : List (List ℕ)) → r ≡ Ok bodies → r ≡ Ok others → sizes bodies ≡ sizes others
same_bodies r bodies others is that =
    let same : bodies ≡ others = cc in
    ap sizes same

-- the last gate of a file at rest
pub rest_end : (gate : ℕ) (file : List ℕ) (images : List ℕ → Type 0) (bodies : List (List ℕ)) → IsAtRest gate file images → records_of file ≡ Ok bodies → gate ≡ sizes bodies
rest_end gate file images bodies rest is =
    let by_name = resting gate file images rest in
    let ends : gate ≡ 0 + sizes by_name.bodies = frames_end by_name.bodies 0 gate file by_name.closed.frames in
    let same : sizes by_name.bodies ≡ sizes bodies = same_bodies (records_of file) by_name.bodies bodies (closed_records by_name.bodies gate file by_name.closed) is in
    omega (arith, ends, same)

bad_by : (at place n : ℕ) (o : Option DurableState) (next : DurableState → Result DurableState ℕ) → ((s : DurableState) → next s ≡ Err place → place ≤ at + n) → or_bad at o next ≡ Err place → place ≤ at + n
bad_by at place n None next rest is =
    let here : at ≡ place = cc in
    omega arith
bad_by at place n (Some s) next rest is = rest s is

-- a bad record is not behind the last gate
pub bad_place : (at place : ℕ) (s : DurableState) (bodies : List (List ℕ)) → recovered_from at s bodies ≡ Err place → place ≤ at + sizes bodies
unfolding recovered_from
bad_place at place s [] is = absurd cc
bad_place at place s (body ∷ bodies) is =
    bad_by at place (length body + 5 + sizes bodies) (after_body body s) (λ t. recovered_from (at + (length body + 5)) t bodies)
    (λ t bad. omega (arith, bad_place (at + (length body + 5)) place t bodies bad)) is

length_lists : (bodies : List (Vec ℕ Global)) → length (lists bodies) ≡ length bodies
length_lists [] = refl
length_lists (body ∷ bodies) = ap suc (length_lists bodies)

-- as many starts as there are bodies at most
pub restart_fits : (at : ℕ) (first s : DurableState) (bodies : List (Vec ℕ Global)) → first.restart ≡ 0 → recovered_from at first (lists bodies) ≡ Ok s → length bodies * 24 < 9223372036854775808 → s.restart < LAST_NUMBER
restart_fits at first s bodies none is small = omega (arith, restart_bound at first s (lists bodies) is, length_lists bodies)

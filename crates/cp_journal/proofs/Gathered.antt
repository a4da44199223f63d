-- What the bodies so far and the next gate say of a file.
use Rattle.std.proofs.Common.{◌≡◌, ◌≤◌, ◌<◌, ◌+◌, ◌++◌, ℕ, List, [], ◌∷◌, length, Vec, refl, sym, ◌∙◌, ap, subst}
use Rattle.std.specs.Prelude.{Err}
use Rattle.std.specs.declared.alloc.Global.{Global}
use Rattle.cp_journal.specs.declared.reading.Found.{Found}
use Rattle.cp_journal.specs.declared.reading.Found.TheVariants as found
use Rattle.cp_journal.specs.Found.{FitsIn, IsFound, lists}
use Rattle.cp_journal.specs.Frames.{AreFrames, IsFrame}
use Rattle.cp_journal.specs.Records.{records_of}
use Rattle.cp_journal.proofs.Walks.{bad_records, frames_push}
use Rattle.cp_journal.proofs.Resting.{frame_of}

pub found_bad : (bodies : List (List ℕ)) (gate : ℕ) (file now : List ℕ) (is : Found) → now ≡ file → IsFound gate now is → is ≡ found.Bad → AreFrames bodies 0 gate file → gate < length file → 2 ≤ length file
    → records_of file ≡ Err gate
found_bad bodies gate file now is same tells bad are within long =
    let here : IsFound gate now found.Bad = subst (IsFound gate now) bad tells in
    let both : IsFound gate file found.Bad = subst (λ (f : List ℕ). IsFound gate f found.Bad) same here in
    bad_records bodies gate file are within long both.0 both.1

lists_push : (bodies : List (Vec ℕ Global)) (body : Vec ℕ Global) → lists (bodies ++ body ∷ []) ≡ lists bodies ++ body.items ∷ []
lists_push [] body = refl
lists_push (first ∷ bodies) body = ap (λ (l : List (List ℕ)). first.items ∷ l) (lists_push bodies body)

pub found_body : (bodies next : List (Vec ℕ Global)) (body : Vec ℕ Global) (gate end : ℕ) (file now : List ℕ) (is : Found) → now ≡ file → IsFound gate now is → is ≡ found.Body body
    → AreFrames (lists bodies) 0 gate file → next ≡ bodies ++ body ∷ [] → end ≡ gate + 5 + length body.items → AreFrames (lists next) 0 end file
found_body bodies next body gate end file now is same tells has are pushed ends =
    let here : IsFound gate now (found.Body body) = subst (IsFound gate now) has tells in
    let all : IsFound gate file (found.Body body) = subst (λ (f : List ℕ). IsFound gate f (found.Body body)) same here in
    let frame = frame_of gate file all.0 all.1.0 in
    let of_body : IsFrame gate body.items file = subst (λ (b : List ℕ). IsFrame gate b file) (sym all.1.1) frame.0 in
    subst (λ (l : List (List ℕ)). AreFrames l 0 end file) (sym (ap lists pushed ∙ lists_push bodies body)) (frames_push (lists bodies) body.items 0 gate end file are of_body ends)

pub found_fits : (body : Vec ℕ Global) (gate size : ℕ) (is : Found) → FitsIn gate size is → is ≡ found.Body body → gate + 5 + length body.items < size
found_fits body gate size is tells has = subst (FitsIn gate size) has tells

-- One body of a journal and those behind it.
use Rattle.std.proofs.Common.{◌≡◌, ◌<◌, ◌+◌, ◌-◌, ◌^◌, ℕ, List, [], ◌∷◌, length, take, drop, get_or, Vec, refl, sym, ◌∙◌, ap, arith}
use Rattle.std.specs.Prelude.{Option, Some, None, Result, Ok, Err, min}
use Rattle.std.specs.declared.alloc.Global.{Global}
use Rattle.std.proofs.lemmas.Grind.{common_steps}
use Rattle.cp_journal.specs.Found.{lists}
use Rattle.cp_log_rules.specs.Durable.{DurableState}
use Rattle.cp_log_rules.specs.Recovery.{after_body, recovered_from}

behind_first : (body : Vec ℕ Global) (rest : List (Vec ℕ Global)) → take (length (body ∷ rest) - 1) rest ≡ rest
behind_first body rest = grind (arith, common_steps)

pub first_and_rest : (rest : List (Vec ℕ Global)) (body : Vec ℕ Global) → 0 < length rest → body ≡ get_or rest 0 body → lists rest ≡ body.items ∷ lists (take (length rest - 1) (drop 1 rest))
first_and_rest [] body some is = absurd (omega arith)
first_and_rest (first ∷ rest) body some is = ap (λ (b : Vec ℕ Global). b.items ∷ lists rest) (sym is) ∙ ap (λ (l : List (Vec ℕ Global)). body.items ∷ lists l) (sym (behind_first first rest))

pub none_left : (rest : List (Vec ℕ Global)) → length rest < 1 → lists rest ≡ []
none_left [] none = refl
none_left (first ∷ rest) none = absurd (omega arith)

-- a body that is no part, or no legal one
pub bad_body : (at : ℕ) (s : DurableState) (all : Result DurableState ℕ) (rest more : List (List ℕ)) (body : List ℕ) (after : Option DurableState) → all ≡ recovered_from at s rest → rest ≡ body ∷ more → after_body body s ≡ after → after ≡ None → all ≡ Err at
unfolding recovered_from
bad_body at s all rest more body after is splits read none = is ∙ ap (recovered_from at s) splits ∙ rw (read, none) refl

-- a body that spells a legal part
pub good_body : (at : ℕ) (s t : DurableState) (all : Result DurableState ℕ) (rest more : List (List ℕ)) (body : List ℕ) (after : Option DurableState) → all ≡ recovered_from at s rest → rest ≡ body ∷ more → after_body body s ≡ after → after ≡ Some t
    → all ≡ recovered_from (at + (length body + 5)) t more
unfolding recovered_from
good_body at s t all rest more body after is splits read some = is ∙ ap (recovered_from at s) splits ∙ rw (read, some) refl

pub no_body : (at : ℕ) (s : DurableState) (all : Result DurableState ℕ) (rest : List (List ℕ)) → all ≡ recovered_from at s rest → rest ≡ [] → all ≡ Ok s
unfolding recovered_from
no_body at s all rest is none = is ∙ ap (recovered_from at s) none

pub next_place : (at place n next : ℕ) → place ≡ min at (2 ^ 64 - 1) → next ≡ min (place + n) (2 ^ 64 - 1) → next ≡ min (at + n) (2 ^ 64 - 1)
next_place at place n next is step = omega arith

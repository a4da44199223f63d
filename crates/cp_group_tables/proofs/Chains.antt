-- One change after another.
use Rattle.std.proofs.Common.{◌≡◌, List, [], ◌∷◌, ◌++◌, refl, ap, ◌∙◌, append_assoc}
use Rattle.cp_base.specs.declared.identifier.Invocation.{Invocation}
use Rattle.cp_answers.specs.declared.answer.Answer.{Answer}
use Rattle.cp_group_state.specs.Waiters.{Ended}
use Rattle.cp_group_state.specs.Apply.{told}

-- a function of two equals is equal
pub both : {A B C : Type 0} (f : A → B → C) {a b : A} {x y : B} → a ≡ b → x ≡ y → f a x ≡ f b y
both f p q = cc

pub told-append : (es fs : List Ended) → told (es ++ fs) ≡ told es ++ told fs
told-append [] fs = refl
told-append (e ∷ es) fs = ap (λ (rest : List (Invocation × Answer)). (e.waiter.call, e.answer) ∷ rest) (told-append es fs)

-- what a change tells, and then another
pub told_on : (a b d : List (Invocation × Answer)) (es fs : List Ended) → b ≡ a ++ told es → d ≡ b ++ told fs → d ≡ a ++ told (es ++ fs)
told_on a b d es fs first second = second ∙ ap (λ (l : List (Invocation × Answer)). l ++ told fs) first ∙ append_assoc a (told es) (told fs) ∙ ap (λ (l : List (Invocation × Answer)). a ++ l) (rw told-append refl)

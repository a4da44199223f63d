-- What is written is taken, and what is sent is spelled.
use Rattle.std.proofs.Common.{zero, suc, List, [], ◌∷◌, subst, arith, Contains}
use Rattle.std.specs.List.{AllByRecursion}
use Rattle.cp_rules.specs.Steps.{step}
use Rattle.cp_rules_ranges.specs.Ranges.{SentIsInRange, WrittenIsInRange}
use Rattle.cp_rules_ranges.specs.Laws.{PartsAreTaken, MessagesAreSpelled}
use Rattle.cp_rules_ranges.proofs.Bodies.{message_fits}
use Rattle.cp_rules_ranges.proofs.Parts.{part_taken}
use Rattle.cp_rules_ranges.proofs.Steps.{step_range}

all_contains : {A : Type 0} (P : A → Type 0) (xs : List A) (x : A) → AllByRecursion P xs → Contains xs x → P x
all_contains P [] x all (k, h, e) = absurd (omega arith)
all_contains P (y ∷ xs) x all (zero, h, e) = subst P e all.0
all_contains P (y ∷ xs) x all (suc k, h, e) = all_contains P xs x all.1 (k, omega arith, e)

pub parts_are_taken : PartsAreTaken
parts_are_taken group s me p v event part most two stands may is =
    part_taken group s p most two stands part (subst (WrittenIsInRange p) is (step_range me p v event may).written)

pub messages_are_spelled : MessagesAreSpelled
messages_are_spelled group me p v event x most may has =
    let r = all_contains SentIsInRange (step me p v event).sends x (step_range me p v event may).sends has in
    message_fits group me x.to x.body most may.member r.to r.body

-- Rounds by which a leader learns that it still leads, and what it is answered.
use Rattle.std.specs.Prelude.{ℕ, List, [], ◌∷◌, ◌++◌}
use Rattle.cp_grammar.specs.Grammar.{Grammar, mapped, ◌then◌}
use Rattle.cp_grammar.specs.Fields.{flag}
use Rattle.cp_grammar.specs.Common.{index, group_id}
use Rattle.cp_message.specs.Texts.{numbers_text, yes_text}
use Rattle.cp_message.specs.declared.confirm.Confirm.{Confirm}
use Rattle.cp_message.specs.declared.confirm.Confirmed.{Confirmed}

unfoldable pub confirm_grammar : Grammar ℕ Confirm
confirm_grammar = mapped (λ p. record { group = p.0; term = p.1.0; round = p.1.1 }) (λ c. (c.group, (c.term, c.round)))
    (group_id then index then index)

unfoldable pub confirmed_grammar : Grammar ℕ Confirmed
confirmed_grammar = mapped (λ p. record { group = p.0; term = p.1.0; accepted = p.1.1.0; round = p.1.1.1 })
    (λ c. (c.group, (c.term, (c.accepted, c.round))))
    (group_id then index then flag then index)

abbrev pub confirm_text : Confirm → List ℕ
confirm_text c = numbers_text (c.group.0 ∷ c.term ∷ c.round ∷ [])

abbrev pub confirmed_text : Confirmed → List ℕ
confirmed_text c = numbers_text (c.group.0 ∷ c.term ∷ []) ++ yes_text c.accepted ++ numbers_text (c.round ∷ [])

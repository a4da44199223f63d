use Rattle.std.proofs.Common.{◌≡◌, ◌++◌, length}
use Rattle.cp_base.specs.Text.{Grew}
use Rattle.cp_message.specs.Texts.{numbers_text}
use Rattle.cp_message.proofs.text.append_members_text.Given as goal

abbrev pub invariant-loop-rest : goal.invariant-loop-rest
invariant-loop-rest l = (l.out.items ++ numbers_text l.rest ≡ l.fn.out.items ++ numbers_text l.members) × Grew l.fn.out.items l.out.items

abbrev pub decreases-loop-rest : goal.decreases-loop-rest
decreases-loop-rest l = length l.rest

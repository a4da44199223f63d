use Rattle.std.proofs.Common.{◌≡◌, false}
use Rattle.cp_journal.specs.Journals.{is_spent}
use Rattle.cp_store_cases.proofs.many_appends.appended.Given as goal

abbrev pub invariant-loop-done : goal.invariant-loop-done
invariant-loop-done g l = is_spent l.journal ≡ false

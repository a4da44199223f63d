use Rattle.cp_wait.proofs.indexes.enter.Goals as goal

pub returns-in-Err-clause-err : goal.returns-in-Err-clause-err
returns-in-Err-clause-err c = λ ws fresh is differ. c.leave.ensures.undone ws differ fresh (c.in-Err.ensures.part ws fresh is)

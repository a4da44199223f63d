use Rattle.cp_log.proofs.store.prepare_copy.Goals as goal

pub returns-in_ok-copy-in_default-clause-ok : goal.returns-in_ok-copy-in_default-clause-ok
returns-in_ok-copy-in_default-clause-ok c = rw c.in_ok-copy-in_default.ensures at c.prepare-in_default.ensures.ok

pub returns-in_ok-copy-in_default-clause-frugal : goal.returns-in_ok-copy-in_default-clause-frugal
returns-in_ok-copy-in_default-clause-frugal c = rw c.in_ok-copy-in_default.ensures at c.prepare-in_default.ensures.frugal

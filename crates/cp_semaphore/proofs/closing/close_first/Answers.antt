use Rattle.cp_semaphore.specs.Tables.{seen}
use Rattle.std.proofs.Common.{[], ◌∷◌}
use Rattle.cp_semaphore.proofs.Closings.{closed-table, closes-more}
use Rattle.cp_semaphore.proofs.closing.close_first.Goals as goal

pub returns-clause-back : goal.returns-clause-back
returns-clause-back c = λ sessions. closes-more c.args.session sessions (seen c.args.tables.now) (seen c.close_session.new.tables) c.close_session.ensures.back

pub returns-clause-table : goal.returns-clause-table
returns-clause-table c = closed-table c.args.tables.now c.close_session.new.tables (c.args.session ∷ []) c.requires c.close_session.ensures.nested c.close_session.ensures.back

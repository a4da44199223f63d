use Rattle.cp_lock.proofs.Standing.{held_there}
use Rattle.cp_lock.proofs.locks.Locks.close_sessions.Goals as goal

pub returns-clause-there : goal.returns-clause-there
returns-clause-there c = rw (c.in_ok-names.ensures, c.free_rows.ensures.rows) (held_there c.in_ok-closed.closed c.self.inside.rows.entries)

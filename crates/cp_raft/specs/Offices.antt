-- Steps that bring leadership.
use Rattle.std.specs.Prelude.{Bool, not, ◌&&◌}
use Rattle.cp_rules.specs.Local.{LocalStep, is_leader}
use Rattle.cp_rules.specs.Volatile.{VolatileState}

abbrev pub takes_office : VolatileState → LocalStep → Bool
takes_office v s = not (is_leader v.role) && s.leads

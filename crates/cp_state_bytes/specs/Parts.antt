-- The parts of a state's bytes, as their readers give them.
use Rattle.cp_state_bytes.specs.declared.reading.OwnerRows.{OwnerRows}
use Rattle.cp_state_bytes.specs.declared.reading.ObjectRows.{ObjectRows}
use Rattle.cp_state_bytes.specs.declared.reading.CallRows.{CallRows}
use Rattle.cp_state_bytes.specs.States.{Owners, Objects, Calls}

abbrev pub owners_of : OwnerRows → Owners
owners_of r = (r.destroyed_group, (r.sessions, (r.locks, (r.semaphores, r.holdings))))

abbrev pub objects_of : ObjectRows → Objects
objects_of r = (r.latches, (r.longs, (r.refs, r.gone)))

abbrev pub calls_of : CallRows → Calls
calls_of r = (r.waiters, (r.memory, r.maps))

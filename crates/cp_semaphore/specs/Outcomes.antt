-- What stands available of a semaphore.
use Rattle.std.specs.Prelude.{ℤ, Option}
use Rattle.std.specs.Option.{option_map}
use Rattle.cp_group_state.specs.Rows.{Object, find, object_cmp}
use Rattle.cp_group_state.specs.Semaphores.{Semaphores}

abbrev pub available_of : Object → Semaphores → Option ℤ
available_of key s = option_map (λ row. row.available) (find object_cmp s.rows key)

-- The bytes of a body.
use Rattle.std.specs.Prelude.{ℕ, List}
use Rattle.cp_log.specs.declared.writing.Body.{Body}
use Rattle.cp_log.specs.declared.writing.Body.TheVariants as body

abbrev pub bytes_of : Body → List ℕ
bytes_of (body.State bytes) = bytes
bytes_of (body.Other bytes) = bytes.items

use Rattle.std.proofs.Common.{◌+◌, refl, arith}
use Rattle.cp_log.specs.Stores.{bytes_of}
use Rattle.cp_log.proofs.Written.{begun_bytes, start_fits, start_size}
use Rattle.cp_log.proofs.store.Store.begin.Goals as goal

pub write_step-requires-clause-fits : goal.write_step-requires-clause-fits
write_step-requires-clause-fits g c = start_fits (c.args.state.restart + 1) (omega arith)

pub write_step-requires-clause-size : goal.write_step-requires-clause-size
write_step-requires-clause-size g c = omega (arith, start_size (c.args.state.restart + 1))

pub returns-in-Ok-clause-bytes : goal.returns-in-Ok-clause-bytes
returns-in-Ok-clause-bytes g c = begun_bytes (bytes_of c.write_step.new.self) _ _ c.in-Ok.field-0 c.write_step.result c.in-Ok.is (start_size (c.args.state.restart + 1)) c.write_step.ensures.bytes c.write_step.ensures.only_full

pub returns-clause-full : goal.returns-clause-full
returns-clause-full g c = λ full. omega (arith, start_size (c.args.state.restart + 1), c.in-Err.ensures.full (rw full refl))

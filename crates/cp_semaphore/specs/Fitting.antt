-- Operations whose numbers are of 32 bits.
use Rattle.std.specs.Prelude.{◌<◌, ◌^◌}
use Rattle.cp_object_ops.specs.declared.sem_op.SemOp.{SemOp}
use Rattle.cp_object_ops.specs.declared.sem_op.SemOp.TheVariants as sem

abbrev pub Fits : SemOp → Type 0
Fits sem.Available = Unit {0}
Fits (sem.Init n) = n < 2 ^ 32
Fits (sem.Acquire session n wish) = n < 2 ^ 32
Fits (sem.Release session n) = n < 2 ^ 32
Fits (sem.Drain session) = Unit {0}
Fits (sem.Increase session n) = n < 2 ^ 32
Fits (sem.Reduce session n) = n < 2 ^ 32

-- Why a run of reads ended.
use Rattle.std.proofs.Common.{◌≡◌, ◌≤◌, ◌∙◌, sym, ℕ, List, arith}
use Rattle.std.specs.Prelude.{Result}
use Rattle.cp_journal.specs.declared.error.JournalError.{JournalError}
use Rattle.cp_journal.specs.declared.error.JournalError.TheVariants as error
use Rattle.cp_journal.specs.Errors.{OpenCause, ReadCause}

pub opened : (start before now end : ℕ) (told : Type 0) (records : Result (List (List ℕ)) ℕ) (e : JournalError) → start ≤ before → now ≤ end → ReadCause before now e → OpenCause start end told records e
opened start before now end told records error.DiskFault less later cause = omega arith
opened start before now end told records error.Full less later cause = absurd cause
opened start before now end told records (error.BadFrame place) less later cause = absurd cause
opened start before now end told records error.NoMemory less later cause = tt

-- want of memory of the reader itself
pub pushed : (before now : ℕ) (told : Type 0) (records : Result (List (List ℕ)) ℕ) (e : JournalError) → ReadCause 0 0 e → OpenCause before now told records e
pushed before now told records error.DiskFault cause = absurd (omega arith)
pushed before now told records error.Full cause = absurd cause
pushed before now told records (error.BadFrame place) cause = absurd cause
pushed before now told records error.NoMemory cause = tt

pub still : (start before now : ℕ) (told : Type 0) (records : Result (List (List ℕ)) ℕ) (e : JournalError) → start ≤ before → before ≤ now → OpenCause before before told records e → OpenCause start now told records e
still start before now told records error.DiskFault less later cause = omega arith
still start before now told records error.Full less later cause = cause
still start before now told records (error.BadFrame place) less later cause = cause
still start before now told records error.NoMemory less later cause = tt

-- a cause over the same records of a disk that stayed
pub carried : (start before now : ℕ) (told : Type 0) (records same : Result (List (List ℕ)) ℕ) (e : JournalError) → start ≤ before → (told → same ≡ records) → OpenCause before now told same e → OpenCause start now told records e
carried start before now told records same error.DiskFault less is cause = omega arith
carried start before now told records same error.Full less is cause = cause
carried start before now told records same (error.BadFrame place) less is cause = λ (t : told). sym (is t) ∙ cause t
carried start before now told records same error.NoMemory less is cause = tt

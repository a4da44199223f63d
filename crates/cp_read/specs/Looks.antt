-- Reads that wait, by what a leader does with them. When one can be answered, cp_rules says (`is_ready`).
use Rattle.std.specs.Prelude.{◌≡◌, ℕ, suc, ◌≤◌, Bool, not, List, [], ◌∷◌, ◌++◌, length, filter, Option}
use Rattle.std.specs.List.{find, position_or_len, remove}
use Rattle.cp_replicate.specs.Decisions as decided
use Rattle.cp_rules.specs.Confirming.{is_ready}
use Rattle.cp_rules.specs.Limits.{most_looks}
use Rattle.cp_rules.specs.Volatile.{Look, Reads}
use Rattle.cp_read.specs.declared.error.ReadsError.{ReadsError}
use Rattle.cp_read.specs.declared.error.ReadsError.TheVariants.{Busy, NoMemory}

-- with this read, in a round of its own
abbrev pub with_look : Look → Reads → Reads
with_look look reads = record reads { round = suc reads.round; looks = reads.looks ++ record look { round = suc reads.round } ∷ [] }

-- why a read is not taken
abbrev pub IsReadsError : ReadsError → Reads → Type 0
IsReadsError (Busy most) reads = (most ≡ most_looks) × (most_looks ≤ length reads.looks)
IsReadsError NoMemory reads = Unit {0}

-- the first read that member `me` can answer, which has applied so much
abbrev pub first_ready : ℕ → List ℕ → ℕ → Reads → Option Look
first_ready me members applied reads = find (is_ready me members reads applied) reads.looks

-- without the first that passes the test
abbrev pub without_first : {A : Type 0} → (A → Bool) → List A → List A
without_first test xs = remove xs (position_or_len test xs)

abbrev pub without_first_ready : ℕ → List ℕ → ℕ → Reads → Reads
without_first_ready me members applied reads = record reads { looks = without_first (is_ready me members reads applied) reads.looks }

abbrev pub without_ready : ℕ → List ℕ → ℕ → Reads → Reads
without_ready me members applied reads = record reads { looks = filter (λ look. not (is_ready me members reads applied look)) reads.looks }

-- a read is ready, by what the members have confirmed
abbrev pub ready : ℕ → List ℕ → List ℕ → ℕ → Look → Bool
ready me members confirmed applied look = decided.is_ready me members confirmed applied look.index look.round

-- Two reads at member 1, which leads three.
use Rattle.std.specs.Prelude.{ℕ, List, [], ◌∷◌, map}
use Rattle.cp_rules.specs.Confirming.{with_round}
use Rattle.cp_rules.specs.Volatile.{Look, Reads, no_reads}
use Rattle.cp_rules.specs.Worked.{caller}
use Rattle.cp_read.specs.Looks.{with_look}

abbrev pub members : List ℕ
members = 1 ∷ 2 ∷ 3 ∷ []

-- the leader is outside, and so is the member that confirmed
abbrev pub others_removed : List ℕ
others_removed = 3 ∷ 4 ∷ 5 ∷ []

-- the first came when the log ended at 4, and the second when it ended at 5
abbrev pub one : Look
one = record { call = caller; attempt = 7; index = 4; round = 1; op = [] }

abbrev pub other : Look
other = record { call = caller; attempt = 8; index = 5; round = 2; op = [] }

abbrev pub both : Reads
both = with_look other (with_look one no_reads)

-- member 2 confirms the first round
abbrev pub asked : Reads
asked = with_round 2 1 both

-- member 3 confirms the second round, and then, late, the first
abbrev pub confirmed_late : Reads
confirmed_late = with_round 3 1 (with_round 3 2 both)

abbrev pub rounds : Reads → List ℕ
rounds reads = map (λ look. look.round) reads.looks

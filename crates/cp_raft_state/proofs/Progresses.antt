-- What is told of a chunk, with the bytes that it makes whole.
use Rattle.std.proofs.Common.{◌≡◌, refl, ℕ, List, Some}
use Rattle.cp_rules.specs.Snapshots as step
use Rattle.cp_snapshot.specs.declared.assembler.Progress.TheVariants as progress
use Rattle.cp_snapshot.specs.Decisions.{told, whole_in}
use Rattle.cp_raft_state.specs.declared.receiving.Joined.TheVariants as joined
use Rattle.cp_raft_state.specs.Joining.{joined_by}

pub whole_joined : (x : step.Progress) (bytes : List ℕ) → whole_in x ≡ Some bytes → joined_by x ≡ joined.Whole bytes
whole_joined (step.Apart received) bytes e = absurd (cc)
whole_joined step.TooLong bytes e = absurd (cc)
whole_joined (step.More more) bytes e = absurd (cc)
whole_joined (step.Whole all) bytes e = cc

pub more_joined : (x : step.Progress) (n : ℕ) → told x ≡ progress.More n → joined_by x ≡ joined.More n
more_joined (step.Apart received) n e = cc
more_joined step.TooLong n e = absurd (cc)
more_joined (step.More bytes) n e = cc
more_joined (step.Whole bytes) n e = absurd (cc)

pub long_joined : (x : step.Progress) → told x ≡ progress.TooLong → joined_by x ≡ joined.TooLong
long_joined (step.Apart received) e = absurd (cc)
long_joined step.TooLong e = refl
long_joined (step.More bytes) e = absurd (cc)
long_joined (step.Whole bytes) e = absurd (cc)

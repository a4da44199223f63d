-- Out of the ghost field that says that a member may take a step.
use Rattle.std.proofs.Common.{ℕ, List, [], ◌∷◌, ◌++◌}
use Rattle.std.proofs.Math.Logic.{∥∥₁_elim}
use Rattle.std.proofs.Props.{props}
use Rattle.cp_disk.specs.declared.memory.MemoryDisk.{MemoryDisk}
use Rattle.cp_disk.specs.declared.disk.Disk.{Ghosts}
use Rattle.cp_grammar.specs.Lists.{ItemsFit}
use Rattle.cp_log.specs.declared.store.Store.{Store}
use Rattle.cp_raft.specs.declared.raft.Raft.{Raft}
use Rattle.cp_grammar.specs.Common.{members, member_after}
use Rattle.cp_three_members.specs.Members.{IsReady}

rising_prop : (before xs : List ℕ) → IsProp (ItemsFit member_after before xs)
unfolding ItemsFit member_after
rising_prop before [] = hlevel
rising_prop before (x ∷ xs) = hlevel (rising_prop (before ++ x ∷ []) xs, props)

fits_prop : (xs : List ℕ) → IsProp (members.Fits xs)
unfolding members
fits_prop xs = hlevel (rising_prop, props)

ready_prop : {ghosts : Ghosts MemoryDisk} (store : Store MemoryDisk ghosts) (raft : Raft) → IsProp (IsReady store raft)
ready_prop store raft = hlevel (fits_prop, props)

pub ready : {ghosts : Ghosts MemoryDisk} (store : Store MemoryDisk ghosts) (raft : Raft) → ∥ IsReady store raft ∥₁ → IsReady store raft
ready store raft h = ∥∥₁_elim h (ready_prop store raft) (λ x. x)

use Rattle.cp_log.specs.Stores.{held_by}
use Rattle.cp_raft.specs.Rafts.{seat_of, state_of}
use Rattle.cp_three_members.proofs.Starting.{begins}
use Rattle.cp_three_members.proofs.member.Member.start.Goals as goal

pub invariant_of-result : goal.invariant_of-result
invariant_of-result c = record {
  ready = λ up. ∣ record {
    whole = c.in_ok-store.ensures.whole;
    may = begins c.args.me (held_by c.in_ok-store.store) (seat_of c.in-Ok.raft) (state_of c.in-Ok.raft) (record { first = c.requires.first; last = c.requires.last }) c.in_ok-store.ensures.held c.in-Ok.ensures.seat c.in-Ok.ensures.state;
  } ∣₁;
}

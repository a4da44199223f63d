use Rattle.cp_log.specs.Stores.{held_by}
use Rattle.cp_log_rules.specs.Durable.{group_in}
use Rattle.cp_raft.specs.Events.{event_of}
use Rattle.cp_raft.specs.Rafts.{seat_of, state_of}
use Rattle.cp_three_members.proofs.Comes.{may_step, for_one}
use Rattle.cp_three_members.proofs.member.take_step.Goals as goal

pub step-requires-clause-may : goal.step-requires-clause-may
step-requires-clause-may c =
    let seat = seat_of c.args.raft.now in
    may_step seat.me (group_in (held_by c.args.store.now) seat.group.0) (state_of c.args.raft.now) (event_of c.args.event.now) c.requires.ready.may.may c.requires.comes

pub returns-in-Ok : goal.returns-in-Ok
returns-in-Ok c = λ done. record {
  whole = c.in-Ok.ensures.leaves.spent;
  may = for_one (event_of c.args.event.now) c.requires.kind (λ e is. (c.in-Ok.ensures.steps e is).stays);
}

use Rattle.cp_raft.proofs.Joining.{halts_by, steps_by}
use Rattle.cp_raft.proofs.raft.Raft.step.Goals as goal

pub returns-clause-steps : goal.returns-clause-steps
returns-clause-steps g c = λ e is.
    let done = c.take.ensures in
    steps_by c.args.self.now c.args.store.now e c.take.new.self c.take.new.store c.take.result c.take.new.out
    (done.did e is) (done.state e is) (done.held e is) (done.told e is) (λ x. done.durable e x is) (done.stays e is)

pub returns-clause-halts : goal.returns-clause-halts
returns-clause-halts g c =
    let done = c.take.ensures in
    halts_by c.args.store.now c.take.new.store c.take.result c.take.new.out done.nothing_sent done.nothing_held done.cause

pub returns-clause-leaves : goal.returns-clause-leaves
returns-clause-leaves g c =
    let done = c.take.ensures in
    record {
      seat = done.seat;
      first = done.first;
      spent = done.spent;
      counts = record { faults = done.later.0; starved = done.later.1; orders = done.orders };
    }

pub returns-clause-wants : goal.returns-clause-wants
returns-clause-wants g c = λ e is.
    let done = c.take.ensures in
    record { full = done.full e is; only_full = done.only_full e is; frugal = done.frugal e is }

pub returns-clause-crashes : goal.returns-clause-crashes
returns-clause-crashes g c = λ e is.
    let done = c.take.ensures in
    record { any_moment = λ x. done.any_moment e x is; untouched = done.untouched e is }

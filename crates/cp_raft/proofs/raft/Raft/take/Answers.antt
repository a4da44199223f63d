use Rattle.std.proofs.Common.{◌&&◌, not, Option, IfSome, sym, ap, subst, ◌∙◌}
use Rattle.cp_log_rules.specs.Persistent.{PersistentState}
use Rattle.cp_log_rules.specs.Durable.{group_in}
use Rattle.cp_log.specs.Stores.{held_by}
use Rattle.cp_parts.specs.declared.down.Down.TheVariants as down
use Rattle.cp_rules.specs.declared.role.Role.{Role}
use Rattle.cp_rules.specs.Local.{Event, is_leader}
use Rattle.cp_rules.specs.Steps.{step}
use Rattle.cp_rules_ranges.specs.Laws.{MayStep}
use Rattle.cp_raft.specs.Deciding.{Decides}
use Rattle.cp_raft.specs.Events.{event_of}
use Rattle.cp_raft.specs.Groups.{stored_by}
use Rattle.cp_raft.proofs.Stepping.{decided_a_ballot, decided_is_taken, decided_goes_on, same_cause, told}
use Rattle.cp_raft.proofs.raft.Raft.take.Goals as goal

pub decide-decided-requires-clause-may : goal.decide-decided-requires-clause-may
decide-decided-requires-clause-may g c = λ e is. subst (λ (p : PersistentState). MayStep c.args.self.now.seat.me p c.args.self.now.state e) (sym c.of-stored.ensures) (c.requires.may e is)

pub write-requires-clause-taken : goal.write-requires-clause-taken
write-requires-clause-taken g c = decided_is_taken c.args.self.now.seat (held_by c.args.store.now) c.args.self.now.state (event_of c.args.event.now) (stored_by c.of-stored.result) c.in-Ok.did c.decide-decided.new.state (record c.args.out.now { messages = c.clear.new.self }) c.decide-decided.new.out
    c.of-stored.ensures c.requires.stored c.requires.kind c.requires.may c.in-Ok.ensures.did

pub returns-clause-told : goal.returns-clause-told
returns-clause-told g c = λ e is.
    let seat = c.args.self.now.seat in
    let v = c.args.self.now.state in
    let before = record c.args.out.now { messages = c.clear.new.self } in
    let made = c.decide-decided.new.out in
    let now = c.decide-decided.new.state in
    let d = subst (λ (o : Option Event). IfSome o (λ x. Decides seat (step seat.me (stored_by c.of-stored.result) v x) c.in-Ok.did now before made)) is c.in-Ok.ensures.did in
    let here = subst (λ (p : PersistentState). Decides seat (step seat.me p v e) c.in-Ok.did now before made) c.of-stored.ensures d in
    told seat v c.args.event.now e (step seat.me (group_in (held_by c.args.store.now) seat.group.0) v e) c.in-Ok.did now before made c.tell.new.out is c.clear.ensures.items here (record {
      kept = c.tell.ensures.kept;
      commit = c.tell.ensures.commit;
      stepped_down = c.tell.ensures.stepped_down ∙ ap (λ (r : Role). is_leader r && not (is_leader now.role)) c.role-before.ensures;
      took_office = c.tell.ensures.took_office ∙ ap (λ (r : Role). not (is_leader r) && is_leader now.role) c.role-before.ensures;
      installed = c.tell.ensures.installed;
      wrote = c.tell.ensures.wrote;
    })

pub returns-clause-stays : goal.returns-clause-stays
returns-clause-stays g c = λ e is.
    let seat = c.args.self.now.seat in
    let v = c.args.self.now.state in
    let before = record c.args.out.now { messages = c.clear.new.self } in
    let made = c.decide-decided.new.out in
    let now = c.decide-decided.new.state in
    let d = subst (λ (o : Option Event). IfSome o (λ x. Decides seat (step seat.me (stored_by c.of-stored.result) v x) c.in-Ok.did now before made)) is c.in-Ok.ensures.did in
    let here = subst (λ (p : PersistentState). Decides seat (step seat.me p v e) c.in-Ok.did now before made) c.of-stored.ensures d in
    decided_goes_on seat (held_by c.args.store.now) (held_by c.write.new.store) v e c.in-Ok.did now before made c.requires.stored (c.requires.may e is) here c.in_default.ensures.ok

pub returns-in-Err-write-clause-frugal : goal.returns-in-Err-write-clause-frugal
returns-in-Err-write-clause-frugal g c = λ e is voting none ready room starved.
    let seat = c.args.self.now.seat in
    let v = c.args.self.now.state in
    let before = record c.args.out.now { messages = c.clear.new.self } in
    let made = c.decide-decided.new.out in
    let now = c.decide-decided.new.state in
    let d = subst (λ (o : Option Event). IfSome o (λ x. Decides seat (step seat.me (stored_by c.of-stored.result) v x) c.in-Ok.did now before made)) is c.in-Ok.ensures.did in
    let here = subst (λ (p : PersistentState). Decides seat (step seat.me p v e) c.in-Ok.did now before made) c.of-stored.ensures d in
    c.in-Err-write.ensures.frugal (decided_a_ballot seat (group_in (held_by c.args.store.now) seat.group.0) v e c.in-Ok.did now before made voting none here) (same_cause c.in-Err-write.down down.NoMemory starved)

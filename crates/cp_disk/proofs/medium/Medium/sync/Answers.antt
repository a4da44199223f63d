use Rattle.std.proofs.Common.{◌≤◌, List, ◌∙◌, ap, length, drop, refl, arith}
use Rattle.std.specs.Prelude.{None}
use Rattle.cp_disk.specs.declared.record.Call.{Call}
use Rattle.cp_disk.specs.Record.{replayed}
use Rattle.cp_disk.specs.Room.{reach}
use Rattle.cp_disk.specs.declared.record.Call.TheVariants.{Sync}
use Rattle.cp_disk.proofs.Replays.{settled_counted, settled_replays, settled_long, settled_reach}
use Rattle.cp_disk.proofs.medium.Medium.sync.Goals as goal

pub invariant_of-self-clause-counted : goal.invariant_of-self-clause-counted
invariant_of-self-clause-counted c =
    let old = c.args.self.now in
    settled_counted old.calls.items c.put_call.new.calls.items old.settled c.len-self.result (Sync) c.put_call.ensures (omega arith) (λ l. refl)

pub invariant_of-self-clause-replays : goal.invariant_of-self-clause-replays
invariant_of-self-clause-replays c =
    let old = c.args.self.now in
    settled_replays old.calls.items c.put_call.new.calls.items old.settled c.len-self.result (Sync) c.put_call.ensures (omega arith) None old.synced.items c.settle.new.bytes.items (λ choice l. refl) (old.replays None) (c.settle.ensures.items ∙ ap (λ (l : List Call). replayed None 0 (drop old.settled l) old.synced.items) c.deref.ensures.value)

pub invariant_of-self-clause-long : goal.invariant_of-self-clause-long
invariant_of-self-clause-long c =
    let old = c.args.self.now in
    let shorter : length c.settle.new.bytes.items ≤ reach old.calls.items = settled_long old.calls.items c.put_call.new.calls.items old.settled c.len-self.result (Sync) c.put_call.ensures (omega arith) None old.synced.items c.settle.new.bytes.items (c.settle.ensures.items ∙ ap (λ (l : List Call). replayed None 0 (drop old.settled l) old.synced.items) c.deref.ensures.value) old.long in
    omega (arith, shorter, settled_reach old.calls.items c.put_call.new.calls.items old.settled c.len-self.result (Sync) c.put_call.ensures (omega arith) refl)

pub invariant_of-self-clause-synced_room : goal.invariant_of-self-clause-synced_room
invariant_of-self-clause-synced_room c =
    let old = c.args.self.now in
    omega (arith, settled_reach old.calls.items c.put_call.new.calls.items old.settled c.len-self.result (Sync) c.put_call.ensures (omega arith) refl, old.synced_room, c.settle.ensures.capacity)

pub invariant_of-self-clause-bytes_room : goal.invariant_of-self-clause-bytes_room
invariant_of-self-clause-bytes_room c =
    let old = c.args.self.now in
    omega (arith, settled_reach old.calls.items c.put_call.new.calls.items old.settled c.len-self.result (Sync) c.put_call.ensures (omega arith) refl, old.bytes_room)

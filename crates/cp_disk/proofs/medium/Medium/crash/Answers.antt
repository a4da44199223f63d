use Rattle.std.proofs.Common.{◌≤◌, List, ◌∙◌, ap, length, drop, refl, arith}
use Rattle.std.specs.Prelude.{Some}
use Rattle.cp_disk.specs.declared.record.Call.{Call}
use Rattle.cp_disk.specs.Record.{replayed}
use Rattle.cp_disk.specs.Room.{reach}
use Rattle.cp_disk.specs.declared.record.Call.TheVariants.{Crash}
use Rattle.cp_disk.proofs.Replays.{settled_counted, settled_replays, settled_long, settled_reach, replayed_length, reach_drop}
use Rattle.cp_disk.proofs.medium.Medium.crash.Goals as goal

pub invariant_of-self-clause-counted : goal.invariant_of-self-clause-counted
invariant_of-self-clause-counted c =
    let old = c.args.self.now in
    settled_counted old.calls.items c.put_call.new.calls.items old.settled c.len-self.result (Crash c.args.choice) c.put_call.ensures (omega arith) (λ l. refl)

pub invariant_of-self-clause-replays : goal.invariant_of-self-clause-replays
invariant_of-self-clause-replays c =
    let old = c.args.self.now in
    settled_replays old.calls.items c.put_call.new.calls.items old.settled c.len-self.result (Crash c.args.choice) c.put_call.ensures (omega arith) (Some c.args.choice) old.synced.items c.settle.new.bytes.items (λ choice l. refl) (old.replays (Some c.args.choice)) (c.settle.ensures.items ∙ ap (λ (l : List Call). replayed (Some c.args.choice) 0 (drop old.settled l) old.synced.items) c.deref.ensures.value)

pub invariant_of-self-clause-long : goal.invariant_of-self-clause-long
invariant_of-self-clause-long c =
    let old = c.args.self.now in
    let shorter : length c.settle.new.bytes.items ≤ reach old.calls.items = settled_long old.calls.items c.put_call.new.calls.items old.settled c.len-self.result (Crash c.args.choice) c.put_call.ensures (omega arith) (Some c.args.choice) old.synced.items c.settle.new.bytes.items (c.settle.ensures.items ∙ ap (λ (l : List Call). replayed (Some c.args.choice) 0 (drop old.settled l) old.synced.items) c.deref.ensures.value) old.long in
    omega (arith, shorter, settled_reach old.calls.items c.put_call.new.calls.items old.settled c.len-self.result (Crash c.args.choice) c.put_call.ensures (omega arith) refl)

pub invariant_of-self-clause-synced_room : goal.invariant_of-self-clause-synced_room
invariant_of-self-clause-synced_room c =
    let old = c.args.self.now in
    omega (arith, settled_reach old.calls.items c.put_call.new.calls.items old.settled c.len-self.result (Crash c.args.choice) c.put_call.ensures (omega arith) refl, old.synced_room, c.settle.ensures.capacity)

pub invariant_of-self-clause-bytes_room : goal.invariant_of-self-clause-bytes_room
invariant_of-self-clause-bytes_room c =
    let old = c.args.self.now in
    omega (arith, settled_reach old.calls.items c.put_call.new.calls.items old.settled c.len-self.result (Crash c.args.choice) c.put_call.ensures (omega arith) refl, old.bytes_room, c.copy_over.ensures.capacity)

pub copy_over-requires : goal.copy_over-requires
copy_over-requires c =
    let old = c.args.self.now in
    omega (arith, ap length c.deref-2.ensures.value, ap length (c.settle.ensures.items ∙ ap (λ (l : List Call). replayed (Some c.args.choice) 0 (drop old.settled l) old.synced.items) c.deref.ensures.value), replayed_length (Some c.args.choice) 0 (drop old.settled old.calls.items) old.synced.items, reach_drop old.settled old.calls.items, old.long, old.bytes_room)

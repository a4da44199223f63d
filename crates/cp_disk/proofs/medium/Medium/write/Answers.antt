use Rattle.std.proofs.Common.{◌∙◌, ap, sym, length, drop, refl, arith}
use Rattle.cp_disk.specs.Record.{replayed}
use Rattle.cp_disk.specs.declared.record.Call.TheVariants.{Write}
use Rattle.cp_disk.proofs.Replays.{push_counted, push_replays, push_reach}
use Rattle.cp_disk.proofs.medium.Medium.write.Goals as goal

pub invariant_of-self-2-clause-counted : goal.invariant_of-self-2-clause-counted
invariant_of-self-2-clause-counted c =
    let old = c.args.self.now in
    push_counted old.calls.items c.remember_write.new.calls.items old.settled (Write c.args.at c.args.bytes.now) c.in_ok-remember_write.ensures.ok old.within (λ l. refl) (λ choice l. refl) old.counted

pub invariant_of-self-2-clause-replays : goal.invariant_of-self-2-clause-replays
invariant_of-self-2-clause-replays c =
    let old = c.args.self.now in
    push_replays old.calls.items c.remember_write.new.calls.items old.settled (Write c.args.at c.args.bytes.now) c.in_ok-remember_write.ensures.ok old.within (λ l. refl) (λ choice l. refl) old.counted c.make_room.new.bytes.items (λ choice. old.replays choice ∙ ap (replayed choice 0 (drop old.settled old.calls.items)) (sym c.make_room.ensures.items))

pub invariant_of-self-2-clause-long : goal.invariant_of-self-2-clause-long
invariant_of-self-2-clause-long c =
    let old = c.args.self.now in
    let reaches = push_reach old.calls.items c.remember_write.new.calls.items old.settled (Write c.args.at c.args.bytes.now) c.in_ok-remember_write.ensures.ok old.within (λ l. refl) (λ choice l. refl) old.counted in
    omega (arith, reaches, old.long, ap length c.make_room.ensures.items)

pub invariant_of-self-2-clause-synced_room : goal.invariant_of-self-2-clause-synced_room
invariant_of-self-2-clause-synced_room c =
    let old = c.args.self.now in
    let reaches = push_reach old.calls.items c.remember_write.new.calls.items old.settled (Write c.args.at c.args.bytes.now) c.in_ok-remember_write.ensures.ok old.within (λ l. refl) (λ choice l. refl) old.counted in
    omega (arith, reaches, old.synced_room, c.in_ok-make_room.ensures.room, c.make_room.ensures.capacity)

pub invariant_of-self-2-clause-bytes_room : goal.invariant_of-self-2-clause-bytes_room
invariant_of-self-2-clause-bytes_room c =
    let old = c.args.self.now in
    let reaches = push_reach old.calls.items c.remember_write.new.calls.items old.settled (Write c.args.at c.args.bytes.now) c.in_ok-remember_write.ensures.ok old.within (λ l. refl) (λ choice l. refl) old.counted in
    omega (arith, reaches, old.bytes_room, c.in_ok-make_room-2.ensures.room, c.make_room-2.ensures.capacity, c.put_piece.ensures.capacity)

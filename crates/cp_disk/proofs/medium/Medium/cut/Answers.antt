use Rattle.std.proofs.Common.{refl, arith}
use Rattle.cp_disk.specs.declared.record.Call.TheVariants.{Cut}
use Rattle.cp_disk.proofs.Replays.{push_counted, push_replays, push_reach}
use Rattle.cp_disk.proofs.medium.Medium.cut.Goals as goal

pub invariant_of-self-2-clause-counted : goal.invariant_of-self-2-clause-counted
invariant_of-self-2-clause-counted c =
    let old = c.args.self.now in
    push_counted old.calls.items c.remember.new.calls.items old.settled (Cut c.args.length) c.in_ok-remember.ensures.ok old.within (λ l. refl) (λ choice l. refl) old.counted

pub invariant_of-self-2-clause-replays : goal.invariant_of-self-2-clause-replays
invariant_of-self-2-clause-replays c =
    let old = c.args.self.now in
    push_replays old.calls.items c.remember.new.calls.items old.settled (Cut c.args.length) c.in_ok-remember.ensures.ok old.within (λ l. refl) (λ choice l. refl) old.counted old.synced.items old.replays

pub invariant_of-self-2-clause-long : goal.invariant_of-self-2-clause-long
invariant_of-self-2-clause-long c =
    let old = c.args.self.now in
    let reaches = push_reach old.calls.items c.remember.new.calls.items old.settled (Cut c.args.length) c.in_ok-remember.ensures.ok old.within (λ l. refl) (λ choice l. refl) old.counted in
    omega (arith, reaches, old.long)

pub invariant_of-self-2-clause-synced_room : goal.invariant_of-self-2-clause-synced_room
invariant_of-self-2-clause-synced_room c =
    let old = c.args.self.now in
    let reaches = push_reach old.calls.items c.remember.new.calls.items old.settled (Cut c.args.length) c.in_ok-remember.ensures.ok old.within (λ l. refl) (λ choice l. refl) old.counted in
    omega (arith, reaches, old.synced_room)

pub invariant_of-self-2-clause-bytes_room : goal.invariant_of-self-2-clause-bytes_room
invariant_of-self-2-clause-bytes_room c =
    let old = c.args.self.now in
    let reaches = push_reach old.calls.items c.remember.new.calls.items old.settled (Cut c.args.length) c.in_ok-remember.ensures.ok old.within (λ l. refl) (λ choice l. refl) old.counted in
    omega (arith, reaches, old.bytes_room)

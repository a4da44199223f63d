use Rattle.std.proofs.Common.{◌≡◌}
use Rattle.cp_meta_state.specs.Creating.{named}
use Rattle.cp_meta.proofs.creating.named.Given as goal

abbrev pub invariant-loop-group : goal.invariant-loop-group
invariant-loop-group l = named l.group-iterator l.name ≡ named l.groups.entries l.name

-- The parts of steps as parts of the journal, by cases.
use Rattle.std.proofs.Common.{refl}
use Rattle.cp_log_rules.proofs.Groups.{group_changed, others_stay}
use Rattle.cp_rules.specs.Persistent.{StatePart, AppendPart, SnapshotPart, with_part}
use Rattle.cp_rules.specs.Parts.{PartsChangeTheirGroup}

pub parts_change_their_group : PartsChangeTheirGroup
parts_change_their_group group (StatePart b) s = record { whole = refl; own = group_changed group.0 (with_part (StatePart b)) s; others = λ h. others_stay group.0 h (with_part (StatePart b)) s }
parts_change_their_group group (AppendPart b after entries) s = record {
  whole = refl;
  own = group_changed group.0 (with_part (AppendPart b after entries)) s;
  others = λ h. others_stay group.0 h (with_part (AppendPart b after entries)) s;
}
parts_change_their_group group (SnapshotPart b index bytes) s = record {
  whole = refl;
  own = group_changed group.0 (with_part (SnapshotPart b index bytes)) s;
  others = λ h. others_stay group.0 h (with_part (SnapshotPart b index bytes)) s;
}

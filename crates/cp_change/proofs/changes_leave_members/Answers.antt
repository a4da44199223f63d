use Rattle.cp_change.proofs.Rising.{changes_leave_members as law}
use Rattle.cp_change.proofs.changes_leave_members.Goals as goal

pub returns : goal.returns
returns c = law

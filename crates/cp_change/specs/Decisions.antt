-- What refuses a change whatever the log.
use Rattle.std.specs.Prelude.{ℕ, ◌==◌, not, ◌&&◌, if◌then◌else◌, List, length, Option, Some, None}
use Rattle.cp_answers.specs.declared.refusal.Refusal.{Refusal}
use Rattle.cp_answers.specs.declared.refusal.Refusal.TheVariants.{AlreadyThere, NotThere, LastMember}
use Rattle.cp_rules.specs.declared.change.Change.{Change}
use Rattle.cp_rules.specs.Persistent.{is_member}

-- for these members, the first that holds
abbrev pub unfit : Change → List ℕ → Option Refusal
unfit change members =
    if change.add && is_member change.member.0 members then Some AlreadyThere
    else if not change.add && not (is_member change.member.0 members) then Some NotThere
    else if not change.add && (length members == 1) then Some LastMember
    else None

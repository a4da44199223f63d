-- A change of members: one at a time, and only after the configuration before it and an entry of the leader's own term are committed.
use Rattle.std.specs.Prelude.{ℕ, suc, ◌==◌, not, ◌&&◌, if◌then◌else◌, List, [], ◌∷◌, length, Option, Some, None, nat_lt}
use Rattle.cp_base.specs.declared.identifier.Invocation.{Invocation}
use Rattle.cp_answers.specs.declared.refusal.Refusal.{Refusal}
use Rattle.cp_answers.specs.declared.refusal.Refusal.TheVariants.{WrongMembers, ChangePending, NoOwnTermCommit, AlreadyThere, NotThere, LastMember}
use Rattle.cp_rules.specs.declared.change.Change.{Change}
use Rattle.cp_rules.specs.Spelling.{members_entry}
use Rattle.cp_log_rules.specs.Persistent.{PersistentState, last}
use Rattle.cp_rules.specs.Persistent.{known_term, configuration, members, is_member}
use Rattle.cp_rules.specs.Volatile.{VolatileState, new_peer, with_peer}
use Rattle.cp_rules.specs.Local.{LocalStep}
use Rattle.cp_rules.specs.Requests.{refuses_entry, unless_refused, proposes}

-- The first that holds, for a configuration of this index with these members. `committed_term` is the term of the commit.
abbrev pub may_change : ℕ → List ℕ → Change → ℕ → ℕ → ℕ → Option Refusal
may_change index members change commit committed_term term =
    if not (change.expected == index) then Some (WrongMembers index)
    else if nat_lt commit index then Some (ChangePending index)
    else if not (committed_term == term) then Some (NoOwnTermCommit term)
    else if change.add && is_member change.member.0 members then Some AlreadyThere
    else if not change.add && not (is_member change.member.0 members) then Some NotThere
    else if not change.add && (length members == 1) then Some LastMember
    else None

abbrev pub refuses_change : PersistentState → VolatileState → Change → Option Refusal
refuses_change p v change = may_change (configuration p).index (members p) change v.commit (known_term p v.commit) p.term

-- by rising number
abbrev pub with_member : ℕ → List ℕ → List ℕ
with_member x [] = x ∷ []
with_member x (m ∷ members) = if nat_lt x m then x ∷ m ∷ members else m ∷ with_member x members

abbrev pub without_member : ℕ → List ℕ → List ℕ
without_member x [] = []
without_member x (m ∷ members) = if m == x then members else m ∷ without_member x members

abbrev pub changed : Change → List ℕ → List ℕ
changed change members = if change.add then with_member change.member.0 members else without_member change.member.0 members

-- an added member begins with the entry that adds it
abbrev pub with_added : PersistentState → VolatileState → Change → VolatileState
with_added p v change = if change.add then with_peer change.member.0 (new_peer (suc (last p))) v else v

abbrev pub changes : ℕ → PersistentState → VolatileState → Change → ℕ → Option Invocation → LocalStep
changes me p v change plan call = proposes me p (with_added p v change) (members_entry call plan (changed change (members p)))

abbrev pub on_change : ℕ → PersistentState → VolatileState → Change → ℕ → Option Invocation → LocalStep
on_change me p v change plan call = unless_refused (refuses_entry p v) v (unless_refused (refuses_change p v change) v (changes me p v change plan call))

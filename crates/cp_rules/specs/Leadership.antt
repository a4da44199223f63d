-- Taking leadership, and the entries that a leader creates.
use Rattle.std.specs.Prelude.{ℕ, suc, List, [], ◌∷◌, Some}
use Rattle.cp_rules.specs.declared.ballot.Ballot.{Ballot}
use Rattle.cp_rules.specs.declared.role.Role.TheVariants.{Leader}
use Rattle.cp_rules.specs.Spelling.{empty_entry}
use Rattle.cp_log_rules.specs.Persistent.{PersistentState, last}
use Rattle.cp_rules.specs.Persistent.{Part, AppendPart, with_part}
use Rattle.cp_rules.specs.Volatile.{VolatileState, everywhere, new_peer, no_reads}
use Rattle.cp_rules.specs.Local.{LocalStep, does, leads_and}
use Rattle.cp_rules.specs.Sending.{appends}
use Rattle.cp_rules.specs.Commit.{commits}

abbrev pub created_part : PersistentState → Ballot → List ℕ → Part
created_part p b entry = AppendPart b (last p) (record { term = b.term; bytes = entry } ∷ [])

-- A leader with this ballot puts an entry at the end of its log, commits what it then can, and sends to all others.
abbrev pub creates : ℕ → PersistentState → VolatileState → Ballot → List ℕ → LocalStep
creates me p v b entry =
    let part = created_part p b entry in
    let state = commits me (with_part part p) v in
    leads_and (does (Some part) state (appends me (with_part part p) state))

-- Nothing is known of the others but that they may lack what is created next, and no read waits.
abbrev pub leading : ℕ → PersistentState → VolatileState → VolatileState
leading me p v = record v { role = Leader; leader = me; beat = v.clock; peers = everywhere (new_peer (suc (last p))); reads = no_reads }

-- A leader begins with an empty entry of its term.
abbrev pub takes_leadership : ℕ → PersistentState → VolatileState → ℕ → LocalStep
takes_leadership me p v term = creates me p (leading me p v) (record { term = term; vote = me }) empty_entry

-- The bytes that a step makes: entries of its own, and the member's snapshots. The formats are those of the journal's parts.
use Rattle.std.specs.Prelude.{ℕ, ◌≡◌, List, [], ◌∷◌, ◌++◌, length, Option, Some}
use Rattle.cp_base.specs.declared.identifier.Invocation.{Invocation}
use Rattle.cp_parts.specs.declared.snapshot_head.SnapshotHead.{SnapshotHead}
use Rattle.cp_parts.specs.Configs as configs
use Rattle.cp_parts.specs.Heads.{head_grammar, head_of}
use Rattle.cp_agreement_facts.specs.Entries.{members_in}

-- the entry of a new leader, which does nothing
abbrev pub empty_entry : List ℕ
empty_entry = 0 ∷ []

-- an entry that sets these members, with the call that asked for it, if one did, and the number of a plan
abbrev pub members_entry : Option Invocation → ℕ → List ℕ → List ℕ
members_entry call plan members = configs.members_entry.spelling (call, (plan, members))

-- a snapshot: its head, and then the bytes of the machine
abbrev pub snapshot_bytes : SnapshotHead → List ℕ → List ℕ
snapshot_bytes head machine = head_grammar.spelling head ++ machine

-- ---- laws

-- A members entry has no other members than it was made with. The identifier of a client has sixteen bytes.
abbrev pub ChangesAreSpelled : Type 0
ChangesAreSpelled = (call : Option Invocation) (plan : ℕ) (ms ns : List ℕ) → ((c : Invocation) → call ≡ Some c → length c.client.0 ≡ 16) → members_in (members_entry call plan ms) ≡ Some ns → ns ≡ ms

-- What a snapshot begins with is read from its bytes.
abbrev pub SnapshotsReadBack : Type 0
SnapshotsReadBack = (head : SnapshotHead) (machine : List ℕ) → head_grammar.Fits head → head_of (snapshot_bytes head machine) ≡ Some head

-- Configurations, quorums, and which configurations are adjacent.
use Rattle.std.specs.Prelude.{◌≡◌, ℕ, ◌*◌, ◌<◌, ◌⊎◌, Bool, true, List, [], ◌∷◌, ◌++◌, length, take, Option, Some, None, count_by}
use Rattle.cp_parts.specs.declared.log_entry.LogEntry.{LogEntry}
use Rattle.cp_agreement_facts.specs.Entries.{members_in}

abbrev pub members_or : Option (List ℕ) → List ℕ → List ℕ
members_or None before = before
members_or (Some after) before = after

-- The configuration in force after a log: that of its last members entry, committed or not, else the first members.
abbrev pub configuration_after : List ℕ → List LogEntry → List ℕ
configuration_after first [] = first
configuration_after first (e ∷ log) = configuration_after (members_or (members_in e.bytes) first) log

-- The configuration in force at an index of a log.
abbrev pub configuration_at : List ℕ → List LogEntry → ℕ → List ℕ
configuration_at first log index = configuration_after first (take index log)

-- A choice of members is a quorum of a configuration where it has more than half of its members.
abbrev pub IsQuorum : List ℕ → (ℕ → Bool) → Type 0
IsQuorum members chosen = length members < 2 * count_by chosen members

-- A quorum of the configuration has P.
abbrev pub HasQuorum : List ℕ → (ℕ → Type 0) → Type 0
HasQuorum members P = (chosen : ℕ → Bool) × IsQuorum members chosen × ((m : ℕ) → chosen m ≡ true → P m)

-- The large configuration has one member more. Members stand by rising number.
abbrev pub HasOneMore : List ℕ → List ℕ → Type 0
HasOneMore small large = (front : List ℕ) × (back : List ℕ) × (member : ℕ) × (small ≡ front ++ back) × (large ≡ front ++ (member ∷ back))

abbrev pub AreOneApart : List ℕ → List ℕ → Type 0
AreOneApart a b = HasOneMore a b ⊎ HasOneMore b a

-- Adjacent configurations are equal or one member apart.
abbrev pub AreAdjacent : List ℕ → List ℕ → Type 0
AreAdjacent a b = (a ≡ b) ⊎ AreOneApart a b

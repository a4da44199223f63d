-- What an assembler holds.
use Rattle.std.specs.Prelude.{◌≡◌, ℕ, List, take, drop, Option, option_map, vec_len}
use Rattle.cp_rules.specs.Volatile.{Received}
use Rattle.cp_snapshot.specs.declared.assembler.Assembler.{Assembler}
use Rattle.cp_snapshot.specs.declared.assembler.Source.{Source}

-- so many bytes are received, of this snapshot
abbrev pub received_in : Option Source → List ℕ → Option Received
received_in source bytes = option_map (λ s. record { term = s.term; index = s.index; bytes = bytes }) source

-- what is received
abbrev pub received : Assembler → Option Received
received a = received_in a.source (take a.kept a.bytes.items)

-- the bytes that can be read
abbrev pub held : Assembler → List ℕ
held a = drop a.from a.bytes.items

-- nothing stands behind what is received
pub record IsTidy (a : Assembler) : Type 0 where
  pub all : a.kept ≡ vec_len a.bytes
  pub from : a.from ≡ 0

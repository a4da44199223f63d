-- What is decided of chunks.
use Rattle.std.specs.Prelude.{ℕ, zero, suc, ◌==◌, not, ◌&&◌, Bool, if◌then◌else◌, List, length, Option, Some, None, nat_lt, nat_le}
use Rattle.cp_message.specs.declared.snapshot.Chunk.{Chunk}
use Rattle.cp_rules.specs.declared.peer.Peer.{Peer}
use Rattle.cp_rules.specs.Limits.{most_snapshot}
use Rattle.cp_rules.specs.Volatile.{Received}
use Rattle.cp_rules.specs.Snapshots as step
use Rattle.cp_rules.specs.Snapshots.{received_of, progress}
use Rattle.cp_snapshot.specs.declared.answering.Taken.{Taken}
use Rattle.cp_snapshot.specs.declared.answering.Taken.TheVariants.{Refused, Known, Joined}
use Rattle.cp_snapshot.specs.declared.assembler.Progress.{Progress}
use Rattle.cp_snapshot.specs.declared.assembler.Progress.TheVariants.{More, Whole, TooLong}
use Rattle.cp_snapshot.specs.declared.joining.Join.{Join}
use Rattle.cp_snapshot.specs.declared.joining.Join.TheVariants.{Apart, Anew, On}

-- by a member of this term that has committed so far, in this order
abbrev pub take_chunk : ℕ → ℕ → ℕ → ℕ → Taken
take_chunk own_term commit term index = if nat_lt term own_term then Refused else if nat_le index commit then Known else Joined

-- how a chunk at an offset joins so many bytes of its snapshot, or none
abbrev pub join : Option ℕ → ℕ → Join
join received zero = Anew
join None (suc offset) = Apart
join (Some length) (suc offset) = if length == suc offset then On else Apart

-- how far a snapshot is with these bytes, where they are joined
abbrev pub joined_to : Bool → List ℕ → step.Progress
joined_to is_last bytes = if nat_lt most_snapshot (length bytes) then step.TooLong else if is_last then step.Whole bytes else step.More bytes

-- how far a chunk brings its snapshot, with what was received before
abbrev pub progress_at : Chunk → Option Received → step.Progress
progress_at c before = progress (received_of c.term c.index before) c.offset c.last c.bytes

-- what a caller is told of it
abbrev pub told : step.Progress → Progress
told (step.Apart received) = More received
told step.TooLong = TooLong
told (step.More bytes) = More (length bytes)
told (step.Whole bytes) = Whole

-- what is received after it, in this term and of this index
abbrev pub received_with : ℕ → ℕ → Option Received → step.Progress → Option Received
received_with term index before (step.Apart received) = before
received_with term index before step.TooLong = before
received_with term index before (step.More bytes) = Some (record { term = term; index = index; bytes = bytes })
received_with term index before (step.Whole bytes) = before

abbrev pub received_after : Chunk → Option Received → Option Received
received_after c before = received_with c.term c.index before (progress_at c before)

-- the whole bytes, if they are all there
abbrev pub whole_in : step.Progress → Option (List ℕ)
whole_in (step.Apart received) = None
whole_in step.TooLong = None
whole_in (step.More bytes) = None
whole_in (step.Whole bytes) = Some bytes

-- what a leader keeps of a member that has received so much of a snapshot
abbrev pub goes_on : Peer → ℕ → ℕ → ℕ → ℕ → Option Peer
goes_on peer base length index received =
    if (index == base) && (nat_le received length && nat_le peer.next base) then Some (record peer { offset = received }) else None

-- whether a member writes a snapshot of its own of so many bytes
abbrev pub writes_own : Bool → Bool → ℕ → Bool
writes_own may_write wrote length = may_write && (not wrote && nat_le length most_snapshot)

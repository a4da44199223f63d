-- A disk that was empty, and that a journal alone wrote.
use Rattle.std.specs.Prelude.{◌≡◌, ℕ, List, [], Ok}
use Rattle.cp_disk.specs.declared.disk.Disk.{Ghosts}
use Rattle.cp_disk.specs.Images.{NoMore, Only}
use Rattle.cp_journal.specs.Moments.{LeavesOnly, Stays}
use Rattle.cp_journal.specs.Opening.{IsImageOrSame}
use Rattle.cp_journal.specs.Records.{IsBeforeOrAfter, records_of}

-- where the disk tells its bytes, all of them are on it
abbrev pub IsSynced : {D : Type 0} → Ghosts D → D → Type 0
IsSynced disks disk = disks.Told → Only (disks.seen disk) (disks.may_leave disk)

-- where the disk tells its bytes, it stays as it reads, at each moment
abbrev pub IsStill : {D : Type 0} → Ghosts D → D → D → Type 0
IsStill disks old new = disks.Told → Stays disks.seen disks.may_leave disks.moment disks.left_since old new

-- where the disk tells its bytes, a crash at any moment leaves a file with the records from before
abbrev pub KeepsRecords : {D : Type 0} → Ghosts D → D → D → Type 0
KeepsRecords disks old new = disks.Told → LeavesOnly disks.moment disks.left_since old new (λ image. records_of image ≡ records_of (disks.seen old))

-- What opening a disk promises, answered or refused: a crash at any moment of the call leaves what it could leave before,
-- or the same records.
abbrev pub Opens : {D : Type 0} → Ghosts D → D → D → Type 0
Opens disks old new = LeavesOnly disks.moment disks.left_since old new (IsImageOrSame (disks.may_leave old) (disks.seen old))

-- What appending a body promises, answered or refused: a crash at any moment of the call leaves the records from before,
-- with the new one or without.
abbrev pub Appends : {D : Type 0} → Ghosts D → List ℕ → D → D → Type 0
Appends disks body old new = LeavesOnly disks.moment disks.left_since old new (IsBeforeOrAfter (records_of (disks.seen old)) body)

-- a crash left the disk with one of these images, and nothing of it is pending
pub record IsLeft {D : Type 0} (disks : Ghosts D) (images : List ℕ → Type 0) (disk : D) : Type 0 where
  pub image : images (disks.seen disk)
  pub only : Only (disks.seen disk) (disks.may_leave disk)

-- one call of a journal, whatever it answered
pub data JournalCall {D : Type 0} (disks : Ghosts D) : D → D → Type 0 where
  opens : (old new : D) → Opens disks old new → JournalCall disks old new
  appends : (body : List ℕ) (old new : D) → Appends disks body old new → JournalCall disks old new

-- A run: from an empty disk on, calls of journals, crashes between two calls and at any moment of one, and calls that add
-- no image, as a stop. Of a call that was cut off, `mid` is what it would have left: what a crash leaves during it is among
-- the images since it began. Closing a journal does nothing to its disk.
pub data IsOwn {D : Type 0} (disks : Ghosts D) : D → Type 0 where
  empty : (disk : D) → Only [] (disks.may_leave disk) → IsOwn disks disk
  called : (old new : D) → IsOwn disks old → JournalCall disks old new → IsOwn disks new
  crashed : (old new : D) → IsOwn disks old → IsLeft disks (disks.may_leave old) new → IsOwn disks new
  cut_off : (old mid new : D) → IsOwn disks old → JournalCall disks old mid → IsLeft disks (disks.left_since mid (disks.moment old)) new → IsOwn disks new
  quiet : (old new : D) → IsOwn disks old → NoMore (disks.may_leave old) (disks.may_leave new) → IsOwn disks new

-- the file spells records, so that no frame of it is bad
abbrev pub SpellsRecords : List ℕ → Type 0
SpellsRecords file = (bodies : List (List ℕ)) × (records_of file ≡ Ok bodies)

-- after every run the disk spells records as it reads, and as each crash may leave it
abbrev pub OwnFilesSpellRecords : {D : Type 0} → Ghosts D → Type 0
OwnFilesSpellRecords {D} disks = (disk : D) → IsOwn disks disk → SpellsRecords (disks.seen disk) × ((image : List ℕ) → disks.may_leave disk image → SpellsRecords image)

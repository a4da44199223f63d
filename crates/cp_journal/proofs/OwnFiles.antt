-- Each image of a disk that a journal alone wrote spells records.
use Rattle.std.proofs.Common.{◌≡◌, ◌≤◌, ℕ, List, [], ◌∷◌, ◌++◌, ⊎_elim, sym, ◌∙◌, ap, subst}
use Rattle.std.specs.Prelude.{◌≢◌, Ok, Err}
use Rattle.cp_disk.specs.declared.disk.Disk.{Ghosts}
use Rattle.cp_journal.specs.declared.error.JournalError.{JournalError}
use Rattle.cp_journal.specs.declared.error.JournalError.TheVariants as error
use Rattle.cp_journal.specs.Errors.{OpenCause}
use Rattle.cp_journal.specs.Records.{and_record, records_of}
use Rattle.cp_journal.specs.Runs.{JournalCall, opens, appends, IsOwn, empty, called, crashed, cut_off, quiet, SpellsRecords, OwnFilesSpellRecords}

-- a file with the records of one that spells them
same_records : (file image : List ℕ) → SpellsRecords file → records_of image ≡ records_of file → SpellsRecords image
same_records file image spells same = (spells.0, same ∙ spells.1)

-- a file with one record more
one_more : (file image body : List ℕ) → SpellsRecords file → records_of image ≡ and_record (records_of file) body → SpellsRecords image
one_more file image body spells more = (spells.0 ++ body ∷ [], more ∙ ap (λ records. and_record records body) spells.1)

-- opening such a file answers no bad frame
pub not_bad : (before now : ℕ) (told : Type 0) (file : List ℕ) (e : JournalError) → told → SpellsRecords file → OpenCause before now told (records_of file) e → (place : ℕ) → e ≢ error.BadFrame place
not_bad before now told file error.DiskFault is_told spells cause place is = cc
not_bad before now told file error.Full is_told spells cause place is = cc
not_bad before now told file (error.BadFrame bad) is_told spells cause place is =
    let records : records_of file ≡ Err bad = cause is_told in
    let spelled : records_of file ≡ Ok spells.0 = spells.1 in
    cc
not_bad before now told file error.NoMemory is_told spells cause place is = cc

module _ {D : Type 0} (disks : Ghosts D) (counts_now : (disk : D) (since : ℕ) (image : List ℕ) → since ≤ disks.moment disk → disks.may_leave disk image → disks.left_since disk since image)
    (reads : (disk : D) → disks.may_leave disk (disks.seen disk)) where
  abbrev Good : D → Type 0
  Good disk = (image : List ℕ) → disks.may_leave disk image → SpellsRecords image

  -- a crash at any moment of a call
  during : (old new : D) → Good old → JournalCall disks old new → (image : List ℕ) → disks.left_since new (disks.moment old) image → SpellsRecords image
  during _ _ good (opens old new call) image left =
      let now = good (disks.seen old) (reads old) in
      ⊎_elim (good image) (λ (same : records_of image ≡ records_of (disks.seen old)). same_records (disks.seen old) image now same) (call.each image left)
  during _ _ good (appends body old new call) image left =
      let now = good (disks.seen old) (reads old) in
      ⊎_elim
      (λ (same : records_of image ≡ records_of (disks.seen old)). same_records (disks.seen old) image now same)
      (λ (more : records_of image ≡ and_record (records_of (disks.seen old)) body). one_more (disks.seen old) image body now more)
      (call.each image left)

  later : (old new : D) → JournalCall disks old new → disks.moment old ≤ disks.moment new
  later _ _ (opens old new call) = call.later
  later _ _ (appends body old new call) = call.later

  good : (disk : D) → IsOwn disks disk → Good disk
  good _ (empty disk only) image may = ([], ap records_of (only image may))
  good _ (called old new own call) image may = during old new (good old own) call image (counts_now new (disks.moment old) image (later old new call) may)
  good _ (crashed old new own left) image may = subst SpellsRecords (sym (left.only image may)) (good old own (disks.seen new) left.image)
  good _ (cut_off old mid new own call left) image may = subst SpellsRecords (sym (left.only image may)) (during old mid (good old own) call (disks.seen new) left.image)
  good _ (quiet old new own no_more) image may = good old own image (no_more image may)

  pub own_files : OwnFilesSpellRecords disks
  own_files disk own = (good disk own (disks.seen disk) (reads disk), good disk own)

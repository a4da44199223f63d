-- Errors from below as errors of a store.
use Rattle.cp_journal.specs.declared.error.JournalError.{JournalError}
use Rattle.cp_journal.specs.declared.error.JournalError.TheVariants as journal
use Rattle.cp_log.specs.declared.error.StoreError.{StoreError}
use Rattle.cp_log.specs.declared.error.StoreError.TheVariants as error
use Rattle.cp_log.specs.declared.recovery.BadBody.{BadBody}
use Rattle.cp_log.specs.declared.recovery.BadBody.TheVariants as bad

abbrev pub of_journal : JournalError → StoreError
of_journal journal.DiskFault = error.DiskFault
of_journal journal.Full = error.Full
of_journal (journal.BadFrame place) = error.BadFrame place
of_journal journal.NoMemory = error.NoMemory

abbrev pub of_body : BadBody → StoreError
of_body (bad.At place) = error.BadRecord place
of_body bad.NoMemory = error.NoMemory

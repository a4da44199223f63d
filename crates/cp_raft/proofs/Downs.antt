-- Why a member is down tells why its store did not write.
use Rattle.std.proofs.Common.{◌≡◌, ap, refl}
use Rattle.cp_log.specs.declared.error.StoreError.{StoreError}
use Rattle.cp_log.specs.declared.error.StoreError.TheVariants as error
use Rattle.cp_parts.specs.declared.down.Down.TheVariants as down
use Rattle.cp_raft.specs.Downs.{of_store}

pub full_is : (e : StoreError) → of_store e ≡ down.JournalFull → e ≡ error.Full
full_is error.DiskFault is = absurd (cc)
full_is error.Full is = refl
full_is (error.BadFrame place) is = absurd (cc)
full_is (error.BadRecord place) is = absurd (cc)
full_is error.NoMemory is = absurd (cc)

pub full_so : (e : StoreError) → e ≡ error.Full → of_store e ≡ down.JournalFull
full_so e is = ap of_store is

pub starved_is : (e : StoreError) → of_store e ≡ down.NoMemory → e ≡ error.NoMemory
starved_is error.DiskFault is = absurd (cc)
starved_is error.Full is = absurd (cc)
starved_is (error.BadFrame place) is = absurd (cc)
starved_is (error.BadRecord place) is = absurd (cc)
starved_is error.NoMemory is = refl

pub starved_so : (e : StoreError) → e ≡ error.NoMemory → of_store e ≡ down.NoMemory
starved_so e is = ap of_store is

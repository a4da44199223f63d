-- Why a store was not opened.
use Rattle.std.proofs.Common.{◌≡◌, ◌≤◌, ◌<◌, ◌+◌, ◌-◌, ◌^◌, inl, inr, ℕ, List, sym, ◌∙◌, ap, arith}
use Rattle.std.specs.Prelude.{Result, Ok, Err, IfErr, IfOk, MatchResult}
use Rattle.cp_journal.specs.declared.error.JournalError.{JournalError}
use Rattle.cp_journal.specs.declared.error.JournalError.TheVariants as journal
use Rattle.cp_journal.specs.Errors.{OpenCause as JournalCause}
use Rattle.cp_journal.specs.Moments.{LeavesOnly}
use Rattle.cp_journal.specs.Opening.{IsOpened}
use Rattle.cp_journal.specs.Records.{records_of}
use Rattle.cp_journal.proofs.Moments.{weaker}
use Rattle.cp_log_rules.specs.Durable.{DurableState}
use Rattle.cp_log_rules.specs.Recovery.{state_of_bodies}
use Rattle.cp_log.specs.declared.error.StoreError.{StoreError}
use Rattle.cp_log.specs.declared.error.StoreError.TheVariants as error
use Rattle.cp_log.specs.declared.recovery.BadBody.{BadBody}
use Rattle.cp_log.specs.declared.recovery.BadBody.TheVariants as bad
use Rattle.cp_log.specs.Causes.{IsNotBad, OpenCause, WriteCause}
use Rattle.cp_log.specs.Errors.{of_body, of_journal}
use Rattle.cp_log.specs.Files.{IsOpening, IsSound, StandsForEither, file_state, of_bodies, of_records, sizes, started}
use Rattle.cp_log.specs.Recoveries.{BodyCause}
use Rattle.cp_log.proofs.Places.{bad_place, rest_end}

pub if_err : {T E : Type 0} (r : Result T E) (P Q : E → Type 0) → ((e : E) → P e → Q e) → IfErr r P → IfErr r Q
if_err (Ok x) P Q step has = tt
if_err (Err e) P Q step has = step e has

-- the start could not be written
pub begin_cause : (start mid end : ℕ) (told : Type 0) (file : Result DurableState StoreError) (e : StoreError) → start ≤ mid → (told → (s : DurableState) × (file ≡ Ok s)) → WriteCause mid end e → OpenCause start end told file e
begin_cause start mid end told file error.DiskFault less stands cause = omega arith
begin_cause start mid end told file error.Full less stands cause = stands
begin_cause start mid end told file (error.BadFrame place) less stands cause = absurd cause
begin_cause start mid end told file (error.BadRecord place) less stands cause = absurd cause
begin_cause start mid end told file error.NoMemory less stands cause = tt

-- what records stand for that the file has
pub recovered_file : (first s : DurableState) (file : List ℕ) (bodies : List (List ℕ)) → records_of file ≡ Ok bodies → state_of_bodies first bodies ≡ Ok s → file_state first file ≡ Ok s
recovered_file first s file bodies records is = ap (of_records first) records ∙ ap of_bodies is

-- a body is bad
pub body_cause : (start now : ℕ) (told : Type 0) (first : DurableState) (file : List ℕ) (bodies : List (List ℕ)) (b : BadBody) → (told → records_of file ≡ Ok bodies) → (told → 1 + sizes bodies < 2 ^ 64) → BodyCause (state_of_bodies first bodies) b
    → OpenCause start now told (file_state first file) (of_body b)
body_cause start now told first file bodies (bad.At place) records fits cause = λ (t : told).
    let here : place ≡ cause.0 = omega (arith, bad_place 1 cause.0 first bodies cause.1, fits t) in
    ap (of_records first) (records t) ∙ ap of_bodies cause.1 ∙ ap (λ (p : ℕ). Err (error.BadRecord p)) (sym here)
body_cause start now told first file bodies bad.NoMemory records fits cause = tt

-- ---- no file is bad that stores alone wrote on an empty disk

sound_cause : (before now : ℕ) (told : Type 0) (file : Result DurableState StoreError) (s : DurableState) (e : StoreError) → told → file ≡ Ok s → OpenCause before now told file e → IsNotBad e
sound_cause before now told file s error.DiskFault t is cause = tt
sound_cause before now told file s error.Full t is cause = tt
sound_cause before now told file s (error.BadFrame place) t is cause =
    let bad : file ≡ Err (error.BadFrame place) = cause t in
    absurd cc
sound_cause before now told file s (error.BadRecord place) t is cause =
    let bad : file ≡ Err (error.BadRecord place) = cause t in
    absurd cc
sound_cause before now told file s error.NoMemory t is cause = tt

sound_image : (first : DurableState) (file image : List ℕ) (images : List ℕ → Type 0) → ((i : List ℕ) → images i → IsSound first i) → IsSound first file → IsOpening images first file image → IsSound first image
sound_image first file image images all sound (inl was) = all image was
sound_image first file image images all sound (inr (inl same)) = (sound.0, same ∙ sound.1)
sound_image first file image images all sound (inr (inr start)) = (started start.0, start.2)

module _ {D : Type 0} (moment : D → ℕ) (left_since : D → ℕ → List ℕ → Type 0) (old : D) (first : DurableState) (file : List ℕ) (images : List ℕ → Type 0) where
  pub sound_moment : (new : D) → ((i : List ℕ) → images i → IsSound first i) → images file → LeavesOnly moment left_since old new (IsOpening images first file) → LeavesOnly moment left_since old new (IsSound first)
  sound_moment new all seen leaves = weaker moment left_since old new (IsOpening images first file) (IsSound first) leaves (λ image has. sound_image first file image images all (all file seen) has)

  pub sound_opening : {S : Type 0} (disk_in : S → D) (faults : D → ℕ) (told : Type 0) (before : ℕ) (result : Result S (D × StoreError)) → told → ((i : List ℕ) → images i → IsSound first i) → images file
      → MatchResult result (λ store. LeavesOnly moment left_since old (disk_in store) (IsOpening images first file)) (λ refused. LeavesOnly moment left_since old refused.0 (IsOpening images first file))
      → IfErr result (λ refused. OpenCause before (faults refused.0) told (file_state first file) refused.1)
      → MatchResult result (λ store. LeavesOnly moment left_since old (disk_in store) (IsSound first)) (λ refused. LeavesOnly moment left_since old refused.0 (IsSound first) × IsNotBad refused.1)
  sound_opening disk_in faults told before (Ok store) t all seen leaves cause = sound_moment (disk_in store) all seen leaves
  sound_opening disk_in faults told before (Err refused) t all seen leaves cause =
      (sound_moment refused.0 all seen leaves, sound_cause before (faults refused.0) told (file_state first file) (all file seen).0 refused.1 t (all file seen).1 cause)

-- ---- how far the file reaches

pub opened_size : (end : ℕ) (file now : List ℕ) (images : List ℕ → Type 0) (bodies others : List (List ℕ)) → 1 ≤ end → IsOpened bodies end file now images → records_of file ≡ Ok others → end ≡ 1 + sizes others
opened_size end file now images bodies others some opened is =
    let place : end - 1 ≡ sizes others = rest_end (end - 1) now images others opened.rest (opened.same ∙ is) in
    omega arith

pub no_full_body : (b : BadBody) → of_body b ≡ error.Full → ⊥
no_full_body (bad.At place) is = cc
no_full_body bad.NoMemory is = cc

pub no_full_journal : (before now : ℕ) (told : Type 0) (records : Result (List (List ℕ)) ℕ) (e : JournalError) → JournalCause before now told records e → of_journal e ≡ error.Full → ⊥
no_full_journal before now told records journal.DiskFault cause is = cc
no_full_journal before now told records journal.Full cause is = cause
no_full_journal before now told records (journal.BadFrame place) cause is = cc
no_full_journal before now told records journal.NoMemory cause is = cc

-- a file that stands for one state or another is sound
pub either_sound : {D : Type 0} (moment : D → ℕ) (left_since : D → ℕ → List ℕ → Type 0) (old new : D) (first before after : DurableState) → LeavesOnly moment left_since old new (StandsForEither first before after) → LeavesOnly moment left_since old new (IsSound first)
either_sound moment left_since old new first before after leaves = weaker moment left_since old new (StandsForEither first before after) (IsSound first) leaves (λ image has. of_either image has)
  where
    of_either : (image : List ℕ) → StandsForEither first before after image → IsSound first image
    of_either image (inl is) = (before, is)
    of_either image (inr is) = (after, is)

pub if_ok : {T E : Type 0} (r : Result T E) (P Q : T → Type 0) → ((x : T) → P x → Q x) → IfOk r P → IfOk r Q
if_ok (Ok x) P Q step has = step x has
if_ok (Err e) P Q step has = tt

-- What a written part makes of the file, and of the store.
use Rattle.std.proofs.Common.{◌≡◌, ◌≤◌, ◌<◌, ◌+◌, ◌^◌, inl, inr, ℕ, List, length, refl, sym, ◌∙◌, ap, subst, arith}
use Rattle.std.specs.Prelude.{Bool, true, false, ◌⊎◌, ◌↔◌, Result, Ok, Err, IsTrue, IsErrOf, IfErr, OnOk, is_ok, if◌then◌else◌}
use Rattle.std.proofs.lemmas.Bool.{cases_lt}
use Rattle.cp_base.specs.declared.limits.TheConstants.{BODY_LIMIT, FILE_LIMIT, LAST_NUMBER}
use Rattle.cp_grammar.specs.Grammar.{whole}
use Rattle.cp_grammar.specs.Laws.{whole_again}
use Rattle.cp_codec.specs.Exact.{IsByte}
use Rattle.cp_disk.specs.Images.{Only}
use Rattle.cp_journal.specs.Moments.{LeavesOnly}
use Rattle.cp_journal.proofs.Moments.{started, weaker}
use Rattle.cp_journal.specs.Records.{IsBody, IsBeforeOrAfter, and_record, records_of}
use Rattle.cp_codec.specs.Fields.{big_endian}
use Rattle.cp_grammar.specs.Common.{group_id, index}
use Rattle.cp_parts.specs.declared.part.Part.{Part}
use Rattle.cp_parts.specs.declared.part.Part.TheVariants as part
use Rattle.cp_log.specs.Changes.{is_state}
use Rattle.cp_parts.specs.Parts.{part_grammar}
use Rattle.cp_parts.specs.Laws.{part_lawful}
use Rattle.cp_log_rules.specs.Durable.{DurableState, with_part}
use Rattle.cp_log_rules.specs.Legal.{is_legal}
use Rattle.cp_log_rules.specs.Recovery.{state_of_bodies}
use Rattle.cp_log_rules.proofs.Recoveries.{body_of_part, one_more}
use Rattle.cp_log.specs.declared.error.StoreError.{StoreError}
use Rattle.cp_log.specs.declared.error.StoreError.TheVariants as error
use Rattle.cp_log.specs.Causes.{WriteCause, is_fault}
use Rattle.cp_log.specs.Files.{StandsForEither, file_state, of_bodies, of_records}

-- ---- one record more

good_bodies : (r : Result DurableState ℕ) (s : DurableState) → of_bodies r ≡ Ok s → r ≡ Ok s
good_bodies (Ok t) s is =
    let same : t ≡ s = cc in
    ap Ok same
good_bodies (Err place) s is = absurd cc

one_record : (first before : DurableState) (p : Part) (body : List ℕ) (r : Result (List (List ℕ)) ℕ) → of_records first r ≡ Ok before → body ≡ part_grammar.spelling p → part_grammar.Fits p → IsTrue (is_legal p before)
    → of_records first (and_record r body) ≡ Ok (with_part p before)
one_record first before p body (Ok bodies) is spelled fits legal =
    let read : whole part_grammar body ≡ Ok p = ap (whole part_grammar) spelled ∙ whole_again IsByte part_grammar part_lawful p fits in
    ap of_bodies (one_more 1 first before (with_part p before) bodies body (good_bodies (state_of_bodies first bodies) before is) (body_of_part body p before read legal))
one_record first before p body (Err place) is spelled fits legal = absurd cc

pub file_goes : (first before : DurableState) (p : Part) (body old new : List ℕ) → file_state first old ≡ Ok before → body ≡ part_grammar.spelling p → part_grammar.Fits p → IsTrue (is_legal p before) → records_of new ≡ and_record (records_of old) body
    → file_state first new ≡ Ok (with_part p before)
file_goes first before p body old new is spelled fits legal appended = ap (of_records first) appended ∙ one_record first before p body (records_of old) is spelled fits legal

pub file_stays : (first before : DurableState) (old new : List ℕ) → file_state first old ≡ Ok before → records_of new ≡ records_of old → file_state first new ≡ Ok before
file_stays first before old new is same = ap (of_records first) same ∙ is

pub either : (first before : DurableState) (p : Part) (body old image : List ℕ) → file_state first old ≡ Ok before → body ≡ part_grammar.spelling p → part_grammar.Fits p → IsTrue (is_legal p before) → IsBeforeOrAfter (records_of old) body image
    → StandsForEither first before (with_part p before) image
either first before p body old image is spelled fits legal (inl same) = inl (file_stays first before old image is same)
either first before p body old image is spelled fits legal (inr appended) = inr (file_goes first before p body old image is spelled fits legal appended)

-- ---- after the call

module _ {T : Type 0} where
  pub whole_after : (result : Result T StoreError) (spent : Bool) (A B C D : Type 0) (before now : ℕ) → OnOk result ((spent ≡ false) × A) → (IsErrOf result error.NoMemory → (spent ≡ false) × B) → (IsErrOf result error.Full → C × ((spent ≡ false) × D))
      → IfErr result (WriteCause before now) → is_fault result ≡ false → spent ≡ false
  whole_after (Ok x) spent A B C D before now good starved full cause none = good.0
  whole_after (Err error.DiskFault) spent A B C D before now good starved full cause none = absurd cc
  whole_after (Err error.Full) spent A B C D before now good starved full cause none = (full refl).1.0
  whole_after (Err (error.BadFrame place)) spent A B C D before now good starved full cause none = absurd cause
  whole_after (Err (error.BadRecord place)) spent A B C D before now good starved full cause none = absurd cause
  whole_after (Err error.NoMemory) spent A B C D before now good starved full cause none = (starved refl).0

  pub fold_after : (result : Result T StoreError) (file : Result DurableState StoreError) (before after now : DurableState) (count rose : ℕ) → OnOk result (file ≡ Ok after) → (IsErrOf result error.NoMemory → file ≡ Ok before) → (IsErrOf result error.Full → file ≡ Ok before)
      → IfErr result (WriteCause count rose) → now ≡ (if is_ok result then after else before) → is_fault result ≡ false → file ≡ Ok now
  fold_after (Ok x) file before after now count rose good starved full cause is none = good ∙ ap Ok (sym is)
  fold_after (Err error.DiskFault) file before after now count rose good starved full cause is none = absurd cc
  fold_after (Err error.Full) file before after now count rose good starved full cause is none = full refl ∙ ap Ok (sym is)
  fold_after (Err (error.BadFrame place)) file before after now count rose good starved full cause is none = absurd cause
  fold_after (Err (error.BadRecord place)) file before after now count rose good starved full cause is none = absurd cause
  fold_after (Err error.NoMemory) file before after now count rose good starved full cause is none = starved refl ∙ ap Ok (sym is)

  pub on_ok : (result : Result T StoreError) (P Q : Type 0) → (P → Q) → OnOk result P → OnOk result Q
  on_ok (Ok x) P Q step has = step has
  on_ok (Err e) P Q step has = tt

  pub full_or_starved : (result : Result T StoreError) (P : Type 0) → (IsErrOf result error.Full ↔ P) → P → IsErrOf result error.Full ⊎ IsErrOf result error.NoMemory
  full_or_starved result P full is = inl (full.1 is)

  pub bytes_after : (result : Result T StoreError) (now more before : ℕ) (A B C : Type 0) (count rose : ℕ) → OnOk result (A × (now ≡ more)) → (IsErrOf result error.NoMemory → B × (now ≡ before)) → (IsErrOf result error.Full → C × (now ≡ before))
      → IfErr result (WriteCause count rose) → (now ≡ (if is_ok result then more else before)) ⊎ IsErrOf result error.DiskFault
  bytes_after (Ok x) now more before A B C count rose good starved full cause = inl good.1
  bytes_after (Err error.DiskFault) now more before A B C count rose good starved full cause = inr refl
  bytes_after (Err error.Full) now more before A B C count rose good starved full cause = inl (full refl).1
  bytes_after (Err (error.BadFrame place)) now more before A B C count rose good starved full cause = absurd cause
  bytes_after (Err (error.BadRecord place)) now more before A B C count rose good starved full cause = absurd cause
  bytes_after (Err error.NoMemory) now more before A B C count rose good starved full cause = inl (starved refl).1

pub settled : (applies written : Bool) (one other after before now : DurableState) → now ≡ (if applies then one else other) → applies ≡ written → one ≡ after → other ≡ before → now ≡ (if written then after else before)
settled applies written one other after before now is same first second = is ∙ rw (same, first, second) refl

-- a part has a byte at least
pub part_body : (p : Part) (body : List ℕ) → body ≡ part_grammar.spelling p → length (part_grammar.spelling p) ≤ BODY_LIMIT → IsBody body
unfolding part_grammar
part_body p body is most = record { some = omega (arith, ap length is); most = omega (arith, ap length is) }

-- ---- at any moment

module _ {D : Type 0} (moment : D → ℕ) (left_since : D → ℕ → List ℕ → Type 0) (old : D) (first before after : DurableState) (file : List ℕ) where
  -- where nothing was written
  pub unwritten : (images : List ℕ → Type 0) → ((image : List ℕ) → left_since old (moment old) image → images image) → Only file images → file_state first file ≡ Ok before → LeavesOnly moment left_since old old (StandsForEither first before after)
  unwritten images now only is = started moment left_since old (StandsForEither first before after) (λ image left. inl (ap (file_state first) (only image (now image left)) ∙ is))

  pub written_moment : (new : D) (p : Part) (body : List ℕ) → after ≡ with_part p before → file_state first file ≡ Ok before → body ≡ part_grammar.spelling p → part_grammar.Fits p → IsTrue (is_legal p before)
      → LeavesOnly moment left_since old new (IsBeforeOrAfter (records_of file) body) → LeavesOnly moment left_since old new (StandsForEither first before after)
  written_moment new p body same is spelled fits legal leaves =
      weaker moment left_since old new (IsBeforeOrAfter (records_of file) body) (StandsForEither first before after) leaves
      (λ image has. subst (λ (s : DurableState). StandsForEither first before s image) (sym same) (either first before p body file image is spelled fits legal has))

-- the bytes of a State
pub state_size : (p : Part) → is_state p ≡ true → length (part_grammar.spelling p) ≤ 64
unfolding part_grammar group_id index big_endian
state_size (part.Start restart) is = absurd cc
state_size (part.State group term vote) is =
    let size : length (part_grammar.spelling (part.State group term vote)) ≡ 18 = refl in
    omega (arith, size)
state_size (part.Append group term vote after entries) is = absurd cc
state_size (part.Begin group first) is = absurd cc
state_size (part.End group) is = absurd cc
state_size (part.Snapshot group term vote at bytes) is = absurd cc
state_size (part.Start2 restart) is = absurd cc

-- ---- the start that opening writes

pub start_fits : (restart : ℕ) → restart ≤ LAST_NUMBER → part_grammar.Fits (part.Start2 restart)
unfolding part_grammar index
start_fits restart le = ((omega arith, refl), ((le, refl), refl))

pub start_size : (restart : ℕ) → length (part_grammar.spelling (part.Start2 restart)) ≡ 10
unfolding part_grammar index big_endian
start_size restart = refl

module _ {T : Type 0} where
  not_full : (size : ℕ) (x : T) (result : Result T StoreError) → result ≡ Ok x → (FILE_LIMIT < size → IsErrOf result error.Full ⊎ IsErrOf result error.NoMemory) → size ≤ FILE_LIMIT
  not_full size x result is full = elim (cases_lt FILE_LIMIT size) [ inl lt ↦ none (full lt) | inr le ↦ le ]
    where
      none : IsErrOf result error.Full ⊎ IsErrOf result error.NoMemory → size ≤ FILE_LIMIT
      none (inl wrong) = absurd cc
      none (inr wrong) = absurd cc

  pub begun_bytes : (now before more : ℕ) (x : T) (result : Result T StoreError) → result ≡ Ok x → more ≡ 10 → (now ≡ (if is_ok result then before + (more + 5) else before)) ⊎ IsErrOf result error.DiskFault
      → (FILE_LIMIT < before + (more + 5) → IsErrOf result error.Full ⊎ IsErrOf result error.NoMemory) → (now ≡ before + 15) × (now ≤ FILE_LIMIT)
  begun_bytes now before more x result is ten (inl bytes) full =
      let done : is_ok result ≡ true = rw is refl in
      let sum : now ≡ before + (more + 5) = bytes ∙ rw done refl in
      (omega arith, omega (arith, not_full (before + (more + 5)) x result is full))
  begun_bytes now before more x result is ten (inr wrong) full = absurd cc

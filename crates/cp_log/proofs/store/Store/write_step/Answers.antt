use Rattle.std.proofs.Common.{◌≡◌, ◌≤◌, length, refl, sym, ◌∙◌, ap, arith}
use Rattle.std.specs.Prelude.{Ok, is_ok, if◌then◌else◌}
use Rattle.cp_journal.specs.Journals as journals
use Rattle.cp_journal.specs.Records.{and_record, records_of}
use Rattle.cp_parts.specs.Parts.{part_grammar}
use Rattle.cp_log_rules.specs.Durable.{first_state, with_part}
use Rattle.cp_log.specs.Durables.{durable_of}
use Rattle.cp_log.specs.Files.{file_state}
use Rattle.cp_log.proofs.Opened.{either_sound}
use Rattle.cp_log.proofs.Written.{file_goes, file_stays, fold_after, on_ok, part_body, settled, state_size, unwritten, whole_after, written_moment}
use Rattle.cp_log.proofs.store.Store.write_step.Goals as goal

pub append-written-requires-clause-body : goal.append-written-requires-clause-body
append-written-requires-clause-body g c = part_body c.args.part.now c.as_slice.result.now (c.as_slice.ensures ∙ c.in-Ok.ensures.ok) c.requires.size

pub invariant_of-self-2 : goal.invariant_of-self-2
invariant_of-self-2 g c =
    let store = c.args.self.now in
    let part = c.args.part.now in
    let first = first_state store.managed store.size in
    let before = durable_of store.state in
    let after = with_part part before in
    let old = g.D.Disk.seen (journals.disk_of store.journal) in
    let new = g.D.Disk.seen (journals.disk_of c.append-written.new.journal) in
    let result = c.append-written.result in
    let spelled : c.as_slice.result.now ≡ part_grammar.spelling part = c.as_slice.ensures ∙ c.in-Ok.ensures.ok in
    let ready = c.in-Ok-prepare_copy.ensures.ok in
    let state_is : durable_of c.settle.new.state ≡ (if is_ok result then after else before) =
    settled c.is_ok.result (is_ok result) _ _ after before (durable_of c.settle.new.state) c.settle.ensures c.is_ok.ensures.value ready.applied ready.given_up in
    record {
      whole = λ none. whole_after result (journals.is_spent c.append-written.new.journal) _ _ _ _ _ _ c.append-written.ensures.ok c.append-written.ensures.starved c.append-written.ensures.full_kept c.append-written.ensures.cause.failed
          (sym c.is_disk_fault-self.ensures ∙ none);
      fold = λ none told.
          let is : file_state first old ≡ Ok before = store.fold c.requires.whole told in
          fold_after result (file_state first new) before after (durable_of c.settle.new.state) _ _
          (on_ok result (records_of new ≡ and_record (records_of old) c.as_slice.result.now) (file_state first new ≡ Ok after) (λ appended. file_goes first before part c.as_slice.result.now old new is spelled c.requires.fits c.requires.legal appended)
          (c.append-written.ensures.appended told))
          (λ starved. file_stays first before old new is (c.append-written.ensures.kept told starved))
          (λ full. ap (λ d. file_state first (g.D.Disk.seen d)) (c.append-written.ensures.full_kept full).0 ∙ is)
          c.append-written.ensures.cause.failed state_is (sym c.is_disk_fault-self.ensures ∙ none);
    }

pub returns-clause-any_moment : goal.returns-clause-any_moment
returns-clause-any_moment g c = λ told.
    let store = c.args.self.now in
    let before = durable_of store.state in
    written_moment g.D.Disk.moment g.D.Disk.left_since (journals.disk_of store.journal) (first_state store.managed store.size) before (with_part c.args.part.now before) (g.D.Disk.seen (journals.disk_of store.journal))
    (journals.disk_of c.append-written.new.journal) c.args.part.now c.as_slice.result.now refl (store.fold c.requires.whole told) (c.as_slice.ensures ∙ c.in-Ok.ensures.ok) c.requires.fits c.requires.legal
    (c.append-written.ensures.any_moment told)

pub returns-clause-frugal : goal.returns-clause-frugal
returns-clause-frugal g c = λ state starved.
    let size : length c.as_slice.result.now ≤ 64 = omega (arith, ap length (c.as_slice.ensures ∙ c.in-Ok.ensures.ok), state_size c.args.part.now state) in
    c.append-written.ensures.frugal size starved

pub returns-in-Err-clause-sound : goal.returns-in-Err-clause-sound
returns-in-Err-clause-sound g c = λ told.
    let store = c.args.self.now in
    let disk = journals.disk_of store.journal in
    let first = first_state store.managed store.size in
    let before = durable_of store.state in
    either_sound g.D.Disk.moment g.D.Disk.left_since disk disk first before before
    (unwritten g.D.Disk.moment g.D.Disk.left_since disk first before before (g.D.Disk.seen disk) (g.D.Disk.may_leave disk) (λ image left. g.met.D.Disk.only_now told disk image left)
    (store.journal.at_rest (store.whole c.requires.whole) told).durable (store.fold c.requires.whole told))

pub returns-in-Err-prepare_copy-clause-sound : goal.returns-in-Err-prepare_copy-clause-sound
returns-in-Err-prepare_copy-clause-sound g c = λ told.
    let store = c.args.self.now in
    let disk = journals.disk_of store.journal in
    let first = first_state store.managed store.size in
    let before = durable_of store.state in
    either_sound g.D.Disk.moment g.D.Disk.left_since disk disk first before before
    (unwritten g.D.Disk.moment g.D.Disk.left_since disk first before before (g.D.Disk.seen disk) (g.D.Disk.may_leave disk) (λ image left. g.met.D.Disk.only_now told disk image left)
    (store.journal.at_rest (store.whole c.requires.whole) told).durable (store.fold c.requires.whole told))

pub returns-clause-sound : goal.returns-clause-sound
returns-clause-sound g c = λ told.
    let store = c.args.self.now in
    let before = durable_of store.state in
    either_sound g.D.Disk.moment g.D.Disk.left_since (journals.disk_of store.journal) (journals.disk_of c.append-written.new.journal) (first_state store.managed store.size) before (with_part c.args.part.now before)
    (returns-clause-any_moment g c told)

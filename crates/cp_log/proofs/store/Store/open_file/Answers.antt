use Rattle.std.proofs.Common.{◌≡◌, ◌≤◌, ◌<◌, ◌+◌, ◌-◌, ◌^◌, refl, sym, ◌∙◌, ap, subst, arith, rules}
use Rattle.std.specs.Prelude.{Ok}
use Rattle.cp_journal.specs.Found.{lists}
use Rattle.cp_journal.specs.Journals as journals
use Rattle.cp_journal.specs.Records.{records_of}
use Rattle.cp_log_rules.specs.Durable.{DurableState, first_state}
use Rattle.cp_log.specs.Causes.{OpenCause}
use Rattle.cp_log.specs.Durables.{durable_of}
use Rattle.cp_log.specs.Files.{file_state, sizes}
use Rattle.cp_log.proofs.Opened.{begin_cause, body_cause, if_err, if_ok, opened_size, recovered_file}
use Rattle.cp_log.proofs.Places.{rest_end, restart_fits}
use Rattle.cp_log.proofs.store.Store.open_file.Goals as goal

pub begin-requires-clause-room : goal.begin-requires-clause-room
begin-requires-clause-room g c = restart_fits 1 (first_state c.args.managed c.args.size) (durable_of c.in-Ok-recover.state) c.deref.result.now refl c.in-Ok-recover.ensures c.deref.type_inv.1

pub returns-in-Ok-recover-clause-cause : goal.returns-in-Ok-recover-clause-cause
returns-in-Ok-recover-clause-cause g c =
    let first = first_state c.args.managed c.args.size in
    let file = g.D.Disk.seen c.args.disk in
    let mid = g.D.Disk.faults (journals.disk_of c.in-Ok.opened.0) in
    let start = g.D.Disk.faults c.args.disk in
    let stands : g.D.Disk.Told → (s : DurableState) × (file_state first file ≡ Ok s) = λ told.
    (durable_of c.in-Ok-recover.state, recovered_file first (durable_of c.in-Ok-recover.state) file (lists c.deref.result.now) ((c.in-Ok.ensures.records told).records ∙ ap (λ l. Ok (lists l)) (sym c.deref.ensures.value)) c.in-Ok-recover.ensures) in
    if_err c.begin.result _ _ (λ refused cause. begin_cause start mid (g.D.Disk.faults refused.0) g.D.Disk.Told (file_state first file) refused.1 c.in-Ok.ensures.counts.0 stands cause) c.begin.ensures.cause

pub returns-clause-cause : goal.returns-clause-cause
returns-clause-cause g c =
    let first = first_state c.args.managed c.args.size in
    let file = g.D.Disk.seen c.args.disk in
    let bodies = lists c.deref.result.now in
    let end = journals.end_of c.in-Ok.opened.0 in
    let small : end < 2 ^ 64 = search rules in
    let some : 1 ≤ end = c.in-Ok.opened.0.some in
    let records : g.D.Disk.Told → records_of file ≡ Ok bodies = λ told. (c.in-Ok.ensures.records told).records ∙ ap (λ l. Ok (lists l)) (sym c.deref.ensures.value) in
    let fits : g.D.Disk.Told → 1 + sizes bodies < 2 ^ 64 = λ told.
    let opened = c.in-Ok.ensures.records told in
    let place : end - 1 ≡ sizes bodies = rest_end (end - 1) (g.D.Disk.seen (journals.disk_of c.in-Ok.opened.0)) (g.D.Disk.may_leave (journals.disk_of c.in-Ok.opened.0)) bodies opened.rest (opened.same ∙ records told) in
    omega arith in
    subst (OpenCause (g.D.Disk.faults c.args.disk) (g.D.Disk.faults c.close.result) g.D.Disk.Told (file_state first file)) (sym c.bad_error.ensures)
    (body_cause (g.D.Disk.faults c.args.disk) (g.D.Disk.faults c.close.result) g.D.Disk.Told first file bodies c.in-Err-recover.bad records fits c.in-Err-recover.ensures)

pub returns-in-Ok-recover-clause-full : goal.returns-in-Ok-recover-clause-full
returns-in-Ok-recover-clause-full g c = λ bodies told is.
    let journal = c.in-Ok.opened.0 in
    let end = journals.end_of journal in
    let size : end ≡ 1 + sizes bodies = opened_size end (g.D.Disk.seen c.args.disk) (g.D.Disk.seen (journals.disk_of journal)) (g.D.Disk.may_leave (journals.disk_of journal)) (lists c.in-Ok.opened.1.items) bodies journal.some (c.in-Ok.ensures.records told) is in
    if_err c.begin.result _ _ (λ refused full is_full. omega (arith, full is_full)) c.begin.ensures.full

pub returns-in-Ok-recover-clause-bytes : goal.returns-in-Ok-recover-clause-bytes
returns-in-Ok-recover-clause-bytes g c = λ bodies told is.
    let journal = c.in-Ok.opened.0 in
    let end = journals.end_of journal in
    let size : end ≡ 1 + sizes bodies = opened_size end (g.D.Disk.seen c.args.disk) (g.D.Disk.seen (journals.disk_of journal)) (g.D.Disk.may_leave (journals.disk_of journal)) (lists c.in-Ok.opened.1.items) bodies journal.some (c.in-Ok.ensures.records told) is in
    if_ok c.begin.result _ _ (λ store has. (omega (arith, has.0), has.1)) c.begin.ensures.bytes

use Rattle.cp_disk.specs.declared.disk.Fault.TheVariants as fault
use Rattle.std.specs.Prelude.{Err}
use Rattle.std.proofs.Common.{◌≡◌, ◌+◌, ◌++◌, ℕ, List, [], ◌∷◌, length, refl, sym, ◌∙◌, ap, subst, arith}
use Rattle.cp_disk.specs.Images.{Only, Torn, written}
use Rattle.cp_journal.specs.Frames.{IsClosed}
use Rattle.cp_journal.specs.Records.{IsBeforeOrAfter, records_of, record_bytes}
use Rattle.cp_journal.proofs.Moments.{joined, weaker}
use Rattle.cp_journal.proofs.Resting.{at_rest, resting}
use Rattle.cp_journal.proofs.Walks.{stage_closed, stage_leaves, stage_records, gate_leaves, gate_opened, opened_records, torn_behind, written_torn}
use Rattle.cp_journal.proofs.append.append_record.Goals as goal

pub write_synced-requires : goal.write_synced-requires
write_synced-requires g c = record {
  within = λ told. let rest = resting c.args.gate (g.D.Disk.seen c.args.disk.now) (g.D.Disk.may_leave c.args.disk.now) (c.requires.rest told) in omega (arith, rest.closed.within);
  durable = λ told. (c.requires.rest told).durable;
}

pub write_synced-requires-2 : goal.write_synced-requires-2
write_synced-requires-2 g c = record {
  within = λ told.
      let rest = resting c.args.gate (g.D.Disk.seen c.args.disk.now) (g.D.Disk.may_leave c.args.disk.now) (c.requires.rest told) in
      let new = written (g.D.Disk.seen c.args.disk.now) (c.args.gate + 1) c.args.bytes.now in
      let closed : IsClosed rest.bodies c.args.gate new = torn_behind rest.bodies c.args.gate (c.args.gate + 1) (length c.args.bytes.now) (g.D.Disk.seen c.args.disk.now) new rest.closed refl
      (written_torn (c.args.gate + 1) c.args.bytes.now (g.D.Disk.seen c.args.disk.now) (omega (arith, rest.closed.within))) in
      omega (arith, closed.within, ap length (c.in_ok-write_synced.ensures.written told));
  durable = λ told. c.in_ok-write_synced.ensures.durable told;
}

pub returns-in_err-write_synced-clause-any_moment : goal.returns-in_err-write_synced-clause-any_moment
returns-in_err-write_synced-clause-any_moment g c body is_body is told =
    let rest = resting c.args.gate (g.D.Disk.seen c.args.disk.now) (g.D.Disk.may_leave c.args.disk.now) (c.requires.rest told) in
    let file = g.D.Disk.seen c.args.disk.now in
    weaker g.D.Disk.moment g.D.Disk.left_since c.args.disk.now c.write_synced.new.disk (Torn (c.args.gate + 1) (length c.args.bytes.now) file) (IsBeforeOrAfter (records_of file) body)
    (c.write_synced.ensures.any_moment told) (stage_leaves rest.bodies c.args.gate body file rest.closed is_body (length c.args.bytes.now))

pub returns-in-Err-clause-any_moment : goal.returns-in-Err-clause-any_moment
returns-in-Err-clause-any_moment g c body is_body is told =
    let rest = resting c.args.gate (g.D.Disk.seen c.args.disk.now) (g.D.Disk.may_leave c.args.disk.now) (c.requires.rest told) in
    let file = g.D.Disk.seen c.args.disk.now in
    let P : List ℕ → Type 0 = IsBeforeOrAfter (records_of file) body in
    let m = g.D.Disk.moment in
    let l = g.D.Disk.left_since in
    let mid : g.D.Disk.seen c.write_synced.new.disk ≡ written file (c.args.gate + 1) (record_bytes body) = c.in_ok-write_synced.ensures.written told ∙ ap (written file (c.args.gate + 1)) is in
    joined m l c.args.disk.now c.write_synced.new.disk c.write_synced-2.new.disk P
    (weaker m l c.args.disk.now c.write_synced.new.disk (Torn (c.args.gate + 1) (length c.args.bytes.now) file) P
    (c.write_synced.ensures.any_moment told) (stage_leaves rest.bodies c.args.gate body file rest.closed is_body (length c.args.bytes.now)))
    (weaker m l c.write_synced.new.disk c.write_synced-2.new.disk (Torn c.args.gate 1 (g.D.Disk.seen c.write_synced.new.disk)) P (c.write_synced-2.ensures.any_moment told)
    (λ image torn. gate_leaves rest.bodies c.args.gate body file rest.closed is_body image (subst (λ (f : List ℕ). Torn c.args.gate 1 f image) mid torn)))

pub returns-in-Ok-clause-any_moment : goal.returns-in-Ok-clause-any_moment
returns-in-Ok-clause-any_moment g c body is_body is told =
    let rest = resting c.args.gate (g.D.Disk.seen c.args.disk.now) (g.D.Disk.may_leave c.args.disk.now) (c.requires.rest told) in
    let file = g.D.Disk.seen c.args.disk.now in
    let P : List ℕ → Type 0 = IsBeforeOrAfter (records_of file) body in
    let m = g.D.Disk.moment in
    let l = g.D.Disk.left_since in
    let mid : g.D.Disk.seen c.write_synced.new.disk ≡ written file (c.args.gate + 1) (record_bytes body) = c.in_ok-write_synced.ensures.written told ∙ ap (written file (c.args.gate + 1)) is in
    joined m l c.args.disk.now c.write_synced.new.disk c.write_synced-2.new.disk P
    (weaker m l c.args.disk.now c.write_synced.new.disk (Torn (c.args.gate + 1) (length c.args.bytes.now) file) P
    (c.write_synced.ensures.any_moment told) (stage_leaves rest.bodies c.args.gate body file rest.closed is_body (length c.args.bytes.now)))
    (weaker m l c.write_synced.new.disk c.write_synced-2.new.disk (Torn c.args.gate 1 (g.D.Disk.seen c.write_synced.new.disk)) P (c.write_synced-2.ensures.any_moment told)
    (λ image torn. gate_leaves rest.bodies c.args.gate body file rest.closed is_body image (subst (λ (f : List ℕ). Torn c.args.gate 1 f image) mid torn)))

pub returns-in-Ok-clause-appended : goal.returns-in-Ok-clause-appended
returns-in-Ok-clause-appended g c body is_body is told =
    let rest = resting c.args.gate (g.D.Disk.seen c.args.disk.now) (g.D.Disk.may_leave c.args.disk.now) (c.requires.rest told) in
    let file = g.D.Disk.seen c.args.disk.now in
    let mid : g.D.Disk.seen c.write_synced.new.disk ≡ written file (c.args.gate + 1) (record_bytes body) = c.in_ok-write_synced.ensures.written told ∙ ap (written file (c.args.gate + 1)) is in
    let new : g.D.Disk.seen c.write_synced-2.new.disk ≡ written (written file (c.args.gate + 1) (record_bytes body)) c.args.gate (1 ∷ []) =
    c.in-Ok.ensures.written told ∙ ap (λ (f : List ℕ). written f c.args.gate (1 ∷ [])) mid in (
      at_rest _ _ _ (record {
        bodies = rest.bodies ++ body ∷ [];
        closed = subst (IsClosed (rest.bodies ++ body ∷ []) (c.args.gate + 5 + length body)) (sym new) (gate_opened rest.bodies c.args.gate body file rest.closed is_body);
        durable = c.in-Ok.ensures.durable told;
      }),
      ap records_of new ∙ opened_records rest.bodies c.args.gate body file rest.closed is_body,
    )

pub returns-in-Err-clause-refused : goal.returns-in-Err-clause-refused
returns-in-Err-clause-refused g c body is_body is told refused =
    let rest = resting c.args.gate (g.D.Disk.seen c.args.disk.now) (g.D.Disk.may_leave c.args.disk.now) (c.requires.rest told) in
    let file = g.D.Disk.seen c.args.disk.now in
    let none : c.write_synced-2.result ≡ Err fault.NoMemory = c.in-Err.is ∙ refused in
    let kept = c.write_synced-2.ensures.refused told none in
    let mid : g.D.Disk.seen c.write_synced.new.disk ≡ written file (c.args.gate + 1) (record_bytes body) = c.in_ok-write_synced.ensures.written told ∙ ap (written file (c.args.gate + 1)) is in
    let new : g.D.Disk.seen c.write_synced-2.new.disk ≡ written file (c.args.gate + 1) (record_bytes body) = kept.0 ∙ mid in (
      at_rest _ _ _ (record {
        bodies = rest.bodies;
        closed = subst (IsClosed rest.bodies c.args.gate) (sym new) (stage_closed rest.bodies c.args.gate body file rest.closed is_body);
        durable = subst (λ (f : List ℕ). Only f (g.D.Disk.may_leave c.write_synced-2.new.disk)) (sym kept.0) kept.1;
      }),
      ap records_of new ∙ stage_records rest.bodies c.args.gate body file rest.closed is_body,
    )

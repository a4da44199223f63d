use Rattle.std.proofs.Common.{arith, subst}
use Rattle.cp_transcript.specs.Telling.{Tells}
use Rattle.cp_transcript.proofs.Growing.{entries_begin, entries_more, entries_all}
use Rattle.cp_transcript.proofs.transcript.TranscriptWriter.add_all_committed.Goals as goal

pub loop-entry-init : goal.loop-entry-init
loop-entry-init c = (
  omega arith,
  λ shown history tells. subst (λ h. Tells shown h c.args.self.now) (entries_begin c.args.event history c.args.entries.now) tells,
)

pub loop-entry-preserved : goal.loop-entry-preserved
loop-entry-preserved c = (
  omega (arith, c.in_ok-add_committed.ensures.rows, c.loop-entry.invariant.0),
  λ shown history tells. subst (λ h. Tells shown h c.add_committed.new.self)
      (entries_more c.args.event history c.args.entries.now c.loop-entry.entry-index c.entry-item.result c.loop-entry-test.true c.entry-item.is)
      (c.in_ok-add_committed.ensures.tells shown _ (c.loop-entry.invariant.1 shown history tells)),
)

pub returns : goal.returns
returns c = λ shown history tells. subst (λ h. Tells shown h c.loop-entry.self)
    (entries_all c.args.event history c.args.entries.now c.loop-entry.entry-index c.loop-entry-test.false)
    (c.loop-entry.invariant.1 shown history tells)

use Rattle.std.proofs.Common.{refl}
use Rattle.cp_transcript.proofs.Growing.{one_event_more}
use Rattle.cp_transcript.proofs.transcript.TranscriptWriter.add_effects.Goals as goal

pub returns-clause-tells : goal.returns-clause-tells
returns-clause-tells c = λ shown history tells. one_event_more shown history
    (record { number = c.args.number; event = c.args.event.now; ignored = c.args.ignored.now; opened = c.args.opened.now; returns = c.args.returns.now })
    c.args.self.now _ tells c.in_ok-write_effects.ensures.ok refl refl

use Rattle.std.proofs.Common.{refl}
use Rattle.cp_transcript.proofs.Growing.{one_entry_more}
use Rattle.cp_transcript.proofs.transcript.TranscriptWriter.add_committed.Goals as goal

pub returns-clause-tells : goal.returns-clause-tells
returns-clause-tells c = λ shown history tells. one_entry_more shown history (record { event = c.args.event; entry = c.args.entry.now }) c.args.self.now _ tells refl refl c.in_ok-write_committed.ensures.ok

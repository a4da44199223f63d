use Rattle.std.proofs.Common.{◌∙◌}
use Rattle.cp_transcript.proofs.Whole.{length_is}
use Rattle.cp_transcript.proofs.transcript.TranscriptWriter.len.Goals as goal

pub returns : goal.returns
returns c = λ shown history tells.
    (rw (c.deref-2.ensures.value, c.history_len-history.ensures.value, c.deref.ensures.value) at c.whole_len.ensures)
    ∙ length_is shown history c.args.self.now tells

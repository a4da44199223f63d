use Rattle.std.proofs.Common.{◌∙◌, ap, ◌++◌, codes}
use Rattle.cp_transcript.proofs.Whole.{whole_is}
use Rattle.cp_transcript.proofs.transcript.TranscriptWriter.into_text.Goals as goal

pub returns : goal.returns
returns c = λ shown history tells.
    c.in_ok-extend_from_slice.ensures.items
    ∙ ap (λ x. x ++ codes "end\n") (rw c.deref.ensures.value at c.in_ok-append_history.ensures)
    ∙ whole_is shown history c.args.self tells

use Rattle.std.proofs.Common.{◌∙◌, ◌++◌, [], refl, sym, ap}
use Rattle.cp_transcript.specs.Transcripts.{heading}
use Rattle.cp_transcript.proofs.Opening.{opening_line}
use Rattle.cp_transcript.proofs.transcript.TranscriptWriter.new.Goals as goal

pub returns : goal.returns
returns c = record {
  text = c.in_ok-from_slice.ensures.items ∙ ap (λ lines. heading ++ lines ++ []) (sym opening_line);
  rows = refl;
  history = c.new.ensures.items;
}

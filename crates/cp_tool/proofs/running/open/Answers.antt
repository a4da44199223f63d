use Rattle.std.proofs.Common.{ℕ, List, [], ◌++◌, length, ap, refl}
use Rattle.std.specs.Prelude.{codes}
use Rattle.cp_base.specs.Text.{line}
use Rattle.cp_transcript.specs.Transcripts.{heading}
use Rattle.cp_transcript.proofs.Opening.{opening_line}
use Rattle.cp_tool.specs.Limits.{beyond}
use Rattle.cp_tool.proofs.running.open.Goals as goal

-- event 0 is shown, and nothing is beyond its limit yet
pub returns : goal.returns
returns c plan = record {
  follows = record { count = refl; follows = c.in_ok-new.ensures; tells = c.in_ok-new-2.ensures };
  kept = ap (λ (shown : List ℕ). beyond 0 (length ((heading ++ shown ++ []) ++ [] ++ line (codes "end")))) opening_line;
}

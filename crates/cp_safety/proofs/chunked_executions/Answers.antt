use Rattle.cp_safety.proofs.Chunks.{chunked_executions as law}
use Rattle.cp_safety.proofs.chunked_executions.Goals as goal

pub returns : goal.returns
returns c = law

use Rattle.cp_tool.proofs.running.close.Goals as goal

pub returns : goal.returns
returns c = λ plan events runs. c.in_ok-text.ensures _ _ runs.follows.tells

use Rattle.cp_raft.proofs.Heads.{head_fits}
use Rattle.cp_raft.proofs.snapshots.own_bytes.Goals as goal

pub snapshot_bytes-requires-clause-fits : goal.snapshot_bytes-requires-clause-fits
snapshot_bytes-requires-clause-fits g c = head_fits _ _ (c.requires.reads_back _ c.in-Some.is)

use Rattle.cp_resource.proofs.Sound.{sessions_table, locks_table, semaphores_sound, hold_some, rounds}
use Rattle.std.proofs.Common.{◌∙◌}
use Rattle.cp_resource.proofs.Together.{together}
use Rattle.cp_resource.proofs.restoring.tables_of.Goals as goal

pub sessions_of-requires : goal.sessions_of-requires
sessions_of-requires c = sessions_table _ c.requires

pub objects_of-requires : goal.objects_of-requires
objects_of-requires c = record {
  locks = locks_table _ c.requires;
  semaphores = semaphores_sound _ c.requires;
  some = hold_some _ c.requires;
  latches = c.requires.ordered.latches;
  rounds = rounds _ c.requires;
  longs = c.requires.ordered.longs;
  refs = c.requires.ordered.refs;
  maps = c.requires.ordered.maps;
  gone = c.requires.ordered.gone;
}

pub memory_of-requires : goal.memory_of-requires
memory_of-requires c = c.requires.ordered.memory

pub returns : goal.returns
returns c = c.from_tables.ensures ∙ together _ _ _ _ _ _ _ _ _ c.in_ok-sessions.ensures c.in_ok-objects.ensures c.in_ok-waits.ensures c.in_ok-memory.ensures

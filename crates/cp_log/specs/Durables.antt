-- What the store's memory stands for.
use Rattle.cp_log_rules.specs.Durable.{DurableState}
use Rattle.cp_log.specs.declared.durable.Durable.{Durable}
use Rattle.cp_log.specs.Rows.{rows_of}

abbrev pub durable_of : Durable → DurableState
durable_of s = record { restart = s.restart; format = s.format; groups = rows_of s.rows.entries; ended = s.ended.keys }

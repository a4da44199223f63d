-- What a store holds after the part of a step.
use Rattle.std.specs.Prelude.{◌≤◌, ◌<◌, ◌+◌, ℕ, length, Option, Some, None, IsTrue}
use Rattle.cp_base.specs.declared.limits.TheConstants.{BODY_LIMIT, FILE_LIMIT}
use Rattle.cp_parts.specs.declared.part.Part as journal
use Rattle.cp_parts.specs.Parts.{part_grammar}
use Rattle.cp_log_rules.specs.Durable.{DurableState, with_part}
use Rattle.cp_log_rules.specs.Legal.{is_legal}
use Rattle.cp_rules.specs.Parts.{part_of}
use Rattle.cp_rules.specs.Persistent.{Part}
use Rattle.cp_raft_state.specs.declared.seat.Seat.{Seat}

abbrev pub after_part : Option journal.Part → DurableState → DurableState
after_part None s = s
after_part (Some part) s = with_part part s

abbrev pub after_step : Seat → Option Part → DurableState → DurableState
after_step seat None s = s
after_step seat (Some x) s = with_part (part_of seat.group x) s

-- a part that a store takes
pub record IsTakenBy (s : DurableState) (part : journal.Part) : Type 0 where
  pub legal : IsTrue (is_legal part s)
  pub fits : part_grammar.Fits part
  pub room : length (part_grammar.spelling part) ≤ BODY_LIMIT

-- A journal of so many bytes would pass its bound with the record of a part; no part is no record.
abbrev pub PassesBound : ℕ → Option journal.Part → Type 0
PassesBound bytes None = ⊥
PassesBound bytes (Some part) = FILE_LIMIT < bytes + (length (part_grammar.spelling part) + 5)

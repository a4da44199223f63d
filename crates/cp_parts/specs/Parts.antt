-- The parts of a journal as bytes.
use Rattle.std.specs.Prelude.{ℕ, ◌-◌, ◌^◌, List, Option, Some, None}
use Rattle.std.specs.Int.{w32}
use Rattle.cp_base.specs.declared.identifier.GroupId.{GroupId}
use Rattle.cp_base.specs.declared.limits.TheConstants.{MOST_MEMBER}
use Rattle.cp_grammar.specs.Grammar.{Grammar, always, keyed, variant, case, no_case, ◌then◌}
use Rattle.cp_grammar.specs.Fields.{byte, marked, number, at_least, bytes}
use Rattle.cp_grammar.specs.Lists.{listed, each}
use Rattle.cp_grammar.specs.Common.{index, group_id, members}
use Rattle.cp_parts.specs.declared.log_entry.LogEntry.{LogEntry}
use Rattle.cp_parts.specs.LogEntries.{log_entry}
use Rattle.cp_parts.specs.declared.part.Part.{Part}
use Rattle.cp_parts.specs.declared.part.Part.TheVariants as variants

abbrev pub part_tag : Part → ℕ
part_tag (variants.Start restart) = 1
part_tag (variants.State group term vote) = 2
part_tag (variants.Append group term vote after entries) = 3
part_tag (variants.Begin group first) = 4
part_tag (variants.End group) = 5
part_tag (variants.Snapshot group term vote at bytes) = 6
part_tag (variants.Start2 restart) = 7

abbrev pub part_start : Part → Option ℕ
part_start (variants.Start restart) = Some restart
part_start _ = None

abbrev pub part_state : Part → Option (GroupId × (ℕ × ℕ))
part_state (variants.State group term vote) = Some (group, (term, vote))
part_state _ = None

abbrev pub part_append : Part → Option (GroupId × (ℕ × (ℕ × (ℕ × List LogEntry))))
part_append (variants.Append group term vote after entries) = Some (group, (term, (vote, (after, entries))))
part_append _ = None

abbrev pub part_begin : Part → Option (GroupId × List ℕ)
part_begin (variants.Begin group first) = Some (group, first)
part_begin _ = None

abbrev pub part_end : Part → Option GroupId
part_end (variants.End group) = Some group
part_end _ = None

abbrev pub part_snapshot : Part → Option (GroupId × (ℕ × (ℕ × (ℕ × List ℕ))))
part_snapshot (variants.Snapshot group term vote at bytes) = Some (group, (term, (vote, (at, bytes))))
part_snapshot _ = None

abbrev pub part_start2 : Part → Option (ℕ × Unit {0})
part_start2 (variants.Start2 restart) = Some (restart, tt)
part_start2 _ = None

-- who got the member's vote, 0 for nobody
abbrev pub vote_number : Grammar ℕ ℕ
vote_number = byte MOST_MEMBER

unfoldable pub entry_list : Grammar ℕ (List LogEntry)
entry_list = listed (at_least 0 (number w32 (2 ^ 32 - 1))) (each log_entry)

-- the format's number, which is 2
abbrev pub second_format : Grammar ℕ (Unit {0})
second_format = marked 2 (always tt)

unfoldable pub part_grammar : Grammar ℕ Part
part_grammar = keyed part_tag (at_least 1 (byte 7))
    (case 1 (variant variants.Start part_start index)
    (case 2 (variant (λ p. variants.State p.0 p.1.0 p.1.1) part_state (group_id then index then vote_number))
    (case 3 (variant (λ p. variants.Append p.0 p.1.0 p.1.1.0 p.1.1.1.0 p.1.1.1.1) part_append (group_id then index then vote_number then index then entry_list))
    (case 4 (variant (λ p. variants.Begin p.0 p.1) part_begin (group_id then members))
    (case 5 (variant variants.End part_end group_id)
    (case 6 (variant (λ p. variants.Snapshot p.0 p.1.0 p.1.1.0 p.1.1.1.0 p.1.1.1.1) part_snapshot (group_id then index then vote_number then index then bytes (2 ^ 32 - 1)))
    (case 7 (variant (λ p. variants.Start2 p.0) part_start2 (index then second_format))
    no_case)))))))

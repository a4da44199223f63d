-- Worked lists of parts, by computation.
use Rattle.std.proofs.Common.{◌≡◌, ℕ, List, [], ◌∷◌, refl}
use Rattle.std.specs.Prelude.{false, Option, Some, None}
use Rattle.std.specs.Option.{option_map}
use Rattle.cp_base.specs.declared.identifier.GroupId.{GroupId}
use Rattle.cp_grammar.specs.Fields.{number_reading}
use Rattle.cp_grammar.specs.Lists.{items_reading}
use Rattle.cp_grammar.specs.Common.{index, members, member_after}
use Rattle.cp_parts.specs.Configs.{config_grammar}
use Rattle.cp_parts.specs.Heads.{head_grammar, head_of}
use Rattle.cp_parts.specs.declared.log_entry.LogEntry.{LogEntry}
use Rattle.cp_parts.specs.declared.part.Part.{Part}
use Rattle.cp_parts.specs.declared.part.Part.TheVariants as part
use Rattle.cp_log_rules.specs.Durable.{DurableState, first_state, group_in}
use Rattle.cp_log_rules.specs.Recovery.{recovered}

abbrev one : GroupId
one = record { 0 = 1 }

abbrev of_term : ℕ → LogEntry
of_term term = record { term = term; bytes = 0 ∷ [] }

abbrev after : List Part → Option DurableState
after parts = recovered parts (first_state false 3)

abbrev log_after : List Part → Option (List LogEntry)
log_after parts = option_map (λ (s : DurableState). (group_in s 1).log) (after parts)

-- a fresh member has started once, and votes for itself in term 1
numbers : DurableState → List ℕ
numbers s = s.restart ∷ s.format ∷ (group_in s 1).term ∷ (group_in s 1).vote ∷ []

votes : option_map numbers (after (part.Start2 1 ∷ part.State one 1 1 ∷ [])) ≡ Some (1 ∷ 2 ∷ 1 ∷ 1 ∷ [])
unfolding numbers
votes = refl

-- the first members are 1 to 3
members_at_first : option_map (λ (s : DurableState). (group_in s 1).base_config.members) (after []) ≡ Some (1 ∷ 2 ∷ 3 ∷ [])
members_at_first = refl

-- what stands behind the index of an append gives way
cut_back : log_after (part.Append one 1 0 0 (of_term 1 ∷ of_term 1 ∷ []) ∷ part.Append one 2 0 1 (of_term 2 ∷ []) ∷ []) ≡ Some (of_term 1 ∷ of_term 2 ∷ [])
cut_back = refl

-- an append behind the last index is not legal, nor is one of an older term
beyond : after (part.Append one 1 0 1 (of_term 1 ∷ []) ∷ []) ≡ None
beyond = refl

older : after (part.State one 2 0 ∷ part.Append one 1 0 0 (of_term 1 ∷ []) ∷ []) ≡ None
older = refl

-- the bytes of a snapshot, with the term of its index and the first members
abbrev snapshot_of : ℕ → List ℕ
snapshot_of term = 0 ∷ 0 ∷ 0 ∷ 0 ∷ 0 ∷ 0 ∷ 0 ∷ term ∷ 0 ∷ 0 ∷ 0 ∷ 0 ∷ 0 ∷ 0 ∷ 0 ∷ 0 ∷ 0 ∷ 0 ∷ 0 ∷ 0 ∷ 0 ∷ 0 ∷ 0 ∷ 0 ∷ 0 ∷ 0 ∷ 0 ∷ 3 ∷ 1 ∷ 2 ∷ 3 ∷ 9 ∷ []

abbrev three_entries : Part
three_entries = part.Append one 3 0 0 (of_term 1 ∷ of_term 2 ∷ of_term 3 ∷ [])

-- what stands behind a snapshot's index stays where the entry there has its term, and goes where it has another
suffix_stays : log_after (three_entries ∷ part.Snapshot one 3 0 2 (snapshot_of 2) ∷ []) ≡ Some (of_term 3 ∷ [])
unfolding head_of head_grammar config_grammar index members member_after number_reading items_reading
suffix_stays = refl

suffix_goes : log_after (three_entries ∷ part.Snapshot one 3 0 2 (snapshot_of 1) ∷ []) ≡ Some []
unfolding head_of head_grammar config_grammar index members member_after number_reading items_reading
suffix_goes = refl

-- a snapshot's bytes have a head
no_head : after (part.Snapshot one 3 0 2 (0 ∷ []) ∷ []) ≡ None
unfolding head_of head_grammar config_grammar index members member_after number_reading items_reading
no_head = refl

-- starts count up by one, over both formats, and the first format does not come again
both_formats : option_map (λ (s : DurableState). s.restart) (after (part.Start 1 ∷ part.Start2 2 ∷ [])) ≡ Some 2
both_formats = refl

format_back : after (part.Start2 1 ∷ part.Start 2 ∷ []) ≡ None
format_back = refl

start_twice : after (part.Start 1 ∷ part.Start 1 ∷ []) ≡ None
start_twice = refl

-- a group that ended does not begin, also where it never stood
ended_stays : after (part.End (record { 0 = 5 }) ∷ part.Begin (record { 0 = 5 }) (1 ∷ []) ∷ []) ≡ None
ended_stays = refl

votes_no_more : after (part.End one ∷ part.State one 1 1 ∷ []) ≡ None
votes_no_more = refl

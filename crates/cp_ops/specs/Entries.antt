-- An entry of a group's log.
use Rattle.std.specs.Prelude.{ℕ, List, Option, Some, None, codes, ◌++◌, ◌∷◌}
use Rattle.std.specs.Fmt.{decimal}
use Rattle.cp_base.specs.declared.identifier.MemberNo.{MemberNo}
use Rattle.cp_base.specs.declared.identifier.GroupId.{GroupId}
use Rattle.cp_base.specs.declared.identifier.Invocation.{Invocation}
use Rattle.cp_base.specs.declared.limits.TheConstants.{MOST_REFERENCE}
use Rattle.cp_grammar.specs.Grammar.{Grammar, always, keyed, variant, case, no_case, ◌then◌}
use Rattle.cp_grammar.specs.Lists.{listed, each}
use Rattle.cp_grammar.specs.Fields.{byte}
use Rattle.cp_grammar.specs.Common.{index, group_id, member_no, invocation, members}
use Rattle.cp_op_values.specs.Numbers.{any_u64}
use Rattle.cp_op_values.specs.Values.{members_text}
use Rattle.cp_ops.specs.EntryValues.{session_list, hundred, optional_invocation, invocation_text, for_text, pairs_text, waits_text}
use Rattle.cp_ops.specs.declared.op.Op.{Op}
use Rattle.cp_ops.specs.Ops.{op_within, op_text}
use Rattle.cp_ops.specs.declared.entry.Entry.{Entry}
use Rattle.cp_ops.specs.declared.entry.Entry.TheVariants as variants

abbrev pub entry_tag : Entry → ℕ
entry_tag variants.Empty = 0
entry_tag (variants.Call call op) = 1
entry_tag (variants.SessionsExpired sessions) = 2
entry_tag (variants.WaitsExpired waits) = 3
entry_tag (variants.Members call plan list) = 4
entry_tag (variants.Destroy group) = 5
entry_tag (variants.Destroyed group) = 6
entry_tag (variants.Moved group index list) = 7
entry_tag (variants.Left member) = 8

abbrev pub entry_call : Entry → Option (Invocation × Op)
entry_call (variants.Call call op) = Some (call, op)
entry_call _ = None

abbrev pub entry_sessions_expired : Entry → Option (List (ℕ × ℕ))
entry_sessions_expired (variants.SessionsExpired sessions) = Some sessions
entry_sessions_expired _ = None

abbrev pub entry_waits_expired : Entry → Option (List Invocation)
entry_waits_expired (variants.WaitsExpired waits) = Some waits
entry_waits_expired _ = None

abbrev pub entry_members : Entry → Option (Option Invocation × (ℕ × List ℕ))
entry_members (variants.Members call plan list) = Some (call, (plan, list))
entry_members _ = None

abbrev pub entry_destroy : Entry → Option GroupId
entry_destroy (variants.Destroy group) = Some group
entry_destroy _ = None

abbrev pub entry_destroyed : Entry → Option GroupId
entry_destroyed (variants.Destroyed group) = Some group
entry_destroyed _ = None

abbrev pub entry_moved : Entry → Option (GroupId × (ℕ × List ℕ))
entry_moved (variants.Moved group index list) = Some (group, (index, list))
entry_moved _ = None

abbrev pub entry_left : Entry → Option MemberNo
entry_left (variants.Left member) = Some member
entry_left _ = None

unfoldable pub entry_within : ℕ → Grammar ℕ Entry
entry_within most = keyed entry_tag (byte 8)
    (case 0 (always variants.Empty)
    (case 1 (variant (λ p. variants.Call p.0 p.1) entry_call (invocation then (op_within most)))
    (case 2 (variant variants.SessionsExpired entry_sessions_expired session_list)
    (case 3 (variant variants.WaitsExpired entry_waits_expired (listed hundred (each invocation)))
    (case 4 (variant (λ p. variants.Members p.0 p.1.0 p.1.1) entry_members (optional_invocation then any_u64 then members))
    (case 5 (variant variants.Destroy entry_destroy group_id)
    (case 6 (variant variants.Destroyed entry_destroyed group_id)
    (case 7 (variant (λ p. variants.Moved p.0 p.1.0 p.1.1) entry_moved (group_id then index then members))
    (case 8 (variant variants.Left entry_left member_no)
    no_case)))))))))

-- the newest form
abbrev pub entry_grammar : Grammar ℕ Entry
entry_grammar = entry_within MOST_REFERENCE

abbrev pub entry_text : Entry → List ℕ
entry_text variants.Empty = codes "empty"
entry_text (variants.Call call op) = codes "call " ++ invocation_text call ++ 32 ∷ op_text op
entry_text (variants.SessionsExpired sessions) = codes "expire sessions" ++ pairs_text sessions
entry_text (variants.WaitsExpired waits) = codes "expire waits" ++ waits_text waits
entry_text (variants.Members call plan list) = codes "members" ++ members_text list ++ for_text call
entry_text (variants.Destroy group) = codes "destroy " ++ decimal group.0
entry_text (variants.Destroyed group) = codes "destroyed " ++ decimal group.0
entry_text (variants.Moved group index list) = codes "moved " ++ decimal group.0 ++ 32 ∷ decimal index ++ members_text list
entry_text (variants.Left member) = codes "left " ++ decimal member.0

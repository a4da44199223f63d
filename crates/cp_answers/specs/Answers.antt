-- What the state machine of a group answers.
use Rattle.std.specs.Prelude.{ℕ, ℤ, Bool, List, Option, Some, None, codes, true, false, ◌++◌, ◌∷◌}
use Rattle.std.specs.Fmt.{decimal, signed_decimal}
use Rattle.cp_base.specs.declared.identifier.ThreadNo.{ThreadNo}
use Rattle.cp_base.specs.declared.identifier.GroupId.{GroupId}
use Rattle.cp_base.specs.declared.limits.TheConstants.{MOST_REFERENCE}
use Rattle.cp_grammar.specs.Grammar.{Grammar, always, keyed, variant, case, no_case, ◌then◌}
use Rattle.cp_grammar.specs.Fields.{byte, number, signed, flag}
use Rattle.cp_grammar.specs.Common.{index, group_id, thread_no, members}
use Rattle.cp_op_values.specs.Numbers.{any_u32, any_u64, permits}
use Rattle.cp_op_values.specs.Values.{reference, value, reference_text, members_text}
use Rattle.cp_answers.specs.declared.argument.Argument.{Argument}
use Rattle.cp_answers.specs.Arguments.{argument, argument_text}
use Rattle.cp_answers.specs.declared.ended_by.EndedBy.{EndedBy}
use Rattle.cp_answers.specs.EndedBys.{ended_by, ended_by_text}
use Rattle.cp_answers.specs.declared.answer.Answer.{Answer}
use Rattle.cp_answers.specs.declared.answer.Answer.TheVariants as variants

abbrev pub answer_tag : Answer → ℕ
answer_tag variants.Ok = 0
answer_tag (variants.Bool truth) = 1
answer_tag (variants.Value value) = 2
answer_tag (variants.Ref value) = 3
answer_tag (variants.Fence fence) = 4
answer_tag variants.Free = 5
answer_tag (variants.Held session thread holds fence) = 6
answer_tag (variants.Session session) = 7
answer_tag (variants.Group group list) = 8
answer_tag variants.NotOwner = 9
answer_tag (variants.LimitReached limit) = 10
answer_tag variants.OwnershipLost = 11
answer_tag (variants.SessionExpired session) = 12
answer_tag variants.TimedOut = 13
answer_tag (variants.WaitCancelled number) = 14
answer_tag (variants.Stale number) = 15
answer_tag (variants.NotHeld permits) = 16
answer_tag variants.NotInitialized = 17
answer_tag variants.ObjectDestroyed = 18
answer_tag (variants.GroupDestroyed group) = 19
answer_tag (variants.TableFull limit) = 20
answer_tag (variants.BadArgument argument) = 21
answer_tag (variants.Indeterminate cause) = 22

abbrev pub answer_bool : Answer → Option Bool
answer_bool (variants.Bool truth) = Some truth
answer_bool _ = None

abbrev pub answer_value : Answer → Option ℤ
answer_value (variants.Value value) = Some value
answer_value _ = None

abbrev pub answer_ref : Answer → Option (Option (List ℕ))
answer_ref (variants.Ref value) = Some value
answer_ref _ = None

abbrev pub answer_fence : Answer → Option ℕ
answer_fence (variants.Fence fence) = Some fence
answer_fence _ = None

abbrev pub answer_held : Answer → Option (ℕ × (ThreadNo × (ℕ × ℕ)))
answer_held (variants.Held session thread holds fence) = Some (session, (thread, (holds, fence)))
answer_held _ = None

unfoldable pub held_row : Grammar ℕ Answer
held_row = variant (λ p. variants.Held p.0 p.1.0 p.1.1.0 p.1.1.1) answer_held (index then thread_no then any_u32 then index)

abbrev pub answer_session : Answer → Option ℕ
answer_session (variants.Session session) = Some session
answer_session _ = None

abbrev pub answer_group : Answer → Option (GroupId × List ℕ)
answer_group (variants.Group group list) = Some (group, list)
answer_group _ = None

abbrev pub answer_limit_reached : Answer → Option ℕ
answer_limit_reached (variants.LimitReached limit) = Some limit
answer_limit_reached _ = None

abbrev pub answer_session_expired : Answer → Option ℕ
answer_session_expired (variants.SessionExpired session) = Some session
answer_session_expired _ = None

abbrev pub answer_wait_cancelled : Answer → Option ℕ
answer_wait_cancelled (variants.WaitCancelled number) = Some number
answer_wait_cancelled _ = None

abbrev pub answer_stale : Answer → Option ℕ
answer_stale (variants.Stale number) = Some number
answer_stale _ = None

abbrev pub answer_not_held : Answer → Option ℕ
answer_not_held (variants.NotHeld permits) = Some permits
answer_not_held _ = None

abbrev pub answer_group_destroyed : Answer → Option GroupId
answer_group_destroyed (variants.GroupDestroyed group) = Some group
answer_group_destroyed _ = None

abbrev pub answer_table_full : Answer → Option ℕ
answer_table_full (variants.TableFull limit) = Some limit
answer_table_full _ = None

abbrev pub answer_bad_argument : Answer → Option Argument
answer_bad_argument (variants.BadArgument argument) = Some argument
answer_bad_argument _ = None

abbrev pub answer_indeterminate : Answer → Option EndedBy
answer_indeterminate (variants.Indeterminate cause) = Some cause
answer_indeterminate _ = None

unfoldable pub answer_within : ℕ → Grammar ℕ Answer
answer_within most = keyed answer_tag (byte 22)
    (case 0 (always variants.Ok)
    (case 1 (variant variants.Bool answer_bool flag)
    (case 2 (variant variants.Value answer_value signed)
    (case 3 (variant variants.Ref answer_ref (reference most))
    (case 4 (variant variants.Fence answer_fence index)
    (case 5 (always variants.Free)
    (case 6 held_row
    (case 7 (variant variants.Session answer_session index)
    (case 8 (variant (λ p. variants.Group p.0 p.1) answer_group (group_id then members))
    (case 9 (always variants.NotOwner)
    (case 10 (variant variants.LimitReached answer_limit_reached any_u32)
    (case 11 (always variants.OwnershipLost)
    (case 12 (variant variants.SessionExpired answer_session_expired index)
    (case 13 (always variants.TimedOut)
    (case 14 (variant variants.WaitCancelled answer_wait_cancelled index)
    (case 15 (variant variants.Stale answer_stale index)
    (case 16 (variant variants.NotHeld answer_not_held any_u64)
    (case 17 (always variants.NotInitialized)
    (case 18 (always variants.ObjectDestroyed)
    (case 19 (variant variants.GroupDestroyed answer_group_destroyed group_id)
    (case 20 (variant variants.TableFull answer_table_full any_u32)
    (case 21 (variant variants.BadArgument answer_bad_argument argument)
    (case 22 (variant variants.Indeterminate answer_indeterminate ended_by)
    no_case)))))))))))))))))))))))

-- the newest form
abbrev pub answer_grammar : Grammar ℕ Answer
answer_grammar = answer_within MOST_REFERENCE

abbrev pub answer_text : Answer → List ℕ
answer_text variants.Ok = codes "ok"
answer_text (variants.Bool true) = codes "true"
answer_text (variants.Bool false) = codes "false"
answer_text (variants.Value value) = codes "value " ++ signed_decimal value
answer_text (variants.Ref value) = codes "ref " ++ reference_text value
answer_text (variants.Fence fence) = codes "fence " ++ decimal fence
answer_text variants.Free = codes "free"
answer_text (variants.Held session thread holds fence) = codes "held " ++ decimal session ++ 32 ∷ decimal thread.0 ++ 32 ∷ decimal holds ++ 32 ∷ decimal fence
answer_text (variants.Session session) = codes "session " ++ decimal session
answer_text (variants.Group group list) = codes "group " ++ decimal group.0 ++ members_text list
answer_text variants.NotOwner = codes "not-owner"
answer_text (variants.LimitReached limit) = codes "limit-reached " ++ decimal limit
answer_text variants.OwnershipLost = codes "ownership-lost"
answer_text (variants.SessionExpired session) = codes "session-expired " ++ decimal session
answer_text variants.TimedOut = codes "timed-out"
answer_text (variants.WaitCancelled number) = codes "wait-cancelled " ++ decimal number
answer_text (variants.Stale number) = codes "stale " ++ decimal number
answer_text (variants.NotHeld permits) = codes "not-held " ++ decimal permits
answer_text variants.NotInitialized = codes "not-initialized"
answer_text variants.ObjectDestroyed = codes "object-destroyed"
answer_text (variants.GroupDestroyed group) = codes "group-destroyed " ++ decimal group.0
answer_text (variants.TableFull limit) = codes "table-full " ++ decimal limit
answer_text (variants.BadArgument argument) = codes "bad-argument " ++ argument_text argument
answer_text (variants.Indeterminate cause) = codes "indeterminate " ++ ended_by_text cause

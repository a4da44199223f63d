-- The grammars of answers and refusals are lawful.
use Rattle.std.specs.Prelude.{◌<◌, ◌^◌, ℕ}
use Rattle.std.proofs.Common.{refl, arith}
use Rattle.cp_base.specs.declared.limits.TheConstants.{MOST_REFERENCE}
use Rattle.cp_codec.specs.Exact.{IsByte}
use Rattle.cp_grammar.specs.Lawful.{IsLawful}
use Rattle.cp_grammar.specs.Laws.{enum_lawful, with_unit, with_variant, no_cases}
use Rattle.cp_grammar.specs.FieldLaws.{lawful, byte_lawful}
use Rattle.cp_grammar.specs.Grammar.{◌then◌}
use Rattle.cp_grammar.specs.Fields.{byte, signed, flag}
use Rattle.cp_grammar.specs.Common.{index, group_id, thread_no, members}
use Rattle.cp_grammar.specs.CommonLaws.{index_lawful, group_lawful, thread_lawful, members_lawful}
use Rattle.cp_op_values.specs.Numbers.{any_u32, any_u64}
use Rattle.cp_op_values.specs.Values.{reference}
use Rattle.cp_answers.specs.Arguments.{argument}
use Rattle.cp_answers.specs.EndedBys.{ended_by}
use Rattle.cp_answers.specs.declared.answer.Answer.TheVariants as answer_variants
use Rattle.cp_answers.specs.Answers.{answer_within, answer_grammar, held_row, answer_tag, answer_bool, answer_value, answer_ref, answer_fence, answer_held, answer_session, answer_group, answer_limit_reached, answer_session_expired, answer_wait_cancelled, answer_stale, answer_not_held, answer_group_destroyed, answer_table_full, answer_bad_argument, answer_indeterminate}
use Rattle.cp_answers.specs.Refusals.{refusal}
use Rattle.cp_op_values.specs.Laws.{reference_lawful}

pub argument_lawful : IsLawful IsByte argument
unfolding argument
argument_lawful = search lawful depth 14

pub ended_by_lawful : IsLawful IsByte ended_by
unfolding ended_by
ended_by_lawful = search lawful depth 11

pub answer_lawful : (most : ℕ) → most < 2 ^ 32 → IsLawful IsByte (answer_within most)
unfolding answer_within held_row
answer_lawful most below = enum_lawful IsByte (byte 22) answer_tag _ (byte_lawful 22)
    (with_unit IsByte answer_tag 0 answer_variants.Ok _ refl
    (with_variant IsByte answer_tag 1 answer_variants.Bool answer_bool flag _ (search (lawful)) (λ _. refl) (λ _. refl)
    (with_variant IsByte answer_tag 2 answer_variants.Value answer_value signed _ (search (lawful)) (λ _. refl) (λ _. refl)
    (with_variant IsByte answer_tag 3 answer_variants.Ref answer_ref (reference most) _ (reference_lawful most below) (λ _. refl) (λ _. refl)
    (with_variant IsByte answer_tag 4 answer_variants.Fence answer_fence index _ (search (lawful, index_lawful)) (λ _. refl) (λ _. refl)
    (with_unit IsByte answer_tag 5 answer_variants.Free _ refl
    (with_variant IsByte answer_tag 6 (λ p. answer_variants.Held p.0 p.1.0 p.1.1.0 p.1.1.1) answer_held (index then thread_no then any_u32 then index) _ (search (lawful, index_lawful, thread_lawful)) (λ _. refl) (λ _. refl)
    (with_variant IsByte answer_tag 7 answer_variants.Session answer_session index _ (search (lawful, index_lawful)) (λ _. refl) (λ _. refl)
    (with_variant IsByte answer_tag 8 (λ p. answer_variants.Group p.0 p.1) answer_group (group_id then members) _ (search (lawful, group_lawful, members_lawful)) (λ _. refl) (λ _. refl)
    (with_unit IsByte answer_tag 9 answer_variants.NotOwner _ refl
    (with_variant IsByte answer_tag 10 answer_variants.LimitReached answer_limit_reached any_u32 _ (search (lawful)) (λ _. refl) (λ _. refl)
    (with_unit IsByte answer_tag 11 answer_variants.OwnershipLost _ refl
    (with_variant IsByte answer_tag 12 answer_variants.SessionExpired answer_session_expired index _ (search (lawful, index_lawful)) (λ _. refl) (λ _. refl)
    (with_unit IsByte answer_tag 13 answer_variants.TimedOut _ refl
    (with_variant IsByte answer_tag 14 answer_variants.WaitCancelled answer_wait_cancelled index _ (search (lawful, index_lawful)) (λ _. refl) (λ _. refl)
    (with_variant IsByte answer_tag 15 answer_variants.Stale answer_stale index _ (search (lawful, index_lawful)) (λ _. refl) (λ _. refl)
    (with_variant IsByte answer_tag 16 answer_variants.NotHeld answer_not_held any_u64 _ (search (lawful)) (λ _. refl) (λ _. refl)
    (with_unit IsByte answer_tag 17 answer_variants.NotInitialized _ refl
    (with_unit IsByte answer_tag 18 answer_variants.ObjectDestroyed _ refl
    (with_variant IsByte answer_tag 19 answer_variants.GroupDestroyed answer_group_destroyed group_id _ (search (lawful, group_lawful)) (λ _. refl) (λ _. refl)
    (with_variant IsByte answer_tag 20 answer_variants.TableFull answer_table_full any_u32 _ (search (lawful)) (λ _. refl) (λ _. refl)
    (with_variant IsByte answer_tag 21 answer_variants.BadArgument answer_bad_argument argument _ (search (lawful, argument_lawful)) (λ _. refl) (λ _. refl)
    (with_variant IsByte answer_tag 22 answer_variants.Indeterminate answer_indeterminate ended_by _ (search (lawful, ended_by_lawful)) (λ _. refl) (λ _. refl)
    (no_cases IsByte answer_tag))))))))))))))))))))))))

pub answer_newest_lawful : IsLawful IsByte answer_grammar
answer_newest_lawful = answer_lawful MOST_REFERENCE (omega arith)

pub refusal_lawful : IsLawful IsByte refusal
unfolding refusal
refusal_lawful = search (lawful, index_lawful) depth 24 fits 20000

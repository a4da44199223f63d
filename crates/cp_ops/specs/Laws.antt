-- The grammars of operations and entries are lawful.
use Rattle.std.specs.Prelude.{◌<◌, ◌^◌, ℕ}
use Rattle.std.proofs.Common.{refl, arith}
use Rattle.cp_base.specs.declared.limits.TheConstants.{LAST_NUMBER, MOST_REFERENCE}
use Rattle.cp_codec.specs.Exact.{IsByte}
use Rattle.cp_grammar.specs.Lawful.{IsLawful}
use Rattle.cp_grammar.specs.Laws.{enum_lawful, with_unit, with_variant, no_cases, then_lawful}
use Rattle.cp_grammar.specs.FieldLaws.{lawful, byte_lawful, at_least_lawful}
use Rattle.cp_grammar.specs.Grammar.{◌then◌}
use Rattle.cp_grammar.specs.Fields.{byte, at_least}
use Rattle.cp_grammar.specs.Lists.{listed, each}
use Rattle.cp_grammar.specs.Common.{index, name, group_id, member_no, invocation, members}
use Rattle.cp_grammar.specs.CommonLaws.{index_lawful, index_pair_lawful, name_lawful, group_lawful, member_lawful, invocation_lawful, members_lawful}
use Rattle.cp_op_values.specs.Numbers.{any_u64}
use Rattle.cp_op_values.specs.Values.{kind_grammar}
use Rattle.cp_ops.specs.EntryValues.{optional_invocation, hundred, session_list}
use Rattle.cp_object_ops.specs.LongOps.{long_op}
use Rattle.cp_object_ops.specs.RefOps.{ref_op_within}
use Rattle.cp_object_ops.specs.LockOps.{lock_op}
use Rattle.cp_object_ops.specs.SemOps.{sem_op}
use Rattle.cp_object_ops.specs.LatchOps.{latch_op}
use Rattle.cp_object_ops.specs.MapOps.{map_op}
use Rattle.cp_ops.specs.SessionOps.{session_op}
use Rattle.cp_ops.specs.GroupOps.{group_op}
use Rattle.cp_ops.specs.MemberOps.{member_op}
use Rattle.cp_ops.specs.ChangeOps.{change_op}
use Rattle.cp_ops.specs.declared.op.Op.TheVariants as op_variants
use Rattle.cp_ops.specs.Ops.{op_within, op_grammar, op_tag, op_long, op_ref, op_lock, op_sem, op_jsem, op_latch, op_session, op_destroy, op_group, op_member, op_change, op_map}
use Rattle.cp_ops.specs.declared.entry.Entry.TheVariants as entry_variants
use Rattle.cp_ops.specs.Entries.{entry_within, entry_grammar, entry_tag, entry_call, entry_sessions_expired, entry_waits_expired, entry_members, entry_destroy, entry_destroyed, entry_moved, entry_left}
use Rattle.cp_op_values.specs.Laws.{size_lawful, kind_lawful}
use Rattle.cp_object_ops.specs.Laws.{long_op_lawful, ref_op_lawful, lock_op_lawful, sem_op_lawful, latch_op_lawful, map_op_lawful}

pub optional_invocation_lawful : IsLawful IsByte optional_invocation
unfolding optional_invocation
optional_invocation_lawful = search (lawful, invocation_lawful)

pub session_list_lawful : IsLawful IsByte session_list
unfolding session_list
session_list_lawful = search (lawful, index_pair_lawful) depth 12

pub session_op_lawful : IsLawful IsByte session_op
unfolding session_op
session_op_lawful = search (lawful, index_lawful) depth 12

pub group_op_lawful : IsLawful IsByte group_op
unfolding group_op
group_op_lawful = search (lawful, name_lawful, size_lawful) depth 11

pub member_op_lawful : IsLawful IsByte member_op
unfolding member_op
member_op_lawful = search (lawful, member_lawful) depth 11

pub change_op_lawful : IsLawful IsByte change_op
unfolding change_op
change_op_lawful = search (lawful, member_lawful, index_lawful) depth 11

pub op_lawful : (most : ℕ) → most < 2 ^ 32 → IsLawful IsByte (op_within most)
unfolding op_within
op_lawful most below = enum_lawful IsByte (at_least 1 (byte 12)) op_tag _ (at_least_lawful 1 (byte 12) (byte_lawful 12))
    (with_variant IsByte op_tag 1 (λ p. op_variants.Long p.0 p.1) op_long (name then long_op) _ (search (lawful, name_lawful, long_op_lawful)) (λ _. refl) (λ _. refl)
    (with_variant IsByte op_tag 2 (λ p. op_variants.Ref p.0 p.1) op_ref (name then (ref_op_within most)) _ (then_lawful IsByte name name_lawful (ref_op_within most) (ref_op_lawful most below)) (λ _. refl) (λ _. refl)
    (with_variant IsByte op_tag 3 (λ p. op_variants.Lock p.0 p.1) op_lock (name then lock_op) _ (search (lawful, name_lawful, lock_op_lawful)) (λ _. refl) (λ _. refl)
    (with_variant IsByte op_tag 4 (λ p. op_variants.Sem p.0 p.1) op_sem (name then (sem_op LAST_NUMBER)) _ (then_lawful IsByte name name_lawful (sem_op LAST_NUMBER) (sem_op_lawful (2 ^ 62) refl)) (λ _. refl) (λ _. refl)
    (with_variant IsByte op_tag 5 (λ p. op_variants.Jsem p.0 p.1) op_jsem (name then (sem_op 0)) _ (then_lawful IsByte name name_lawful (sem_op 0) (sem_op_lawful 0 refl)) (λ _. refl) (λ _. refl)
    (with_variant IsByte op_tag 6 (λ p. op_variants.Latch p.0 p.1) op_latch (name then latch_op) _ (search (lawful, name_lawful, latch_op_lawful)) (λ _. refl) (λ _. refl)
    (with_variant IsByte op_tag 7 op_variants.Session op_session session_op _ (search (lawful, session_op_lawful)) (λ _. refl) (λ _. refl)
    (with_variant IsByte op_tag 8 (λ p. op_variants.Destroy p.0 p.1) op_destroy (kind_grammar then name) _ (search (lawful, kind_lawful, name_lawful)) (λ _. refl) (λ _. refl)
    (with_variant IsByte op_tag 9 op_variants.Group op_group group_op _ (search (lawful, group_op_lawful)) (λ _. refl) (λ _. refl)
    (with_variant IsByte op_tag 10 op_variants.Member op_member member_op _ (search (lawful, member_op_lawful)) (λ _. refl) (λ _. refl)
    (with_variant IsByte op_tag 11 op_variants.Change op_change change_op _ (search (lawful, change_op_lawful)) (λ _. refl) (λ _. refl)
    (with_variant IsByte op_tag 12 (λ p. op_variants.Map p.0 p.1) op_map (name then map_op) _ (search (lawful, name_lawful, map_op_lawful)) (λ _. refl) (λ _. refl)
    (no_cases IsByte op_tag)))))))))))))

pub op_newest_lawful : IsLawful IsByte op_grammar
op_newest_lawful = op_lawful MOST_REFERENCE (omega arith)

pub entry_lawful : (most : ℕ) → most < 2 ^ 32 → IsLawful IsByte (entry_within most)
unfolding entry_within
entry_lawful most below = enum_lawful IsByte (byte 8) entry_tag _ (byte_lawful 8)
    (with_unit IsByte entry_tag 0 entry_variants.Empty _ refl
    (with_variant IsByte entry_tag 1 (λ p. entry_variants.Call p.0 p.1) entry_call (invocation then (op_within most)) _ (then_lawful IsByte invocation invocation_lawful (op_within most) (op_lawful most below)) (λ _. refl) (λ _. refl)
    (with_variant IsByte entry_tag 2 entry_variants.SessionsExpired entry_sessions_expired session_list _ (search (lawful, session_list_lawful)) (λ _. refl) (λ _. refl)
    (with_variant IsByte entry_tag 3 entry_variants.WaitsExpired entry_waits_expired (listed hundred (each invocation)) _ (search (lawful, invocation_lawful)) (λ _. refl) (λ _. refl)
    (with_variant IsByte entry_tag 4 (λ p. entry_variants.Members p.0 p.1.0 p.1.1) entry_members (optional_invocation then any_u64 then members) _ (search (lawful, optional_invocation_lawful, members_lawful)) (λ _. refl) (λ _. refl)
    (with_variant IsByte entry_tag 5 entry_variants.Destroy entry_destroy group_id _ (search (lawful, group_lawful)) (λ _. refl) (λ _. refl)
    (with_variant IsByte entry_tag 6 entry_variants.Destroyed entry_destroyed group_id _ (search (lawful, group_lawful)) (λ _. refl) (λ _. refl)
    (with_variant IsByte entry_tag 7 (λ p. entry_variants.Moved p.0 p.1.0 p.1.1) entry_moved (group_id then index then members) _ (search (lawful, group_lawful, index_lawful, members_lawful)) (λ _. refl) (λ _. refl)
    (with_variant IsByte entry_tag 8 entry_variants.Left entry_left member_no _ (search (lawful, member_lawful)) (λ _. refl) (λ _. refl)
    (no_cases IsByte entry_tag))))))))))

pub entry_newest_lawful : IsLawful IsByte entry_grammar
entry_newest_lawful = entry_lawful MOST_REFERENCE (omega arith)

-- The grammars of what may be done to objects are lawful.
use Rattle.std.specs.Prelude.{◌≡◌, ◌<◌, ◌-◌, ◌^◌, ℕ, nat_lt, true}
use Rattle.std.proofs.Common.{refl, arith}
use Rattle.cp_codec.specs.Exact.{IsByte}
use Rattle.cp_grammar.specs.Lawful.{IsLawful}
use Rattle.cp_grammar.specs.Laws.{enum_lawful, with_unit, with_variant, no_cases, then_lawful}
use Rattle.cp_grammar.specs.FieldLaws.{lawful, u32_below, u64_below, byte_lawful}
use Rattle.cp_grammar.specs.Grammar.{◌then◌}
use Rattle.cp_grammar.specs.Fields.{byte, number}
use Rattle.std.specs.Int.{w64}
use Rattle.cp_base.specs.declared.limits.TheConstants.{MOST_REFERENCE}
use Rattle.cp_grammar.specs.CommonLaws.{index_lawful}
use Rattle.cp_op_values.specs.Numbers.{permits}
use Rattle.cp_op_values.specs.Values.{reference}
use Rattle.cp_op_values.specs.Wishes.{wish_grammar}
use Rattle.cp_object_ops.specs.LongOps.{long_op}
use Rattle.cp_object_ops.specs.declared.ref_op.RefOp.TheVariants as ref_op_variants
use Rattle.cp_object_ops.specs.RefOps.{ref_op_within, ref_op, ref_op_tag, ref_op_set, ref_op_get_set, ref_op_cas, ref_op_contains}
use Rattle.cp_object_ops.specs.LockOps.{lock_op}
use Rattle.cp_object_ops.specs.declared.sem_op.SemOp.TheVariants as sem_op_variants
use Rattle.cp_object_ops.specs.SemOps.{sem_op, sem_op_tag, sem_op_init, sem_op_acquire, sem_op_release, sem_op_drain, sem_op_increase, sem_op_reduce}
use Rattle.cp_object_ops.specs.LatchOps.{latch_op}
use Rattle.cp_object_ops.specs.MapOps.{map_op}
use Rattle.cp_op_values.specs.Laws.{reference_lawful, key_lawful, value_lawful, wish_lawful}

pub long_op_lawful : IsLawful IsByte long_op
unfolding long_op
long_op_lawful = search lawful depth 15

pub ref_op_lawful : (most : ℕ) → most < 2 ^ 32 → IsLawful IsByte (ref_op_within most)
unfolding ref_op_within
ref_op_lawful most below = enum_lawful IsByte (byte 4) ref_op_tag _ (byte_lawful 4)
    (with_unit IsByte ref_op_tag 0 ref_op_variants.Get _ refl
    (with_variant IsByte ref_op_tag 1 ref_op_variants.Set ref_op_set (reference most) _ (reference_lawful most below) (λ _. refl) (λ _. refl)
    (with_variant IsByte ref_op_tag 2 ref_op_variants.GetSet ref_op_get_set (reference most) _ (reference_lawful most below) (λ _. refl) (λ _. refl)
    (with_variant IsByte ref_op_tag 3 (λ p. ref_op_variants.Cas p.0 p.1) ref_op_cas ((reference most) then (reference most)) _ (then_lawful IsByte (reference most) (reference_lawful most below) (reference most) (reference_lawful most below)) (λ _. refl) (λ _. refl)
    (with_variant IsByte ref_op_tag 4 ref_op_variants.Contains ref_op_contains (reference most) _ (reference_lawful most below) (λ _. refl) (λ _. refl)
    (no_cases IsByte ref_op_tag))))))

pub ref_op_newest_lawful : IsLawful IsByte ref_op
ref_op_newest_lawful = ref_op_lawful MOST_REFERENCE (omega arith)

pub lock_op_lawful : IsLawful IsByte lock_op
unfolding lock_op
lock_op_lawful = search (lawful, index_lawful, wish_lawful) depth 12

pub sem_op_lawful : (most_session : ℕ) → nat_lt most_session (2 ^ 64) ≡ true → IsLawful IsByte (sem_op most_session)
unfolding sem_op
sem_op_lawful most_session below = enum_lawful IsByte (byte 6) sem_op_tag _ (byte_lawful 6)
    (with_unit IsByte sem_op_tag 0 sem_op_variants.Available _ refl
    (with_variant IsByte sem_op_tag 1 sem_op_variants.Init sem_op_init permits _ (search (lawful)) (λ _. refl) (λ _. refl)
    (with_variant IsByte sem_op_tag 2 (λ p. sem_op_variants.Acquire p.0 p.1.0 p.1.1) sem_op_acquire ((number w64 most_session) then permits then wish_grammar) _ (then_lawful IsByte (number w64 most_session) (u64_below most_session below) (permits then wish_grammar) (then_lawful IsByte permits (u32_below (2 ^ 31 - 1) refl) wish_grammar wish_lawful)) (λ _. refl) (λ _. refl)
    (with_variant IsByte sem_op_tag 3 (λ p. sem_op_variants.Release p.0 p.1) sem_op_release ((number w64 most_session) then permits) _ (then_lawful IsByte (number w64 most_session) (u64_below most_session below) permits (u32_below (2 ^ 31 - 1) refl)) (λ _. refl) (λ _. refl)
    (with_variant IsByte sem_op_tag 4 sem_op_variants.Drain sem_op_drain (number w64 most_session) _ (u64_below most_session below) (λ _. refl) (λ _. refl)
    (with_variant IsByte sem_op_tag 5 (λ p. sem_op_variants.Increase p.0 p.1) sem_op_increase ((number w64 most_session) then permits) _ (then_lawful IsByte (number w64 most_session) (u64_below most_session below) permits (u32_below (2 ^ 31 - 1) refl)) (λ _. refl) (λ _. refl)
    (with_variant IsByte sem_op_tag 6 (λ p. sem_op_variants.Reduce p.0 p.1) sem_op_reduce ((number w64 most_session) then permits) _ (then_lawful IsByte (number w64 most_session) (u64_below most_session below) permits (u32_below (2 ^ 31 - 1) refl)) (λ _. refl) (λ _. refl)
    (no_cases IsByte sem_op_tag))))))))

pub latch_op_lawful : IsLawful IsByte latch_op
unfolding latch_op
latch_op_lawful = search (lawful, index_lawful) depth 14

pub map_op_lawful : IsLawful IsByte map_op
unfolding map_op
map_op_lawful = search (lawful, key_lawful, value_lawful) depth 16

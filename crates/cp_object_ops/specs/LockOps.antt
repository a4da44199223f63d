-- What may be done to a lock. Whoever acquires or releases names a session.
use Rattle.std.specs.Prelude.{ℕ, List, Option, Some, None, codes, ◌++◌, ◌∷◌}
use Rattle.std.specs.Fmt.{decimal}
use Rattle.cp_grammar.specs.Grammar.{Grammar, always, keyed, variant, case, no_case, ◌then◌}
use Rattle.cp_grammar.specs.Fields.{byte}
use Rattle.cp_grammar.specs.Common.{index}
use Rattle.cp_op_values.specs.Numbers.{any_u32}
use Rattle.cp_op_values.specs.declared.wish.Wish.{Wish}
use Rattle.cp_op_values.specs.Wishes.{wish_grammar, wish_text}
use Rattle.cp_object_ops.specs.declared.lock_op.LockOp.{LockOp}
use Rattle.cp_object_ops.specs.declared.lock_op.LockOp.TheVariants as variants

abbrev pub lock_op_tag : LockOp → ℕ
lock_op_tag variants.Owner = 0
lock_op_tag (variants.Acquire session limit wish) = 1
lock_op_tag (variants.Release session) = 2

abbrev pub lock_op_acquire : LockOp → Option (ℕ × (ℕ × Wish))
lock_op_acquire (variants.Acquire session limit wish) = Some (session, (limit, wish))
lock_op_acquire _ = None

abbrev pub lock_op_release : LockOp → Option ℕ
lock_op_release (variants.Release session) = Some session
lock_op_release _ = None

unfoldable pub lock_op : Grammar ℕ LockOp
lock_op = keyed lock_op_tag (byte 2)
    (case 0 (always variants.Owner)
    (case 1 (variant (λ p. variants.Acquire p.0 p.1.0 p.1.1) lock_op_acquire (index then any_u32 then wish_grammar))
    (case 2 (variant variants.Release lock_op_release index)
    no_case)))

abbrev pub lock_op_text : LockOp → List ℕ
lock_op_text variants.Owner = codes "owner"
lock_op_text (variants.Acquire session limit wish) = codes "acquire " ++ decimal session ++ 32 ∷ decimal limit ++ 32 ∷ wish_text wish
lock_op_text (variants.Release session) = codes "release " ++ decimal session

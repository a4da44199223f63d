-- What may be done to a semaphore, with or without sessions. Without, the session is 0.
use Rattle.std.specs.Prelude.{ℕ, List, Option, Some, None, codes, ◌++◌, ◌∷◌}
use Rattle.std.specs.Fmt.{decimal}
use Rattle.std.specs.Int.{w64}
use Rattle.cp_grammar.specs.Grammar.{Grammar, always, keyed, variant, case, no_case, ◌then◌}
use Rattle.cp_grammar.specs.Fields.{byte, number}
use Rattle.cp_op_values.specs.Numbers.{permits}
use Rattle.cp_op_values.specs.declared.wish.Wish.{Wish}
use Rattle.cp_op_values.specs.Wishes.{wish_grammar, wish_text}
use Rattle.cp_object_ops.specs.declared.sem_op.SemOp.{SemOp}
use Rattle.cp_object_ops.specs.declared.sem_op.SemOp.TheVariants as variants

abbrev pub sem_op_tag : SemOp → ℕ
sem_op_tag variants.Available = 0
sem_op_tag (variants.Init permits) = 1
sem_op_tag (variants.Acquire session permits wish) = 2
sem_op_tag (variants.Release session permits) = 3
sem_op_tag (variants.Drain session) = 4
sem_op_tag (variants.Increase session permits) = 5
sem_op_tag (variants.Reduce session permits) = 6

abbrev pub sem_op_init : SemOp → Option ℕ
sem_op_init (variants.Init permits) = Some permits
sem_op_init _ = None

abbrev pub sem_op_acquire : SemOp → Option (ℕ × (ℕ × Wish))
sem_op_acquire (variants.Acquire session permits wish) = Some (session, (permits, wish))
sem_op_acquire _ = None

abbrev pub sem_op_release : SemOp → Option (ℕ × ℕ)
sem_op_release (variants.Release session permits) = Some (session, permits)
sem_op_release _ = None

abbrev pub sem_op_drain : SemOp → Option ℕ
sem_op_drain (variants.Drain session) = Some session
sem_op_drain _ = None

abbrev pub sem_op_increase : SemOp → Option (ℕ × ℕ)
sem_op_increase (variants.Increase session permits) = Some (session, permits)
sem_op_increase _ = None

abbrev pub sem_op_reduce : SemOp → Option (ℕ × ℕ)
sem_op_reduce (variants.Reduce session permits) = Some (session, permits)
sem_op_reduce _ = None

unfoldable pub sem_op : ℕ → Grammar ℕ SemOp
sem_op most_session = keyed sem_op_tag (byte 6)
    (case 0 (always variants.Available)
    (case 1 (variant variants.Init sem_op_init permits)
    (case 2 (variant (λ p. variants.Acquire p.0 p.1.0 p.1.1) sem_op_acquire ((number w64 most_session) then permits then wish_grammar))
    (case 3 (variant (λ p. variants.Release p.0 p.1) sem_op_release ((number w64 most_session) then permits))
    (case 4 (variant variants.Drain sem_op_drain (number w64 most_session))
    (case 5 (variant (λ p. variants.Increase p.0 p.1) sem_op_increase ((number w64 most_session) then permits))
    (case 6 (variant (λ p. variants.Reduce p.0 p.1) sem_op_reduce ((number w64 most_session) then permits))
    no_case)))))))

abbrev pub sem_op_text : SemOp → List ℕ
sem_op_text variants.Available = codes "available"
sem_op_text (variants.Init permits) = codes "init " ++ decimal permits
sem_op_text (variants.Acquire session permits wish) = codes "acquire " ++ decimal session ++ 32 ∷ decimal permits ++ 32 ∷ wish_text wish
sem_op_text (variants.Release session permits) = codes "release " ++ decimal session ++ 32 ∷ decimal permits
sem_op_text (variants.Drain session) = codes "drain " ++ decimal session
sem_op_text (variants.Increase session permits) = codes "increase " ++ decimal session ++ 32 ∷ decimal permits
sem_op_text (variants.Reduce session permits) = codes "reduce " ++ decimal session ++ 32 ∷ decimal permits

-- Groups are made and destroyed.
use Rattle.std.specs.Prelude.{ℕ, List, [], ◌∷◌, map, codes, Some}
use Rattle.cp_object_ops.specs.declared.long_op.LongOp.TheVariants as long
use Rattle.cp_ops.specs.declared.session_op.SessionOp.TheVariants as session
use Rattle.cp_ops.specs.declared.op.Op.TheVariants as op
use Rattle.cp_ops.specs.declared.entry.Entry.TheVariants as entry
use Rattle.cp_answers.specs.declared.answer.Answer.TheVariants as answer
use Rattle.cp_answers.specs.declared.argument.Argument.TheVariants as argument
use Rattle.cp_meta_state.specs.MetaState.{MetaState, numbers, first_state, new_group}
use Rattle.cp_meta_state.specs.Worked.{Line, caller, quiet, create, destroy, destroyed, leave, left, group, a, b, c, d, g}

-- Three members, size 1. Each group goes to the member of least load, and a name that is taken gives its group.
abbrev pub makes_groups : List Line
makes_groups =
    create a 1 (group 2 (2 ∷ []))
    ∷ create b 1 (group 3 (3 ∷ []))
    ∷ create c 1 (group 4 (1 ∷ []))
    ∷ create d 5 (answer.BadArgument argument.Size)
    ∷ create a 1 (group 2 (2 ∷ []))
    ∷ destroy (codes "default") (answer.BadArgument argument.Group)
    ∷ []

-- Three members, size 1. A name that is being destroyed stays taken until its group has ended; then it is that of another group.
abbrev pub makes_anew : List Line
makes_anew =
    create g 2 (group 2 (2 ∷ 3 ∷ []))
    ∷ destroyed 2
    ∷ destroy g answer.Ok
    ∷ destroy g (answer.BadArgument argument.Group)
    ∷ create g 1 (answer.GroupDestroyed (record { 0 = 2 }))
    ∷ destroyed 2
    ∷ destroyed 2
    ∷ create g 3 (group 9 (1 ∷ 2 ∷ 3 ∷ []))
    ∷ destroy (codes "METADATA") (answer.BadArgument argument.Group)
    ∷ []

-- Two members, size 1. A group that is being destroyed moves too, and its member is out once it has ended.
abbrev pub leaves_while_destroying : List Line
leaves_while_destroying =
    create g 1 (group 2 (2 ∷ []))
    ∷ destroy g answer.Ok
    ∷ leave 2 answer.Ok
    ∷ left 2
    ∷ []

abbrev pub leaves_at_last : List Line
leaves_at_last = destroyed 2 ∷ left 2 ∷ []

-- Three members, size 1. Entries of other groups do nothing and are not answered, and the number of a group is the index of its entry.
abbrev pub does_nothing_else : List Line
does_nothing_else =
    quiet (entry.Call caller (op.Session session.Open))
    ∷ quiet entry.Empty
    ∷ quiet (entry.Call caller (op.Long a long.Get))
    ∷ create a 2 (group 5 (2 ∷ 3 ∷ []))
    ∷ quiet (entry.Destroy (record { 0 = 5 }))
    ∷ quiet (entry.Members (Some caller) 0 (1 ∷ 2 ∷ []))
    ∷ create a 9 (group 5 (2 ∷ 3 ∷ []))
    ∷ []

-- a state with as many groups, whose names are single bytes
abbrev pub with_groups : ℕ → MetaState
with_groups n = record (first_state 3 1) { groups = map (λ i. (i, new_group (i ∷ []) (1 ∷ []))) (numbers n 0) }

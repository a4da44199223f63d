-- Members leave and join.
use Rattle.std.specs.Prelude.{List, [], ◌∷◌}
use Rattle.cp_answers.specs.declared.answer.Answer.TheVariants as answer
use Rattle.cp_answers.specs.declared.argument.Argument.TheVariants as argument
use Rattle.cp_meta_state.specs.Worked.{Line, create, destroy, leave, join, moved, left, group, bad_leaving, a, b, c, g}

-- Three members, size 1: a member leaves, its groups move to another, and it joins again.
abbrev pub leaves : List Line
leaves = create g 1 (group 2 (2 ∷ [])) ∷ leave 1 answer.Ok ∷ []

abbrev pub moves : List Line
moves = leave 2 bad_leaving ∷ moved 0 9 (3 ∷ []) ∷ moved 1 4 (3 ∷ []) ∷ []

abbrev pub joins : List Line
joins = left 1 ∷ join 1 answer.Ok ∷ []

-- Two members, size 1. Who joins takes over one group of three, and no member leaves or joins while the move stands.
abbrev pub takes_one : List Line
takes_one =
    leave 2 answer.Ok
    ∷ left 2
    ∷ create a 1 (group 4 (1 ∷ []))
    ∷ create b 1 (group 5 (1 ∷ []))
    ∷ join 2 answer.Ok
    ∷ join 2 bad_leaving
    ∷ []

-- Two members, size 1. Of four groups the one who joins takes over two, and a configuration not above the plan ends no move.
abbrev pub takes_two : List Line
takes_two =
    leave 2 answer.Ok
    ∷ left 2
    ∷ create a 1 (group 4 (1 ∷ []))
    ∷ create b 1 (group 5 (1 ∷ []))
    ∷ create c 1 (group 6 (1 ∷ []))
    ∷ join 2 answer.Ok
    ∷ moved 4 0 (2 ∷ [])
    ∷ moved 1 7 (2 ∷ [])
    ∷ []

-- Three members, size 1. Member 1 is out while two of its groups are being destroyed: they still count for it, so that
-- member 3, who joins, is to take over one of them.
abbrev pub takes_from_one_out : List Line
takes_from_one_out =
    leave 3 answer.Ok ∷ left 3 ∷ leave 2 answer.Ok ∷ left 2
    ∷ create a 1 (group 6 (1 ∷ [])) ∷ create b 1 (group 7 (1 ∷ []))
    ∷ join 2 answer.Ok ∷ moved 1 5 (2 ∷ [])
    ∷ leave 1 answer.Ok ∷ moved 0 5 (2 ∷ [])
    ∷ destroy a answer.Ok ∷ destroy b answer.Ok ∷ left 1
    ∷ join 3 answer.Ok
    ∷ []

-- Three members, size 1. Each move of a leave counts for the groups after it.
abbrev pub leaves_two_groups : List Line
leaves_two_groups = create a 1 (group 2 (2 ∷ [])) ∷ create b 1 (group 3 (3 ∷ [])) ∷ create c 1 (group 4 (1 ∷ [])) ∷ leave 1 answer.Ok ∷ []

-- Three members, size 1. A member that leaves gets no new group, a configuration that isn't above the plan ends no move, and the
-- member is out only once no move stands.
abbrev pub makes_while_leaving : List Line
makes_while_leaving =
    leave 1 answer.Ok
    ∷ create a 3 (answer.BadArgument argument.Size)
    ∷ create a 2 (group 4 (2 ∷ 3 ∷ []))
    ∷ create b 1 (group 5 (3 ∷ []))
    ∷ join 1 bad_leaving
    ∷ left 1
    ∷ moved 0 5 (2 ∷ [])
    ∷ moved 1 0 (2 ∷ [])
    ∷ left 1
    ∷ []

abbrev pub leaves_after_moves : List Line
leaves_after_moves = moved 1 4 (2 ∷ []) ∷ left 1 ∷ create c 3 (answer.BadArgument argument.Size) ∷ []

-- One member, size 1: the last active one stays.
abbrev pub last_stays : List Line
last_stays = leave 1 (answer.BadArgument argument.Size) ∷ join 1 (answer.BadArgument argument.Member) ∷ leave 2 (answer.BadArgument argument.Member) ∷ []

-- Three members, size 3. Nobody is outside, so the groups get smaller, and no join makes them bigger again.
abbrev pub gets_smaller : List Line
gets_smaller =
    leave 1 answer.Ok
    ∷ moved 0 5 (2 ∷ 3 ∷ [])
    ∷ moved 1 6 (2 ∷ 3 ∷ [])
    ∷ left 1
    ∷ join 1 answer.Ok
    ∷ []

-- Members leave: their groups move to others, and then they are out.
use Rattle.std.specs.Prelude.{ℕ, Bool, not, ◌&&◌, ◌||◌, ◌==◌, List, length, if◌then◌else◌, slice_index}
use Rattle.std.specs.List.{filter, fold}
use Rattle.std.specs.Ordering.{nat_cmp}
use Rattle.cp_answers.specs.declared.answer.Answer.TheVariants as answer
use Rattle.cp_answers.specs.declared.argument.Argument.TheVariants as argument
use Rattle.cp_group_state.specs.Rows.{put}
use Rattle.cp_meta_state.specs.declared.rows.Standing.TheVariants as standing
use Rattle.cp_meta_state.specs.MetaState.{MetaState, Groups, Moves, GroupRow, is_in, is_leaving, those, active, with_standing, with_moves}
use Rattle.cp_meta_state.specs.Loads.{loaded, lightest}
use Rattle.cp_meta_state.specs.Says.{Says, says, bad}

abbrev pub moves_stand : MetaState → Bool
moves_stand s = not (length s.moves == 0)

-- moves stand, or a member is leaving
abbrev pub is_unsettled : MetaState → Bool
is_unsettled s = moves_stand s || not (length (those is_leaving s.members) == 0)

-- the members of some that are not in a group
abbrev pub outside : List ℕ → List ℕ → List ℕ
outside members some = filter (λ m. not (is_in members m)) some

-- of some members the one of least load outside a group of these members, or 0 where there is none
abbrev pub one_for : List ℕ → Groups → Moves → List ℕ → ℕ
one_for members groups moves some = slice_index (lightest 1 (loaded groups moves (outside members some))) 0

-- A group with the member gets a move to one of the others, which counts for the groups after it.
abbrev pub move_away : ℕ → Groups → List ℕ → Moves → ℕ × GroupRow → Moves
move_away m groups others moves e = if is_in e.1.members m
    then put nat_cmp moves e.0 (record { plan = e.1.index; add = one_for e.1.members groups moves others; remove = m })
    else moves

-- the groups with the member get moves, by number
abbrev pub moves_away : ℕ → Groups → List ℕ → Moves → Moves
moves_away m groups others moves = fold (move_away m groups others) moves groups

-- the member leaves
abbrev pub leaving : ℕ → MetaState → MetaState
leaving m s = let t = with_standing m standing.Leaving s in with_moves t (moves_away m s.groups (active t) s.moves)

abbrev pub leave : ℕ → MetaState → Says
leave m s = if is_unsettled s then bad argument.Leaving s
    else if not (is_in (active s) m) then bad argument.Member s
    else if length (active s) == 1 then bad argument.Size s
    else says answer.Ok (leaving m s)

-- what the entry `left` does
abbrev pub end_leaving : ℕ → MetaState → MetaState
end_leaving m s = if is_in (those is_leaving s.members) m && not (moves_stand s) then with_standing m standing.Out s else s

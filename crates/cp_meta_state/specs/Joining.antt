-- Members join again, and take over groups of those that have many.
use Rattle.std.specs.Prelude.{ℕ, zero, suc, ◌+◌, Bool, not, ◌&&◌, ◌==◌, List, length, Option, Some, None, is_none, if◌then◌else◌, nat_lt}
use Rattle.std.specs.List.{find}
use Rattle.std.specs.Map.{keys_of}
use Rattle.std.specs.Ordering.{nat_cmp}
use Rattle.cp_answers.specs.declared.answer.Answer.TheVariants as answer
use Rattle.cp_answers.specs.declared.argument.Argument.TheVariants as argument
use Rattle.cp_group_state.specs.Rows.{put}
use Rattle.cp_meta_state.specs.declared.rows.Standing.TheVariants as standing
use Rattle.cp_meta_state.specs.MetaState.{MetaState, Groups, Moves, GroupRow, move_of, is_in, is_out, those, with_standing, with_moves}
use Rattle.cp_meta_state.specs.Loads.{load, loaded, heaviest}
use Rattle.cp_meta_state.specs.Leaving.{is_unsettled}
use Rattle.cp_meta_state.specs.Says.{Says, says, bad}

-- not METADATA, with the one and without the other, and no move stands
abbrev pub can_move : ℕ → ℕ → Moves → ℕ × GroupRow → Bool
can_move from to moves e = not (e.0 == 0) && (is_in e.1.members from && (not (is_in e.1.members to) && is_none (move_of moves e.0)))

-- the member of greatest load, with its load
abbrev pub giver : List ℕ → Groups → Moves → ℕ × ℕ
giver members groups moves = heaviest (loaded groups moves members)

-- The next group that is moved to a member: the lowest of the giver, where that has two more or above.
abbrev pub next_for : ℕ → ℕ × ℕ → Groups → Moves → Option (ℕ × GroupRow)
next_for m from groups moves = if nat_lt (load groups moves m + 1) from.1 then find (can_move from.0 m moves) groups else None

-- a move of the group to the member, before the rest
abbrev pub take_next : ℕ → ℕ → Option (ℕ × GroupRow) → (Moves → Moves) → Moves → Moves
take_next m from None rest moves = moves
take_next m from (Some e) rest moves = rest (put nat_cmp moves e.0 (record { plan = e.1.index; add = m; remove = from }))

-- Groups are moved to the member, at most so many.
abbrev pub take_over : ℕ → ℕ → List ℕ → Groups → Moves → Moves
take_over zero m members groups moves = moves
take_over (suc n) m members groups moves = let from = giver members groups moves in
    take_next m from.0 (next_for m from groups moves) (take_over n m members groups) moves

-- The member joins. Each group gets at most one move, so there are as many turns as groups.
abbrev pub joining : ℕ → MetaState → MetaState
joining m s = let t = with_standing m standing.Active s in with_moves t (take_over (length s.groups) m (keys_of t.members) s.groups s.moves)

abbrev pub join : ℕ → MetaState → Says
join m s = if is_unsettled s then bad argument.Leaving s
    else if not (is_in (those is_out s.members) m) then bad argument.Member s
    else says answer.Ok (joining m s)

-- The loads of members.
use Rattle.std.specs.Prelude.{ℕ, Bool, not, ◌&&◌, ◌||◌, ◌==◌, List, length, map, Option, Some, None, nat_lt, unwrap_or}
use Rattle.std.specs.List.{filter, find, list_any}
use Rattle.std.specs.Map.{keys_of}
use Rattle.cp_meta_state.specs.MetaState.{Groups, Moves, GroupRow, MoveRow, move_of, is_in}

-- whether a member is in a group of these members once its move is done
abbrev pub will_be_in : Option MoveRow → List ℕ → ℕ → Bool
will_be_in None members m = is_in members m
will_be_in (Some move) members m = not (m == move.remove) && (m == move.add || is_in members m)

-- METADATA counts for nobody
abbrev pub counts_for : Moves → ℕ → ℕ × GroupRow → Bool
counts_for moves m e = not (e.0 == 0) && will_be_in (move_of moves e.0) e.1.members m

-- In how many groups a member is, where each move that stands counts as done.
abbrev pub load : Groups → Moves → ℕ → ℕ
load groups moves m = length (filter (counts_for moves m) groups)

-- members with their loads
abbrev pub loaded : Groups → Moves → List ℕ → List (ℕ × ℕ)
loaded groups moves members = map (λ m. (m, load groups moves m)) members

-- the one of less load comes first, and of one load the lower number
abbrev pub is_before : ℕ × ℕ → ℕ × ℕ → Bool
is_before a b = nat_lt a.1 b.1 || (a.1 == b.1 && nat_lt a.0 b.0)

-- as many of these members as have the least load, by number
abbrev pub lightest : ℕ → List (ℕ × ℕ) → List ℕ
lightest size members = keys_of (filter (λ m. nat_lt (length (filter (λ a. is_before a m) members)) size) members)

-- the lowest of the members that have the greatest load
abbrev pub heaviest : List (ℕ × ℕ) → ℕ × ℕ
heaviest members = unwrap_or (find (λ m. not (list_any (λ a. nat_lt m.1 a.1) members)) members) (0, 0)

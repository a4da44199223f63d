-- What every change of the state keeps is kept by every entry.
use Rattle.std.proofs.Common.{◌≡◌, ℕ, zero, suc, ◌+◌, Bool, true, false, ◌⊎◌, inl, inr, not, List, [], ◌∷◌, Some, None, Option, refl, ap, arith}
use Rattle.std.specs.Prelude.{◌==◌, ◌&&◌, ◌||◌, nat_lt, length, is_some, slice_index, map, unwrap_or}
use Rattle.std.specs.List as list
use Rattle.std.specs.List.{filter, AllByRecursion}
use Rattle.std.specs.Map.{keys_of}
use Rattle.std.specs.Ordering.{nat_cmp}
use Rattle.std.proofs.lemmas.Bool.Decides.{nat_tests}
use Rattle.cp_base.proofs.Tests.{no_true, first_true}
use Rattle.cp_base.specs.declared.identifier.GroupId.{GroupId}
use Rattle.cp_base.specs.declared.identifier.Invocation.{Invocation}
use Rattle.cp_ops.specs.declared.group_op.GroupOp.TheVariants as group_op
use Rattle.cp_ops.specs.declared.member_op.MemberOp.TheVariants as member_op
use Rattle.cp_ops.specs.declared.op.Op.{Op}
use Rattle.cp_ops.specs.declared.op.Op.TheVariants as op
use Rattle.cp_ops.specs.declared.entry.Entry.{Entry}
use Rattle.cp_ops.specs.declared.entry.Entry.TheVariants as entry
use Rattle.cp_group_state.specs.Rows.{find, put}
use Rattle.cp_group_state.proofs.Walk.{cases, either}
use Rattle.cp_meta_state.specs.declared.rows.TheConstants.{MOST_GROUPS, MOST_DESTROYED}
use Rattle.cp_meta_state.specs.declared.rows.Standing.TheVariants as standing
use Rattle.cp_meta_state.specs.MetaState.{MetaState, Standing, Standings, Groups, Moves, GroupRow, MoveRow, group_at, move_of, is_in, is_active, is_leaving, is_out, those, active, with_standing, with_moves}
use Rattle.cp_meta_state.specs.Loads.{load, loaded, lightest, heaviest, is_before}
use Rattle.cp_meta_state.specs.Says.{Says}
use Rattle.cp_meta_state.specs.Creating.{named, made, chosen, create_by, create}
use Rattle.cp_meta_state.specs.Destroying.{is_fixed, given_up, begun, destroy_by, destroy, end_row, end_by, end_group}
use Rattle.cp_meta_state.specs.Leaving.{moves_stand, is_unsettled, outside, one_for, move_away, moves_away, leaving, leave, end_leaving}
use Rattle.cp_meta_state.specs.Joining.{giver, next_for, can_move, take_over, take_next, joining, join}
use Rattle.cp_meta_state.specs.Moving.{settled, move_by, end_move}
use Rattle.cp_meta_state.specs.Apply.{apply, apply_call}
use Rattle.cp_meta_state.proofs.Among.{Among, AmongIf, each-among, each-filter, all-among, found-among, each-key, key-each, each-in}

-- What holds before the entry `e` of an index, what holds after it, which numbers members have; and that each change keeps the latter.
pub record Kept (i : ℕ) (e : Entry) (P Q : MetaState → Type 0) (R : ℕ → Type 0) : Type 0 where
  pub later : (s : MetaState) → P s → Q s
  pub numbered : (s : MetaState) → Q s → AllByRecursion R (keys_of s.members)
  pub stands : (s : MetaState) (m : ℕ) (how : Standing) → R m → Q s → Q (with_standing m how s)
  pub moves : (s : MetaState) (g : ℕ × GroupRow) (add remove : ℕ) → Among g s.groups → (add ≡ 0) ⊎ R add → R remove → Q s → Q (with_moves s (put nat_cmp s.moves g.0 (record { plan = g.1.index; add = add; remove = remove })))
  pub makes : (s : MetaState) (call : Invocation) (name : List ℕ) (size : ℕ) → e ≡ entry.Call call (op.Group (group_op.Create name size)) → nat_lt (length (active s)) size ≡ false → nat_lt (length s.groups) MOST_GROUPS ≡ true → P s → Q (made i name (chosen size s) s)
  pub begins : (s : MetaState) (g : ℕ × GroupRow) → Among g s.groups → nat_lt (given_up s) MOST_DESTROYED ≡ true → Q s → Q (begun g.0 g.1 s)
  pub ends : (s : MetaState) (group : ℕ) (row : GroupRow) → group_at s group ≡ Some row → row.destroying ≡ true → Q s → Q (end_row group s)
  pub settles : (s : MetaState) (group : GroupId) (at : ℕ) (members : List ℕ) → e ≡ entry.Moved group at members → Q s → Q (settled group.0 at members s)

-- the keys of members with their loads are the members
pub keys-loaded : (groups : Groups) (moves : Moves) (ms : List ℕ) → keys_of (loaded groups moves ms) ≡ ms
keys-loaded groups moves [] = refl
keys-loaded groups moves (m ∷ ms) = ap (λ (r : List ℕ). m ∷ r) (keys-loaded groups moves ms)

pub each-loaded : (R : ℕ → Type 0) (groups : Groups) (moves : Moves) (ms : List ℕ) → AllByRecursion R ms → AllByRecursion (λ (p : ℕ × ℕ). R p.0) (loaded groups moves ms)
each-loaded R groups moves [] h = tt
each-loaded R groups moves (m ∷ ms) h = (h.0, each-loaded R groups moves ms h.1)

pub each-lightest : (R : ℕ → Type 0) (size : ℕ) (groups : Groups) (moves : Moves) (ms : List ℕ) → AllByRecursion R ms → AllByRecursion R (lightest size (loaded groups moves ms))
each-lightest R size groups moves ms h = each-key R _ (each-filter (λ (p : ℕ × ℕ). R p.0) (λ m. nat_lt (length (filter (λ a. is_before a m) (loaded groups moves ms))) size) (loaded groups moves ms) (each-loaded R groups moves ms h))

pub each-those : (R : ℕ → Type 0) (test : Standing → Bool) (members : Standings) → AllByRecursion R (keys_of members) → AllByRecursion R (those test members)
each-those R test members h = each-key R _ (each-filter (λ (e : ℕ × Standing). R e.0) (λ e. test e.1) members (key-each R members h))

first-or : (R : ℕ → Type 0) (ms : List ℕ) → AllByRecursion R ms → (slice_index ms 0 ≡ 0) ⊎ R (slice_index ms 0)
first-or R [] h = inl refl
first-or R (m ∷ ms) h = inr h.0

pub one-for : (R : ℕ → Type 0) (members : List ℕ) (groups : Groups) (moves : Moves) (some : List ℕ) → AllByRecursion R some → (one_for members groups moves some ≡ 0) ⊎ R (one_for members groups moves some)
one-for R members groups moves some h = first-or R _ (each-lightest R 1 groups moves (outside members some) (each-filter R (λ m. not (is_in members m)) some h))

not_false : (b : Bool) → not b ≡ false → b ≡ true
not_false true h = refl
not_false false h = absurd (no_true h)

module _ (i : ℕ) (e : Entry) (P Q : MetaState → Type 0) (R : ℕ → Type 0) (k : Kept i e P Q R) where
  walk-create : (call : Invocation) (name : List ℕ) (size : ℕ) (s : MetaState) → e ≡ entry.Call call (op.Group (group_op.Create name size)) → P s → Q (create i name size s).state
  walk-create call name size s is p = by (named s.groups name) where
    by : (o : Option (ℕ × GroupRow)) → Q (create_by o i name size s).state
    by None = cases (λ (r : Says). Q r.state) (nat_lt (length (active s)) size) _ _ (λ few. k.later s p)
        (λ enough. cases (λ (r : Says). Q r.state) (nat_lt (length s.groups) MOST_GROUPS) _ _ (λ room. k.makes s call name size is enough room p) (λ full. k.later s p))
    by (Some g) = k.later s p

  walk-destroy : (name : List ℕ) (s : MetaState) → Q s → Q (destroy name s).state
  walk-destroy name s q = by (named s.groups name) (found-among _ s.groups) where
    by : (o : Option (ℕ × GroupRow)) → AmongIf o s.groups → Q (destroy_by o s).state
    by None h = q
    by (Some g) h = either (λ (r : Says). Q r.state) (g.1.destroying || is_fixed g.1.name) _ _ q (cases (λ (r : Says). Q r.state) (nat_lt (given_up s) MOST_DESTROYED) _ _ (λ room. k.begins s g h room q) (λ full. q))

  walk-end : (group : ℕ) (s : MetaState) → Q s → Q (end_group group s)
  walk-end group s q = by (group_at s group) refl where
    by : (o : Option GroupRow) → group_at s group ≡ o → Q (end_by o group s)
    by None h = q
    by (Some row) h = cases Q row.destroying _ _ (λ going. k.ends s group row h going q) (λ stays. q)

  walk-away : (m : ℕ) (others : List ℕ) (s : MetaState) (es : Groups) (moves : Moves) → AllByRecursion R others → R m → AllByRecursion (λ (g : ℕ × GroupRow). Among g s.groups) es → Q (with_moves s moves) → Q (with_moves s (list.fold (move_away m s.groups others) moves es))
  walk-away m others s [] moves all r h q = q
  walk-away m others s (g ∷ es) moves all r h q = walk-away m others s es (move_away m s.groups others moves g) all r h.1
      (either (λ (t : Moves). Q (with_moves s t)) (is_in g.1.members m) _ _ (k.moves (with_moves s moves) g (one_for g.1.members s.groups moves others) m h.0 (one-for R g.1.members s.groups moves others all) r q) q)

  walk-leave : (m : ℕ) (s : MetaState) → Q s → Q (leave m s).state
  walk-leave m s q = either (λ (r : Says). Q r.state) (is_unsettled s) _ _ q
      (cases (λ (r : Says). Q r.state) (not (is_in (active s) m)) _ _ (λ no. q)
      (λ yes. either (λ (r : Says). Q r.state) (length (active s) == 1) _ _ q
      (let r : R m = each-in R (active s) m (not_false (is_in (active s) m) yes) (each-those R is_active s.members (k.numbered s q)) in
      let stood : Q (with_standing m standing.Leaving s) = k.stands s m standing.Leaving r q in
      walk-away m (active (with_standing m standing.Leaving s)) (with_standing m standing.Leaving s) s.groups s.moves (each-those R is_active (with_standing m standing.Leaving s).members (k.numbered (with_standing m standing.Leaving s) stood)) r (all-among s.groups) stood)))

  walk-left : (m : ℕ) (s : MetaState) → Q s → Q (end_leaving m s)
  walk-left m s q = cases Q (is_in (those is_leaving s.members) m && not (moves_stand s)) _ _
      (λ yes. k.stands s m standing.Out (each-in R (those is_leaving s.members) m (first_true (is_in (those is_leaving s.members) m) (not (moves_stand s)) yes) (each-those R is_leaving s.members (k.numbered s q))) q)
      (λ no. q)

  walk-take : (n m : ℕ) (members : List ℕ) (s : MetaState) (moves : Moves) → AllByRecursion R members → R m → Q (with_moves s moves) → Q (with_moves s (take_over n m members s.groups moves))
  walk-take zero m members s moves all r q = q
  walk-take (suc n) m members s moves all r q = by (walk-take n m members s) (list.find (λ p. not (list.list_any (λ a. nat_lt p.1 a.1) (loaded s.groups moves members))) (loaded s.groups moves members)) (found-among _ (loaded s.groups moves members)) where
    next : ((moves : Moves) → AllByRecursion R members → R m → Q (with_moves s moves) → Q (with_moves s (take_over n m members s.groups moves)))
        → (from : ℕ) → R from → (o : Option (ℕ × GroupRow)) → AmongIf o s.groups → Q (with_moves s (take_next m from o (take_over n m members s.groups) moves))
    next rest from f None h = q
    next rest from f (Some g) h = rest _ all r (k.moves (with_moves s moves) g m from h (inr r) f q)

    none_less : (n : ℕ) → nat_lt n 0 ≡ true → ⊥
    none_less n h = grind (arith, nat_tests)

    by : ((moves : Moves) → AllByRecursion R members → R m → Q (with_moves s moves) → Q (with_moves s (take_over n m members s.groups moves)))
        → (o : Option (ℕ × ℕ)) → AmongIf o (loaded s.groups moves members)
        → Q (with_moves s (take_next m (unwrap_or o (0, 0)).0 (next_for m (unwrap_or o (0, 0)) s.groups moves) (take_over n m members s.groups) moves))
    by rest None h = cases (λ (o : Option (ℕ × GroupRow)). Q (with_moves s (take_next m 0 o (take_over n m members s.groups) moves))) (nat_lt (load s.groups moves m + 1) 0) _ _
        (λ less. absurd (none_less (load s.groups moves m + 1) less)) (λ no. q)
    by rest (Some from) h = next rest from.0 (each-among (λ (p : ℕ × ℕ). R p.0) (loaded s.groups moves members) from (each-loaded R s.groups moves members all) h) (next_for m from s.groups moves)
        (either (λ (o : Option (ℕ × GroupRow)). AmongIf o s.groups) (nat_lt (load s.groups moves m + 1) from.1) _ _ (found-among (can_move from.0 m moves) s.groups) tt)

  walk-join : (m : ℕ) (s : MetaState) → Q s → Q (join m s).state
  walk-join m s q = either (λ (r : Says). Q r.state) (is_unsettled s) _ _ q
      (cases (λ (r : Says). Q r.state) (not (is_in (those is_out s.members) m)) _ _ (λ no. q)
      (λ yes. let r : R m = each-in R (those is_out s.members) m (not_false (is_in (those is_out s.members) m) yes) (each-those R is_out s.members (k.numbered s q)) in
      let stood : Q (with_standing m standing.Active s) = k.stands s m standing.Active r q in
      walk-take (length s.groups) m (keys_of (with_standing m standing.Active s).members) (with_standing m standing.Active s) s.moves (k.numbered (with_standing m standing.Active s) stood) r stood))

  walk-move : (group : GroupId) (at : ℕ) (members : List ℕ) (s : MetaState) → e ≡ entry.Moved group at members → Q s → Q (end_move group.0 at members s)
  walk-move group at members s is q = by (move_of s.moves group.0) where
    by : (o : Option MoveRow) → Q (move_by o group.0 at members s)
    by None = q
    by (Some move) = either Q (nat_lt move.plan at) _ _ (k.settles s group at members is q) q

  walk-call : (call : Invocation) (o : Op) (s : MetaState) → e ≡ entry.Call call o → P s → Q (apply_call i call o s).state
  walk-call call (op.Group (group_op.Create name size)) s is p = walk-create call name size s is p
  walk-call call (op.Group (group_op.Destroy name)) s is p = walk-destroy name s (k.later s p)
  walk-call call (op.Member (member_op.Leave m)) s is p = walk-leave m.0 s (k.later s p)
  walk-call call (op.Member (member_op.Join m)) s is p = walk-join m.0 s (k.later s p)
  walk-call call (op.Long name o) s is p = k.later s p
  walk-call call (op.Ref name o) s is p = k.later s p
  walk-call call (op.Map name o) s is p = k.later s p
  walk-call call (op.Lock name o) s is p = k.later s p
  walk-call call (op.Sem name o) s is p = k.later s p
  walk-call call (op.Jsem name o) s is p = k.later s p
  walk-call call (op.Latch name o) s is p = k.later s p
  walk-call call (op.Session o) s is p = k.later s p
  walk-call call (op.Destroy which name) s is p = k.later s p
  walk-call call (op.Change o) s is p = k.later s p

  walk-entry : (f : Entry) (s : MetaState) → e ≡ f → P s → Q (apply i f s).state
  walk-entry (entry.Call call o) s is p = walk-call call o s is p
  walk-entry (entry.Destroyed group) s is p = walk-end group.0 s (k.later s p)
  walk-entry (entry.Moved group at members) s is p = walk-move group at members s is (k.later s p)
  walk-entry (entry.Left m) s is p = walk-left m.0 s (k.later s p)
  walk-entry entry.Empty s is p = k.later s p
  walk-entry (entry.SessionsExpired pairs) s is p = k.later s p
  walk-entry (entry.WaitsExpired calls) s is p = k.later s p
  walk-entry (entry.Members call plan members) s is p = k.later s p
  walk-entry (entry.Destroy group) s is p = k.later s p

  pub walk : (s : MetaState) → P s → Q (apply i e s).state
  walk s p = walk-entry e s refl p

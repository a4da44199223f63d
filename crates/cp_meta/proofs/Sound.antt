-- The states that have a spelling are the sound ones.
use Rattle.std.proofs.Common.{◌≡◌, ℕ, ◌-◌, ◌^◌, ◌<◌, ◌≤◌, Bool, true, false, List, [], ◌∷◌, length, Option, Some, None, Ok, refl, ap, sym, ◌∙◌, subst, arith, is_some}
use Rattle.std.specs.Prelude.{nat_le, nat_lt, Result, Err, IfOk}
use Rattle.std.specs.Borrow.{Bor}
use Rattle.std.specs.List.{AllByRecursion}
use Rattle.std.specs.List.Sorted.{IsStrictlySortedBy}
use Rattle.std.specs.Map.{keys_of}
use Rattle.std.specs.declared.cmp.Ordering.{Ordering}
use Rattle.std.specs.declared.cmp.Ordering.TheVariants.{Less, Equal, Greater}
use Rattle.std.specs.Ordering.{nat_cmp, ordering_reverse}
use Rattle.std.specs.BTreeMap.{is_at}
use Rattle.std.proofs.lemmas.Cmp.{nat_cmp_total}
use Rattle.std.proofs.lemmas.Option.{none-some}
use Rattle.std.proofs.lemmas.Bool.{and_parts, and_from}
use Rattle.std.proofs.lemmas.Bool.Decides.{nat_tests}
use Rattle.std.proofs.lemmas.Map.Entries.{length-keys_of}
use Rattle.cp_base.proofs.Tests.{no_true}
use Rattle.cp_base.specs.declared.limits.TheConstants.{MOST_MEMBER}
use Rattle.cp_codec.specs.Exact.{IsByte}
use Rattle.cp_grammar.specs.Laws.{whole_again}
use Rattle.cp_grammar.specs.Readers.{Gives}
use Rattle.cp_grammar.specs.declared.stop.Stop.{Stop}
use Rattle.cp_grammar.specs.Common.{member_after}
use Rattle.cp_grammar.specs.Fields.{flag}
use Rattle.cp_group_state.specs.Rows.{find}
use Rattle.cp_group_state.specs.Invariants.{IsRising}
use Rattle.cp_group_state.proofs.Keyed.{number_key, equal_is}
use Rattle.cp_group_state.proofs.Rising.{less-none, above-all}
use Rattle.cp_meta_state.specs.declared.rows.Standing.TheVariants as standing
use Rattle.cp_meta_state.specs.declared.rows.TheConstants.{MOST_GROUPS, MOST_DESTROYED}
use Rattle.cp_meta_state.specs.declared.rows.Standing.{Standing}
use Rattle.cp_meta_state.specs.declared.rows.GroupRow.{GroupRow}
use Rattle.cp_meta_state.specs.declared.rows.MoveRow.{MoveRow}
use Rattle.cp_meta_state.specs.MetaState.{MetaState, Standings, Groups, Moves}
use Rattle.cp_meta_state.specs.Destroying.{given_up}
use Rattle.cp_meta_state.specs.Ranges.{MemberFits, GroupFits, DestroyedFits, MoveFits, IsOrdered, IsSound, MovesAreOfGroups}
use Rattle.cp_meta_state.proofs.Among.{Among, all-among, there-among, each-weaker}
use Rattle.cp_meta_state.proofs.Keeping.{each-find}
use Rattle.cp_meta_state.proofs.Chosen.{few_members, all_are_members}
use Rattle.cp_meta.specs.Rows.{standing_grammar, is_behind, number_behind, member_row, group_row, destroyed_row, move_row}
use Rattle.cp_meta.specs.Bytes.{member_list, group_list, destroyed_list, move_list, lists_grammar, moves_have_groups, is_consistent, state_grammar, snapshot_grammar, spelled, restored}
use Rattle.cp_meta.specs.declared.snapshot.MetaRows.{MetaRows}
use Rattle.cp_meta.specs.MetaRows.{state_of_rows}
use Rattle.cp_meta.specs.BytesLaws.{lists_lawful, snapshot_lawful}
use Rattle.cp_meta.proofs.Behind.{rows_fit, rows_rise, above_last, behind_last}

-- ---- rows

pub standing_fits : (how : Standing) → standing_grammar.Fits how
unfolding standing_grammar
standing_fits standing.Active = (omega arith, refl)
standing_fits standing.Leaving = (omega arith, refl)
standing_fits standing.Out = (omega arith, refl)

member_fits : (before : Standings) (e : ℕ × Standing) → MemberFits e → is_behind before e.0 ≡ true → (member_row before).Fits e
unfolding member_row member_after
member_fits before e h b = ((h.most, above_last before e.0 h.least b), standing_fits e.1)

member_facts : (before : Standings) (e : ℕ × Standing) → (member_row before).Fits e → MemberFits e × (is_behind before e.0 ≡ true)
unfolding member_row member_after
member_facts before e h = (record { least = some_above _ e.0 h.0.1; most = h.0.0 }, behind_last before e.0 h.0.1)
  where
    some_above : (a n : ℕ) → nat_lt a n ≡ true → 1 ≤ n
    some_above a n h = grind (arith, nat_tests)

flag_fits : (b : Bool) → flag.Fits b
unfolding flag
flag_fits true = (omega arith, refl)
flag_fits false = (omega arith, refl)

group_fits : (before : Groups) (e : ℕ × GroupRow) → GroupFits e → is_behind before e.0 ≡ true → (group_row before).Fits e
unfolding group_row number_behind
group_fits before e h b = (((h.number, b), (h.name, (flag_fits e.1.destroying, (h.first, (h.index, h.members))))), refl)

group_facts : (before : Groups) (e : ℕ × GroupRow) → (group_row before).Fits e → GroupFits e × (is_behind before e.0 ≡ true)
unfolding group_row number_behind
group_facts before e h = (record { number = h.0.0.0; name = h.0.1.0; first = h.0.1.1.1.0; index = h.0.1.1.1.1.0; members = h.0.1.1.1.1.1 }, h.0.0.1)

destroyed_fits : (before : List (ℕ × Unit {0})) (e : ℕ × Unit {0}) → DestroyedFits e → is_behind before e.0 ≡ true → (destroyed_row before).Fits e
unfolding destroyed_row number_behind
destroyed_fits before e h b = ((h.number, b), refl)

destroyed_facts : (before : List (ℕ × Unit {0})) (e : ℕ × Unit {0}) → (destroyed_row before).Fits e → DestroyedFits e × (is_behind before e.0 ≡ true)
unfolding destroyed_row number_behind
destroyed_facts before e h = (record { number = h.0.0 }, h.0.1)

le_true : (a b : ℕ) → a ≤ b → nat_le a b ≡ true
le_true a b h = grind (arith, nat_tests)

le_is : (a b : ℕ) → nat_le a b ≡ true → a ≤ b
le_is a b h = grind (arith, nat_tests)

move_fits : (before : Moves) (e : ℕ × MoveRow) → MoveFits e → is_behind before e.0 ≡ true → (move_row before).Fits e
unfolding move_row number_behind
move_fits before e h b = (((h.number, b), (h.plan, (h.add, (h.most, le_true 1 e.1.remove h.least)))), refl)

move_facts : (before : Moves) (e : ℕ × MoveRow) → (move_row before).Fits e → MoveFits e × (is_behind before e.0 ≡ true)
unfolding move_row number_behind
move_facts before e h = (record { number = h.0.0.0; plan = h.0.1.0; add = h.0.1.1.0; least = le_is 1 e.1.remove h.0.1.1.1.1; most = h.0.1.1.1.0 }, h.0.0.1)

-- ---- there are no more moves than groups

less_where : (m g : ℕ) → nat_cmp m g ≡ Greater → nat_cmp g m ≡ Less
less_where m g h = nat_cmp_total.antisymm g m ∙ ap ordering_reverse h

apart_where : (m g : ℕ) → nat_cmp m g ≡ Greater → (k : ℕ) → is_at (nat_cmp k) g ≡ true → is_at (nat_cmp k) m ≡ false
apart_where m g h k at = let same : k ≡ g = number_key.same k g (equal_is _ at) in let less : nat_cmp k m ≡ Less = ap (λ (n : ℕ). nat_cmp n m) same ∙ less_where m g h in rw less refl

pub few_moves : (groups : Groups) (moves : Moves) → IsRising nat_cmp groups → IsRising nat_cmp moves → ((k : ℕ) → find nat_cmp groups k ≡ None → find nat_cmp moves k ≡ None) → length moves ≤ length groups
unfolding IsStrictlySortedBy
few_moves groups [] rg rm within = omega arith
few_moves [] (m ∷ ms) rg rm within = absurd (none-some m.1 (sym (within m.0 refl) ∙ rw (number_key.here m.0) refl))
few_moves (g ∷ gs) (m ∷ ms) rg rm within = by (nat_cmp m.0 g.0) refl (few_moves gs ms rg.1 rm.1) (few_moves gs (m ∷ ms) rg.1 rm) where
  behind : m.0 ≡ g.0 → (k : ℕ) → find nat_cmp gs k ≡ None → (b : Bool) → is_at (nat_cmp k) g.0 ≡ b → find nat_cmp ms k ≡ None
  behind same k none true at = let key : k ≡ g.0 = number_key.same k g.0 (equal_is _ at) in
      less-none nat_cmp number_key nat_cmp_total k ms (subst (λ (n : ℕ). AllByRecursion (λ y. nat_cmp n y ≡ Less) (keys_of ms)) (same ∙ sym key) rm.0)
  behind same k none false at =
      let gone : find nat_cmp (g ∷ gs) k ≡ None = rw at none in
      let here : is_at (nat_cmp k) m.0 ≡ false = ap (λ (n : ℕ). is_at (nat_cmp k) n) same ∙ at in
      let was : find nat_cmp (m ∷ ms) k ≡ None = within k gone in
      sym (rw here refl) ∙ was

  above : nat_cmp m.0 g.0 ≡ Greater → (k : ℕ) → find nat_cmp gs k ≡ None → (b : Bool) → is_at (nat_cmp k) g.0 ≡ b → find nat_cmp (m ∷ ms) k ≡ None
  above up k none true at = let key : k ≡ g.0 = number_key.same k g.0 (equal_is _ at) in
      let less : nat_cmp k m.0 ≡ Less = ap (λ (n : ℕ). nat_cmp n m.0) key ∙ less_where m.0 g.0 up in
      less-none nat_cmp number_key nat_cmp_total k (m ∷ ms) (less, above-all nat_cmp number_key nat_cmp_total k m.0 ms less rm.0)
  above up k none false at = within k (rw at none)

  by : (o : Ordering) → nat_cmp m.0 g.0 ≡ o → (((k : ℕ) → find nat_cmp gs k ≡ None → find nat_cmp ms k ≡ None) → length ms ≤ length gs) → (((k : ℕ) → find nat_cmp gs k ≡ None → find nat_cmp (m ∷ ms) k ≡ None) → length (m ∷ ms) ≤ length gs) → length (m ∷ ms) ≤ length (g ∷ gs)
  by Less i both one = absurd (none-some m.1 (sym (within m.0 (less-none nat_cmp number_key nat_cmp_total m.0 (g ∷ gs) (i, above-all nat_cmp number_key nat_cmp_total m.0 g.0 gs i rg.0))) ∙ rw (number_key.here m.0) refl))
  by Equal i both one = let few = both (λ k none. behind (number_key.same m.0 g.0 i) k none (is_at (nat_cmp k) g.0) refl) in omega (arith, few)
  by Greater i both one = let few = one (λ k none. above i k none (is_at (nat_cmp k) g.0) refl) in omega (arith, few)

pub few_all_members : (s : MetaState) → IsSound s → length s.members ≤ MOST_MEMBER
few_all_members s h = let few = few_members 0 (keys_of s.members) (omega arith) (all_are_members s.members h.ordered.members h.fits.members) in omega (arith, few, length-keys_of s.members)

pub few_all_moves : (s : MetaState) → IsSound s → length s.moves ≤ MOST_GROUPS
few_all_moves s h = let few = few_moves s.groups s.moves h.ordered.groups h.ordered.moves h.moves_are_of_groups in let most = h.fits.few in omega (arith, few, most)

pub few_all_destroyed : (s : MetaState) → IsSound s → length s.destroyed ≤ MOST_DESTROYED
few_all_destroyed s h = let most = h.fits.given_up in omega (arith, most)

-- ---- the rules that bind the lists

all_have : (groups : Groups) (moves : Moves) → AllByRecursion (λ (e : ℕ × MoveRow). is_some (find nat_cmp groups e.0) ≡ true) moves → moves_have_groups groups moves ≡ true
all_have groups [] h = refl
all_have groups (m ∷ ms) h = rw h.0 (all_have groups ms h.1)

have_all : (groups : Groups) (moves : Moves) → moves_have_groups groups moves ≡ true → AllByRecursion (λ (e : ℕ × MoveRow). is_some (find nat_cmp groups e.0) ≡ true) moves
have_all groups [] h = tt
have_all groups (m ∷ ms) h = let two = and_parts (is_some (find nat_cmp groups m.0)) (moves_have_groups groups ms) h in (two.0, have_all groups ms two.1)

within_have : (s : MetaState) → MovesAreOfGroups s → moves_have_groups s.groups s.moves ≡ true
within_have s within = all_have s.groups s.moves (each-weaker (λ (e : ℕ × MoveRow). Among e s.moves) (λ (e : ℕ × MoveRow). is_some (find nat_cmp s.groups e.0) ≡ true) (λ e at. by e at (find nat_cmp s.groups e.0) refl) s.moves (all-among s.moves))
  where
    by : (e : ℕ × MoveRow) → Among e s.moves → (o : Option GroupRow) → find nat_cmp s.groups e.0 ≡ o → is_some o ≡ true
    by e at None none = absurd (no_true (sym (there-among s.moves e at) ∙ ap is_some (within e.0 none)))
    by e at (Some row) is = refl

have_within : (s : MetaState) → moves_have_groups s.groups s.moves ≡ true → MovesAreOfGroups s
have_within s have group none = by (find nat_cmp s.moves group) refl where
  by : (o : Option MoveRow) → find nat_cmp s.moves group ≡ o → o ≡ None
  by None is = refl
  by (Some row) is = absurd (no_true (sym (each-find (λ (e : ℕ × MoveRow). is_some (find nat_cmp s.groups e.0) ≡ true) s.moves group row (have_all s.groups s.moves have) is) ∙ ap is_some none))

-- ---- states

fit_lists : (s : MetaState) → IsSound s → lists_grammar.Fits s
unfolding lists_grammar member_list group_list destroyed_list move_list
fit_lists s h = let f = h.fits in let o = h.ordered in
    let members = few_all_members s h in let destroyed = few_all_destroyed s h in let moves = few_all_moves s h in (
      (
        (omega (arith, members), (refl, rows_fit member_row MemberFits member_fits s.members f.members o.members)),
        (
          (f.few, (refl, rows_fit group_row GroupFits group_fits s.groups f.groups o.groups)),
          (
            (destroyed, (refl, rows_fit destroyed_row DestroyedFits destroyed_fits s.destroyed f.destroyed o.destroyed)),
            (omega (arith, moves), (refl, rows_fit move_row MoveFits move_fits s.moves f.moves o.moves)),
          ),
        ),
      ),
      refl,
    )

record AreRows {X : Type 0} (P : ℕ × X → Type 0) (rows : List (ℕ × X)) : Type 0 where
  each : AllByRecursion P rows
  rising : IsRising nat_cmp rows

rows_of : {X : Type 0} (P : ℕ × X → Type 0) (rows : List (ℕ × X)) → AllByRecursion P rows × IsRising nat_cmp rows → AreRows P rows
rows_of P rows h = record { each = h.0; rising = h.1 }

record AreLists (s : MetaState) : Type 0 where
  members : AreRows MemberFits s.members
  groups : AreRows GroupFits s.groups
  destroyed : AreRows DestroyedFits s.destroyed
  moves : AreRows MoveFits s.moves
  few : length s.groups ≤ MOST_GROUPS

lists_are : (s : MetaState) → lists_grammar.Fits s → AreLists s
unfolding lists_grammar member_list group_list destroyed_list move_list
lists_are s h = record {
  members = rows_of MemberFits s.members (rows_rise member_row MemberFits member_facts s.members h.0.0.1.1);
  groups = rows_of GroupFits s.groups (rows_rise group_row GroupFits group_facts s.groups h.0.1.0.1.1);
  destroyed = rows_of DestroyedFits s.destroyed (rows_rise destroyed_row DestroyedFits destroyed_facts s.destroyed h.0.1.1.0.1.1);
  moves = rows_of MoveFits s.moves (rows_rise move_row MoveFits move_facts s.moves h.0.1.1.1.1.1);
  few = h.0.1.0.0;
}

pub sound_state : (s : MetaState) → IsSound s → state_grammar.Fits s
unfolding state_grammar is_consistent
sound_state s h = (fit_lists s h, and_from (nat_le (given_up s) MOST_DESTROYED) (moves_have_groups s.groups s.moves) (le_true (given_up s) MOST_DESTROYED h.fits.given_up) (within_have s h.moves_are_of_groups))

state_sound : (s : MetaState) → state_grammar.Fits s → IsSound s
unfolding state_grammar is_consistent
state_sound s h =
    let are = lists_are s h.0 in
    let two = and_parts (nat_le (given_up s) MOST_DESTROYED) (moves_have_groups s.groups s.moves) h.1 in
    record {
      fits = record { members = are.members.each; groups = are.groups.each; destroyed = are.destroyed.each; moves = are.moves.each; few = are.few; given_up = le_is (given_up s) MOST_DESTROYED two.0 };
      ordered = record { members = are.members.rising; groups = are.groups.rising; destroyed = are.destroyed.rising; moves = are.moves.rising };
      moves_are_of_groups = have_within s two.1;
    }

pub sound_fit : (s : MetaState) → IsSound s → snapshot_grammar.Fits s
unfolding snapshot_grammar
sound_fit s h = sound_state s h

pub fits_are_sound : (s : MetaState) → snapshot_grammar.Fits s → IsSound s
unfolding snapshot_grammar
fits_are_sound s h = state_sound s h

pub come_back : (s : MetaState) → IsSound s → restored (spelled s) ≡ Ok s
unfolding restored spelled
come_back s h = whole_again IsByte snapshot_grammar snapshot_lawful s (sound_fit s h)

-- lists that are read are in order
in_order : (bytes : List ℕ) (s : MetaState) (rest : List ℕ) → AllByRecursion IsByte bytes → lists_grammar.reading bytes ≡ Ok (s, rest) → IsOrdered s
in_order bytes s rest good e = let are = lists_are s (lists_lawful.takes bytes s rest good e).1 in record { members = are.members.rising; groups = are.groups.rising; destroyed = are.destroyed.rising; moves = are.moves.rising }

pub read_in_order : (bytes : List ℕ) (r : Result (MetaRows × Bor (List ℕ)) Stop) → AllByRecursion IsByte bytes → Gives (λ x. (state_of_rows x.0, x.1.now)) r (lists_grammar.reading bytes) → IfOk r (λ x. IsOrdered (state_of_rows x.0))
read_in_order bytes (Ok x) good gives = in_order bytes (state_of_rows x.0) x.1.now good gives
read_in_order bytes (Err e) good gives = tt

-- counts can say how many rows there are
pub members_counted : (s : MetaState) → IsSound s → length s.members < 2 ^ 32
members_counted s h = let few = few_all_members s h in omega (arith, few)

pub groups_counted : (s : MetaState) → IsSound s → length s.groups < 2 ^ 32
groups_counted s h = let few = h.fits.few in omega (arith, few)

pub destroyed_counted : (s : MetaState) → IsSound s → length s.destroyed < 2 ^ 32
destroyed_counted s h = let few = few_all_destroyed s h in omega (arith, few)

pub moves_counted : (s : MetaState) → IsSound s → length s.moves < 2 ^ 32
moves_counted s h = let few = few_all_moves s h in omega (arith, few)

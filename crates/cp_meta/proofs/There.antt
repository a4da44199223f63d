-- A row that is there is changed in place.
use Rattle.std.proofs.Common.{◌≡◌, ℕ, Bool, true, false, ◌||◌, List, [], ◌∷◌, inl, inr, Some, Option, refl, ap, sym, ◌∙◌, subst, if◌then◌else◌}
use Rattle.std.specs.Prelude.{nat_lt, bytes_eq}
use Rattle.std.specs.declared.cmp.Ordering.TheVariants.{Less, Greater}
use Rattle.std.specs.Ordering.{ordering_reverse}
use Rattle.std.specs.List.Sorted.{IsStrictlySortedBy}
use Rattle.std.specs.Ordering.{nat_cmp}
use Rattle.std.specs.BTreeMap.{is_at}
use Rattle.std.specs.Map.{set_value}
use Rattle.std.proofs.lemmas.Cmp.{nat_cmp_total}
use Rattle.cp_base.proofs.Tests.{same_some, no_true}
use Rattle.cp_answers.specs.declared.answer.Answer.TheVariants as answer
use Rattle.cp_answers.specs.declared.argument.Argument.TheVariants as argument
use Rattle.cp_group_state.specs.Rows.{find, put, without}
use Rattle.cp_group_state.specs.Invariants.{IsRising}
use Rattle.cp_group_state.proofs.Keyed.{number_key}
use Rattle.cp_rows.proofs.Ordered.{put_there}
use Rattle.cp_meta_state.specs.declared.rows.GroupRow.{GroupRow}
use Rattle.cp_meta_state.specs.declared.rows.TheConstants.{MOST_DESTROYED}
use Rattle.cp_meta_state.specs.MetaState.{MetaState, Groups, Moves}
use Rattle.cp_meta_state.specs.Says.{Says, says, bad}
use Rattle.cp_meta_state.specs.Creating.{named}
use Rattle.cp_meta_state.specs.Destroying.{is_fixed, given_up, begun, destroy_row, destroy_by, destroy}
use Rattle.cp_meta_state.proofs.Among.{Among, AmongIf, each-among, found-among, key-each}
use Rattle.cp_meta_state.specs.Moving.{configured}

pub configured_there : (rows : Groups) (group at : ℕ) (members : List ℕ) (row : GroupRow) → IsRising nat_cmp rows → find nat_cmp rows group ≡ Some row
    → set_value (is_at (nat_cmp group)) rows (record row { index = at; members = members }) ≡ configured (find nat_cmp rows group) group at members rows
configured_there rows group at members row rising is =
    put_there nat_cmp nat_cmp_total rows group row (record row { index = at; members = members }) rising is
    ∙ ap (λ (o : Option GroupRow). configured o group at members rows) (sym is)

pub destroying_there : (rows : Groups) (group : ℕ) (found row : GroupRow) → IsRising nat_cmp rows → find nat_cmp rows group ≡ Some found → find nat_cmp rows group ≡ Some row
    → set_value (is_at (nat_cmp group)) rows (record found { destroying = true }) ≡ put nat_cmp rows group (record row { destroying = true })
destroying_there rows group found row rising here is =
    put_there nat_cmp nat_cmp_total rows group found (record found { destroying = true }) rising here
    ∙ ap (λ (r : GroupRow). put nat_cmp rows group (record r { destroying = true })) (same_some (sym here ∙ is))

-- a row of a list in order is the one under its number
found_own : (rows : Groups) (e : ℕ × GroupRow) → IsRising nat_cmp rows → Among e rows → find nat_cmp rows e.0 ≡ Some e.1
unfolding IsStrictlySortedBy
found_own [] e rising at = absurd at
found_own (x ∷ xs) e rising (inl same) = subst (λ (f : ℕ × GroupRow). find nat_cmp (x ∷ xs) f.0 ≡ Some f.1) (sym same) (rw (number_key.here x.0) refl)
found_own (x ∷ xs) e rising (inr behind) =
    let less : nat_cmp x.0 e.0 ≡ Less = each-among (λ (f : ℕ × GroupRow). nat_cmp x.0 f.0 ≡ Less) xs e (key-each (λ (k : ℕ). nat_cmp x.0 k ≡ Less) xs rising.0) behind in
    let more : nat_cmp e.0 x.0 ≡ Greater = nat_cmp_total.antisymm e.0 x.0 ∙ ap ordering_reverse less in
    rw more (found_own xs e rising.1 behind)

if_false : {X : Type 0} (b : Bool) (x y : X) → b ≡ false → (if b then x else y) ≡ y
if_false true x y h = absurd (no_true h)
if_false false x y h = refl

if_true : {X : Type 0} (b : Bool) (x y : X) → b ≡ true → (if b then x else y) ≡ x
if_true true x y h = refl
if_true false x y h = absurd (no_true (sym h))

or_false : (a b : Bool) → a ≡ false → b ≡ false → (a || b) ≡ false
or_false true b h k = absurd (no_true h)
or_false false b h k = k

-- a group that is to be destroyed
does_destroy : (s : MetaState) (name : List ℕ) (group : ℕ) (row : GroupRow) → named s.groups name ≡ Some (group, row) → row.destroying ≡ false → is_fixed row.name ≡ false → nat_lt (given_up s) MOST_DESTROYED ≡ true
    → (destroy name s).state ≡ begun group row s
does_destroy s name group row is standing other room =
    let done : destroy_row group row s ≡ says answer.Ok (begun group row s) =
    if_false (row.destroying || is_fixed row.name) (bad argument.Group s) (if nat_lt (given_up s) MOST_DESTROYED then says answer.Ok (begun group row s) else says (answer.TableFull MOST_DESTROYED) s) (or_false row.destroying (is_fixed row.name) standing other)
    ∙ if_true (nat_lt (given_up s) MOST_DESTROYED) (says answer.Ok (begun group row s)) (says (answer.TableFull MOST_DESTROYED) s) room in
    ap (λ (o : Option (ℕ × GroupRow)). (destroy_by o s).state) is ∙ ap (λ (r : Says). r.state) done

pub destroyed_state : (s t : MetaState) (name : List ℕ) (group : ℕ) (row : GroupRow) (groups : Groups) (moves : Moves) → s ≡ t → IsRising nat_cmp s.groups → named s.groups name ≡ Some (group, row)
    → row.destroying ≡ false → is_fixed row.name ≡ false → nat_lt (given_up s) MOST_DESTROYED ≡ true
    → ((r : GroupRow) → find nat_cmp s.groups group ≡ Some r → groups ≡ put nat_cmp s.groups group (record r { destroying = true })) → moves ≡ without nat_cmp s.moves group
    → record { members = s.members; groups = groups; destroyed = s.destroyed; moves = moves } ≡ (destroy name t).state
destroyed_state s t name group row groups moves view rising is standing other room began gone =
    let found : find nat_cmp s.groups group ≡ Some row = found_own s.groups (group, row) rising (subst (λ (o : Option (ℕ × GroupRow)). AmongIf o s.groups) is (found-among (λ e. bytes_eq e.1.name name) s.groups)) in
    let changed : groups ≡ put nat_cmp s.groups group (record row { destroying = true }) = began row found in
    let made : MetaState = record { members = s.members; groups = groups; destroyed = s.destroyed; moves = moves } in
    let step : made ≡ begun group row s = λ i. record { members = s.members; groups = changed i; destroyed = s.destroyed; moves = gone i } in
    step ∙ sym (does_destroy s name group row is standing other room) ∙ ap (λ (u : MetaState). (destroy name u).state) view

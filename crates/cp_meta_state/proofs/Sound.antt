-- Sound states stay sound, and what they answer has a spelling.
use Rattle.std.proofs.Common.{◌≡◌, ℕ, zero, suc, ◌+◌, ◌-◌, ◌^◌, ◌<◌, ◌≤◌, Bool, true, false, not, ◌||◌, ◌⊎◌, inl, inr, List, [], ◌∷◌, length, Some, None, Option, refl, ap, sym, subst, arith, cond, is_some}
use Rattle.std.specs.Prelude.{◌==◌, nat_lt, nat_le, map}
use Rattle.std.proofs.lemmas.Bool.Decides.{nat_tests}
use Rattle.std.specs.List as list
use Rattle.std.specs.List.{AllByRecursion}
use Rattle.std.specs.Map.{keys_of}
use Rattle.std.specs.Ordering.{nat_cmp}
use Rattle.cp_base.specs.declared.identifier.GroupId.{GroupId}
use Rattle.cp_base.specs.declared.identifier.Invocation.{Invocation}
use Rattle.cp_base.specs.declared.limits.TheConstants.{LAST_NUMBER, MOST_MEMBER}
use Rattle.cp_grammar.specs.Common as spelled
use Rattle.cp_grammar.specs.Common.{index, group_id, invocation}
use Rattle.cp_op_values.specs.Numbers.{any_u64, group_size}
use Rattle.cp_answers.specs.declared.answer.Answer.{Answer}
use Rattle.cp_answers.specs.declared.answer.Answer.TheVariants as answer
use Rattle.cp_answers.specs.declared.argument.Argument.{Argument}
use Rattle.cp_answers.specs.declared.argument.Argument.TheVariants as argument
use Rattle.cp_answers.specs.Arguments as arguments
use Rattle.cp_answers.specs.Answers.{answer_within, answer_grammar}
use Rattle.cp_ops.specs.declared.group_op.GroupOp.TheVariants as group_op
use Rattle.cp_ops.specs.declared.member_op.MemberOp.TheVariants as member_op
use Rattle.cp_ops.specs.GroupOps as group_ops
use Rattle.cp_ops.specs.declared.op.Op.{Op}
use Rattle.cp_ops.specs.declared.op.Op.TheVariants as op
use Rattle.cp_ops.specs.Ops.{op_within}
use Rattle.cp_ops.specs.declared.entry.Entry.{Entry}
use Rattle.cp_ops.specs.declared.entry.Entry.TheVariants as entry
use Rattle.cp_ops.specs.Entries.{entry_within, entry_grammar}
use Rattle.cp_group_state.specs.Rows.{find, put, without}
use Rattle.cp_group_state.proofs.Walk.{cases, either}
use Rattle.cp_meta_state.specs.declared.rows.TheConstants.{MOST_GROUPS, MOST_DESTROYED}
use Rattle.cp_meta_state.specs.declared.rows.Standing.TheVariants as standing
use Rattle.cp_meta_state.specs.MetaState.{MetaState, Standing, Groups, Moves, GroupRow, MoveRow, group_at, is_in, is_out, those, active, numbers, metadata_name, default_name, first_state}
use Rattle.cp_meta_state.specs.Says.{Says}
use Rattle.cp_meta_state.specs.Creating.{named, chosen, create_by, create}
use Rattle.cp_meta_state.specs.Destroying.{is_fixed, destroying_rows, given_up, destroy_by, destroy}
use Rattle.cp_meta_state.specs.Leaving.{is_unsettled, leave}
use Rattle.cp_meta_state.specs.Joining.{join}
use Rattle.cp_meta_state.specs.Moving.{configured}
use Rattle.cp_meta_state.specs.Apply.{Applied, apply, apply_call, run}
use Rattle.cp_meta_state.specs.Ranges.{MemberFits, GroupFits, DestroyedFits, MoveFits, StateFits, IsSound, AnswerFits}
use Rattle.cp_meta_state.specs.Laws.{IsSoundStep}
use Rattle.cp_meta_state.proofs.Among.{Among, AmongIf, each-among, each-weaker, found-among, there-among, each-key}
use Rattle.cp_meta_state.proofs.Keeping.{test_less, test_not_less, each-put, each-without, each-find, longer-put, shorter-without, same-put, tally-put, tally-without, tally-shorter, tally-same}
use Rattle.cp_meta_state.proofs.Walk.{Kept, walk}
use Rattle.cp_meta_state.proofs.Ordered.{Any, order_kept, order-first}
use Rattle.cp_meta_state.proofs.Moves.{within-move, within-put, within-end, within-configured}
use Rattle.cp_meta_state.proofs.Chosen.{members_fit, numbers_are_members, length-numbers, chosen_fit}

-- ---- numbers

index_fits : (n : ℕ) → n ≤ 2 ^ 62 → index.Fits n
unfolding index
index_fits n le = le

index_most : (n : ℕ) → index.Fits n → n ≤ 2 ^ 62
unfolding index
index_most n le = le

group_number : (g : GroupId) → group_id.Fits g → index.Fits g.0
unfolding group_id
group_number g h = h.0

number_group : (n : ℕ) → index.Fits n → group_id.Fits (record { 0 = n })
unfolding group_id
number_group n h = (h, refl)

-- ---- the parts of entries

call_fits : (call : Invocation) (o : Op) → entry_grammar.Fits (entry.Call call o) → invocation.Fits call
unfolding entry_within
call_fits call o h = h.1.0.0

create_parts : (call : Invocation) (name : List ℕ) (size : ℕ) → entry_grammar.Fits (entry.Call call (op.Group (group_op.Create name size))) → spelled.name.Fits name × (1 ≤ size)
unfolding entry_within op_within group_ops.group_op group_size
create_parts call name size h = (h.1.0.1.1.0.1.0.0, le_is 1 size h.1.0.1.1.0.1.0.1.1)
  where
    le_is : (a b : ℕ) → nat_le a b ≡ true → a ≤ b
    le_is a b h = grind (arith, nat_tests)

moved_parts : (group : GroupId) (at : ℕ) (members : List ℕ) → entry_grammar.Fits (entry.Moved group at members) → index.Fits at × spelled.members.Fits members
unfolding entry_within
moved_parts group at members h = (h.1.0.1.0, h.1.0.1.1)

-- ---- states

abbrev IsMember : ℕ → Type 0
IsMember m = (1 ≤ m) × (m ≤ MOST_MEMBER)

some_member : (m : ℕ) → (m ≡ 0) ⊎ IsMember m → m ≤ MOST_MEMBER
some_member m (inl none) = omega (arith, none)
some_member m (inr is) = is.1

members_numbered : (s : MetaState) → IsSound s → AllByRecursion IsMember (keys_of s.members)
members_numbered s h = each-key IsMember s.members (each-weaker MemberFits (λ (e : ℕ × Standing). IsMember e.0) (λ e f. (f.least, f.most)) s.members h.fits.members)

stands-fit : (s : MetaState) (m : ℕ) (how : Standing) → IsMember m → StateFits s → StateFits (record s { members = put nat_cmp s.members m how })
stands-fit s m how r f = record { members = each-put MemberFits s.members m how (record { least = r.0; most = r.1 }) f.members; groups = f.groups; destroyed = f.destroyed; moves = f.moves; few = f.few; given_up = f.given_up }

moves-fit : (s : MetaState) (g : ℕ × GroupRow) (add remove : ℕ) → Among g s.groups → (add ≡ 0) ⊎ IsMember add → IsMember remove → StateFits s
    → StateFits (record s { moves = put nat_cmp s.moves g.0 (record { plan = g.1.index; add = add; remove = remove }) })
moves-fit s g add remove there a r f =
    let row : GroupFits g = each-among GroupFits s.groups g f.groups there in
    let plan : g.1.index ≤ 2 ^ 62 = index_most g.1.index row.index in
    record {
      members = f.members;
      groups = f.groups;
      destroyed = f.destroyed;
      few = f.few;
      given_up = f.given_up;
      moves = each-put MoveFits s.moves g.0 _ (record { number = row.number; plan = omega (arith, plan); add = some_member add a; least = r.0; most = r.1 }) f.moves;
    }

makes-fit : (i : ℕ) (s : MetaState) (name : List ℕ) (size : ℕ) → i ≤ LAST_NUMBER → spelled.name.Fits name → spelled.members.Fits (chosen size s) → nat_lt (length s.groups) MOST_GROUPS ≡ true → StateFits s
    → StateFits (record s { groups = put nat_cmp s.groups i (record { name = name; destroying = false; first = chosen size s; index = 0; members = chosen size s }); moves = without nat_cmp s.moves i })
makes-fit i s name size le named fit room f =
    let longer = longer-put s.groups i (record { name = name; destroying = false; first = chosen size s; index = 0; members = chosen size s }) in
    let less = test_less (length s.groups) MOST_GROUPS room in
    let few = tally-put (λ (r : GroupRow). r.destroying) s.groups i (record { name = name; destroying = false; first = chosen size s; index = 0; members = chosen size s }) false refl in
    let most = f.given_up in
    record {
      members = f.members;
      destroyed = f.destroyed;
      groups = each-put GroupFits s.groups i _ (record { number = index_fits i le; name = named; first = fit; index = index_fits 0 (omega arith); members = fit }) f.groups;
      moves = each-without MoveFits s.moves i f.moves;
      few = omega (arith, longer, less);
      given_up = omega (arith, few, most);
    }

begins-fit : (s : MetaState) (g : ℕ × GroupRow) → Among g s.groups → nat_lt (given_up s) MOST_DESTROYED ≡ true → IsSound s
    → StateFits (record s { groups = put nat_cmp s.groups g.0 (record g.1 { destroying = true }); moves = without nat_cmp s.moves g.0 })
begins-fit s g there room h =
    let f = h.fits in
    let row : GroupFits g = each-among GroupFits s.groups g f.groups there in
    let long = same-put s.groups g.0 (record g.1 { destroying = true }) h.ordered.groups (there-among s.groups g there) in
    let few = f.few in
    let less = test_less (given_up s) MOST_DESTROYED room in
    let more = tally-put (λ (r : GroupRow). r.destroying) s.groups g.0 (record g.1 { destroying = true }) true refl in
    record {
      members = f.members;
      destroyed = f.destroyed;
      groups = each-put GroupFits s.groups g.0 _ (record { number = row.number; name = row.name; first = row.first; index = row.index; members = row.members }) f.groups;
      moves = each-without MoveFits s.moves g.0 f.moves;
      few = omega (arith, long, few);
      given_up = omega (arith, more, less);
    }

ends-fit : (s : MetaState) (group : ℕ) (row : GroupRow) → group_at s group ≡ Some row → row.destroying ≡ true → StateFits s
    → StateFits (record s { groups = without nat_cmp s.groups group; destroyed = put nat_cmp s.destroyed group tt; moves = without nat_cmp s.moves group })
ends-fit s group row is going f =
    let fit : GroupFits (group, row) = each-find GroupFits s.groups group row f.groups is in
    let shorter = shorter-without s.groups group in
    let few = f.few in
    let one = tally-without (λ (r : GroupRow). r.destroying) s.groups group row is going in
    let longer = longer-put s.destroyed group tt in
    let most = f.given_up in
    record {
      members = f.members;
      groups = each-without GroupFits s.groups group f.groups;
      destroyed = each-put DestroyedFits s.destroyed group tt (record { number = fit.number }) f.destroyed;
      moves = each-without MoveFits s.moves group f.moves;
      few = omega (arith, shorter, few);
      given_up = omega (arith, one, longer, most);
    }

settles-fit : (s : MetaState) (group at : ℕ) (members : List ℕ) → index.Fits at → spelled.members.Fits members → IsSound s → (o : Option GroupRow) → group_at s group ≡ o
    → StateFits (record s { groups = configured o group at members s.groups; moves = without nat_cmp s.moves group })
settles-fit s group at members fit named h None is = let f = h.fits in record {
  members = f.members;
  groups = f.groups;
  destroyed = f.destroyed;
  few = f.few;
  given_up = f.given_up;
  moves = each-without MoveFits s.moves group f.moves;
}
settles-fit s group at members fit named h (Some row) is =
    let f = h.fits in
    let old : GroupFits (group, row) = each-find GroupFits s.groups group row f.groups is in
    let long = same-put s.groups group (record row { index = at; members = members }) h.ordered.groups (ap is_some is) in
    let few = f.few in
    let same = tally-same (λ (r : GroupRow). r.destroying) s.groups group row (record row { index = at; members = members }) h.ordered.groups is refl in
    let most = f.given_up in
    record {
      members = f.members;
      destroyed = f.destroyed;
      groups = each-put GroupFits s.groups group _ (record { number = old.number; name = old.name; first = old.first; index = fit; members = named }) f.groups;
      moves = each-without MoveFits s.moves group f.moves;
      few = omega (arith, long, few);
      given_up = omega (arith, same, most);
    }

create_now : (e : Entry) (call : Invocation) (name : List ℕ) (size : ℕ) → entry_grammar.Fits e → e ≡ entry.Call call (op.Group (group_op.Create name size)) → spelled.name.Fits name × (1 ≤ size)
create_now e call name size fit is = create_parts call name size (subst (λ (f : Entry). entry_grammar.Fits f) is fit)

moved_now : (e : Entry) (group : GroupId) (at : ℕ) (members : List ℕ) → entry_grammar.Fits e → e ≡ entry.Moved group at members → index.Fits at × spelled.members.Fits members
moved_now e group at members fit is = moved_parts group at members (subst (λ (f : Entry). entry_grammar.Fits f) is fit)

sound_kept : (i : ℕ) (e : Entry) → i ≤ LAST_NUMBER → entry_grammar.Fits e → Kept i e IsSound IsSound IsMember
sound_kept i e le fit = let o = order_kept i e in record {
  later = λ s h. h;
  numbered = members_numbered;
  stands = λ s m how r h. record { fits = stands-fit s m how r h.fits; ordered = o.stands s m how tt h.ordered; moves_are_of_groups = h.moves_are_of_groups };
  moves = λ s g add remove there a r h. record {
    fits = moves-fit s g add remove there a r h.fits;
    ordered = o.moves s g add remove there (inr tt) tt h.ordered;
    moves_are_of_groups = within-move s.groups s.moves g.0 _ (there-among s.groups g there) h.moves_are_of_groups;
  };
  makes = λ s call name size is enough room h. let parts = create_now e call name size fit is in record {
    fits = makes-fit i s name size le parts.0 (chosen_fit size s parts.1 enough h.ordered.members h.fits.members) room h.fits;
    ordered = o.makes s call name size is enough room h.ordered;
    moves_are_of_groups = within-put s.groups s.moves i _ h.ordered.moves h.moves_are_of_groups;
  };
  begins = λ s g there room h. record {
    fits = begins-fit s g there room h;
    ordered = o.begins s g there room h.ordered;
    moves_are_of_groups = within-put s.groups s.moves g.0 _ h.ordered.moves h.moves_are_of_groups;
  };
  ends = λ s group row is going h. record {
    fits = ends-fit s group row is going h.fits;
    ordered = o.ends s group row is going h.ordered;
    moves_are_of_groups = within-end s.groups s.moves group h.ordered.moves h.moves_are_of_groups;
  };
  settles = λ s group at members is h. let parts = moved_now e group at members fit is in record {
    fits = settles-fit s group.0 at members parts.0 parts.1 h (group_at s group.0) refl;
    ordered = o.settles s group at members is h.ordered;
    moves_are_of_groups = within-configured (group_at s group.0) s.groups s.moves group.0 at members h.ordered.moves h.moves_are_of_groups;
  };
}

-- ---- answers

fits_ok : answer_grammar.Fits answer.Ok
unfolding answer_within
fits_ok = (omega arith, refl)

fits_group : (n : ℕ) (members : List ℕ) → index.Fits n → spelled.members.Fits members → answer_grammar.Fits (answer.Group (record { 0 = n }) members)
unfolding answer_within
fits_group n members h g = (omega arith, ((number_group n h, g), refl))

fits_destroyed : (n : ℕ) → index.Fits n → answer_grammar.Fits (answer.GroupDestroyed (record { 0 = n }))
unfolding answer_within
fits_destroyed n h = (omega arith, (number_group n h, refl))

fits_full : (n : ℕ) → n ≤ 2 ^ 32 - 1 → answer_grammar.Fits (answer.TableFull n)
unfolding answer_within
fits_full n h = (omega arith, (h, refl))

fits_argument : (which : Argument) → arguments.argument.Fits which
unfolding arguments.argument
fits_argument argument.Overflow = (omega arith, refl)
fits_argument argument.Group = (omega arith, refl)
fits_argument argument.Size = (omega arith, refl)
fits_argument argument.Member = (omega arith, refl)
fits_argument argument.Leaving = (omega arith, refl)

fits_bad : (which : Argument) → answer_grammar.Fits (answer.BadArgument which)
unfolding answer_within
fits_bad which = (omega arith, (fits_argument which, refl))

abbrev SaysWell : Says → Type 0
SaysWell r = answer_grammar.Fits r.answer

create_says : (i : ℕ) (name : List ℕ) (size : ℕ) (s : MetaState) → i ≤ LAST_NUMBER → 1 ≤ size → IsSound s → SaysWell (create i name size s)
create_says i name size s le some h = by (named s.groups name) (found-among _ s.groups) where
  by : (o : Option (ℕ × GroupRow)) → AmongIf o s.groups → SaysWell (create_by o i name size s)
  by None at = cases SaysWell (nat_lt (length (active s)) size) _ _ (λ few. fits_bad argument.Size)
      (λ enough. either SaysWell (nat_lt (length s.groups) MOST_GROUPS) _ _ (fits_group i (chosen size s) (index_fits i le) (chosen_fit size s some enough h.ordered.members h.fits.members)) (fits_full MOST_GROUPS (omega arith)))
  by (Some g) at = let row : GroupFits g = each-among GroupFits s.groups g h.fits.groups at in either (λ (a : Answer). answer_grammar.Fits a) g.1.destroying _ _ (fits_destroyed g.0 row.number) (fits_group g.0 g.1.members row.number row.members)

destroy_says : (name : List ℕ) (s : MetaState) → SaysWell (destroy name s)
destroy_says name s = by (named s.groups name) where
  by : (o : Option (ℕ × GroupRow)) → SaysWell (destroy_by o s)
  by None = fits_bad argument.Group
  by (Some g) = either SaysWell (g.1.destroying || is_fixed g.1.name) _ _ (fits_bad argument.Group) (either SaysWell (nat_lt (given_up s) MOST_DESTROYED) _ _ fits_ok (fits_full MOST_DESTROYED (omega arith)))

leave_says : (m : ℕ) (s : MetaState) → SaysWell (leave m s)
leave_says m s = either SaysWell (is_unsettled s) _ _ (fits_bad argument.Leaving) (either SaysWell (not (is_in (active s) m)) _ _ (fits_bad argument.Member) (either SaysWell (length (active s) == 1) _ _ (fits_bad argument.Size) fits_ok))

join_says : (m : ℕ) (s : MetaState) → SaysWell (join m s)
join_says m s = either SaysWell (is_unsettled s) _ _ (fits_bad argument.Leaving) (either SaysWell (not (is_in (those is_out s.members) m)) _ _ (fits_bad argument.Member) fits_ok)

call_says : (i : ℕ) (call : Invocation) (o : Op) (s : MetaState) → i ≤ LAST_NUMBER → entry_grammar.Fits (entry.Call call o) → IsSound s → AllByRecursion AnswerFits (apply_call i call o s).answers
call_says i call (op.Group (group_op.Create name size)) s le fit h = ((call_fits call (op.Group (group_op.Create name size)) fit, create_says i name size s le (create_parts call name size fit).1 h), tt)
call_says i call (op.Group (group_op.Destroy name)) s le fit h = ((call_fits call (op.Group (group_op.Destroy name)) fit, destroy_says name s), tt)
call_says i call (op.Member (member_op.Leave m)) s le fit h = ((call_fits call (op.Member (member_op.Leave m)) fit, leave_says m.0 s), tt)
call_says i call (op.Member (member_op.Join m)) s le fit h = ((call_fits call (op.Member (member_op.Join m)) fit, join_says m.0 s), tt)
call_says i call (op.Long name o) s le fit h = tt
call_says i call (op.Ref name o) s le fit h = tt
call_says i call (op.Map name o) s le fit h = tt
call_says i call (op.Lock name o) s le fit h = tt
call_says i call (op.Sem name o) s le fit h = tt
call_says i call (op.Jsem name o) s le fit h = tt
call_says i call (op.Latch name o) s le fit h = tt
call_says i call (op.Session o) s le fit h = tt
call_says i call (op.Destroy which name) s le fit h = tt
call_says i call (op.Change o) s le fit h = tt

says_well : (i : ℕ) (e : Entry) (s : MetaState) → i ≤ LAST_NUMBER → entry_grammar.Fits e → IsSound s → AllByRecursion AnswerFits (apply i e s).answers
says_well i (entry.Call call o) s le fit h = call_says i call o s le fit h
says_well i (entry.Destroyed group) s le fit h = tt
says_well i (entry.Moved group at members) s le fit h = tt
says_well i (entry.Left m) s le fit h = tt
says_well i entry.Empty s le fit h = tt
says_well i (entry.SessionsExpired pairs) s le fit h = tt
says_well i (entry.WaitsExpired calls) s le fit h = tt
says_well i (entry.Members call plan members) s le fit h = tt
says_well i (entry.Destroy group) s le fit h = tt

-- ---- histories

pub sound_step : (i : ℕ) (e : Entry) (s : MetaState) → i ≤ LAST_NUMBER → entry_grammar.Fits e → IsSound s → IsSoundStep (apply i e s)
sound_step i e s le fit h = record { state = walk i e IsSound IsSound IsMember (sound_kept i e le fit) s h; answers = says_well i e s le fit h }

metadata_fits : spelled.name.Fits metadata_name
unfolding spelled.name
metadata_fits = (omega arith, refl)

default_fits : spelled.name.Fits default_name
unfolding spelled.name
default_fits = (omega arith, refl)

members_first : (n from : ℕ) → 1 ≤ from → n + from ≤ MOST_MEMBER + 1 → AllByRecursion MemberFits (map (λ m. (m, standing.Active)) (numbers n from))
members_first zero from some few = tt
members_first (suc n) from some few = (record { least = some; most = omega (arith, few) }, members_first n (from + 1) (omega arith) (omega (arith, few)))

pub sound_first : (members size : ℕ) → 1 ≤ size → size ≤ members → members ≤ MOST_MEMBER → IsSound (first_state members size)
sound_first members size some within most =
    let fit : spelled.members.Fits (numbers size 1) = members_fit (numbers size 1) (numbers_are_members size 1 0 (omega arith) (omega (arith, within, most))) (omega (arith, some, length-numbers size 1)) in
    record {
      fits = record {
        members = members_first members 1 (omega arith) (omega (arith, most));
        groups = (
          record { number = index_fits 0 (omega arith); name = metadata_fits; first = fit; index = index_fits 0 (omega arith); members = fit },
          (record { number = index_fits 1 (omega arith); name = default_fits; first = fit; index = index_fits 0 (omega arith); members = fit }, tt),
        );
        destroyed = tt;
        moves = tt;
        few = omega arith;
        given_up = omega arith;
      };
      ordered = order-first members size;
      moves_are_of_groups = λ group none. refl;
    }

sound-run : (es : List Entry) (i : ℕ) (s : MetaState) → i + length es ≤ LAST_NUMBER + 1 → AllByRecursion entry_grammar.Fits es → IsSound s → AllByRecursion IsSoundStep (run i es s)
sound-run [] i s few fit h = tt
sound-run (e ∷ es) i s few fit h =
    let le : i ≤ LAST_NUMBER = omega (arith, few) in
    let step : IsSoundStep (apply i e s) = sound_step i e s le fit.0 h in
    (step, sound-run es (i + 1) (apply i e s).state (omega (arith, few)) fit.1 step.state)

pub sound_history : (members size : ℕ) (history : List Entry) → 1 ≤ size → size ≤ members → members ≤ MOST_MEMBER → length history ≤ LAST_NUMBER → AllByRecursion entry_grammar.Fits history → AllByRecursion IsSoundStep (run 1 history (first_state members size))
sound_history members size history some within most few fit = sound-run history 1 (first_state members size) (omega (arith, few)) fit (sound_first members size some within most)

-- The number of a group is the index of the entry that made it.
use Rattle.std.proofs.Common.{◌≡◌, ℕ, zero, suc, ◌+◌, ◌-◌, ◌<◌, ◌≤◌, ◌⊎◌, inl, inr, List, [], ◌∷◌, ◌++◌, length, Some, None, Option, refl, sym, ap, ◌∙◌, subst, arith, append_assoc}
use Rattle.std.specs.Prelude.{slice_get}
use Rattle.std.proofs.lemmas.List.{append-nil, length-append}
use Rattle.std.specs.List.{AllByRecursion}
use Rattle.std.specs.Map.{keys_of}
use Rattle.std.specs.Ordering.{nat_cmp}
use Rattle.std.proofs.lemmas.Cmp.{nat_cmp_total}
use Rattle.cp_base.specs.declared.identifier.Invocation.{Invocation}
use Rattle.cp_ops.specs.declared.group_op.GroupOp.TheVariants as group_op
use Rattle.cp_ops.specs.declared.op.Op.TheVariants as op
use Rattle.cp_ops.specs.declared.entry.Entry.{Entry}
use Rattle.cp_ops.specs.declared.entry.Entry.TheVariants as entry
use Rattle.cp_group_state.specs.Rows.{find, put, without}
use Rattle.cp_meta_state.specs.MetaState.{MetaState, Groups, GroupRow, first_state, group_at, new_group}
use Rattle.cp_meta_state.specs.Creating.{chosen}
use Rattle.cp_meta_state.specs.Moving.{configured}
use Rattle.cp_meta_state.specs.Apply.{apply, state_after}
use Rattle.cp_meta_state.specs.Laws.{IsMadeBy}
use Rattle.cp_meta_state.proofs.Among.{each-among, each-weaker}
use Rattle.cp_meta_state.proofs.Keeping.{each-put, each-without, each-find}
use Rattle.cp_meta_state.proofs.Walk.{Kept, walk}
use Rattle.cp_meta_state.proofs.Ordered.{Any, each-any}

-- a row that was there from the first, or that one of the entries so far made
abbrev IsNumbered : List Entry → ℕ × GroupRow → Type 0
IsNumbered done e = (e.0 ≤ 1) ⊎ IsMadeBy done e.0 e.1.name

abbrev AreNumbered : List Entry → MetaState → Type 0
AreNumbered done s = AllByRecursion (IsNumbered done) s.groups

-- what stands at a place of a list stands there too where more comes behind
get-more : (xs ys : List Entry) (k : ℕ) (x : Entry) → slice_get xs k ≡ Some x → slice_get (xs ++ ys) k ≡ Some x
get-more [] ys k x h = absurd (none k h) where
  none : (k : ℕ) → slice_get {X = Entry} [] k ≡ Some x → ⊥
  none zero e = cc
  none (suc k) e = cc
get-more (y ∷ xs) ys zero x h = h
get-more (y ∷ xs) ys (suc k) x h = get-more xs ys k x h

get-last : (xs : List Entry) (x : Entry) → slice_get (xs ++ x ∷ []) (length xs) ≡ Some x
get-last [] x = refl
get-last (y ∷ xs) x = get-last xs x

later : (done : List Entry) (f : Entry) (e : ℕ × GroupRow) → IsNumbered done e → IsNumbered (done ++ f ∷ []) e
later done f e (inl first) = inl first
later done f e (inr made) = inr (made.0, (made.1.0, get-more done (f ∷ []) (e.0 - 1) _ made.1.1))

made-now : (done : List Entry) (f : Entry) (call : Invocation) (name members : List ℕ) (size : ℕ) (row : GroupRow) → row.name ≡ name → f ≡ entry.Call call (op.Group (group_op.Create name size)) → IsNumbered (done ++ f ∷ []) (length done + 1, row)
made-now done f call name members size row named is = inr (
  call,
  (
    size,
    (ap (λ (k : ℕ). slice_get (done ++ f ∷ []) k) (back (length done)) ∙ get-last done f ∙ ap Some (is ∙ ap (λ (n : List ℕ). entry.Call call (op.Group (group_op.Create n size))) (sym named))),
  ),
)
  where
    back : (n : ℕ) → n + 1 - 1 ≡ n
    back n = omega arith

module _ (done : List Entry) where
  put-numbered : (rows : Groups) (group : ℕ) (row : GroupRow) → IsNumbered done (group, row) → AllByRecursion (IsNumbered done) rows → AllByRecursion (IsNumbered done) (put nat_cmp rows group row)
  put-numbered rows group row h all = each-put (IsNumbered done) rows group row h all

  configured-numbered : (rows : Groups) (group at : ℕ) (members : List ℕ) → AllByRecursion (IsNumbered done) rows → AllByRecursion (IsNumbered done) (configured (find nat_cmp rows group) group at members rows)
  configured-numbered rows group at members all = by (find nat_cmp rows group) refl where
    by : (o : Option GroupRow) → find nat_cmp rows group ≡ o → AllByRecursion (IsNumbered done) (configured o group at members rows)
    by None is = all
    by (Some row) is = put-numbered rows group _ (each-find (IsNumbered done) rows group row all is) all

numbers_kept : (done : List Entry) (e : Entry) → Kept (length done + 1) e (AreNumbered done) (AreNumbered (done ++ e ∷ [])) Any
numbers_kept done e = record {
  later = λ s h. each-weaker (IsNumbered done) (IsNumbered (done ++ e ∷ [])) (later done e) s.groups h;
  numbered = λ s h. each-any (keys_of s.members);
  stands = λ s m how r h. h;
  moves = λ s g add remove there a r h. h;
  makes = λ s call name size is enough room h. put-numbered (done ++ e ∷ []) s.groups (length done + 1) (new_group name (chosen size s)) (made-now done e call name (chosen size s) size (new_group name (chosen size s)) refl is) (each-weaker (IsNumbered done) (IsNumbered (done ++ e ∷ [])) (later done e) s.groups h);
  begins = λ s g there room h. put-numbered (done ++ e ∷ []) s.groups g.0 _ (each-among (IsNumbered (done ++ e ∷ [])) s.groups g h there) h;
  ends = λ s group row is going h. each-without (IsNumbered (done ++ e ∷ [])) s.groups group h;
  settles = λ s group at members is h. configured-numbered (done ++ e ∷ []) s.groups group.0 at members h;
}

numbered-after : (done es : List Entry) (s : MetaState) → AreNumbered done s → AreNumbered (done ++ es) (state_after (length done + 1) es s)
numbered-after done [] s h = subst (λ (all : List Entry). AreNumbered all s) (sym (append-nil done)) h
numbered-after done (e ∷ es) s h =
    let next = numbered-after (done ++ e ∷ []) es (apply (length done + 1) e s).state (walk (length done + 1) e (AreNumbered done) (AreNumbered (done ++ e ∷ [])) Any (numbers_kept done e) s h) in
    let place : length (done ++ e ∷ []) + 1 ≡ length done + 1 + 1 = omega (arith, length-append done (e ∷ [])) in
    subst (λ (all : List Entry). AreNumbered all (state_after (length done + 1 + 1) es (apply (length done + 1) e s).state)) (append_assoc done (e ∷ []) es)
    (subst (λ (i : ℕ). AreNumbered ((done ++ e ∷ []) ++ es) (state_after i es (apply (length done + 1) e s).state)) place next)

pub always-numbered : (members size : ℕ) (history : List Entry) (group : ℕ) (row : GroupRow) → group_at (state_after 1 history (first_state members size)) group ≡ Some row → (group ≤ 1) ⊎ IsMadeBy history group row.name
always-numbered members size history group row is =
    each-find (IsNumbered history) (state_after 1 history (first_state members size)).groups group row (numbered-after [] history (first_state members size) (inl (omega arith), (inl (omega arith), tt))) is

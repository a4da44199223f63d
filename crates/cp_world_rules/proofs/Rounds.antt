-- Rounds of latches never fall, and never pass 2 ^ 62.
use Rattle.std.proofs.Common.{◌≡◌, ℕ, ◌^◌, ◌≤◌, inl, inr, Bool, true, false, List, [], ◌∷◌, Some, refl, sym, subst, arith, le_refl, le_trans}
use Rattle.std.specs.Prelude.{◌==◌, nat_lt}
use Rattle.std.specs.BTreeMap.{is_at}
use Rattle.std.specs.Map.{values_of}
use Rattle.std.proofs.lemmas.List.Elements.{All-cons, All-head, All-tail}
use Rattle.std.proofs.lemmas.Map.Views.{All-values-insert_entry}
use Rattle.cp_base.specs.declared.identifier.Invocation.{Invocation}
use Rattle.cp_ops.specs.declared.entry.Entry.TheVariants as entry
use Rattle.cp_op_values.specs.declared.kind.Kind.{Kind}
use Rattle.cp_op_values.specs.declared.kind.Kind.TheVariants as kind
use Rattle.cp_object_ops.specs.declared.latch_op.LatchOp.{LatchOp}
use Rattle.cp_object_ops.specs.declared.latch_op.LatchOp.TheVariants as latch
use Rattle.cp_ops.specs.declared.op.Op.{Op}
use Rattle.cp_group_state.specs.declared.rows.LatchRow.{LatchRow}
use Rattle.cp_group_state.specs.Rows.{put, without, has_room, most, name_cmp}
use Rattle.cp_group_state.specs.Latches.{LatchStep, latch_at, latch_step, is_over, next_round, counted_down, counted_calls, most_counted}
use Rattle.cp_group_state.specs.GroupState.{GroupState}
use Rattle.cp_group_state.specs.Changes.{Change}
use Rattle.cp_group_state.specs.Destroying.{add_gone, drop_rows, is_gone}
use Rattle.cp_group_state.specs.LatchRules.{latch_rule}
use Rattle.cp_group_state.specs.Protected.{session_in}
use Rattle.cp_group_state.specs.Apply.{Applied, apply, apply_call, is_elsewhere, outcome, supersede}
use Rattle.cp_group_state.specs.History.{IsReached}
use Rattle.cp_group_state.proofs.Keyed.{equal_is, find-put_same, find-put_other, find-without_other, name_key}
use Rattle.cp_group_state.proofs.Walk.{either, Closed, keep_session, walk_on_latch, walk_outcome}
use Rattle.cp_group_state.proofs.Steps.{RoundsWithin, within-supersede}
use Rattle.cp_group_state.proofs.Grows.{gone-put, gone-put_same}
use Rattle.cp_group_state.proofs.Established.{reached-supersede}

abbrev pub Capped : GroupState → Type 0
Capped s = RoundsWithin (2 ^ 62) s.latches

within-find : (b : ℕ) (rows : List (List ℕ × LatchRow)) (name : List ℕ) → RoundsWithin b rows → (latch_at rows name).round ≤ b
within-find b [] name h = omega arith
within-find b (e ∷ es) name h = by (is_at (name_cmp name) e.0) refl (within-find b es name (All-tail (λ (r : LatchRow). r.round ≤ b) e.1 (values_of es) h)) where
  by : (c : Bool) → is_at (name_cmp name) e.0 ≡ c → (latch_at es name).round ≤ b → (latch_at (e ∷ es) name).round ≤ b
  by true x rest = rw x (All-head (λ (r : LatchRow). r.round ≤ b) e.1 (values_of es) h)
  by false x rest = rw x rest

within-without : (b : ℕ) (rows : List (List ℕ × LatchRow)) (name : List ℕ) → RoundsWithin b rows → RoundsWithin b (without name_cmp rows name)
within-without b [] name h = h
within-without b (e ∷ es) name h = either (RoundsWithin b) (is_at (name_cmp name) e.0) _ _ (All-tail (λ (r : LatchRow). r.round ≤ b) e.1 (values_of es) h)
    (All-cons (λ (r : LatchRow). r.round ≤ b) e.1 (values_of (without name_cmp es name)) (All-head (λ (r : LatchRow). r.round ≤ b) e.1 (values_of es) h) (within-without b es name (All-tail (λ (r : LatchRow). r.round ≤ b) e.1 (values_of es) h)))

-- the latches of a state, and the names that are gone
next-capped : (row : LatchRow) (n : ℕ) → (next_round row n).round ≤ 2 ^ 62
next-capped row n = omega arith

capped-step : (rows : List (List ℕ × LatchRow)) (name : List ℕ) (call : Invocation) (l : LatchOp) → RoundsWithin (2 ^ 62) rows → RoundsWithin (2 ^ 62) (latch_step rows name call l).after
capped-step rows name call latch.Count h = h
capped-step rows name call latch.Round h = h
capped-step rows name call (latch.Await millis) h = h
capped-step rows name call (latch.Set n) h = let row = latch_at rows name in
    either (λ (r : LatchStep). RoundsWithin (2 ^ 62) r.after) (row.count == 0) _ _
    (either (λ (r : LatchStep). RoundsWithin (2 ^ 62) r.after) (has_room name_cmp most rows name) _ _
    (All-values-insert_entry name_cmp name (next_round row n) (λ (r : LatchRow). r.round ≤ 2 ^ 62) rows h (next-capped row n)) h) h
capped-step rows name call (latch.Down round) h = let row = latch_at rows name in
    either (λ (r : LatchStep). RoundsWithin (2 ^ 62) r.after) (is_over call round row) _ _ h
    (either (λ (r : LatchStep). RoundsWithin (2 ^ 62) r.after) (nat_lt (counted_calls rows) most_counted) _ _
    (All-values-insert_entry name_cmp name (counted_down call row) (λ (r : LatchRow). r.round ≤ 2 ^ 62) rows h (within-find (2 ^ 62) rows name h)) h)

reached-put : (rows : List (List ℕ × LatchRow)) (name : List ℕ) (row : LatchRow) (q : List ℕ) (round : ℕ) → (latch_at rows name).round ≤ row.round → round ≤ (latch_at rows q).round → round ≤ (latch_at (put name_cmp rows name row) q).round
reached-put rows name row q round more h = by (is_at (name_cmp q) name) refl where
  by : (b : Bool) → is_at (name_cmp q) name ≡ b → round ≤ (latch_at (put name_cmp rows name row) q).round
  by true e = let same : q ≡ name = name_key.same q name (equal_is _ e) in let here : round ≤ (latch_at rows name).round = subst (λ y. round ≤ (latch_at rows y).round) same h in
      subst (λ y. round ≤ (latch_at (put name_cmp rows name row) y).round) (sym same) (rw (find-put_same name_cmp name_key rows name row) (le_trans here more))
  by false e = rw (find-put_other name_cmp name_key rows name q row e) h

reached-step : (rows : List (List ℕ × LatchRow)) (name : List ℕ) (call : Invocation) (l : LatchOp) (q : List ℕ) (round : ℕ) → RoundsWithin (2 ^ 62) rows → round ≤ (latch_at rows q).round → round ≤ (latch_at (latch_step rows name call l).after q).round
reached-step rows name call latch.Count q round within h = h
reached-step rows name call latch.Round q round within h = h
reached-step rows name call (latch.Await ms) q round within h = h
reached-step rows name call (latch.Set n) q round within h = let row = latch_at rows name in
    either (λ (r : LatchStep). round ≤ (latch_at r.after q).round) (row.count == 0) _ _
    (either (λ (r : LatchStep). round ≤ (latch_at r.after q).round) (has_room name_cmp most rows name) _ _
    (reached-put rows name (next_round row n) q round (next-more row n (within-find (2 ^ 62) rows name within)) h) h) h
  where
    next-more : (row : LatchRow) (n : ℕ) → row.round ≤ 2 ^ 62 → row.round ≤ (next_round row n).round
    next-more row n l = omega arith
reached-step rows name call (latch.Down now) q round within h = let row = latch_at rows name in
    either (λ (r : LatchStep). round ≤ (latch_at r.after q).round) (is_over call now row) _ _ h
    (either (λ (r : LatchStep). round ≤ (latch_at r.after q).round) (nat_lt (counted_calls rows) most_counted) _ _
    (reached-put rows name (counted_down call row) q round (le_refl row.round) h) h)

-- what a change keeps of rounds
abbrev pub Reaches : GroupState → GroupState → Type 0
Reaches s t = (name : List ℕ) (round : ℕ) → IsReached s (Some (name, round)) → IsReached t (Some (name, round))

abbrev pub KeepsRounds : GroupState → Change → Type 0
KeepsRounds s c = (Capped s → Capped c.state) × Reaches s c.state

drop-capped : (name : List ℕ) (which : Kind) (s : GroupState) → Capped s → Capped (add_gone (name, which) (drop_rows name which s))
drop-capped name kind.Long s h = h
drop-capped name kind.Ref s h = h
drop-capped name kind.Map s h = h
drop-capped name kind.Lock s h = h
drop-capped name kind.Sem s h = h
drop-capped name kind.Jsem s h = h
drop-capped name kind.Latch s h = within-without (2 ^ 62) s.latches name h

drop-latch : (name : List ℕ) (s : GroupState) (q : List ℕ) (round : ℕ) → round ≤ (latch_at s.latches q).round → IsReached (add_gone (name, kind.Latch) (drop_rows name kind.Latch s)) (Some (q, round))
drop-latch name s q round h = by (is_at (name_cmp q) name) refl where
  by : (b : Bool) → is_at (name_cmp q) name ≡ b → IsReached (add_gone (name, kind.Latch) (drop_rows name kind.Latch s)) (Some (q, round))
  by true e = let same : q ≡ name = name_key.same q name (equal_is _ e) in inl (subst (λ y. is_gone (add_gone (name, kind.Latch) (drop_rows name kind.Latch s)) (y, kind.Latch) ≡ true) (sym same) (gone-put_same s.gone (name, kind.Latch)))
  by false e = inr (rw (find-without_other name_cmp name_key s.latches name q e) h)

drop-reached : (name : List ℕ) (which : Kind) (s : GroupState) → Reaches s (add_gone (name, which) (drop_rows name which s))
drop-reached name kind.Long s q round (inl h) = inl (gone-put s.gone (name, kind.Long) (q, kind.Latch) h)
drop-reached name kind.Ref s q round (inl h) = inl (gone-put s.gone (name, kind.Ref) (q, kind.Latch) h)
drop-reached name kind.Map s q round (inl h) = inl (gone-put s.gone (name, kind.Map) (q, kind.Latch) h)
drop-reached name kind.Lock s q round (inl h) = inl (gone-put s.gone (name, kind.Lock) (q, kind.Latch) h)
drop-reached name kind.Sem s q round (inl h) = inl (gone-put s.gone (name, kind.Sem) (q, kind.Latch) h)
drop-reached name kind.Jsem s q round (inl h) = inl (gone-put s.gone (name, kind.Jsem) (q, kind.Latch) h)
drop-reached name kind.Latch s q round (inl h) = inl (gone-put s.gone (name, kind.Latch) (q, kind.Latch) h)
drop-reached name kind.Long s q round (inr h) = inr h
drop-reached name kind.Ref s q round (inr h) = inr h
drop-reached name kind.Map s q round (inr h) = inr h
drop-reached name kind.Lock s q round (inr h) = inr h
drop-reached name kind.Sem s q round (inr h) = inr h
drop-reached name kind.Jsem s q round (inr h) = inr h
drop-reached name kind.Latch s q round (inr h) = drop-latch name s q round h

rounds_closed : (i : ℕ) → Closed i KeepsRounds
rounds_closed i = record {
  stays = λ s. (λ h. h, λ q r h. h);
  joins = λ s c d f g. (λ h. g.0 (f.0 h), λ q r h. g.1 q r (f.1 q r h));
  ends = λ s ended all. (λ h. h, λ q r h. h);
  handed = λ s c name w g. g;
  freed = λ s c sessions g. g;
  serves = λ s c key row is g. g;
  permits = λ s c key o g. g;
  backs = λ s c sessions g. g;
  closes = λ s sessions. (λ h. h, λ q r h. h);
  acquires = λ s c name who limit g. g;
  releases = λ s c name who g. g;
  longs = λ s c name o g. g;
  refs = λ s c name o g. g;
  maps = λ s c name o g. g;
  opens = λ s c client fresh g. g;
  beats = λ s c number row is g. g;
  drops = λ s c name which g. (λ h. g.0 (drop-capped name which s h), λ q r h. g.1 q r (drop-reached name which s q r h));
}

-- with rounds up to 2 ^ 62 an operation on a latch keeps them too
abbrev pub KeepsCapped : GroupState → Change → Type 0
KeepsCapped s c = Capped s → Capped c.state × Reaches s c.state

keeps-latch : (i : ℕ) (call : Invocation) (name : List ℕ) (l : LatchOp) (s : GroupState) → KeepsCapped s (latch_rule call name l s).change
keeps-latch i call name l s h = let f = walk_on_latch i KeepsRounds (rounds_closed i) call name l (latch_step s.latches name call l).outcome (record s { latches = (latch_step s.latches name call l).after }) in
    (f.0 (capped-step s.latches name call l h), λ q r k. f.1 q r (at q r k))
  where
    at : (q : List ℕ) (round : ℕ) → IsReached s (Some (q, round)) → IsReached (record s { latches = (latch_step s.latches name call l).after }) (Some (q, round))
    at q round (inl k) = inl k
    at q round (inr k) = inr (reached-step s.latches name call l q round h k)

keeps-outcome : (i : ℕ) (call : Invocation) (o : Op) (s : GroupState) → KeepsCapped s (outcome i call o s).change
keeps-outcome i call o s = walk_outcome i KeepsRounds KeepsCapped (rounds_closed i) (λ s c f h. (f.0 h, f.1)) call o s (λ e name l is. keeps-latch i call name l s)

-- an entry of a call
rounds-call : (i : ℕ) (call : Invocation) (o : Op) (s : GroupState) → Capped s → Capped (apply_call i call o s).state × Reaches s (apply_call i call o s).state
rounds-call i call o s h = either (λ (r : Applied). Capped r.state × Reaches s r.state) (s.destroyed_group.0 == 0) _ _
    (let first : Capped (supersede call s).state = within-supersede call (2 ^ 62) s h in
    keep_session (λ t. Capped t × Reaches s t) (λ t ws m g. g) i call o (session_in o) (supersede call s).state (first, λ q r k. reached-supersede call s (Some (q, r)) k)
    (let f = keeps-outcome i call o (supersede call s).state first in (f.0, λ q r k. f.1 q r (reached-supersede call s (Some (q, r)) k)))) (h, λ q r k. k)

pub rounds-applied : (i : ℕ) (call : Invocation) (o : Op) (s : GroupState) → Capped s → Capped (apply i (entry.Call call o) s).state × Reaches s (apply i (entry.Call call o) s).state
rounds-applied i call o s h = either (λ (r : Applied). Capped r.state × Reaches s r.state) (is_elsewhere o) _ _ (h, λ q r k. k) (rounds-call i call o s h)

-- What a history has at each place: entries, states and answers.
use Rattle.std.proofs.Common.{◌≡◌, ℕ, ◌+◌, ◌<◌, ◌⊎◌, inl, inr, List, [], ◌∷◌, Some, None, Option, refl, sym, subst, ap, ◌∙◌, arith, map, zero, suc}
use Rattle.std.specs.Prelude.{Contains, slice_get}
use Rattle.std.proofs.lemmas.List.Elements.{Contains-append_left, Contains-append_right, Contains-append_cases}
use Rattle.cp_base.specs.declared.identifier.Invocation.{Invocation}
use Rattle.cp_base.proofs.Tests.{same_some}
use Rattle.cp_answers.specs.declared.answer.Answer.{Answer}
use Rattle.cp_ops.specs.declared.op.Op.{Op}
use Rattle.cp_ops.specs.declared.op.Op.TheVariants as op
use Rattle.cp_ops.specs.declared.entry.Entry.{Entry}
use Rattle.cp_ops.specs.declared.entry.Entry.TheVariants as entry
use Rattle.cp_group_state.specs.GroupState.{GroupState, empty}
use Rattle.cp_group_state.specs.Apply.{Applied, apply, run}
use Rattle.cp_group_state.specs.Protected.{session_in}
use Rattle.cp_group_state.specs.History.{Given, History, IsBelow, IsFullyOrderly, IsGivenAt, IsOrderly, IsOrderlyAt, IsOrderlyFrom, given_from, sessions_in, sessions_in_call, sessions_in_op, state_after, state_before}
use Rattle.cp_group_state.proofs.Lists.{at-head, map-in, mapped, no-element}

no-entry : (e : Entry) → None ≡ Some e → ⊥
no-entry e h = cc

no-step : (x : Applied) → None ≡ Some x → ⊥
no-step x h = cc

-- one entry more
pub state-next : (n i j : ℕ) (es : List Entry) (e : Entry) (s : GroupState) → j ≡ i + n → slice_get es n ≡ Some e → state_after (suc n) i es s ≡ (apply j e (state_after n i es s)).state
state-next n i j [] e s h is = absurd (no-entry e is)
state-next zero i j (x ∷ es) e s h is = let same : i ≡ j = omega (arith, h) in ap (λ k. (apply k x s).state) same ∙ ap (λ y. (apply j y s).state) (same_some is)
state-next (suc n) i j (x ∷ es) e s h is = state-next n (i + 1) j es e (apply i x s).state (omega (arith, h)) is

-- what the run has at a place
pub run-has : (n i j : ℕ) (es : List Entry) (e : Entry) (s : GroupState) → j ≡ i + n → slice_get es n ≡ Some e → slice_get (run i es s) n ≡ Some (apply j e (state_after n i es s))
run-has n i j [] e s h is = absurd (no-entry e is)
run-has zero i j (y ∷ es) e s h is = let same : i ≡ j = omega (arith, h) in ap (λ k. Some (apply k y s)) same ∙ ap (λ z. Some (apply j z s)) (same_some is)
run-has (suc n) i j (y ∷ es) e s h is = run-has n (i + 1) j es e (apply i y s).state (omega (arith, h)) is

pub run-gives : (n i j : ℕ) (es : List Entry) (e : Entry) (s : GroupState) (x : Applied) → j ≡ i + n → slice_get es n ≡ Some e → slice_get (run i es s) n ≡ Some x → x ≡ apply j e (state_after n i es s)
run-gives n i j es e s x h is got = same_some (sym got ∙ run-has n i j es e s h is)

-- each place of the run is that of an entry
pub run-entry : (n i : ℕ) (es : List Entry) (s : GroupState) (x : Applied) → slice_get (run i es s) n ≡ Some x → (e : Entry) × (slice_get es n ≡ Some e)
run-entry n i [] s x got = absurd (no-step x got)
run-entry zero i (y ∷ es) s x got = (y, refl)
run-entry (suc n) i (y ∷ es) s x got = run-entry n (i + 1) es (apply i y s).state x got

pub by-states : (history : History) (place : ℕ) (e : Entry) → slice_get history place ≡ Some e → slice_get (run 1 history empty) place ≡ Some (apply (place + 1) e (state_before history place))
by-states history place e is = run-has place 1 (place + 1) history e empty (omega arith) is

-- the state after the entry at a place
pub state-then : (history : History) (place : ℕ) (e : Entry) → slice_get history place ≡ Some e → state_before history (place + 1) ≡ (apply (place + 1) e (state_before history place)).state
state-then history place e is = let one : suc place ≡ place + 1 = omega arith in
    subst (λ n. state_after n 1 history empty ≡ (apply (place + 1) e (state_after place 1 history empty)).state) one (state-next place 1 (place + 1) history e empty (omega arith) is)

-- ---- answers
abbrev pub as_given : ℕ → Invocation × Answer → Given
as_given index a = record { index = index; call = a.0; answer = a.1 }

-- an answer of a step is one of the history
pub given-at : (i q : ℕ) (xs : List Applied) (step : Applied) (call : Invocation) (a : Answer) → slice_get xs q ≡ Some step → Contains step.answers (call, a) → Contains (given_from i xs) (record { index = i + q; call = call; answer = a })
given-at i q [] step call a at_q told = absurd (no-step step at_q)
given-at i zero (x ∷ xs) step call a at_q told = subst (λ (n : ℕ). Contains (given_from i (x ∷ xs)) (record { index = n; call = call; answer = a })) (plus i)
    (Contains-append_left (map (as_given i) x.answers) (given_from (i + 1) xs) _
    (map-in (as_given i) x.answers (call, a) (subst (λ (y : Applied). Contains y.answers (call, a)) (sym (same_some at_q)) told)))
  where
    plus : (n : ℕ) → n ≡ n + 0
    plus n = omega arith
given-at i (suc q) (x ∷ xs) step call a at_q told = Contains-append_right (map (as_given i) x.answers) (given_from (i + 1) xs) _
    (subst (λ (n : ℕ). Contains (given_from (i + 1) xs) (record { index = n; call = call; answer = a })) (add i q) (given-at (i + 1) q xs step call a at_q told))
  where
    add : (n k : ℕ) → n + 1 + k ≡ n + suc k
    add n k = omega arith

-- the step that gave an answer
pub record IsOfStep (i : ℕ) (xs : List Applied) (g : Given) : Type 0 where
  pub place : ℕ
  pub step : Applied
  pub there : slice_get xs place ≡ Some step
  pub index_is : g.index ≡ i + place
  pub told : Contains step.answers (g.call, g.answer)

pub given-in : (i : ℕ) (xs : List Applied) (g : Given) → Contains (given_from i xs) g → IsOfStep i xs g
given-in i [] g h = absurd (no-element g h)
given-in i (x ∷ xs) g h = at (Contains-append_cases (map (as_given i) x.answers) (given_from (i + 1) xs) g h) (given-in (i + 1) xs g) where
  plus : (n : ℕ) → n ≡ n + 0
  plus n = omega arith

  add : (n k : ℕ) → n + 1 + k ≡ n + suc k
  add n k = omega arith

  at : Contains (map (as_given i) x.answers) g ⊎ Contains (given_from (i + 1) xs) g → (Contains (given_from (i + 1) xs) g → IsOfStep (i + 1) xs g) → IsOfStep i (x ∷ xs) g
  at (inl k) rest = let m = mapped (as_given i) x.answers g k in record {
    place = 0;
    step = x;
    there = refl;
    index_is = ap (λ (y : Given). y.index) m.2 ∙ plus i;
    told = subst (λ (y : Given). Contains x.answers (y.call, y.answer)) (sym m.2) m.1;
  }
  at (inr k) rest = let r = rest k in record { place = suc r.place; step = r.step; there = r.there; index_is = r.index_is ∙ add i r.place; told = r.told }

-- what the entry of an index answers
pub record IsOfEntry (history : History) (index : ℕ) (call : Invocation) (a : Answer) : Type 0 where
  pub place : ℕ
  pub entry : Entry
  pub there : slice_get history place ≡ Some entry
  pub index_is : index ≡ place + 1
  pub told : Contains (apply (place + 1) entry (state_before history place)).answers (call, a)

pub given-by : (history : History) (index : ℕ) (call : Invocation) (a : Answer) → IsGivenAt history index call a → IsOfEntry history index call a
given-by history index call a h = let r = given-in 1 (run 1 history empty) (record { index = index; call = call; answer = a }) h in
    let e = run-entry r.place 1 history empty r.step r.there in record {
      place = r.place;
      entry = e.0;
      there = e.1;
      index_is = r.index_is ∙ turn r.place;
      told = subst (λ (y : Applied). Contains y.answers (call, a)) (run-gives r.place 1 (r.place + 1) history e.0 empty r.step (sym (turn r.place)) e.1 r.there) r.told;
    }
  where
    turn : (n : ℕ) → 1 + n ≡ n + 1
    turn n = omega arith

pub given-of : (history : History) (place : ℕ) (e : Entry) (call : Invocation) (a : Answer) → slice_get history place ≡ Some e → Contains (apply (place + 1) e (state_before history place)).answers (call, a) → IsGivenAt history (place + 1) call a
given-of history place e call a is told = subst (λ n. IsGivenAt history n call a) (turn place) (given-at 1 place (run 1 history empty) (apply (place + 1) e (state_before history place)) call a (by-states history place e is) told) where
  turn : (n : ℕ) → 1 + n ≡ n + 1
  turn n = omega arith

-- ---- order
-- each entry is orderly where it stands
pub orderly-at : (n i j : ℕ) (es : List Entry) (e : Entry) (s : GroupState) → j ≡ i + n → slice_get es n ≡ Some e → IsOrderlyFrom i es s → IsOrderlyAt j e (state_after n i es s)
orderly-at n i j [] e s h is all = absurd (no-entry e is)
orderly-at zero i j (y ∷ es) e s h is all = let same : i ≡ j = omega (arith, h) in subst (λ z. IsOrderlyAt j z s) (same_some is) (subst (λ k. IsOrderlyAt k y s) same all.0)
orderly-at (suc n) i j (y ∷ es) e s h is all = orderly-at n (i + 1) j es e (apply i y s).state (omega (arith, h)) is all.1

-- and so they all are
orderly-each : (i : ℕ) (es : List Entry) (s : GroupState) → ((place : ℕ) (e : Entry) → slice_get es place ≡ Some e → IsOrderlyAt (i + place) e (state_after place i es s)) → IsOrderlyFrom i es s
orderly-each i [] s h = tt
orderly-each i (e ∷ es) s h = (
  subst (λ n. IsOrderlyAt n e s) (none i) (h 0 e refl),
  orderly-each (i + 1) es (apply i e s).state (λ place x is. subst (λ n. IsOrderlyAt n x (state_after place (i + 1) es (apply i e s).state)) (add i place) (h (suc place) x is)),
)
  where
    none : (n : ℕ) → n + 0 ≡ n
    none n = omega arith

    add : (n k : ℕ) → n + suc k ≡ n + 1 + k
    add n k = omega arith

-- a session that an operation names is among those of the entry
names-among : (o : Op) (s : ℕ) → session_in o ≡ Some s → Contains (sessions_in_op o) s
names-among (op.Session l) s h = absurd (no h) where
  no : None ≡ Some s → ⊥
  no e = cc
names-among (op.Long name l) s h = subst (λ so. Contains (sessions_in_call so) s) (sym h) (at-head s [])
names-among (op.Ref name l) s h = subst (λ so. Contains (sessions_in_call so) s) (sym h) (at-head s [])
names-among (op.Map name l) s h = subst (λ so. Contains (sessions_in_call so) s) (sym h) (at-head s [])
names-among (op.Lock name l) s h = subst (λ so. Contains (sessions_in_call so) s) (sym h) (at-head s [])
names-among (op.Sem name l) s h = subst (λ so. Contains (sessions_in_call so) s) (sym h) (at-head s [])
names-among (op.Jsem name l) s h = subst (λ so. Contains (sessions_in_call so) s) (sym h) (at-head s [])
names-among (op.Latch name l) s h = subst (λ so. Contains (sessions_in_call so) s) (sym h) (at-head s [])
names-among (op.Destroy which name) s h = subst (λ so. Contains (sessions_in_call so) s) (sym h) (at-head s [])
names-among (op.Group l) s h = subst (λ so. Contains (sessions_in_call so) s) (sym h) (at-head s [])
names-among (op.Member l) s h = subst (λ so. Contains (sessions_in_call so) s) (sym h) (at-head s [])
names-among (op.Change l) s h = subst (λ so. Contains (sessions_in_call so) s) (sym h) (at-head s [])

below-by : (index : ℕ) (so : Option ℕ) → ((s : ℕ) → so ≡ Some s → s < index) → IsBelow index so
below-by index None h = tt
below-by index (Some s) h = h s refl

pub full-order : (history : History) → IsFullyOrderly history → IsOrderly history
full-order history full = record { one_op = full.one_op; entries = orderly-each 1 history empty (λ place e is. subst (λ n. IsOrderlyAt n e (state_before history place)) (turn place) (each place e is)); few = full.few } where
  turn : (n : ℕ) → n + 1 ≡ 1 + n
  turn n = omega arith

  each : (place : ℕ) (e : Entry) → slice_get history place ≡ Some e → IsOrderlyAt (place + 1) e (state_before history place)
  each place (entry.Call call o) is = (below-by (place + 1) (session_in o) (λ s h. full.sessions place (entry.Call call o) s is (names-among o s h)), full.rounds place call o is)
  each place e is = tt

pub fully-orderly : (history : History) → IsOrderly history → ((place : ℕ) (e : Entry) (s : ℕ) → slice_get history place ≡ Some e → Contains (sessions_in e) s → s < place + 1) → IsFullyOrderly history
fully-orderly history orderly sessions = record {
  one_op = orderly.one_op;
  sessions = sessions;
  rounds = λ place call o is. (orderly-at place 1 (place + 1) history (entry.Call call o) empty (omega arith) is orderly.entries).1;
  few = orderly.few;
}

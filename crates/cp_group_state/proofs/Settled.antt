-- A call that was settled by an entry changes nothing when it comes again.
use Rattle.std.proofs.Common.{◌≡◌, ℕ, ◌+◌, ◌<◌, ◌≤◌, ◌⊎◌, inl, inr, Bool, true, false, List, [], ◌∷◌, Some, None, Option, refl, ap, sym, ◌∙◌, subst, arith, if◌then◌else◌}
use Rattle.std.specs.Prelude.{◌==◌, nat_lt, is_some}
use Rattle.std.proofs.lemmas.Bool.Decides.{nat_tests}
use Rattle.std.proofs.lemmas.Option.{none-some}
use Rattle.cp_op_values.specs.declared.kind.Kind.TheVariants as kind
use Rattle.cp_base.specs.declared.identifier.Invocation.{Invocation}
use Rattle.cp_base.proofs.Tests.{same_some, no_true, same_number}
use Rattle.cp_answers.specs.declared.answer.Answer.{Answer}
use Rattle.cp_answers.specs.declared.answer.Answer.TheVariants as answer
use Rattle.cp_object_ops.specs.declared.latch_op.LatchOp.{LatchOp}
use Rattle.cp_object_ops.specs.declared.latch_op.LatchOp.TheVariants as latch
use Rattle.cp_ops.specs.declared.op.Op.{Op}
use Rattle.cp_ops.specs.declared.op.Op.TheVariants as op
use Rattle.cp_group_state.specs.Rows.{find, holder_cmp}
use Rattle.cp_group_state.specs.Memory.{MemoryRow}
use Rattle.cp_group_state.specs.Sessions.{is_open_for}
use Rattle.cp_group_state.specs.GroupState.{GroupState}
use Rattle.cp_group_state.specs.Apply.{perform, by_memory, by_session, give_again}
use Rattle.cp_group_state.specs.Protected.{session_in}
use Rattle.cp_group_state.specs.Destroying.{is_gone}
use Rattle.cp_group_state.specs.Protected.{down_in, is_protected}
use Rattle.cp_group_state.specs.Repeats.{IsOwnAnswer}
use Rattle.cp_group_state.proofs.Grows.{Reaches, Grows, Over}
use Rattle.cp_group_state.proofs.Latches.{down-again}

abbrev pub SettledSession : ℕ → GroupState → Invocation → Option ℕ → Type 0
SettledSession i s call None = Unit {0}
SettledSession i s call (Some session) = (session < i) × (is_open_for s.sessions session call.client ≡ true → Reaches s.memory (session, call.thread.0) call.number)

abbrev pub SettledDown : GroupState → Invocation → Option (List ℕ × ℕ) → Type 0
SettledDown s call None = Unit {0}
SettledDown s call (Some down) = (is_gone s (down.0, kind.Latch) ≡ true) ⊎ Over s.latches down.0 call down.1

-- the group is destroyed, or the call's session is closed, or its memory row has its number or a greater one, or its count down is over
pub data Settled (i : ℕ) (s : GroupState) (call : Invocation) (o : Op) : Type 0 where
  dead : (s.destroyed_group.0 == 0) ≡ false → Settled i s call o
  alive : SettledSession i s call (session_in o) → SettledDown s call (down_in o) → Settled i s call o

pub grows-settled_session : (i : ℕ) (s t : GroupState) (call : Invocation) (so : Option ℕ) → Grows i s t → SettledSession i s call so → SettledSession i t call so
grows-settled_session i s t call None g h = tt
grows-settled_session i s t call (Some session) g h = (h.0, λ o. g.memory session call.client call.thread.0 call.number h.0 o (h.1 (g.opened session call.client h.0 o)))

pub grows-settled_down : (i : ℕ) (s t : GroupState) (call : Invocation) (down : Option (List ℕ × ℕ)) → Grows i s t → SettledDown s call down → SettledDown t call down
grows-settled_down i s t call None g h = tt
grows-settled_down i s t call (Some down) g (inl h) = inl (g.gone (down.0, kind.Latch) h)
grows-settled_down i s t call (Some down) g (inr h) = g.latch down.0 call down.1 h

pub grows-settled : (i : ℕ) (s t : GroupState) (call : Invocation) (o : Op) → Grows i s t → Settled i s call o → Settled i t call o
grows-settled i s t call o g (dead h) = dead (rw (g.destroyed_group h) h)
grows-settled i s t call o g (alive a b) = alive (grows-settled_session i s t call (session_in o) g a) (grows-settled_down i s t call (down_in o) g b)

later_session : (i : ℕ) (s : GroupState) (call : Invocation) (so : Option ℕ) → SettledSession i s call so → SettledSession (i + 1) s call so
later_session i s call None h = tt
later_session i s call (Some session) h = let x = h.0 in (omega arith, h.1)

pub later : (i : ℕ) (s : GroupState) (call : Invocation) (o : Op) → Settled i s call o → Settled (i + 1) s call o
later i s call o (dead h) = dead h
later i s call o (alive a b) = alive (later_session i s call (session_in o) a) b

-- A call that was settled changes nothing: its own answer.
abbrev pub again_by_memory : Invocation → Option MemoryRow → Option Answer
again_by_memory call None = None
again_by_memory call (Some row) = if row.number == call.number then row.answer else Some (answer.Stale row.number)

abbrev pub again_by_session : GroupState → Invocation → Option ℕ → Option Answer
again_by_session s call None = Some answer.Ok
again_by_session s call (Some session) = if is_open_for s.sessions session call.client then again_by_memory call (find holder_cmp s.memory (session, call.thread.0)) else Some (answer.SessionExpired session)

reaches-row : (s : GroupState) (call : Invocation) (session : ℕ) (i : ℕ) (o : Op) → Reaches s.memory (session, call.thread.0) call.number → by_memory i call o (find holder_cmp s.memory (session, call.thread.0)) s ≡ record { state = s; answers = give_again call (again_by_memory call (find holder_cmp s.memory (session, call.thread.0))) }
reaches-row s call session i o r = rw r.1 (at r.0 r.2 (r.0.number == call.number) refl)
  where
    less : (row : MemoryRow) → call.number ≤ row.number → (row.number == call.number) ≡ false → nat_lt call.number row.number ≡ true
    less row h e = grind (arith, nat_tests)

    at : (row : MemoryRow) → call.number ≤ row.number → (b : Bool) → (row.number == call.number) ≡ b → by_memory i call o (Some row) s ≡ record { state = s; answers = give_again call (again_by_memory call (Some row)) }
    at row h true e = rw e
    at row h false e = rw (e, less row h e)

pub session-again : (i : ℕ) (s : GroupState) (call : Invocation) (o : Op) (session : ℕ) → (is_open_for s.sessions session call.client ≡ true → Reaches s.memory (session, call.thread.0) call.number)
    → by_session i call o (Some session) s ≡ record { state = s; answers = give_again call (again_by_session s call (Some session)) }
session-again i s call o session h = at (is_open_for s.sessions session call.client) refl
  where
    at : (b : Bool) → is_open_for s.sessions session call.client ≡ b → by_session i call o (Some session) s ≡ record { state = s; answers = give_again call (again_by_session s call (Some session)) }
    at true e = rw e (reaches-row s call session i o (h e))
    at false e = rw e

-- the op that counts down
pub down-shape : (o : Op) (down : List ℕ × ℕ) → down_in o ≡ Some down → o ≡ op.Latch down.0 (latch.Down down.1)
down-shape (op.Latch name l) down e = at l e where
  at : (l : LatchOp) → down_in (op.Latch name l) ≡ Some down → op.Latch name l ≡ op.Latch down.0 (latch.Down down.1)
  at latch.Count e = cc
  at latch.Round e = cc
  at (latch.Set n) e = cc
  at (latch.Down round) e = let same : (name, round) ≡ down = same_some e in λ i. op.Latch (same i).0 (latch.Down (same i).1)
  at (latch.Await millis) e = cc
down-shape (op.Long name l) down e = cc
down-shape (op.Ref name l) down e = cc
down-shape (op.Map name l) down e = cc
down-shape (op.Lock name l) down e = cc
down-shape (op.Sem name l) down e = cc
down-shape (op.Jsem name l) down e = cc
down-shape (op.Session l) down e = cc
down-shape (op.Destroy which name) down e = cc
down-shape (op.Group o) down e = cc
down-shape (op.Member o) down e = cc
down-shape (op.Change o) down e = cc

pub again_down : Bool → Option Answer
again_down true = Some answer.ObjectDestroyed
again_down false = Some answer.Ok

down-step : (i : ℕ) (s : GroupState) (call : Invocation) (name : List ℕ) (round : ℕ) → SettledDown s call (Some (name, round))
    → (a : Answer) × (perform i call (op.Latch name (latch.Down round)) s ≡ record { state = s; answers = (call, a) ∷ [] }) × IsOwnAnswer (op.Latch name (latch.Down round)) a
down-step i s call name round h = at (is_gone s (name, kind.Latch)) refl h
  where
    at : (b : Bool) → is_gone s (name, kind.Latch) ≡ b → SettledDown s call (Some (name, round))
        → (a : Answer) × (perform i call (op.Latch name (latch.Down round)) s ≡ record { state = s; answers = (call, a) ∷ [] }) × IsOwnAnswer (op.Latch name (latch.Down round)) a
    at true e h = (answer.ObjectDestroyed, rw e, tt)
    at false e (inl h) = absurd (no_true (sym h ∙ e))
    at false e (inr h) = (answer.Ok, rw (e, down-again s.latches name call round h), refl)

-- what an acting call is answered when it comes again
pub record Again (i : ℕ) (s : GroupState) (call : Invocation) (o : Op) : Type 0 where
  pub own : Option Answer
  pub step : by_session i call o (session_in o) s ≡ record { state = s; answers = give_again call own }
  pub by : (session : ℕ) → session_in o ≡ Some session → own ≡ again_by_session s call (Some session)
  pub from : ((a : Answer) → own ≡ Some a → IsOwnAnswer o a ⊎ ((session : ℕ) × (row : MemoryRow) × (session_in o ≡ Some session) × (is_open_for s.sessions session call.client ≡ true) × (find holder_cmp s.memory (session, call.thread.0) ≡ Some row) × (row.number ≡ call.number) × (row.answer ≡ Some a)))

session-from : (s : GroupState) (call : Invocation) (o : Op) (session : ℕ) → session_in o ≡ Some session → (a : Answer) → again_by_session s call (Some session) ≡ Some a
    → IsOwnAnswer o a ⊎ ((session : ℕ) × (row : MemoryRow) × (session_in o ≡ Some session) × (is_open_for s.sessions session call.client ≡ true) × (find holder_cmp s.memory (session, call.thread.0) ≡ Some row) × (row.number ≡ call.number) × (row.answer ≡ Some a))
session-from s call o session so a is = at (is_open_for s.sessions session call.client) refl is
  where
    Goal : Type 0
    Goal = IsOwnAnswer o a ⊎ ((session : ℕ) × (row : MemoryRow) × (session_in o ≡ Some session) × (is_open_for s.sessions session call.client ≡ true) × (find holder_cmp s.memory (session, call.thread.0) ≡ Some row) × (row.number ≡ call.number) × (row.answer ≡ Some a))

    own : (b : Answer) → IsOwnAnswer o b → b ≡ a → IsOwnAnswer o a
    own b h e = subst (IsOwnAnswer o) e h

    by_row : (row : Option MemoryRow) → find holder_cmp s.memory (session, call.thread.0) ≡ row → is_open_for s.sessions session call.client ≡ true → again_by_memory call row ≡ Some a → IsOwnAnswer o a ⊎ ((session : ℕ) × (row : MemoryRow) × (session_in o ≡ Some session) × (is_open_for s.sessions session call.client ≡ true) × (find holder_cmp s.memory (session, call.thread.0) ≡ Some row) × (row.number ≡ call.number) × (row.answer ≡ Some a))
    by_row None there opened e = absurd (none-some a e)
    by_row (Some row) there opened e = by_number (row.number == call.number) refl e
      where
        by_number : (b : Bool) → (row.number == call.number) ≡ b → (if b then row.answer else Some (answer.Stale row.number)) ≡ Some a → IsOwnAnswer o a ⊎ ((session : ℕ) × (row : MemoryRow) × (session_in o ≡ Some session) × (is_open_for s.sessions session call.client ≡ true) × (find holder_cmp s.memory (session, call.thread.0) ≡ Some row) × (row.number ≡ call.number) × (row.answer ≡ Some a))
        by_number true n e = inr (session, row, so, opened, there, same_number row.number call.number n, e)
        by_number false n e = inl (own (answer.Stale row.number) tt (same_some e))

    at : (b : Bool) → is_open_for s.sessions session call.client ≡ b → (if b then again_by_memory call (find holder_cmp s.memory (session, call.thread.0)) else Some (answer.SessionExpired session)) ≡ Some a → IsOwnAnswer o a ⊎ ((session : ℕ) × (row : MemoryRow) × (session_in o ≡ Some session) × (is_open_for s.sessions session call.client ≡ true) × (find holder_cmp s.memory (session, call.thread.0) ≡ Some row) × (row.number ≡ call.number) × (row.answer ≡ Some a))
    at true opened e = by_row (find holder_cmp s.memory (session, call.thread.0)) refl opened e
    at false opened e = inl (own (answer.SessionExpired session) tt (same_some e))

again-down : (i : ℕ) (s : GroupState) (call : Invocation) (name : List ℕ) (round : ℕ) → SettledDown s call (Some (name, round)) → Again i s call (op.Latch name (latch.Down round))
again-down i s call name round h = let x = down-step i s call name round h in
    record { own = Some x.0; step = x.1; by = λ session e. absurd (none-some session e); from = λ a e. inl (subst (IsOwnAnswer (op.Latch name (latch.Down round))) (same_some e) x.2) }

again-session : (i : ℕ) (s : GroupState) (call : Invocation) (o : Op) (session : ℕ) → session_in o ≡ Some session → SettledSession i s call (Some session) → Again i s call o
again-session i s call o session so h = record {
  own = again_by_session s call (Some session);
  step = rw so (session-again i s call o session h.1);
  by = λ other e. ap (again_by_session s call) (sym so ∙ e);
  from = λ a e. session-from s call o session so a e;
}

acts-down : (o : Op) → is_protected o ≡ true → session_in o ≡ None → (down : List ℕ × ℕ) × (down_in o ≡ Some down)
acts-down o acts none = at (down_in o) refl (rw none at acts)
  where
    at : (d : Option (List ℕ × ℕ)) → down_in o ≡ d → is_some (down_in o) ≡ true → (down : List ℕ × ℕ) × (down_in o ≡ Some down)
    at None e h = absurd (no_true (sym h ∙ ap is_some e))
    at (Some down) e h = (down, e)

pub again : (i : ℕ) (s : GroupState) (call : Invocation) (o : Op) → is_protected o ≡ true → SettledSession i s call (session_in o) → SettledDown s call (down_in o) → Again i s call o
again i s call o acts a b = at (session_in o) refl a
  where
    at : (so : Option ℕ) → session_in o ≡ so → SettledSession i s call so → Again i s call o
    at (Some session) e h = again-session i s call o session e h
    at None e h = let d = acts-down o acts e in
        let shape = down-shape o d.0 d.1 in
        subst (Again i s call) (sym shape) (again-down i s call d.0.0 d.0.1 (subst (SettledDown s call) d.1 b))

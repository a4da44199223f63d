-- What the rules' definitions come to, case by case.
use Rattle.std.proofs.Common.{◌≡◌, ℕ, Bool, true, false, List, [], ◌∷◌, ℤ, ◌||◌, map, Option, Some, None, refl, ap, sym, subst, ◌∙◌, if◌then◌else◌}
use Rattle.std.specs.Prelude.{pos, int_lt, nat_lt, neg_ℤ, ◌+ℤ◌, ◌-ℤ◌, ◌+◌, ◌-◌, ◌^◌}
use Rattle.std.specs.List.{filter, list_any}
use Rattle.std.specs.Option.{option_map}
use Rattle.std.specs.Ordering.{nat_cmp}
use Rattle.cp_base.specs.declared.identifier.ClientId.{ClientId}
use Rattle.cp_base.specs.declared.identifier.Invocation.{Invocation}
use Rattle.cp_answers.specs.declared.answer.Answer.{Answer}
use Rattle.cp_answers.specs.declared.answer.Answer.TheVariants as answer
use Rattle.cp_object_ops.specs.declared.sem_op.SemOp.{SemOp}
use Rattle.cp_object_ops.specs.declared.sem_op.SemOp.TheVariants as sem
use Rattle.cp_ops.specs.declared.op.Op.{Op}
use Rattle.cp_op_values.specs.declared.kind.Kind.{Kind}
use Rattle.cp_op_values.specs.declared.kind.Kind.TheVariants as kind
use Rattle.cp_group_state.specs.Destroying.{add_gone, drop_rows}
use Rattle.cp_group_state.specs.declared.rows.Holder.{Holder}
use Rattle.cp_group_state.specs.declared.rows.LockRow.{LockRow}
use Rattle.cp_group_state.specs.declared.rows.SessionRow.{SessionRow}
use Rattle.cp_group_state.specs.declared.rows.SemaphoreRow.{SemaphoreRow}
use Rattle.cp_group_state.specs.declared.rows.Waiter.{Waiter}
use Rattle.cp_group_state.specs.Rows.{Named, Object, find, has_room, most, name_cmp, object_cmp}
use Rattle.cp_group_state.specs.Waiters.{Ended, waits_on}
use Rattle.cp_group_state.specs.Locks.{Acquired, acquired, lock_at, is_free, is_held_by, most_holds}
use Rattle.cp_group_state.specs.declared.outcome.SemOutcome.TheVariants.{Wants}
use Rattle.cp_group_state.specs.Semaphores.{Semaphores, SemStep, sem_step, sem_step_on, sem_step_at, sem_step_absent, raise_total, release_held, is_held, held, served}
use Rattle.cp_group_state.specs.Sessions.{session_of}
use Rattle.cp_group_state.specs.GroupState.{GroupState}
use Rattle.cp_group_state.specs.Changes.{Change}
use Rattle.cp_group_state.specs.declared.outcome.Reply.{Reply}
use Rattle.cp_group_state.specs.declared.outcome.Reply.TheVariants.{Answered, Waits}
use Rattle.cp_group_state.specs.Outcomes.{answered}
use Rattle.cp_group_state.specs.SessionRules as rules
use Rattle.cp_group_state.specs.Protected.{session_in}
use Rattle.cp_group_state.specs.Apply.{outcome, settle, settle_answer, settle_wait, after_change}
use Rattle.cp_group_state.proofs.Told.{IsOwnWait, own-outcome}
use Rattle.cp_semaphore.specs.Outcomes.{available_of}
use Rattle.cp_semaphore.specs.Serving.{AreServed}
use Rattle.cp_session.specs.Creation.{Created, created, created_from}
use Rattle.cp_session.specs.Beats.{with_beat, version_after}
use Rattle.cp_group_tables.specs.declared.ending.Ending.{Ending}
use Rattle.cp_group_tables.specs.Endings.{ended_by}

-- both branches of an `if`
either : {X : Type 0} (P : X → Type 0) (b : Bool) (x y : X) → P x → P y → P (if b then x else y)
either P true x y p q = p
either P false x y p q = q

-- ---- locks

-- a table that is full stays as it is
pub full_locks_stay : (rows : Named LockRow) (index : ℕ) (name : List ℕ) (who : Holder) (limit : ℕ)
    → (acquired rows index name who limit).taken ≡ None → (acquired rows index name who limit).rows ≡ rows
full_locks_stay rows index name who limit = either (λ (a : Acquired). a.taken ≡ None → a.rows ≡ rows) (is_free (lock_at rows name)) _ _
    (either (λ (a : Acquired). a.taken ≡ None → a.rows ≡ rows) (has_room name_cmp most rows name) _ _ (λ e. cc) (λ e. refl))
    (either (λ (a : Acquired). a.taken ≡ None → a.rows ≡ rows) (is_held_by who (lock_at rows name)) _ _
    (either (λ (a : Acquired). a.taken ≡ None → a.rows ≡ rows) (nat_lt (lock_at rows name).holds (most_holds limit)) _ _ (λ e. cc) (λ e. refl))
    (λ e. refl))

-- ---- semaphores

-- where a call waits the permits stay as they are
pub wants_stay : (key : Object) (op : SemOp) (s : Semaphores) → (sem_step key op s).outcome ≡ Wants → (sem_step key op s).after ≡ s
wants_stay key op s = on (find object_cmp s.rows key)
  where
    absent : (op : SemOp) → (sem_step_absent key op s).outcome ≡ Wants → (sem_step_absent key op s).after ≡ s
    absent sem.Available = λ e. refl
    absent (sem.Init n) = either (λ (r : SemStep). r.outcome ≡ Wants → r.after ≡ s) (has_room object_cmp most s.rows key) _ _ (λ e. cc) (λ e. refl)
    absent (sem.Acquire session n wish) = λ e. refl
    absent (sem.Release session n) = λ e. refl
    absent (sem.Drain session) = λ e. refl
    absent (sem.Increase session n) = λ e. refl
    absent (sem.Reduce session n) = λ e. refl

    raised : (row : SemaphoreRow) (n : ℕ) → (raise_total key row n s).outcome ≡ Wants → (raise_total key row n s).after ≡ s
    raised row n = either (λ (r : SemStep). r.outcome ≡ Wants → r.after ≡ s) (int_lt (pos (2 ^ 31 - 1)) (row.total +ℤ pos n)) _ _ (λ e. refl) (λ e. cc)

    given : (row : SemaphoreRow) (session n : ℕ) → (release_held key row session n s).outcome ≡ Wants → (release_held key row session n s).after ≡ s
    given row session n = either (λ (r : SemStep). r.outcome ≡ Wants → r.after ≡ s) (nat_lt (held s.holdings session key.0) n) _ _ (λ e. refl) (λ e. cc)

    at : (row : SemaphoreRow) (op : SemOp) → (sem_step_at key row op s).outcome ≡ Wants → (sem_step_at key row op s).after ≡ s
    at row sem.Available = λ e. refl
    at row (sem.Init n) = λ e. refl
    at row (sem.Acquire session n wish) = either (λ (r : SemStep). r.outcome ≡ Wants → r.after ≡ s) (int_lt row.available (pos n)) _ _ (λ e. refl) (λ e. cc)
    at row (sem.Release session n) = either (λ (r : SemStep). r.outcome ≡ Wants → r.after ≡ s) (is_held key.1) _ _ (given row session n) (raised row n)
    at row (sem.Drain session) = λ e. cc
    at row (sem.Increase session n) = raised row n
    at row (sem.Reduce session n) = either (λ (r : SemStep). r.outcome ≡ Wants → r.after ≡ s) (int_lt (row.available -ℤ pos n) (neg_ℤ (pos (2 ^ 31)))) _ _ (λ e. refl) (λ e. cc)

    on : (o : Option SemaphoreRow) → (sem_step_on key op o s).outcome ≡ Wants → (sem_step_on key op o s).after ≡ s
    on None = absent op
    on (Some row) = at row op

-- ---- sessions

-- a table that is full stays as it is
pub full_sessions_stay : (rows : List (ℕ × SessionRow)) (index : ℕ) (client : ClientId)
    → (created rows index client).number ≡ None → (created rows index client).rows ≡ rows
full_sessions_stay rows index client = on (session_of rows client)
  where
    on : (o : Option (ℕ × SessionRow)) → (created_from rows index client o).number ≡ None → (created_from rows index client o).rows ≡ rows
    on (Some e) = λ h. refl
    on None = either (λ (c : Created). c.number ≡ None → c.rows ≡ rows) (has_room nat_cmp most rows index) _ _ (λ e. cc) (λ e. refl)

-- a beat of a session that is open
pub beaten : (s : GroupState) (number version : ℕ) (o : Option SessionRow) → option_map version_after o ≡ Some version
    → rules.beat number o s ≡ answered answer.Ok (record s { sessions = with_beat s.sessions number o })
beaten s number version None e = cc
beaten s number version (Some row) e = refl

-- and of one that isn't
pub not_beaten : (s : GroupState) (number : ℕ) (o : Option SessionRow) → option_map version_after o ≡ None
    → rules.beat number o s ≡ answered (answer.SessionExpired number) (record s { sessions = with_beat s.sessions number o })
not_beaten s number None e = refl
not_beaten s number (Some row) e = cc

-- ---- calls

pub settled_answer : (session : Option ℕ) (call : Invocation) (r : Reply) (c : Change) (a : Answer) → Answered a ≡ r → settle session call r c ≡ settle_answer session call a c
settled_answer session call r c a e = rw (← e) refl

pub settled_wait : (session : Option ℕ) (call : Invocation) (r : Reply) (c : Change) (w : Waiter) → Waits w ≡ r → settle session call r c ≡ after_change c (settle_wait session call w)
settled_wait session call r c w e = rw (← e) refl

-- a waiter is of the call itself
pub own_call : (index : ℕ) (call : Invocation) (o : Op) (s : GroupState) (w : Waiter) → Waits w ≡ (outcome index call o s).reply → w.call ≡ call
own_call index call o s w e = (subst (IsOwnWait call (session_in o)) (sym e) (own-outcome index call o s)).0

-- the objects on which these waited
pub objects_of : (how : Ending) (ws : List Waiter) → map {B = Object} (λ (e : Ended). (e.waiter.name, e.waiter.kind)) (ended_by how ws) ≡ map {B = Object} (λ (w : Waiter). (w.name, w.kind)) ws
objects_of how [] = refl
objects_of how (w ∷ ws) = ap (λ (keys : List Object). (w.name, w.kind) ∷ keys) (objects_of how ws)

-- all waiters
pub all_of : (ws : List Waiter) → filter (λ (w : Waiter). true) ws ≡ ws
all_of [] = refl
all_of (w ∷ ws) = ap (λ (vs : List Waiter). w ∷ vs) (all_of ws)

-- what an object has goes, whether its name is taken before or after
pub gone_last : (which : Kind) (key : Object) (name : List ℕ) (s : GroupState) → drop_rows name which (add_gone key s) ≡ add_gone key (drop_rows name which s)
gone_last kind.Long key name s = refl
gone_last kind.Ref key name s = refl
gone_last kind.Lock key name s = refl
gone_last kind.Sem key name s = refl
gone_last kind.Jsem key name s = refl
gone_last kind.Latch key name s = refl
gone_last kind.Map key name s = refl

-- whether one of these waited on an object, with or without their answers
pub left_waiters : (how : Ending) (ws : List Waiter) (key : Object) → list_any (waits_on key.1 key.0) ws ≡ list_any (λ (e : Ended). waits_on key.1 key.0 e.waiter) (ended_by how ws)
left_waiters how [] key = refl
left_waiters how (w ∷ ws) key = ap (λ (b : Bool). waits_on key.1 key.0 w || b) (left_waiters how ws key)

-- these are served by what stands available
pub are_served : (key : Object) (s : Semaphores) (available : ℤ) (ws found : List Waiter) → available_of key s ≡ Some available → found ≡ served key available ws → AreServed key found s
are_served key s available ws found stands is = (ws, λ row there. is ∙ ap (λ (a : ℤ). served key a ws) (same row there))
  where
    same : (row : SemaphoreRow) → find object_cmp s.rows key ≡ Some row → available ≡ row.available
    same row there = let e : Some available ≡ Some row.available = sym stands ∙ ap (λ (o : Option SemaphoreRow). option_map (λ (r : SemaphoreRow). r.available) o) there in cc

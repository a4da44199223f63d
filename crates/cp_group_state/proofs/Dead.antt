-- A destroyed group has no waiters.
use Rattle.std.proofs.Common.{◌≡◌, ℕ, Bool, true, false, List, refl, sym, ◌∙◌, if◌then◌else◌}
use Rattle.std.specs.Prelude.{◌==◌, Contains}
use Rattle.cp_op_values.specs.declared.kind.Kind.{Kind}
use Rattle.cp_op_values.specs.declared.kind.Kind.TheVariants as kind
use Rattle.cp_base.specs.declared.identifier.Invocation.{Invocation}
use Rattle.cp_base.proofs.Tests.{no_true}
use Rattle.cp_answers.specs.declared.answer.Answer.TheVariants as answer
use Rattle.cp_ops.specs.declared.op.Op.{Op}
use Rattle.cp_ops.specs.declared.entry.Entry.{Entry}
use Rattle.cp_ops.specs.declared.entry.Entry.TheVariants as entry
use Rattle.cp_group_state.specs.Waiters.{Waiter, ending}
use Rattle.cp_group_state.specs.Sessions.{unchanged_since}
use Rattle.cp_group_state.specs.Latches.{latch_step}
use Rattle.cp_group_state.specs.GroupState.{GroupState}
use Rattle.cp_group_state.specs.Apply.{Applied, supersede, outcome, apply_call, is_elsewhere, apply, time_out}
use Rattle.cp_group_state.specs.Protected.{session_in}
use Rattle.cp_group_state.specs.Destroying.{drop_rows}
use Rattle.cp_group_state.specs.Closing.{close}
use Rattle.cp_group_state.specs.Serving.{serve_left}
use Rattle.cp_group_state.specs.Changes.{for_each}
use Rattle.cp_group_state.proofs.Walk.{either, Closed, walk_supersede, walk_outcome, walk_on_latch, walk_close, walk_time_out, walk_end_all, keep_session}
use Rattle.cp_group_state.proofs.Established.{fewer_closed}
use Rattle.cp_group_state.proofs.Waiting.{in-ending, still-apart}

drop-destroyed : (name : List ℕ) (which : Kind) (s : GroupState) → (drop_rows name which s).destroyed_group ≡ s.destroyed_group
drop-destroyed name kind.Long s = refl
drop-destroyed name kind.Ref s = refl
drop-destroyed name kind.Map s = refl
drop-destroyed name kind.Lock s = refl
drop-destroyed name kind.Sem s = refl
drop-destroyed name kind.Jsem s = refl
drop-destroyed name kind.Latch s = refl

destroyed_closed : (i : ℕ) → Closed i (λ s c. c.state.destroyed_group ≡ s.destroyed_group)
destroyed_closed i = record {
  stays = λ s. refl;
  joins = λ s c d f g. g ∙ f;
  ends = λ s ended all. refl;
  handed = λ s c name w g. g;
  freed = λ s c sessions g. g;
  serves = λ s c key row is g. g;
  permits = λ s c key o g. g;
  backs = λ s c sessions g. g;
  closes = λ s sessions. refl;
  acquires = λ s c name who limit g. g;
  releases = λ s c name who g. g;
  longs = λ s c name o g. g;
  refs = λ s c name o g. g;
  maps = λ s c name o g. g;
  opens = λ s c client fresh g. g;
  beats = λ s c number row is g. g;
  drops = λ s c name which g. g ∙ drop-destroyed name which s;
}

destroyed-outcome : (i : ℕ) (call : Invocation) (o : Op) (s : GroupState) → (outcome i call o s).change.state.destroyed_group ≡ s.destroyed_group
destroyed-outcome i call o s = walk_outcome i (λ s c. c.state.destroyed_group ≡ s.destroyed_group) (λ s c. c.state.destroyed_group ≡ s.destroyed_group) (destroyed_closed i) (λ s c g. g) call o s
    (λ e name l is. walk_on_latch i (λ s c. c.state.destroyed_group ≡ s.destroyed_group) (destroyed_closed i) call name l (latch_step s.latches name call l).outcome (record s { latches = (latch_step s.latches name call l).after }))

destroyed-call : (i : ℕ) (call : Invocation) (o : Op) (s : GroupState) → (apply_call i call o s).state.destroyed_group ≡ s.destroyed_group
destroyed-call i call o s = either (λ (r : Applied). r.state.destroyed_group ≡ s.destroyed_group) (s.destroyed_group.0 == 0) _ _
    (keep_session (λ t. t.destroyed_group ≡ s.destroyed_group) (λ t ws m g. g) i call o (session_in o) (supersede call s).state first (destroyed-outcome i call o (supersede call s).state ∙ first)) refl
  where
    first : (supersede call s).state.destroyed_group ≡ s.destroyed_group
    first = walk_supersede i (λ s c. c.state.destroyed_group ≡ s.destroyed_group) (destroyed_closed i) call s

-- no waiters where the group is destroyed
abbrev pub NoneLeft : GroupState → Type 0
NoneLeft s = (s.destroyed_group.0 == 0) ≡ false → (w : Waiter) → Contains s.waiters w → ⊥

left-same : (s t : GroupState) → t.destroyed_group ≡ s.destroyed_group → ((w : Waiter) → Contains t.waiters w → Contains s.waiters w) → NoneLeft s → NoneLeft t
left-same s t d fewer h e w there = h (rw d at e) w (fewer w there)

left-call : (i : ℕ) (call : Invocation) (o : Op) (s : GroupState) → NoneLeft s → NoneLeft (apply_call i call o s).state
left-call i call o s h e = at (s.destroyed_group.0 == 0) refl
  where
    at : (b : Bool) → (s.destroyed_group.0 == 0) ≡ b → (w : Waiter) → Contains (apply_call i call o s).state.waiters w → ⊥
    at true live w there = no_true (sym live ∙ (rw (destroyed-call i call o s) at e))
    at false dead w there = h dead w (rw dead at there)

pub left-apply : (i : ℕ) (e : Entry) (s : GroupState) → NoneLeft s → NoneLeft (apply i e s).state
left-apply i entry.Empty s h = h
left-apply i (entry.Call call o) s h = either (λ (r : Applied). NoneLeft r.state) (is_elsewhere o) _ _ h (left-call i call o s h)
left-apply i (entry.SessionsExpired pairs) s h = left-same s (close i (unchanged_since s.sessions pairs) s).state (walk_close i (λ s c. c.state.destroyed_group ≡ s.destroyed_group) (destroyed_closed i) (unchanged_since s.sessions pairs) s)
    (walk_close i (λ s c. (w : Waiter) → Contains c.state.waiters w → Contains s.waiters w) (fewer_closed i) (unchanged_since s.sessions pairs) s) h
left-apply i (entry.WaitsExpired calls) s h = left-same s (serve_left (for_each time_out calls s)).state (walk_time_out i (λ s c. c.state.destroyed_group ≡ s.destroyed_group) (destroyed_closed i) calls s)
    (walk_time_out i (λ s c. (w : Waiter) → Contains c.state.waiters w → Contains s.waiters w) (fewer_closed i) calls s) h
left-apply i (entry.Members call plan members) s h = h
left-apply i (entry.Destroy group) s h = λ e w there. in-ending (λ w. true) (λ w. answer.GroupDestroyed group) s.waiters w (still-apart (ending (λ w. true) (λ w. answer.GroupDestroyed group) s.waiters) s.waiters w there)
    (walk_end_all i (λ s c. (w : Waiter) → Contains c.state.waiters w → Contains s.waiters w) (fewer_closed i) (λ w. true) (λ w. answer.GroupDestroyed group) (record s { destroyed_group = if s.destroyed_group.0 == 0 then group else s.destroyed_group }) w there) refl
left-apply i (entry.Destroyed group) s h = h
left-apply i (entry.Moved group at members) s h = h
left-apply i (entry.Left member) s h = h

-- Sound states stay sound, and what they answer fits.
use Rattle.std.proofs.Common.{◌≡◌, ℕ, ◌+◌, ◌^◌, ◌<◌, ◌≤◌, false, List, [], ◌∷◌, ◌++◌, length, Some, None, Option, refl, sym, subst, arith}
use Rattle.std.specs.Prelude.{◌==◌, nat_lt}
use Rattle.std.specs.List.{AllByRecursion}
use Rattle.cp_base.specs.declared.identifier.Invocation.{Invocation}
use Rattle.cp_base.proofs.Tests.{no_true}
use Rattle.cp_grammar.specs.Fields.{optional}
use Rattle.cp_grammar.specs.Common.{index, invocation}
use Rattle.cp_answers.specs.declared.answer.Answer.{Answer}
use Rattle.cp_answers.specs.declared.answer.Answer.TheVariants as answer
use Rattle.cp_answers.specs.Answers.{answer_grammar}
use Rattle.cp_ops.specs.declared.op.Op.{Op}
use Rattle.cp_ops.specs.declared.entry.Entry.{Entry}
use Rattle.cp_ops.specs.declared.entry.Entry.TheVariants as entry
use Rattle.cp_ops.specs.Entries.{entry_grammar}
use Rattle.cp_group_state.specs.declared.rows.Waiter.{Waiter}
use Rattle.cp_group_state.specs.declared.rows.MemoryRow.{MemoryRow}
use Rattle.cp_group_state.specs.declared.rows.SemaphoreRow.{SemaphoreRow}
use Rattle.cp_group_state.specs.Rows.{Object, find, most, object_cmp, holder_cmp}
use Rattle.cp_group_state.specs.Waiters.{stands}
use Rattle.cp_group_state.specs.Memory.{remember}
use Rattle.cp_group_state.specs.Sessions.{is_open_for, unchanged_since}
use Rattle.cp_group_state.specs.Semaphores.{is_held}
use Rattle.cp_group_state.specs.GroupState.{GroupState, empty}
use Rattle.cp_group_state.specs.Changes.{Change, stay}
use Rattle.cp_group_state.specs.Closing.{close}
use Rattle.cp_group_state.specs.declared.outcome.Reply.{Reply}
use Rattle.cp_group_state.specs.declared.outcome.Reply.TheVariants.{Answered, Waits}
use Rattle.cp_group_state.specs.Protected.{session_in}
use Rattle.cp_group_state.specs.Apply.{Applied, told, changed, members_answer, outcome, remembered, settle, settle_wait, join, perform, give_again, by_memory, by_session, supersede, is_elsewhere, apply_call, apply, run}
use Rattle.cp_group_state.specs.History.{History}
use Rattle.cp_group_state.specs.Invariants.{IsOrdered, held_of, held_by_all}
use Rattle.cp_group_state.proofs.Keyed.{object_key}
use Rattle.cp_group_state.proofs.Walk.{cases, either}
use Rattle.cp_group_state.proofs.Ordered.{order-apply, order-empty, object_total}
use Rattle.cp_group_ranges.specs.Rows.{SemaphoreFits, AnswerFits}
use Rattle.cp_group_ranges.specs.States.{StateFits, IsSound}
use Rattle.cp_group_ranges.specs.Laws.{IsSoundStep}
use Rattle.cp_group_ranges.proofs.Listed.{each-append, each-weaker, each-own, test_less}
use Rattle.cp_group_ranges.proofs.Fitting.{index_fits, no_group, call_thread, call_number, none_yet, some_answer, the_answer, fits_ok, fits_expired, fits_stale, fits_group_destroyed, fits_table_full}
use Rattle.cp_group_ranges.proofs.Parts.{OpParts, SessionNamed, session_named, call_parts, members_parts, destroy_parts}
use Rattle.cp_group_ranges.proofs.Permits.{RowFits, row-ranges}
use Rattle.cp_group_ranges.proofs.Calls.{told-fits, kept-joined, kept-remembered, memory-found}
use Rattle.cp_group_ranges.proofs.Good.{Good, with-calls}
use Rattle.cp_group_ranges.proofs.Walks.{GoodChange, good-stay, good-supersede, good-times, good-close, good-destroy_group}
use Rattle.cp_group_ranges.proofs.Rules.{ReplyFits, good-outcome}

-- ---- sound states are good ones in order

good-of : (s : GroupState) → IsSound s → Good s
good-of s h = let f = h.fits in let o = h.ordered in let l = h.fits.limits in record {
  destroyed_group = f.destroyed_group;
  sessions = record { kept = record { all = f.sessions; rising = o.sessions; few = l.sessions }; one = h.one_session };
  locks = record { all = f.locks; rising = o.locks; few = l.locks };
  permits = record {
    rows = record { all = each-weaker SemaphoreFits RowFits (λ e p. record { name = p.name; kind = p.kind; total = p.total.most; available = p.available.least }) s.semaphores.rows f.semaphores; rising = o.semaphores; few = l.semaphores };
    holdings = f.holdings;
    rising = o.holdings;
    balanced = h.balanced;
  };
  latches = record { kept = record { all = f.latches; rising = o.latches; few = l.latches }; counted = l.counted };
  longs = record { all = f.longs; rising = o.longs; few = l.longs };
  refs = record { all = f.refs; rising = o.refs; few = l.refs };
  maps = record { all = f.maps; rising = o.maps; few = l.maps };
  gone = record { all = f.gone; rising = o.gone; few = l.gone };
  waiters = record { all = f.waiters; few = l.waiters; differ = h.calls_differ; stand = h.waiters_stand };
  memory = f.memory;
}

fits-of : (s : GroupState) → Good s → StateFits s
fits-of s h = record {
  destroyed_group = h.destroyed_group;
  sessions = h.sessions.kept.all;
  locks = h.locks.all;
  semaphores = each-weaker (λ (e : Object × SemaphoreRow). find object_cmp s.semaphores.rows e.0 ≡ Some e.1) SemaphoreFits (λ e is. row-ranges s.semaphores e.0 e.1 h.permits is) s.semaphores.rows
      (each-own object_cmp object_key object_total s.semaphores.rows h.permits.rows.rising);
  holdings = h.permits.holdings;
  latches = h.latches.kept.all;
  longs = h.longs.all;
  refs = h.refs.all;
  maps = h.maps.all;
  gone = h.gone.all;
  waiters = h.waiters.all;
  memory = h.memory;
  limits = record {
    sessions = h.sessions.kept.few;
    locks = h.locks.few;
    semaphores = h.permits.rows.few;
    latches = h.latches.kept.few;
    counted = h.latches.counted;
    longs = h.longs.few;
    refs = h.refs.few;
    maps = h.maps.few;
    gone = h.gone.few;
    waiters = h.waiters.few;
  };
}

sound-of : (s : GroupState) → IsOrdered s → Good s → IsSound s
sound-of s o h = record { fits = fits-of s h; ordered = o; balanced = h.permits.balanced; waiters_stand = h.waiters.stand; one_session = h.sessions.one; calls_differ = h.waiters.differ }

-- ---- one entry

record GoodApplied (r : Applied) : Type 0 where
  state : Good r.state
  answers : AllByRecursion AnswerFits r.answers

good-remembered : (so : Option ℕ) (call : Invocation) (a : Option Answer) (s : GroupState) → SessionNamed so → invocation.Fits call → (optional answer_grammar).Fits a → Good s → Good (remembered so call a s)
good-remembered None call a s n c f h = h
good-remembered (Some session) call a s n c f h = with-calls s s.waiters (remember s.memory session call.thread call.number a) h.waiters
    (kept-remembered s.memory session call.thread call.number a n (call_thread call c) (call_number call c) f h.memory) h

good-settled : (so : Option ℕ) (call : Invocation) (a : Answer) (c : Change) → SessionNamed so → invocation.Fits call → answer_grammar.Fits a → GoodChange c → GoodApplied (settle so call (Answered a) c)
good-settled so call a c n f g h = record { state = good-remembered so call (Some a) c.state n f (some_answer a g) h.state; answers = ((f, g), told-fits c.ended h.ended) }

good-joined : (so : Option ℕ) (call : Invocation) (w : Waiter) (s : GroupState) → SessionNamed so → invocation.Fits call → ReplyFits call s (Waits w) → Good s → GoodApplied (settle_wait so call w s)
good-joined so call w s n f r h = cases GoodApplied (stands call s.waiters) _ _ (λ e. record { state = h; answers = tt })
    (λ e. cases GoodApplied (nat_lt (length s.waiters) most) _ _
    (λ less. record { state = good-remembered so call None (join w s) n f none_yet (joined e (test_less (length s.waiters) most less)); answers = tt })
    (λ less. good-settled so call (answer.TableFull most) (stay s) n f (fits_table_full most (omega arith)) (good-stay s h)))
  where
    joined : stands call s.waiters ≡ false → length s.waiters < most → Good (join w s)
    joined e less = with-calls s (s.waiters ++ w ∷ []) s.memory (kept-joined s.semaphores.rows s.waiters w less (subst (λ (x : Invocation). stands x s.waiters ≡ false) (sym r.1) e) r.0 r.2 h.waiters) h.memory h

good-after : (c : Change) (r : Applied) → GoodChange c → GoodApplied r → AllByRecursion AnswerFits (told c.ended ++ r.answers)
good-after c r g h = each-append AnswerFits _ r.answers (told-fits c.ended g.ended) h.answers

good-settle : (so : Option ℕ) (call : Invocation) (r : Reply) (c : Change) → SessionNamed so → invocation.Fits call → ReplyFits call c.state r → GoodChange c → GoodApplied (settle so call r c)
good-settle so call (Answered a) c n f g h = good-settled so call a c n f g h
good-settle so call (Waits w) c n f g h = let r = good-joined so call w c.state n f g h.state in record { state = r.state; answers = good-after c (settle_wait so call w c.state) h r }

module _ (i : ℕ) (call : Invocation) (o : Op) (g : index.Fits i) (f : invocation.Fits call) (p : OpParts o) where
  good-perform : (s : GroupState) → Good s → GoodApplied (perform i call o s)
  good-perform s h = let out = good-outcome i call o s g f p h in good-settle (session_in o) call (outcome i call o s).reply (outcome i call o s).change (session_named o p) f out.reply out.change

  good-again : (a : Option Answer) → (optional answer_grammar).Fits a → AllByRecursion AnswerFits (give_again call a)
  good-again None h = tt
  good-again (Some a) h = ((f, the_answer a h), tt)

  good-memory : (session : ℕ) (row : Option MemoryRow) (s : GroupState) → find holder_cmp s.memory (session, call.thread.0) ≡ row → Good s → GoodApplied (by_memory i call o row s)
  good-memory session None s is h = good-perform s h
  good-memory session (Some row) s is h = let there = memory-found s.memory session call.thread.0 row h.memory is in
      either GoodApplied (row.number == call.number) _ _ (record { state = h; answers = good-again row.answer there.answer })
      (either GoodApplied (nat_lt call.number row.number) _ _ (record { state = h; answers = ((f, fits_stale row.number there.number), tt) }) (good-perform s h))

  good-session : (so : Option ℕ) (s : GroupState) → SessionNamed so → Good s → GoodApplied (by_session i call o so s)
  good-session None s n h = good-perform s h
  good-session (Some session) s n h = either GoodApplied (is_open_for s.sessions session call.client) _ _
      (good-memory session (find holder_cmp s.memory (session, call.thread.0)) s refl h) (record { state = h; answers = ((f, fits_expired session n), tt) })

  good-call : (s : GroupState) → Good s → GoodApplied (apply_call i call o s)
  good-call s h = let first = good-supersede call s f h in let rest = good-session (session_in o) (supersede call s).state (session_named o p) first.state in
      either GoodApplied (s.destroyed_group.0 == 0) _ _
      (record { state = rest.state; answers = good-after (supersede call s) (by_session i call o (session_in o) (supersede call s).state) first rest })
      (record { state = h; answers = ((f, fits_group_destroyed s.destroyed_group h.destroyed_group), tt) })

good-changed : (c : Change) → GoodChange c → GoodApplied (changed c)
good-changed c h = record { state = h.state; answers = told-fits c.ended h.ended }

good-members : (call : Option Invocation) (plan : ℕ) (members : List ℕ) → entry_grammar.Fits (entry.Members call plan members) → AllByRecursion AnswerFits (members_answer call)
good-members None plan members h = tt
good-members (Some call) plan members h = ((members_parts call plan members h, fits_ok), tt)

good-apply : (i : ℕ) (e : Entry) (s : GroupState) → index.Fits i → entry_grammar.Fits e → Good s → GoodApplied (apply i e s)
good-apply i entry.Empty s g f h = record { state = h; answers = tt }
good-apply i (entry.Call call o) s g f h = let p = call_parts call o f in either GoodApplied (is_elsewhere o) _ _ (record { state = h; answers = tt }) (good-call i call o g p.0 p.1 s h)
good-apply i (entry.SessionsExpired pairs) s g f h = good-changed (close i (unchanged_since s.sessions pairs) s) (good-close i (unchanged_since s.sessions pairs) s g h)
good-apply i (entry.WaitsExpired calls) s g f h = good-changed _ (good-times calls s h)
good-apply i (entry.Members call plan members) s g f h = record { state = h; answers = good-members call plan members f }
good-apply i (entry.Destroy group) s g f h = good-changed _ (good-destroy_group group s (destroy_parts group f) h)
good-apply i (entry.Destroyed group) s g f h = record { state = h; answers = tt }
good-apply i (entry.Moved group at members) s g f h = record { state = h; answers = tt }
good-apply i (entry.Left member) s g f h = record { state = h; answers = tt }

pub sound-apply : (i : ℕ) (e : Entry) (s : GroupState) → i ≤ 2 ^ 62 → entry_grammar.Fits e → IsSound s → IsSoundStep (apply i e s)
sound-apply i e s few f h = let r = good-apply i e s (index_fits i few) f (good-of s h) in record { state = sound-of (apply i e s).state (order-apply i e s h.ordered) r.state; answers = r.answers }

-- ---- a history

none-held : (key : Object) → held_of key [] ≡ 0
none-held key = either (λ (n : ℕ). n ≡ 0) (is_held key.1) (held_by_all key.0 []) 0 refl refl

pub sound-empty : IsSound empty
sound-empty = record {
  fits = record {
    destroyed_group = no_group;
    sessions = tt;
    locks = tt;
    semaphores = tt;
    holdings = tt;
    latches = tt;
    longs = tt;
    refs = tt;
    maps = tt;
    gone = tt;
    waiters = tt;
    memory = tt;
    limits = record { sessions = omega arith; locks = omega arith; semaphores = omega arith; latches = omega arith; counted = omega arith; longs = omega arith; refs = omega arith; maps = omega arith; gone = omega arith; waiters = omega arith };
  };
  ordered = order-empty;
  balanced = none-held;
  waiters_stand = tt;
  one_session = λ a b client x y. absurd (no_true (sym x));
  calls_differ = tt;
}

sound-run : (es : List Entry) (i : ℕ) (s : GroupState) → i + length es ≤ 2 ^ 62 + 1 → AllByRecursion entry_grammar.Fits es → IsSound s → AllByRecursion IsSoundStep (run i es s)
sound-run [] i s few f h = tt
sound-run (e ∷ es) i s few f h = let step = sound-apply i e s (omega (arith, few)) f.0 h in (step, sound-run es (i + 1) (apply i e s).state (omega (arith, few)) f.1 step.state)

pub sound-history : (history : History) → length history ≤ 2 ^ 62 → AllByRecursion entry_grammar.Fits history → AllByRecursion IsSoundStep (run 1 history empty)
sound-history history few f = sound-run history 1 empty (omega (arith, few)) f sound-empty

-- Each fence that is answered stands after its entry, or was told before.
use Rattle.std.proofs.Common.{◌≡◌, ℕ, suc, ◌+◌, ◌-◌, ◌^◌, ◌≤◌, ◌⊎◌, inl, inr, true, List, [], ◌∷◌, ◌++◌, Some, None, Option, refl, sym, subst, arith}
use Rattle.std.specs.Prelude.{◌==◌, nat_lt, All, Contains, length}
use Rattle.std.proofs.lemmas.Bool.Decides.{nat_tests}
use Rattle.std.specs.List.Sorted.{IsStrictlySortedBy}
use Rattle.std.proofs.lemmas.List.Elements.{All-nil, All-cons, All-append, All-map, All-weaker, All-contains, All-head, All-tail, Contains-append_cases, Contains-append_left, Contains-append_right, Contains-push}
use Rattle.cp_base.specs.declared.identifier.Invocation.{Invocation}
use Rattle.cp_answers.specs.declared.answer.Answer.{Answer}
use Rattle.cp_answers.specs.declared.answer.Answer.TheVariants as answer
use Rattle.cp_ops.specs.declared.op.Op.{Op}
use Rattle.cp_ops.specs.declared.entry.Entry.{Entry}
use Rattle.cp_ops.specs.declared.entry.Entry.TheVariants as entry
use Rattle.cp_group_state.specs.Rows.{find, holder_cmp, name_cmp, most}
use Rattle.cp_group_state.specs.Waiters.{Ended, stands, ending}
use Rattle.cp_group_state.specs.Memory.{MemoryRow}
use Rattle.cp_group_state.specs.Sessions.{is_open_for, unchanged_since}
use Rattle.cp_group_state.specs.Locks.{LockRow}
use Rattle.cp_group_state.specs.Latches.{LatchRow}
use Rattle.cp_group_state.specs.GroupState.{GroupState, empty}
use Rattle.cp_group_state.specs.Changes.{Change, for_each}
use Rattle.cp_group_state.specs.Apply.{Applied, run, apply, apply_call, by_session, by_memory, perform, settle, settle_wait, remembered, join, is_elsewhere, supersede, outcome, told, give_again, changed, time_out, destroy_group}
use Rattle.cp_group_state.specs.Outcomes.{Reply, Answered, Waits}
use Rattle.cp_group_state.specs.Protected.{session_in}
use Rattle.cp_group_state.specs.Closing.{close}
use Rattle.cp_group_state.specs.Serving.{serve_left}
use Rattle.cp_group_state.specs.Fences.{IsHeldUnder}
use Rattle.cp_group_state.specs.History.{IsOrderly, IsOrderlyFrom}
use Rattle.cp_group_state.proofs.Rising.{Rising}
use Rattle.cp_group_state.proofs.Walk.{cases, either, walk_supersede}
use Rattle.cp_group_state.proofs.Steps.{RoundsWithin, within-apply}
use Rattle.cp_group_state.proofs.Told.{Told, Tells, tells_closed, told-apply}
use Rattle.cp_group_state.proofs.Fences.{locks-apply, LocksHold, locks_closed}
use Rattle.cp_group_state.proofs.Walk.{walk_close}
use Rattle.cp_group_state.proofs.Stand.{IsGiven, NoFence, no-held, IsQuietEnd, EndedStand, quiet-answers, quiet-supersede, quiet-time_out, stand-close}
use Rattle.cp_group_state.proofs.Own.{IsOwnHeld, OwnStands, AskedBy, NamedBy, outcome-stands}
use Rattle.cp_group_state.proofs.Asked.{IsAsked, AllAsked, EndsAsked, KeepsAsked, asked_closed, asked-outcome, asked-supersede, asked-apply, given-held}

module _ (all : List Entry) where
  abbrev pub AnswersStand : List (List ℕ × LockRow) → List (Invocation × Answer) → Type 0
  AnswersStand locks answers = All (λ (a : Invocation × Answer). IsHeldUnder all locks a.0 a.1) answers

  told-stand : (locks : List (List ℕ × LockRow)) (ended : List Ended) → EndedStand locks ended → EndsAsked all ended → AnswersStand locks (told ended)
  told-stand locks ended h asked = All-map (λ (a : Invocation × Answer). IsHeldUnder all locks a.0 a.1) (λ e. (e.waiter.call, e.answer)) ended (both ended h asked)
    where
      both : (es : List Ended) → EndedStand locks es → EndsAsked all es → All (λ (e : Ended). IsHeldUnder all locks e.waiter.call e.answer) es
      both [] h asked = All-nil (λ (e : Ended). IsHeldUnder all locks e.waiter.call e.answer)
      both (e ∷ es) h asked = All-cons (λ (e : Ended). IsHeldUnder all locks e.waiter.call e.answer) e es
          (given-held all locks e.waiter e.answer (All-head (λ (e : Ended). IsAsked all e.waiter) e es asked) (All-head (λ (e : Ended). IsGiven locks e.waiter e.answer) e es h))
          (both es (All-tail (λ (e : Ended). IsGiven locks e.waiter e.answer) e es h) (All-tail (λ (e : Ended). IsAsked all e.waiter) e es asked))

  told-quiet : (locks : List (List ℕ × LockRow)) (ended : List Ended) → IsQuietEnd ended → AnswersStand locks (told ended)
  told-quiet locks ended h = All-map (λ (a : Invocation × Answer). IsHeldUnder all locks a.0 a.1) (λ e. (e.waiter.call, e.answer)) ended
      (All-weaker (λ (e : Ended). NoFence e.answer) (λ (e : Ended). IsHeldUnder all locks e.waiter.call e.answer) (λ e k. no-held all locks e.waiter.call e.answer k) ended h)

  own-held : (call : Invocation) (o : Op) (locks : List (List ℕ × LockRow)) (a : Answer) → Contains all (entry.Call call o) → IsOwnHeld (AskedBy o) (NamedBy o) locks call.thread a → IsHeldUnder all locks call a
  own-held call o locks (answer.Fence f) there h = (h.0, h.1, (o, there, h.2.0, h.2.1), h.3, h.4, h.5)
  own-held call o locks (answer.Held session thread holds f) there h = (h.0, (o, there, h.1), h.2, h.3, h.4, h.5)
  own-held call o locks a there h = tt

  none : (locks : List (List ℕ × LockRow)) → AnswersStand locks []
  none locks = All-nil (λ (a : Invocation × Answer). IsHeldUnder all locks a.0 a.1)

  -- the step has these locks, and its answers stand
  abbrev pub StepLocked : List (List ℕ × LockRow) → Applied → Type 0
  StepLocked locks step = (step.state.locks ≡ locks) × AnswersStand locks step.answers

  remembered-locks : (so : Option ℕ) (call : Invocation) (a : Option Answer) (s : GroupState) → (remembered so call a s).locks ≡ s.locks
  remembered-locks None call a s = refl
  remembered-locks (Some session) call a s = refl

  settle-locked : (so : Option ℕ) (call : Invocation) (o : Op) (r : Reply) (c : Change) → Contains all (entry.Call call o) → EndedStand c.state.locks c.ended → EndsAsked all c.ended → OwnStands (AskedBy o) (NamedBy o) call c.state.locks r → StepLocked c.state.locks (settle so call r c)
  settle-locked so call o (Answered a) c there h asked own = (remembered-locks so call (Some a) c.state, All-cons (λ (a : Invocation × Answer). IsHeldUnder all c.state.locks a.0 a.1) (call, a) (told c.ended) (own-held call o c.state.locks a there own) (told-stand c.state.locks c.ended h asked))
  settle-locked so call o (Waits w) c there h asked own = let x = wait in (x.0, All-append (λ (a : Invocation × Answer). IsHeldUnder all c.state.locks a.0 a.1) (told c.ended) (settle_wait so call w c.state).answers (told-stand c.state.locks c.ended h asked) x.1)
    where
      wait : StepLocked c.state.locks (settle_wait so call w c.state)
      wait = either (StepLocked c.state.locks) (stands call c.state.waiters) _ _ (refl, none c.state.locks)
          (either (StepLocked c.state.locks) (nat_lt (length c.state.waiters) most) _ _ (remembered-locks so call None (join w c.state), none c.state.locks)
          (remembered-locks so call (Some (answer.TableFull most)) c.state, All-cons (λ (a : Invocation × Answer). IsHeldUnder all c.state.locks a.0 a.1) (call, answer.TableFull most) [] tt (none c.state.locks)))

  -- the answers stand, or were told
  abbrev pub StepStands : List (Invocation × Answer) → Applied → Type 0
  StepStands past step = All (λ (a : Invocation × Answer). Contains past a ⊎ IsHeldUnder all step.state.locks a.0 a.1) step.answers

  of-locked : (past : List (Invocation × Answer)) (locks : List (List ℕ × LockRow)) (step : Applied) → StepLocked locks step → StepStands past step
  of-locked past locks step h = All-weaker (λ (a : Invocation × Answer). IsHeldUnder all locks a.0 a.1) (λ (a : Invocation × Answer). Contains past a ⊎ IsHeldUnder all step.state.locks a.0 a.1)
      (λ a k. inr (subst (λ l. IsHeldUnder all l a.0 a.1) (sym h.0) k)) step.answers h.1

  perform-stands : (i : ℕ) (past : List (Invocation × Answer)) (call : Invocation) (o : Op) (s : GroupState) → Contains all (entry.Call call o) → Rising name_cmp s.locks → AllAsked all s → StepStands past (perform i call o s)
  perform-stands i past call o s there h asked = let x = outcome-stands i call o s h in
      of-locked past (outcome i call o s).change.state.locks (perform i call o s) (settle-locked (session_in o) call o (outcome i call o s).reply (outcome i call o s).change there x.0 (asked-outcome all i call o s asked).1 x.1)

  one-stands : (past : List (Invocation × Answer)) (call : Invocation) (a : Answer) (s : GroupState) → Contains past (call, a) ⊎ IsHeldUnder all s.locks call a → StepStands past (record { state = s; answers = (call, a) ∷ [] })
  one-stands past call a s h = All-cons (λ (a : Invocation × Answer). Contains past a ⊎ IsHeldUnder all s.locks a.0 a.1) (call, a) [] h (All-nil (λ (a : Invocation × Answer). Contains past a ⊎ IsHeldUnder all s.locks a.0 a.1))

  no-answers : (past : List (Invocation × Answer)) (s : GroupState) → StepStands past (record { state = s; answers = [] })
  no-answers past s = All-nil (λ (a : Invocation × Answer). Contains past a ⊎ IsHeldUnder all s.locks a.0 a.1)

  test_same : (a b : ℕ) → (a == b) ≡ true → a ≡ b
  test_same a b h = grind (arith, nat_tests)

  memory-stands : (i : ℕ) (past : List (Invocation × Answer)) (call : Invocation) (o : Op) (session : ℕ) (row : Option MemoryRow) (s : GroupState) → Contains all (entry.Call call o) → Rising name_cmp s.locks → AllAsked all s → Told i past s → is_open_for s.sessions session call.client ≡ true
      → find holder_cmp s.memory (session, call.thread.0) ≡ row → StepStands past (by_memory i call o row s)
  memory-stands i past call o session None s there h asked told_all opened_for is = perform-stands i past call o s there h asked
  memory-stands i past call o session (Some row) s there h asked told_all opened_for is = cases (StepStands past) (row.number == call.number) _ _
      (λ e. given row.answer refl e)
      (λ e. either (StepStands past) (nat_lt call.number row.number) _ _ (one-stands past call (answer.Stale row.number) s (inr tt)) (perform-stands i past call o s there h asked))
    where
      given : (o : Option Answer) → row.answer ≡ o → (row.number == call.number) ≡ true → StepStands past (record { state = s; answers = give_again call o })
      given None e n = no-answers past s
      given (Some a) e n = one-stands past call a s (inl (subst (λ (m : ℕ). Contains past (record { client = call.client; thread = call.thread; number = m }, a)) (test_same row.number call.number n)
          ((told_all.memory session call.thread.0 row is).1 a e call.client opened_for)))

  session-stands : (i : ℕ) (past : List (Invocation × Answer)) (call : Invocation) (o : Op) (so : Option ℕ) (s : GroupState) → Contains all (entry.Call call o) → Rising name_cmp s.locks → AllAsked all s → Told i past s → StepStands past (by_session i call o so s)
  session-stands i past call o None s there h asked told_all = perform-stands i past call o s there h asked
  session-stands i past call o (Some session) s there h asked told_all = cases (StepStands past) (is_open_for s.sessions session call.client) _ _
      (λ e. memory-stands i past call o session _ s there h asked told_all e refl) (λ e. one-stands past call (answer.SessionExpired session) s (inr tt))

  call-stands : (i : ℕ) (past : List (Invocation × Answer)) (call : Invocation) (o : Op) (s : GroupState) → Contains all (entry.Call call o) → Rising name_cmp s.locks → AllAsked all s → Told i past s → StepStands past (apply_call i call o s)
  call-stands i past call o s there h asked told_all = either (StepStands past) (s.destroyed_group.0 == 0) _ _ live (one-stands past call (answer.GroupDestroyed s.destroyed_group) s (inr tt))
    where
      first : Change
      first = supersede call s

      rising : Rising name_cmp (supersede call s).state.locks
      rising = (walk_supersede i (λ s c. LocksHold i s.locks c.state.locks) (locks_closed i) call s h).0

      told_then : Told i (past ++ told (supersede call s).ended) (supersede call s).state
      told_then = walk_supersede i (Tells i) (tells_closed i) call s past told_all

      final : List (List ℕ × LockRow)
      final = (by_session i call o (session_in o) (supersede call s).state).state.locks

      quiet_told : (locks : List (List ℕ × LockRow)) → AnswersStand locks (told (supersede call s).ended)
      quiet_told locks = told-quiet locks (supersede call s).ended (quiet-supersede call s)

      split : (locks : List (List ℕ × LockRow)) (a : Invocation × Answer) → Contains (past ++ told (supersede call s).ended) a ⊎ IsHeldUnder all locks a.0 a.1 → Contains past a ⊎ IsHeldUnder all locks a.0 a.1
      split locks a (inr k) = inr k
      split locks a (inl k) = by (Contains-append_cases past (told (supersede call s).ended) a k)
        where
          by : Contains past a ⊎ Contains (told (supersede call s).ended) a → Contains past a ⊎ IsHeldUnder all locks a.0 a.1
          by (inl x) = inl x
          by (inr x) = inr (All-contains (λ (a : Invocation × Answer). IsHeldUnder all locks a.0 a.1) (told (supersede call s).ended) a (quiet_told locks) x)

      live : StepStands past (record { state = (by_session i call o (session_in o) (supersede call s).state).state; answers = told (supersede call s).ended ++ (by_session i call o (session_in o) (supersede call s).state).answers })
      live = let last = (by_session i call o (session_in o) (supersede call s).state).state.locks in
          All-append (λ (a : Invocation × Answer). Contains past a ⊎ IsHeldUnder all last a.0 a.1) (told (supersede call s).ended) (by_session i call o (session_in o) (supersede call s).state).answers
          (All-weaker (λ (a : Invocation × Answer). IsHeldUnder all last a.0 a.1) (λ (a : Invocation × Answer). Contains past a ⊎ IsHeldUnder all last a.0 a.1) (λ a k. inr k) (told (supersede call s).ended) (quiet_told last))
          (All-weaker (λ (a : Invocation × Answer). Contains (past ++ told (supersede call s).ended) a ⊎ IsHeldUnder all last a.0 a.1) (λ (a : Invocation × Answer). Contains past a ⊎ IsHeldUnder all last a.0 a.1) (split last)
          (by_session i call o (session_in o) (supersede call s).state).answers (session-stands i (past ++ told (supersede call s).ended) call o (session_in o) (supersede call s).state there rising (asked-supersede all i call s asked).0 told_then))

  change-stands : (past : List (Invocation × Answer)) (c : Change) → AnswersStand c.state.locks (told c.ended) → StepStands past (changed c)
  change-stands past c h = of-locked past c.state.locks (changed c) (refl, h)

  apply-stands : (i : ℕ) (past : List (Invocation × Answer)) (e : Entry) (s : GroupState) → Contains all e → Rising name_cmp s.locks → AllAsked all s → Told i past s → StepStands past (apply i e s)
  apply-stands i past entry.Empty s there h asked told_all = no-answers past s
  apply-stands i past (entry.Call call o) s there h asked told_all = either (StepStands past) (is_elsewhere o) _ _ (no-answers past s) (call-stands i past call o s there h asked told_all)
  apply-stands i past (entry.SessionsExpired pairs) s there h asked told_all = let sessions = unchanged_since s.sessions pairs in
      change-stands past (close i sessions s) (told-stand (close i sessions s).state.locks (close i sessions s).ended (stand-close i sessions s h) (walk_close i (KeepsAsked all) (asked_closed all i) sessions s asked).1)
  apply-stands i past (entry.WaitsExpired calls) s there h asked told_all = let c = serve_left (for_each time_out calls s) in change-stands past (serve_left (for_each time_out calls s)) (told-quiet c.state.locks c.ended (quiet-time_out calls s))
  apply-stands i past (entry.Members None plan members) s there h asked told_all = no-answers past s
  apply-stands i past (entry.Members (Some call) plan members) s there h asked told_all = one-stands past call answer.Ok s (inr tt)
  apply-stands i past (entry.Destroy group) s there h asked told_all = change-stands past (destroy_group group s) (told-quiet s.locks (ending (λ w. true) (λ w. answer.GroupDestroyed group) s.waiters) (quiet-answers (λ w. answer.GroupDestroyed group) (λ w. tt) _))
  apply-stands i past (entry.Destroyed group) s there h asked told_all = no-answers past s
  apply-stands i past (entry.Moved group at members) s there h asked told_all = no-answers past s
  apply-stands i past (entry.Left member) s there h asked told_all = no-answers past s

  told-later : (i : ℕ) (past : List (Invocation × Answer)) (s : GroupState) → Told i past s → Told (i + 1) past s
  told-later i past s h = record {
    waiters = λ w there m. let x = h.waiters w there m in let l = x.0 in (omega arith, x.1);
    memory = λ session thread row there. let x = h.memory session thread row there in let l = x.0 in (omega arith, x.1);
  }

  within-le : (a b : ℕ) (rows : List (List ℕ × LatchRow)) → a ≤ b → RoundsWithin a rows → RoundsWithin b rows
  within-le a b rows l h = λ k d m. let x = h k d m in omega arith

  -- each fence of a run is that of a lock which is so held after the entry, or it was told before
  abbrev pub StandFrom : List (Invocation × Answer) → List Applied → Type 0
  StandFrom past [] = Unit {0}
  StandFrom past (x ∷ xs) = StepStands past x × StandFrom (past ++ x.answers) xs

  stand-from : (b i : ℕ) (past : List (Invocation × Answer)) (es : List Entry) (s : GroupState) → ((e : Entry) → Contains es e → Contains all e) → b + length es ≤ 2 ^ 62 → Rising name_cmp s.locks → AllAsked all s → RoundsWithin b s.latches → Told i past s → IsOrderlyFrom i es s → StandFrom past (run i es s)
  stand-from b i past [] s sub few h asked rounds told_all ord = tt
  stand-from b i past (e ∷ es) s sub few h asked rounds told_all ord = let there : Contains all e = sub e (Contains-append_left (e ∷ []) es e (Contains-push [] e)) in (
    apply-stands i past e s there h asked told_all,
    stand-from (suc b) (i + 1) (past ++ (apply i e s).answers) es (apply i e s).state (λ x k. sub x (Contains-append_right (e ∷ []) es x k)) (omega arith) (locks-apply i e s h).0 (asked-apply all i e s there asked) (within-apply i b e s rounds)
        (told-later i (past ++ (apply i e s).answers) (apply i e s).state (told-apply i past e s ord.0 (within-le b (2 ^ 62 - 1) s.latches (omega arith) rounds) told_all)) ord.1,
  )

no-element : {X : Type 0} (x : X) → Contains [] x → ⊥
no-element x h = let l = h.1 in absurd (omega arith)

no_row : (session thread : ℕ) (row : MemoryRow) → find holder_cmp empty.memory (session, thread) ≡ Some row → ⊥
no_row session thread row e = cc

pub run-stands : (es : List Entry) → IsOrderly es → StandFrom es [] (run 1 es empty)
unfolding IsStrictlySortedBy
run-stands es orderly = stand-from es 0 1 [] es empty (λ e h. h) (let f = orderly.few in omega arith) tt (λ w h. absurd (no-element w h)) (All-nil (λ (r : LatchRow). r.round ≤ 0))
    (record { waiters = λ w h. absurd (no-element w h); memory = λ session thread row e. absurd (no_row session thread row e) }) orderly.entries

-- The promises hold of what is known after all events.
use Rattle.std.proofs.Common.{◌≡◌, ℕ, ◌+◌, ◌*◌, ◌^◌, ◌<◌, ◌≤◌, ◌⊎◌, inl, inr, true, false, List, [], ◌∷◌, Some, None, Option, refl, sym, subst, ap, ◌∙◌, arith, length, map, zero, suc, le_refl, le_trans}
use Rattle.std.specs.Prelude.{Contains, slice_get, ◌==◌}
use Rattle.std.proofs.lemmas.List.Elements.{Contains-append_left, Contains-append_right}
use Rattle.cp_base.specs.Identifiers.{replay_id}
use Rattle.cp_base.specs.declared.identifier.ClientNo.{ClientNo}
use Rattle.cp_base.specs.declared.identifier.GroupId.{GroupId}
use Rattle.cp_base.specs.declared.identifier.Invocation.{Invocation}
use Rattle.cp_base.specs.declared.identifier.ThreadNo.{ThreadNo}
use Rattle.cp_base.proofs.Tests.{none_some, no_true, same_number, same_some}
use Rattle.cp_answers.specs.declared.answer.Answer.{Answer}
use Rattle.cp_answers.specs.declared.answer.Answer.TheVariants as answer
use Rattle.cp_answers.specs.declared.ended_by.EndedBy.TheVariants as ended_by
use Rattle.cp_ops.specs.declared.entry.Entry.{Entry}
use Rattle.cp_ops.specs.declared.entry.Entry.TheVariants as entry
use Rattle.cp_ops.specs.declared.op.Op.{Op}
use Rattle.cp_ops.specs.declared.op.Op.TheVariants as op
use Rattle.cp_object_ops.specs.declared.latch_op.LatchOp.TheVariants as latch
use Rattle.cp_ops.specs.declared.session_op.SessionOp.TheVariants as session
use Rattle.cp_events.specs.declared.effects.Effects.{Effects}
use Rattle.cp_events.specs.declared.effects.Ending.TheVariants as ending
use Rattle.cp_events.specs.declared.event.Event.{Event}
use Rattle.cp_events.specs.declared.event.Event.TheVariants as event
use Rattle.cp_events.specs.declared.plan.Plan.{Plan}
use Rattle.cp_events.specs.declared.schedule.Line.{Line}
use Rattle.cp_events.specs.declared.schedule.Line.TheVariants as line
use Rattle.cp_events.specs.declared.schedule.Schedule.{Schedule}
use Rattle.cp_events.specs.declared.user_op.UserOp.{UserOp}
use Rattle.cp_events.specs.declared.user_op.UserOp.TheVariants as user
use Rattle.cp_group_state.specs.GroupState.{empty}
use Rattle.cp_group_state.specs.Apply.{Applied, run}
use Rattle.cp_group_state.specs.History.{Given, IsGivenAt, IsOrderly, answers_of, given_from, sessions_in}
use Rattle.cp_group_state.proofs.Once.{acts-once}
use Rattle.cp_group_state.proofs.Holds.{have-fences}
use Rattle.cp_group_state.proofs.Moments.{fully-orderly}
use Rattle.cp_group_causes.proofs.Caused.{all-have-causes}
use Rattle.cp_group_state.proofs.Walk.{cases}
use Rattle.cp_group_causes.specs.Causes.{HasCause}
use Rattle.cp_group_causes.specs.Moments.{SessionsAreOwn}
use Rattle.cp_group_causes.proofs.Lists.{get-contains, map-in, mapped, no-element}
use Rattle.cp_client_rules.specs.Asking.{default_group, op_of}
use Rattle.cp_client_rules.specs.Calls.{patience}
use Rattle.cp_world_rules.specs.Rows.{Called, Committed, End, Opening, Request, Returned, entries_of}
use Rattle.cp_world_rules.specs.World.{World, new_world, world_after, world_step}
use Rattle.cp_world_rules.specs.Execution.{Outcomes, events_of, executed, execution_of, histories_of, history, lines_after, openings_in, returns_in, rows_of, settles}
use Rattle.cp_world_rules.specs.Requests.{AskedNothing, AsksItselfOnce, CallsStand, EndsOnce, IsBeat, IsCallOf, IsCallOfReturn, IsForItself, IsLastNumber, IsRequestOfCall, MayAsk, ReturnsOnce, TookPlace}
use Rattle.cp_world_rules.specs.Entries.{EntriesAreAsked, HistoriesStand, HistoryIsGood, IsLengthAt, IsOfRequest, IsOwnEntry, LengthsAreTrue, RowsAreInOrder}
use Rattle.cp_world_rules.specs.Answers.{GoesOn, IsAnswered, IsCommittedAt, lets_go_on}
use Rattle.cp_world_rules.specs.Returns.{IsTold, LostOwnership, PassedDeadline, answered, at_once, clock_after, late, lost, request_of}
use Rattle.cp_world_rules.specs.Holding.{holds_before}
use Rattle.cp_group_state.specs.Protected.{session_in}
use Rattle.cp_world_rules.specs.Telling.{Happened, IsOpening, IsReturnOf, StandFor, StandsOpened}
use Rattle.cp_world_rules.specs.Sessions.{TellsSession}
use Rattle.cp_world_rules.specs.Judging.{BeginsAtOnce, ClientsAct, IsOver, ended, went_on}
use Rattle.cp_world_rules.specs.Judging as judging
use Rattle.cp_world_rules.specs.Prompt.{IsIgnoredSo}
use Rattle.cp_world_rules.specs.Headline.{Headline}
use Rattle.cp_world_rules.proofs.Lists.{entries-length, get-map, get-some, one-there}
use Rattle.cp_world_rules.proofs.Ledgers.{IsSourced, ToldBy, by_call, by_clock, by_end, by_loss, ledger_of}
use Rattle.cp_world_rules.proofs.GroupLaws.{prepares}
use Rattle.cp_world_rules.proofs.Good.{Good, IsReturned, used-in}
use Rattle.cp_world_rules.proofs.Lengths.{Measured, measured-first, measured-kept}
use Rattle.cp_world_rules.proofs.Walking.{all-kept}
use Rattle.cp_world_rules.proofs.Begun.{AllBegun, BeginsIn, all-begun}
use Rattle.cp_world_rules.proofs.Quiet.{AllQuiet, all-quiet}
use Rattle.cp_world_rules.proofs.Settled.{rests, settled}
use Rattle.cp_world_rules.proofs.Printed.{Printed, Stands, printed-none}
use Rattle.cp_world_rules.proofs.Desks.{Apart, AsksNone, Between, BookOk, IsLast, IsNumbered, IsOther, IsSourcedBy, Owns, Tells, by_answer, first_beats, first_prepares, is_beat, other_call, past, replay-same, second_beats, second_prepares}
use Rattle.cp_world_rules.proofs.Desks as desks
use Rattle.cp_world_rules.proofs.Threads.{book_of, le-cases}
use Rattle.cp_world_rules.proofs.Working.{itself-plain}
use Rattle.cp_world_rules.proofs.Desked.{Sound, none-sound, runs-printed, runs-sound}
use Rattle.cp_world_rules.proofs.Judged.{all-ignored, judged-of}
use Rattle.cp_world_rules.proofs.Goes.{AllGoneOn, all-gone-on}
use Rattle.cp_world_rules.proofs.Counted.{AllCounted, all-counted}
use Rattle.cp_world_rules.proofs.Happened.{AllTook, Took, all-took}
use Rattle.cp_world_rules.proofs.Held.{EndsAt, Held, HeldNone, Lost, all-held}
use Rattle.cp_world_rules.proofs.Told.{ClosesRight, Seen}
use Rattle.cp_world_rules.proofs.Handed.{Gone, OverBy, all-gone, ended_by, given-back, gone_on_by, returned_by}

-- an answer of a step is one of the history
given-at : (i q : ℕ) (xs : List Applied) (step : Applied) (call : Invocation) (a : Answer) → slice_get xs q ≡ Some step → Contains step.answers (call, a) → Contains (given_from i xs) (record { index = i + q; call = call; answer = a })
given-at i q [] step call a at_q told = absurd (no at_q) where
  no : None ≡ Some step → ⊥
  no e = cc
given-at i zero (x ∷ xs) step call a at_q told = subst (λ (n : ℕ). Contains (given_from i (x ∷ xs)) (record { index = n; call = call; answer = a })) (plus i)
    (Contains-append_left (map (λ (b : Invocation × Answer). record { index = i; call = b.0; answer = b.1 }) x.answers) (given_from (i + 1) xs) _
    (map-in (λ (b : Invocation × Answer). record { index = i; call = b.0; answer = b.1 }) x.answers (call, a) (subst (λ (y : Applied). Contains y.answers (call, a)) (sym (same at_q)) told)))
  where
    plus : (n : ℕ) → n ≡ n + 0
    plus n = omega arith

    same : Some x ≡ Some step → x ≡ step
    same e = cc
given-at i (suc q) (x ∷ xs) step call a at_q told = Contains-append_right (map (λ (b : Invocation × Answer). record { index = i; call = b.0; answer = b.1 }) x.answers) (given_from (i + 1) xs) _
    (subst (λ (n : ℕ). Contains (given_from (i + 1) xs) (record { index = n; call = call; answer = a })) (add i q) (given-at (i + 1) q xs step call a at_q told))
  where
    add : (n k : ℕ) → n + 1 + k ≡ n + suc k
    add n k = omega arith

call-same : {c d : Invocation} {o p : Op} → entry.Call c o ≡ entry.Call d p → c ≡ d
call-same e = cc

op-same : {c d : Invocation} {o p : Op} → entry.Call c o ≡ entry.Call d p → o ≡ p
op-same e = cc

-- beats are asked by no call
beat-is : (o : Op) → is_beat o ≡ true → (s : ℕ) × (o ≡ op.Session (session.Beat s))
beat-is (op.Session (session.Beat s)) h = (s, refl)
beat-is o h = absurd (no_true (sym h))

itself-beats : (plan : Plan) (o : UserOp) (s round : ℕ) → is_beat (op_of plan o s round) ≡ false
itself-beats plan (user.Long object o) s round = refl
itself-beats plan (user.Ref object o) s round = refl
itself-beats plan (user.Lock object o) s round = refl
itself-beats plan (user.Sem object o) s round = refl
itself-beats plan (user.Jsem object o) s round = refl
itself-beats plan (user.Latch object o) s round = refl
itself-beats plan (user.Map object o) s round = refl
itself-beats plan (user.Destroy which object) s round = refl
itself-beats plan (user.CloseSession name) s round = refl
itself-beats plan (user.Group o) s round = refl
itself-beats plan (user.Member o) s round = refl
itself-beats plan (user.Change o) s round = refl

no-beating : (plan : Plan) (o : UserOp) (p : Op) → IsForItself plan o p → is_beat p ≡ true → ⊥
no-beating plan o p h b = no_true (sym b ∙ (ap is_beat h.2 ∙ itself-beats plan o h.0 h.1))

no-asking : (plan : Plan) (o : UserOp) (p : Op) → MayAsk plan o p → is_beat p ≡ true → ⊥
no-asking plan o p (inl h) b = no-beating plan o p h b
no-asking plan o p (inr (inl h)) b = no_true (sym b ∙ ap is_beat h.1)
no-asking plan o p (inr (inr h)) b = no_true (sym b ∙ ap is_beat h.2)

no-beat : (plan : Plan) (o : UserOp) (s : ℕ) → MayAsk plan o (op.Session (session.Beat s)) → ⊥
no-beat plan o s h = no-asking plan o (op.Session (session.Beat s)) h refl

-- an answer that no machine gives lets no call go on
no-going : (o : Op) → lets_go_on o (answer.Indeterminate ended_by.Deadline) ≡ false
no-going (op.Session session.Open) = refl
no-going (op.Latch name latch.Round) = refl
no-going o = refl

ending-same : {a b : Answer} → ending.Answered a ≡ ending.Answered b → a ≡ b
ending-same e = cc

lost-late : ending.Answered answer.OwnershipLost ≡ ending.Answered (answer.Indeterminate ended_by.Deadline) → ⊥
lost-late e = cc

ok-late : ending.Answered answer.Ok ≡ ending.Answered (answer.Indeterminate ended_by.Deadline) → ⊥
ok-late e = cc

order : (j k : ℕ) → (j < k) ⊎ ((j ≡ k) ⊎ (k < j))
order j k = by (le-cases j k) where
  at : (j ≤ k) → (k ≤ j) ⊎ (j < k) → (j < k) ⊎ ((j ≡ k) ⊎ (k < j))
  at l (inl m) = inr (inl (omega (arith, l, m)))
  at l (inr m) = inl m

  by : (j ≤ k) ⊎ (k < j) → (j < k) ⊎ ((j ≡ k) ⊎ (k < j))
  by (inl l) = at l (le-cases k j)
  by (inr l) = inr (inr l)

-- the history of each group, where there is one group
module _ (w : World) where
  by-group : (P : GroupId → List Committed → Type 0) → P default_group w.history → ((g : GroupId) → P g []) → (g : GroupId) → P g (history (executed w) g)
  by-group P one none g = at w.history one where
    at : (rows : List Committed) → P default_group rows → P g (rows_of (histories_of rows) g)
    at [] p = none g
    at (c ∷ rows) p = cases (P g) (1 == g.0) _ _ (λ e. subst (λ (x : GroupId). P x (c ∷ rows)) (ap (λ n. record { 0 = n }) (same 1 g.0 e)) p) (λ e. none g) where
      same : (a b : ℕ) → (a == b) ≡ true → a ≡ b
      same a b e = same_number a b e

  default-rows : history (executed w) default_group ≡ w.history
  default-rows = at w.history where
    at : (rows : List Committed) → rows_of (histories_of rows) default_group ≡ rows
    at [] = refl
    at (c ∷ rows) = refl

one-each : (rows : List Committed) → HistoriesStand (histories_of rows)
one-each [] = record { apart = λ j k a b l at. absurd (none_some at); some = λ j a at. absurd (none_some at) }
one-each (c ∷ rows) = record {
  apart = λ j k a b l at_j at_k. let x = (one-there (default_group, c ∷ rows) j a at_j).0 in let y = (one-there (default_group, c ∷ rows) k b at_k).0 in absurd (omega (arith, x, y, l));
  some = λ j a at e. let x = (one-there (default_group, c ∷ rows) j a at).1 in cons-none (ap (λ (h : GroupId × List Committed). h.1) x ∙ e);
}
  where
    cons-none : c ∷ rows ≡ [] → ⊥
    cons-none e = cc

none-good : HistoryIsGood []
none-good = record {
  rises = λ j k a b l at. absurd (none_some at);
  orderly = record { one_op = λ call o p h. absurd (no-element (entry.Call call o) h); sessions = λ place e s is. absurd (none_some is); rounds = λ place call o is. absurd (none_some is); few = omega arith };
  own_sessions = λ place call o s is. absurd (none_some is);
  at_most_once = tt;
  fences = have-fences [] (record { one_op = λ call o p h. absurd (no-element (entry.Call call o) h); entries = tt; few = omega arith });
}

-- lines and events
pub lines-same : (plan : Plan) (lines : List Line) (w : World) → lines_after plan w lines ≡ world_after plan w (events_of lines)
lines-same plan [] w = refl
lines-same plan (line.Settle n ∷ lines) w = ap (λ v. lines_after plan v lines) (settled-now n) ∙ lines-same plan lines w where
  settled-now : (k : ℕ) → settles plan k w ≡ w
  settled-now zero = refl
  settled-now (suc k) = refl
lines-same plan (line.One e ∷ lines) w = lines-same plan lines (world_step plan w e)

lines-stand : (lines : List Line) → StandFor lines (events_of lines)
lines-stand [] = refl
lines-stand (line.Settle n ∷ lines) = ([], events_of lines, refl, omega arith, λ e h. absurd (no-element e h), lines-stand lines)
lines-stand (line.One e ∷ lines) = (events_of lines, refl, lines-stand lines)

module _ (plan : Plan) (events : List Event) (w : World) (sound : Sound plan w) (seen : Seen w (openings_in w.effects)) (held : Held w) (took_all : AllTook w.effects w) (counted : AllCounted w) (gone_on : AllGoneOn plan w) (printed : Printed events w) (measured : Measured w) (quiet : AllQuiet w) (begun : AllBegun w) (ignoring : (number : ℕ) (shown : Effects) → slice_get w.effects number ≡ Some shown → IsIgnoredSo plan (executed w) number shown.event shown.ignored) (gone : Gone [] w) (over : w.queue ≡ []) where
  abbrev good : Good plan w
  good = sound.good

  abbrev book : BookOk plan (book_of w) w.shown.number
  book = sound.desked.book

  took : (n : ℕ) (e : Event) → Stands w.effects n e → TookPlace (executed w) n e
  took n e h = record { shown = h.shown; stands = h.there; event_is = h.event_is; not_ignored = h.not_ignored }

  stood : (n : ℕ) (e : Event) → TookPlace (executed w) n e → Stands w.effects n e
  stood n e h = record { shown = h.shown; there = h.stands; event_is = h.event_is; not_ignored = h.not_ignored }

  -- requests
  one-request : (r s : Request) → Contains w.requests r → Contains w.requests s → r.call ≡ s.call → r ≡ s
  one-request r s in_r in_s e = let j = get-some w.requests r in_r in let k = get-some w.requests s in_s in
      same_some (sym j.1 ∙ (ap (slice_get w.requests) (good.distinct j.0 k.0 r s j.1 k.1 e) ∙ k.1))

  -- the request of an entry
  of-entry : (call : Invocation) (o : Op) → Contains (entries_of w.history) (entry.Call call o) → (r : Request) × Contains w.requests r × (entry.Call call o ≡ entry.Call r.call r.op)
  of-entry call o h = let c = mapped (λ (c : Committed). c.entry) w.history (entry.Call call o) h in let p = get-some w.history c.0 c.1 in let r = good.entered p.0 c.0 p.1 in (r.0, r.1, c.2 ∙ r.2)

  one-op : (call : Invocation) (o p : Op) → Contains (entries_of w.history) (entry.Call call o) → Contains (entries_of w.history) (entry.Call call p) → o ≡ p
  one-op call o p h k = let r = of-entry call o h in let s = of-entry call p k in
      op-same r.2 ∙ (ap (λ (y : Request). y.op) (one-request r.0 s.0 r.1 s.1 (sym (call-same r.2) ∙ call-same s.2)) ∙ sym (op-same s.2))

  pub is-orderly : length w.history ≤ 2 * length events → length events ≤ 2 ^ 61 → IsOrderly (entries_of w.history)
  is-orderly size short = record {
    one_op = one-op;
    entries = good.orderly;
    few = subst (λ n. n ≤ 2 ^ 62) (sym (entries-length w.history)) (le_trans size (twice (length events) (2 ^ 61) short));
  }
    where
      twice : (n k : ℕ) → n ≤ k → 2 * n ≤ 2 * k
      twice n k l = omega (arith, l)

  -- each entry is of a call
  is-call : (place : ℕ) (e : Entry) → slice_get (entries_of w.history) place ≡ Some e → (r : Request) × (e ≡ entry.Call r.call r.op)
  is-call place e is = let c = get-map (λ (c : Committed). c.entry) w.history place e is in let r = good.entered place c.0 c.1 in (r.0, c.2 ∙ r.2)

  named-below : (place : ℕ) (e : Entry) (s : ℕ) → slice_get (entries_of w.history) place ≡ Some e → Contains (sessions_in e) s → s < place + 1
  named-below place e s is names = let c = is-call place e is in
      let l = good.named place c.0.call c.0.op s (is ∙ ap Some c.1) (subst (λ x. Contains (sessions_in x) s) c.1 names) in omega (arith, l)

  are-own : SessionsAreOwn (entries_of w.history)
  are-own place call o s is used = good.own place call o s is (used-in o s used)

  history-good : IsOrderly (entries_of w.history) → HistoryIsGood w.history
  history-good orderly = record {
    rises = measured.rises;
    orderly = fully-orderly (entries_of w.history) orderly named-below;
    own_sessions = good.own;
    at_most_once = acts-once (entries_of w.history) orderly;
    fences = have-fences (entries_of w.history) orderly;
  }

  entries-asked : EntriesAreAsked plan (executed w)
  entries-asked = by-group w (λ g rows. (place : ℕ) (c : Committed) → slice_get rows place ≡ Some c → IsOfRequest (executed w) g place c ⊎ IsOwnEntry plan g c.entry)
      (λ place c is. let r = good.entered place c is in inl (record { request = r.0; began = r.1; in_group = (measured.requests r.0 r.1).in_group; entry_is = r.2; begins_early = r.3; begins_first = r.4 }))
      (λ g place c is. absurd (none_some is))

  of-default : (g : GroupId) → g ≡ default_group → history (executed w) g ≡ w.history
  of-default g e = ap (λ x. history (executed w) x) e ∙ default-rows w

  lengths-true : LengthsAreTrue (executed w)
  lengths-true = record {
    requests = λ r h. let m = measured.requests r h in subst (λ rows. IsLengthAt rows r.event r.length) (sym (of-default r.group m.in_group)) m.length_is;
    ends = λ e h. let m = measured.ends e h in subst (λ rows. IsLengthAt rows e.event e.length) (sym (of-default e.group m.in_group)) m.length_is;
  }

  in-order : RowsAreInOrder (executed w)
  in-order = record {
    requests = λ j k a b l at_j at_k. let o = measured.requests_order j k a b l at_j at_k in (o.0, λ g. o.1);
    ends = λ j k a b l at_j at_k. let o = measured.ends_order j k a b l at_j at_k in (o.0, λ g. o.1);
  }

  -- calls
  calls-stand : CallsStand (executed w)
  calls-stand = record {
    printed = λ c h. took c.event (event.Call c.client c.thread c.op) (printed.calls c h);
    noted = λ n client t o h. printed.made n client t o (stood n (event.Call client t o) h);
  }

  call-of : (me : ClientNo) (t : ThreadNo) (n : ℕ) (c : Called) → IsLast w.calls me t n c → IsCallOf (executed w) me t n c
  call-of me t n c h = record { began = h.began; client_is = h.client_is; thread_is = h.thread_is; by_then = h.by_then; latest = h.latest }

  -- two calls that are the last ones
  same-last : (me : ClientNo) (t : ThreadNo) (n : ℕ) (c d : Called) → IsLast w.calls me t n c → IsCallOf (executed w) me t n d → c ≡ d
  same-last me t n c d h k = let l = h.latest d k.began k.client_is k.thread_is k.by_then in let m = k.latest c h.began h.client_is h.thread_is h.by_then in
      book.one_call c d h.began k.began (omega (arith, l, m))

  sourced : (r : Request) → Contains w.requests r → ((c : Called) × IsRequestOfCall plan (executed w) r c) ⊎ IsBeat (executed w) r
  sourced r there = by (book.sourced r there) (good.sources r there) where
    beats : (s : ℕ) → r.op ≡ op.Session (session.Beat s) → IsSourced plan (ledger_of w) r → ((c : Called) × IsRequestOfCall plan (executed w) r c) ⊎ IsBeat (executed w) r
    beats s is (inl h) = absurd (no-beat plan h.0.op s (subst (MayAsk plan h.0.op) is h.5))
    beats s is (inr h) = inr (record {
      client = h.0.client;
      ms = h.0.ms;
      kept = h.1;
      printed = subst (λ n. TookPlace (executed w) n (event.ClientTick h.0.client h.0.ms)) h.3 (took h.0.event (event.ClientTick h.0.client h.0.ms) (printed.moves h.0 h.2));
      by_client = h.4;
      by_thread = h.5;
      asks = h.6;
    })

    by : IsSourcedBy plan w.calls r → IsSourced plan (ledger_of w) r → ((c : Called) × IsRequestOfCall plan (executed w) r c) ⊎ IsBeat (executed w) r
    by (inl h) source = inl (h.0, record { last = call-of h.0.client h.0.thread r.event h.0 h.1; by_client = h.2.0; by_thread = h.2.1; asks = h.3 })
    by (inr h) source = let b = beat-is r.op h in beats b.0 b.1 source

  -- a request of this call is none of what lies apart
  not-other : (r : Request) (c : Called) (n : ℕ) → IsRequestOfCall plan (executed w) r c → c.event ≤ n → (Between w.calls r.call.client r.call.thread n r.event) → ⊥
  not-other r c n of l b = let k = of.last.latest b.call b.began (replay-same b.call.client c.client (sym b.client_is ∙ of.by_client)) (sym b.thread_is ∙ of.by_thread) b.in_time in let m = b.later in absurd (omega (arith, k, l, m))

  itself-once : AsksItselfOnce plan (executed w)
  itself-once j k a b c at_j at_k of_a of_b for_a for_b = by (order j k) where
    apart : (x y : Request) → IsRequestOfCall plan (executed w) x c → IsRequestOfCall plan (executed w) y c → IsForItself plan c.op x.op → IsForItself plan c.op y.op → Apart w.calls x y → ⊥
    apart x y of_x of_y for_x for_y (first_prepares h) = no_true (sym h ∙ (ap prepares for_x.2 ∙ itself-plain plan c.op for_x.0 for_x.1))
    apart x y of_x of_y for_x for_y (second_prepares h) = no_true (sym h ∙ (ap prepares for_y.2 ∙ itself-plain plan c.op for_y.0 for_y.1))
    apart x y of_x of_y for_x for_y (first_beats h) = no-beating plan c.op x.op for_x h
    apart x y of_x of_y for_x for_y (second_beats h) = no-beating plan c.op y.op for_y h
    apart x y of_x of_y for_x for_y (other_call h) = not-other y c x.event of_y of_x.last.by_then (record { call = h.call; began = h.began; client_is = of_y.by_client ∙ (sym of_x.by_client ∙ h.client_is); thread_is = of_y.by_thread ∙ (sym of_x.by_thread ∙ h.thread_is); later = h.later; in_time = h.in_time })

    by : (j < k) ⊎ ((j ≡ k) ⊎ (k < j)) → j ≡ k
    by (inl l) = absurd (apart a b of_a of_b for_a for_b (book.itself_once j k a b l at_j at_k (of_a.by_client ∙ sym of_b.by_client) (of_a.by_thread ∙ sym of_b.by_thread)))
    by (inr (inl e)) = e
    by (inr (inr l)) = absurd (apart b a of_b of_a for_b for_a (book.itself_once k j b a l at_k at_j (of_b.by_client ∙ sym of_a.by_client) (of_b.by_thread ∙ sym of_a.by_thread)))

  ends-once : EndsOnce w.ends
  ends-once j k a b at_j at_k e = by (order j k) where
    by : (j < k) ⊎ ((j ≡ k) ⊎ (k < j)) → j ≡ k
    by (inl l) = absurd (book.ends_once j k a b l at_j at_k e)
    by (inr (inl same)) = same
    by (inr (inr l)) = absurd (book.ends_once k j b a l at_k at_j (sym e))

  -- returns
  noted : (r : Returned) → Contains (returns_in w.effects) r → Contains w.returns r
  noted r h = subst (λ rows. Contains rows r) (sym printed.returns) h

  of-last : (r : Returned) (c : Called) (q : Request) → IsLast w.calls r.client r.what.thread r.event c → Owns r.client r.what.thread q.call → c.event ≤ q.event → q.event ≤ r.event → MayAsk plan c.op q.op → IsRequestOfCall plan (executed w) q c
  of-last r c q last mine l k may = record {
    last = record { began = last.began; client_is = refl; thread_is = refl; by_then = l; latest = λ d there of_client of_thread by. last.latest d there (of_client ∙ last.client_is) (of_thread ∙ last.thread_is) (le_trans by k) };
    by_client = mine.0 ∙ ap replay_id (sym last.client_is);
    by_thread = mine.1 ∙ sym last.thread_is;
    asks = may;
  }

  mine-of : (r : Returned) (c : Called) (q : Request) → IsLast w.calls r.client r.what.thread r.event c → IsRequestOfCall plan (executed w) q c → Owns r.client r.what.thread q.call
  mine-of r c q last of = (of.by_client ∙ ap replay_id last.client_is, of.by_thread ∙ last.thread_is)

  no-other : (c : Called) (q : Request) → IsRequestOfCall plan (executed w) q c → IsOther w.calls c.event q → ⊥
  no-other c q of (inl h) = no-asking plan c.op q.op of.asks h
  no-other c q of (inr h) = not-other q c c.event of (le_refl c.event) h

  numbered : (r : Returned) (c : Called) → IsLast w.calls r.client r.what.thread r.event c → IsNumbered plan (book_of w) r c → IsLastNumber plan (executed w) r c
  numbered r c last n = record { greatest = λ q there of. big q of (n.greatest q there (mine-of r c q last of) of.last.by_then); asked = asks n.asked } where
    big : (q : Request) → IsRequestOfCall plan (executed w) q c → (q.call.number ≤ r.what.number) ⊎ IsOther w.calls c.event q → q.call.number ≤ r.what.number
    big q of (inl l) = l
    big q of (inr h) = absurd (no-other c q of h)

    asks : ((q : Request) × desks.IsAsked plan w.requests r c q) ⊎ AsksNone plan w.requests w.calls r c
        → ((q : Request) × Contains w.requests q × IsRequestOfCall plan (executed w) q c × (q.call.number ≡ r.what.number)) ⊎ AskedNothing plan (executed w) r c
    asks (inl h) = inl (h.0, h.1.0, of-last r c h.0 last h.1.1 h.1.3 h.1.4 h.1.5, h.1.2)
    asks (inr h) = inr (record { ok = h.0; none = λ q there of. no-other c q of (h.1 q there (mine-of r c q last of) of.last.by_then); before = λ q there mine l. (h.2 q there mine).0 l; behind = λ q there mine l. (h.2 q there mine).1 l })

  returns-once : ReturnsOnce plan (executed w)
  returns-once = record {
    of_call = λ r h. let x = book.of_call r (noted r h) in (x.0, call-of r.client r.what.thread r.event x.0 x.1, numbered r x.0 x.1 x.2);
    once = λ j k a b c at_j at_k of_a of_b. once j k a b c (subst (λ rows. slice_get rows j ≡ Some a) (sym printed.returns) at_j) (subst (λ rows. slice_get rows k ≡ Some b) (sym printed.returns) at_k) of_a of_b (order j k);
  }
    where
      apart : (x y : Returned) (c : Called) → IsCallOfReturn (executed w) x c → IsCallOfReturn (executed w) y c → Between w.calls (replay_id x.client) x.what.thread x.event y.event → ⊥
      apart x y c of_x of_y h = let k = of_y.latest h.call h.began (replay-same h.call.client y.client (sym h.client_is ∙ ap replay_id (sym of_x.client_is ∙ of_y.client_is))) (sym h.thread_is ∙ (sym of_x.thread_is ∙ of_y.thread_is)) h.in_time in
          let l = of_x.by_then in let m = h.later in absurd (omega (arith, k, l, m))

      once : (j k : ℕ) (a b : Returned) (c : Called) → slice_get w.returns j ≡ Some a → slice_get w.returns k ≡ Some b → IsCallOfReturn (executed w) a c → IsCallOfReturn (executed w) b c → (j < k) ⊎ ((j ≡ k) ⊎ (k < j)) → j ≡ k
      once j k a b c at_j at_k of_a of_b (inl l) = absurd (apart a b c of_a of_b (book.once j k a b l at_j at_k (sym of_a.client_is ∙ of_b.client_is) (sym of_a.thread_is ∙ of_b.thread_is)))
      once j k a b c at_j at_k of_a of_b (inr (inl e)) = e
      once j k a b c at_j at_k of_a of_b (inr (inr l)) = absurd (apart b a c of_b of_a (book.once k j b a l at_k at_j (sym of_b.client_is ∙ of_a.client_is) (sym of_b.thread_is ∙ of_a.thread_is)))

  -- what ended requests
  answered-so : IsOrderly (entries_of w.history) → (e : End) → Contains w.ends e → IsAnswered (executed w) e
  answered-so orderly e there = let h = good.ends e there in let m = measured.ends e there in let rows = of-default e.group m.in_group in
      let given : IsGivenAt (entries_of w.history) (1 + h.q) e.call e.answer = given-at 1 h.q (run 1 (entries_of w.history) empty) h.step e.call e.answer h.step_at h.told in record {
        request = h.entered.request;
        began = h.entered.begun;
        call_is = h.entered.mine;
        in_group = (measured.requests h.entered.request h.entered.begun).in_group ∙ sym m.in_group;
        own_index = h.entered.p + 1;
        own = h.entered.own;
        own_at = (h.entered.p, refl, subst (λ hs. slice_get hs h.entered.p ≡ Some h.entered.own) (sym rows) h.entered.own_at);
        own_is = h.entered.own_is ∙ (ap (λ c. entry.Call c h.o) (sym h.entered.mine) ∙ ap (λ o. entry.Call h.entered.request.call o) (sym h.entered.op_is));
        index = 1 + h.q;
        giving = h.giving;
        giving_at = (h.q, turn h.q, subst (λ hs. slice_get hs h.q ≡ Some h.giving) (sym rows) h.giving_at);
        given = subst (λ hs. IsGivenAt (entries_of hs) (1 + h.q) e.call e.answer) (sym rows) given;
        cause = subst (λ hs. HasCause (entries_of hs) (1 + h.q) e.call e.answer) (sym rows) (all-have-causes (entries_of w.history) orderly are-own (1 + h.q) e.call e.answer given);
        begins_first = let l = h.entered.longer in omega (arith, l);
        own_first = let l = h.order in omega (arith, l);
        ends_last = let l = h.in_length in omega (arith, l);
        begins_early = h.entered.begins;
        own_early = h.commits;
        ends_late = h.by_then;
      }
    where
      turn : (n : ℕ) → 1 + n ≡ n + 1
      turn n = omega arith

  -- what is told
  abbrev Told : Returned → Type 0
  Told r = IsTold plan (executed w) r

  -- what is told of ownership
  same-end : (e f : End) → Contains w.ends e → Contains w.ends f → e.call ≡ f.call → e ≡ f
  same-end e f in_e in_f same = let j = get-some w.ends e in_e in let k = get-some w.ends f in_f in
      same_some (sym j.1 ∙ (ap (slice_get w.ends) (ends-once j.0 k.0 e f j.1 k.1 same) ∙ k.1))

  late-expired : {x : ℕ} → answer.Indeterminate ended_by.Deadline ≡ answer.SessionExpired x → ⊥
  late-expired e = cc

  ok-expired : {x : ℕ} → answer.Ok ≡ answer.SessionExpired x → ⊥
  ok-expired e = cc

  loss-expired : {x : ℕ} → answer.OwnershipLost ≡ answer.SessionExpired x → ⊥
  loss-expired e = cc

  not-lost : (r : Returned) (e : End) → Contains w.ends e → e.call ≡ request_of r → ((x : ℕ) → e.answer ≡ answer.SessionExpired x → ⊥) → LostOwnership plan (executed w) r → ⊥
  not-lost r e in_e call never l = never l.expired (ap (λ (z : End). z.answer) (same-end e l.here.end in_e l.here.ended (call ∙ sym l.here.call_is)) ∙ l.says)

  -- a thread that was told no hold lost none
  kept-it : (r : Returned) → LostOwnership plan (executed w) r → HeldNone w r → ⊥
  kept-it r l k = let at = k.0 in
      let e : at.end ≡ l.here.end = same-end at.end l.here.end (get-contains w.ends at.place at.end at.stands) l.here.ended (at.call_is ∙ sym l.here.call_is) in
      let p : at.place ≡ l.place = ends-once at.place l.place at.end l.here.end at.stands l.at_place (at.call_is ∙ sym l.here.call_is) in
      let q : at.request ≡ l.here.request = one-request at.request l.here.request at.began l.here.began (at.of_end ∙ (at.call_is ∙ sym l.here.of_call)) in
      let none = k.1 l.lock l.what l.session (ap (λ (z : Request). z.op) q ∙ l.on_lock) (ap (λ (z : Request). session_in z.op) q ∙ l.in_session) in
      none_some (sym none ∙ (ap (λ (z : End). holds_before w.requests w.ends l.lock z at.place) e ∙ (ap (λ n. holds_before w.requests w.ends l.lock l.here.end n) p ∙ l.told)))

  no-going-lost : (o : Op) → lets_go_on o answer.OwnershipLost ≡ false
  no-going-lost (op.Session session.Open) = refl
  no-going-lost (op.Latch name latch.Round) = refl
  no-going-lost o = refl

  lost-told : (r : Returned) → r.what.ending ≡ ending.Answered answer.OwnershipLost → Lost w r ⊎ ((at : EndsAt w r) × (at.end.answer ≡ answer.OwnershipLost)) → Told r
  lost-told r ends (inl l) = lost ends (record { here = record { end = l.at.end; ended = get-contains w.ends l.at.place l.at.end l.at.stands; here = l.at.here; call_is = l.at.call_is; request = l.at.request; began = l.at.began; of_call = l.at.of_end ∙ l.at.call_is }; expired = l.expired; says = l.says; lock = l.name; what = l.what; on_lock = l.on_lock; session = l.session; in_session = l.in_session; place = l.at.place; at_place = l.at.stands; held = l.held; told = l.told })
  lost-told r ends (inr x) = answered answer.OwnershipLost ends (record { here = record { end = x.0.end; ended = get-contains w.ends x.0.place x.0.end x.0.stands; here = x.0.here; call_is = x.0.call_is; request = x.0.request; began = x.0.began; of_call = x.0.of_end ∙ x.0.call_is }; answer_is = x.1; last = no-going-lost x.0.request.op })
      (not-lost r x.0.end (get-contains w.ends x.0.place x.0.end x.0.stands) x.0.call_is (λ n says. loss-expired (sym x.1 ∙ says)))

  past-told : (r : Returned) → Contains w.returns r → r.what.ending ≡ ending.Answered (answer.Indeterminate ended_by.Deadline) → (c : Called) → IsLast w.calls r.client r.what.thread r.event c → IsNumbered plan (book_of w) r c → Tells w.ends w.moves r c → Told r
  past-told r there is c last n (by_answer e in_e at call (inl same)) = let q = good.ends e in_e in answered (answer.Indeterminate ended_by.Deadline) is (record {
    here = record { end = e; ended = in_e; here = at; call_is = call; request = q.entered.request; began = q.entered.begun; of_call = q.entered.mine ∙ call };
    answer_is = ending-same (sym same ∙ is);
    last = no-going q.entered.request.op;
  }) (not-lost r e in_e call (λ x says. late-expired (ending-same (sym is ∙ (same ∙ ap (λ y. ending.Answered y) says)))))
  past-told r there is c last n (by_answer e in_e at call (inr same)) = absurd (lost-late (sym same ∙ is))
  past-told r there is c last n (desks.at_once at same) = absurd (ok-late (sym same ∙ is))
  past-told r there is c last n (past m wish in_m at mine bounded over) = late is (by n.asked) where
    by : ((q : Request) × desks.IsAsked plan w.requests r c q) ⊎ AsksNone plan w.requests w.calls r c → PassedDeadline plan (executed w) r
    by (inr x) = absurd (ok-late (sym x.0 ∙ is))
    by (inl x) = record {
      call = c;
      request = x.0;
      began = x.1.0;
      asked = of-last r c x.0 last x.1.1 x.1.3 x.1.4 x.1.5;
      number_is = x.1.2;
      call_is = call-of r.client r.what.thread r.event c last;
      ms = m.ms;
      ticked = took r.event (event.ClientTick r.client m.ms) (subst (λ k. Stands w.effects k (event.ClientTick r.client m.ms)) at (subst (λ me. Stands w.effects m.event (event.ClientTick me m.ms)) mine (printed.moves m in_m)));
      wish = wish;
      bounded = bounded;
      passed = subst (λ k. clock_after r.client c.event w.effects + patience + wish ≤ clock_after r.client k w.effects) at
          (subst (λ me. clock_after me c.event w.effects + patience + wish ≤ clock_after r.client m.event w.effects) last.client_is
          (subst (λ me. clock_after c.client c.event w.effects + patience + wish ≤ clock_after me m.event w.effects) mine
          (subst (λ k. k + patience + wish ≤ clock_after m.client m.event w.effects) (printed.call_clocks c last.began) (subst (λ k. c.clock + patience + wish ≤ k) (printed.move_clocks m in_m) over))));
    }

  no-going-ok : (o : Op) → lets_go_on o answer.Ok ≡ false
  no-going-ok (op.Session session.Open) = refl
  no-going-ok (op.Latch name latch.Round) = refl
  no-going-ok o = refl

  closed-told : (r : Returned) (name : Option (List ℕ)) → r.what.ending ≡ ending.Answered answer.Ok → TookPlace (executed w) r.event (event.Call r.client r.what.thread (user.CloseSession name)) → ClosesRight w r → Told r
  closed-told r name ends took_place (inl x) = let q = good.ends x.0 x.1 in answered answer.Ok ends (record {
    here = record { end = x.0; ended = x.1; here = x.2; call_is = x.3; request = q.entered.request; began = q.entered.begun; of_call = q.entered.mine ∙ x.3 };
    answer_is = x.4;
    last = no-going-ok q.entered.request.op;
  }) (not-lost r x.0 x.1 x.3 (λ n says. ok-expired (sym x.4 ∙ says)))
  closed-told r name ends took_place (inr x) = at_once ends (record { name = name; asked = took_place; before = x.0; behind = x.1; parts = x.2; later = x.3; taken = λ j s e at in_group tells. x.4 j s e at tells })

  told : (r : Returned) → Contains w.returns r → ToldBy (ledger_of w) r.event r.client r.what → Told r
  told r there (by_end e in_e at call ends q in_q of_q fin) = answered e.answer ends
      (record { here = record { end = e; ended = in_e; here = at; call_is = call; request = q; began = in_q; of_call = of_q ∙ call }; answer_is = refl; last = fin })
      (λ l. kept-it r l ((held.returns r there).kept l.expired (ends ∙ ap (λ y. ending.Answered y) (ap (λ (z : End). z.answer) (same-end e l.here.end in_e l.here.ended (call ∙ sym l.here.call_is)) ∙ l.says))))
  told r there (by_loss e s name in_e at call expired lock f before ends) = lost-told r ends ((held.returns r there).lost ends)
  told r there (by_call c name in_c at mine thread is ends) = closed-told r name ends
      (took r.event _ (subst (λ k. Stands w.effects k (event.Call r.client r.what.thread (user.CloseSession name))) at
      (subst (λ me. Stands w.effects c.event (event.Call me r.what.thread (user.CloseSession name))) mine
      (subst (λ t. Stands w.effects c.event (event.Call c.client t (user.CloseSession name))) thread
      (subst (λ o. Stands w.effects c.event (event.Call c.client c.thread o)) is (printed.calls c in_c))))))
      (seen.closes r there ends)
  told r there (by_clock c m wish in_c mine thread bounded moved at own by_now over ends) = let x = book.of_call r there in past-told r there ends x.0 x.1 x.2 x.3

  -- what goes on
  goes-on : GoesOn plan (executed w)
  goes-on q e c in_q in_e same goes of = let x = (gone_on q e in_q in_e same goes).1 in
      let client_is : x.call.client ≡ c.client = replay-same x.call.client c.client (sym x.of_call.0 ∙ of.by_client) in
      let thread_is : x.call.thread ≡ c.thread = sym x.of_call.1 ∙ of.by_thread in
      let is : x.call ≡ c = same-last x.call.client x.call.thread q.event x.call c x.last_then (record { began = of.last.began; client_is = sym client_is; thread_is = sym thread_is; by_then = of.last.by_then; latest = λ d there mine thread by. of.last.latest d there (mine ∙ client_is) (thread ∙ thread_is) by }) in (
        x.asked,
        x.began,
        subst (IsRequestOfCall plan (executed w) x.asked) is (record { last = call-of x.call.client x.call.thread x.asked.event x.call (subst (λ n. IsLast w.calls x.call.client x.call.thread n x.call) (sym x.here) x.last_here); by_client = x.owned.0; by_thread = x.owned.1; asks = inl x.itself }),
        subst (λ (z : Called). IsForItself plan z.op x.asked.op) is x.itself,
        x.here,
      )

  -- sessions
  is-opening : (o : Opening) → Contains (openings_in w.effects) o → IsOpening (executed w) o
  is-opening o there = let x = seen.opened o there in (x.0, x.1, x.2, x.3, (measured.ends x.0 x.1).in_group ∙ sym x.4)

  stands-opened : (client : ClientNo) (s : ℕ) (e : End) → Contains w.ends e → TellsSession w.requests (replay_id client) s e → StandsOpened (executed w) client s e
  stands-opened client s e there tells = let x = seen.printed client s e there tells in
      (x.0, x.1, x.2, x.3 ∙ ap (λ g. record { group = g; session = s }) (sym (measured.ends e there).in_group), x.4)

  -- events that took place
  happened : (n : ℕ) → Took w.effects n → Happened (executed w) n
  happened n t = let k = get-some w.effects t.0 t.1 in (t.0, subst (λ m. slice_get w.effects m ≡ Some t.0) (sym (printed.numbers k.0 t.0 k.1) ∙ t.2) k.1, t.3)

  -- an answer is returned
  returned : (q : Request) (e : End) → Contains w.requests q → Contains w.ends e → q.call ≡ e.call → lets_go_on q.op e.answer ≡ false → IsBeat (executed w) q ⊎ IsReturnOf (executed w) e
  returned q e in_q in_e same fin = by (good.all_returned q e in_q in_e same fin) where
    beat : is_beat q.op ≡ true → ((c : Called) × IsRequestOfCall plan (executed w) q c) ⊎ IsBeat (executed w) q → IsBeat (executed w) q
    beat b (inl c) = absurd (no-asking plan c.0.op q.op c.1.asks b)
    beat b (inr h) = h

    by : IsReturned w.returns e.event e.call q.op → IsBeat (executed w) q ⊎ IsReturnOf (executed w) e
    by (inl b) = inl (beat b (sourced q in_q))
    by (inr h) = inr (record { told = h.0; printed = subst (λ rows. Contains rows h.0) printed.returns h.1; here = h.2; of_request = h.3 })

  -- answers that were given
  all-over : (g : Given) (c : Committed) → Contains (answers_of (entries_of (history (executed w) default_group))) g → IsCommittedAt (history (executed w) default_group) g.index c → IsOver (executed w) c.event g.call
  all-over g c there at = let b = given-back 1 (run 1 (entries_of w.history) empty) g (subst (λ rows. Contains (answers_of (entries_of rows)) g) (default-rows w) there) in
      let p = at.1 in let i = b.3 in let place : at.0 ≡ b.0 = omega (arith, p, i) in
      by (gone.gone b.0 c b.1 (g.call, g.answer) (subst (λ rows. slice_get rows b.0 ≡ Some c) (default-rows w) (subst (λ n. slice_get (history (executed w) default_group) n ≡ Some c) place at.2)) b.2 b.4)
    where
      by : OverBy w.requests w.ends w.returns c.event g.call ⊎ ((Contains {X = Invocation × Answer} [] (g.call, g.answer) ⊎ Contains w.queue (g.call, g.answer)) × (c.event ≡ w.shown.number)) → IsOver (executed w) c.event g.call
      by (inl (ended_by e in_e same by_then)) = ended e in_e same by_then
      by (inl (returned_by r in_r same by_then)) = judging.returned r (subst (λ rows. Contains rows r) printed.returns in_r) same by_then
      by (inl (gone_on_by q in_q own client thread less by_then)) = went_on q in_q own client thread less by_then
      by (inr q) = waits q.0 where
        waits : Contains {X = Invocation × Answer} [] (g.call, g.answer) ⊎ Contains w.queue (g.call, g.answer) → IsOver (executed w) c.event g.call
        waits (inl k) = absurd (no-element (g.call, g.answer) k)
        waits (inr k) = absurd (no-element (g.call, g.answer) (subst (λ rows. Contains rows (g.call, g.answer)) over k))

  begins : (c : Called) → BeginsIn w.requests w.returns c → BeginsAtOnce (executed w) c
  begins c (inl h) = inl h
  begins c (inr h) = inr (h.0, subst (λ rows. Contains rows h.0) printed.returns h.1, h.2, h.3, h.4)

  pub headline-of : IsOrderly (entries_of w.history) → (lines : List Line) → events ≡ events_of lines → Headline plan lines (executed w)
  headline-of orderly lines same = record {
    one_each = one-each w.history;
    histories = by-group w (λ g rows. HistoryIsGood rows) (history-good orderly) (λ g. none-good);
    entries = entries-asked;
    lengths = lengths-true;
    order = in-order;
    calls = calls-stand;
    requests = sourced;
    itself_once = itself-once;
    numbers = good.rising;
    rounds = counted;
    answers = λ e there. inl (answered-so orderly e there);
    ends_once = ends-once;
    goes_on = goes-on;
    returns_once = returns-once;
    returns = λ r h. let there = noted r h in told r there (good.returns r there);
    follows = (events, printed.events_are, subst (StandFor lines) (sym same) (lines-stand lines));
    events = record { numbers = λ n shown h. printed.numbers n shown h; quiet = λ shown cause there is. quiet shown there cause is; begins = λ q there. happened q.event (took_all.requests q there); ends = λ e there. happened e.event (took_all.ends e there); returned = returned; opened = is-opening; told = stands-opened };
    clients = record { judged = λ number shown is. judged-of plan (executed w) number shown.event shown.ignored (ignoring number shown is); begins = λ c there. begins c (begun c there) };
    prompt = λ none. record {
      events = printed.events_are ∙ ap (λ es. event.Open ∷ es) same;
      ignored = ignoring;
      group = λ r h. (measured.requests r h).in_group;
      committed = default-rows w ∙ printed.committed;
      answered = all-over;
    };
  }

pub headline-kept : (s : Schedule) (outcomes : Outcomes) → length (events_of s.lines) ≤ 2 ^ 61 → Headline s.plan s.lines (execution_of s outcomes)
headline-kept s outcomes short = subst (λ w. Headline s.plan s.lines (executed w)) (sym (lines-same s.plan s.lines new_world)) (from (events_of s.lines) refl) where
  from : (events : List Event) → events ≡ events_of s.lines → Headline s.plan s.lines (executed (world_after s.plan new_world (events_of s.lines)))
  from events same = let sound = runs-sound s.plan (events_of s.lines) in let both = all-held s.plan (events_of s.lines) in let seen = both.0 in let held = both.1 in let took_all = all-took s.plan (events_of s.lines) in let counted = all-counted s.plan (events_of s.lines) in let gone_on = all-gone-on s.plan (events_of s.lines) in let printed = runs-printed s.plan (events_of s.lines) in
      let measured = all-kept s.plan Measured measured-kept (events_of s.lines) (measured-first new_world refl refl refl) in
      let quiet = all-quiet s.plan (events_of s.lines) in let begun = all-begun s.plan (events_of s.lines) new_world (λ c h. absurd (no-element c h)) in
      let ignoring = all-ignored s.plan (events_of s.lines) (rests s.plan []) (none-sound s.plan) printed-none printed in
      let gone = all-gone s.plan (events_of s.lines) in let over = (rests s.plan (events_of s.lines)).queue in
      headline-of s.plan (events_of s.lines) (world_after s.plan new_world (events_of s.lines)) sound seen held took_all counted gone_on printed measured quiet begun ignoring gone over
      (is-orderly s.plan (events_of s.lines) (world_after s.plan new_world (events_of s.lines)) sound seen held took_all counted gone_on printed measured quiet begun ignoring gone over (settled s.plan (events_of s.lines)).1 short) s.lines refl

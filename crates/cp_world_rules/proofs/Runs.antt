-- The invariant holds of every run, and the promises follow from it.
use Rattle.std.proofs.Common.{◌≡◌, ℕ, ◌+◌, ◌^◌, ◌≤◌, true, false, List, [], ◌∷◌, ◌++◌, Some, None, Option, refl, subst, length, le_refl, le_trans}
use Rattle.std.specs.Prelude.{Contains, nat_lt}
use Rattle.std.proofs.lemmas.List.Elements.{All-nil, Contains-append_left, Contains-push}
use Rattle.cp_base.specs.Identifiers.{replay_id}
use Rattle.cp_base.specs.declared.identifier.ClientNo.{ClientNo}
use Rattle.cp_base.specs.declared.identifier.Invocation.{Invocation}
use Rattle.cp_base.specs.declared.identifier.ThreadNo.{ThreadNo}
use Rattle.cp_base.proofs.Tests.{none_some}
use Rattle.cp_answers.specs.declared.answer.Answer.{Answer}
use Rattle.cp_ops.specs.declared.op.Op.{Op}
use Rattle.cp_events.specs.declared.effects.Ignored.{Ignored}
use Rattle.cp_events.specs.declared.event.Event.{Event}
use Rattle.cp_events.specs.declared.event.Event.TheVariants as event
use Rattle.cp_events.specs.declared.plan.Plan.{Plan}
use Rattle.cp_events.specs.declared.user_op.UserOp.{UserOp}
use Rattle.cp_group_state.specs.declared.rows.LatchRow.{LatchRow}
use Rattle.cp_group_state.proofs.Walk.{either}
use Rattle.cp_group_state.proofs.Ordered.{order-empty}
use Rattle.cp_group_causes.proofs.Lists.{at-head, at-tail, no-element}
use Rattle.cp_client_rules.specs.declared.rows.OwnSession.{OwnSession}
use Rattle.cp_client_rules.specs.declared.rows.HoldRecord.{HoldRecord}
use Rattle.cp_client_rules.specs.declared.rows.Pending.{Pending}
use Rattle.cp_client_rules.specs.Clients.{LockKey, thread_at}
use Rattle.cp_client_rules.specs.Calls.{call_client}
use Rattle.cp_client_rules.specs.Answers.{answer_client}
use Rattle.cp_client_rules.specs.Ticks.{tick_client}
use Rattle.cp_world_rules.specs.Rows.{Called, Committed, Moved, Request}
use Rattle.cp_world_rules.specs.World.{World, begin, calls_if_idle, client_at, client_of, close, hand_all, hand_on, handed, ignore, is_client, moves_now, new_world, start, world_step}
use Rattle.cp_world_rules.proofs.Ledgers.{Extends, HoldOk, OpenedIn, client-on, ledger_of, source-on, told-on}
use Rattle.cp_world_rules.proofs.Good.{AnsweredBy, Entered, Given as GivenTo, Good}
use Rattle.cp_world_rules.proofs.Does.{does-given, does-good}
use Rattle.cp_world_rules.proofs.Clients.{call-ok}
use Rattle.cp_world_rules.proofs.Answers.{answer-ok, tick-ok}

-- The next event: its number is not below the one before.
answered-later : (rs : List Request) (history : List Committed) (now later until : ℕ) (call : Invocation) (a : Answer) → now ≤ later → AnsweredBy rs history now until call a → AnsweredBy rs history later until call a
answered-later rs history now later until call a l h = let e = h.entered in record {
  o = h.o;
  entered = record { request = e.request; begun = e.begun; mine = e.mine; op_is = e.op_is; p = e.p; own = e.own; own_at = e.own_at; own_is = e.own_is; begins = e.begins; by_now = le_trans e.by_now l; longer = e.longer };
  q = h.q;
  giving = h.giving;
  step = h.step;
  giving_at = h.giving_at;
  step_at = h.step_at;
  told = h.told;
  order = h.order;
  commits = h.commits;
  by_then = le_trans h.by_then l;
  in_length = h.in_length;
}

module _ (plan : Plan) where
  -- events that have numbers up to this one
  pub started : (e : Event) (w : World) → w.shown.number ≤ length w.effects → w.queue ≡ [] → Good plan w → Good plan (start e w)
  started e w l none good = let more : Extends (ledger_of w) (ledger_of (start e w)) = record { history = λ s client h. h; requests = λ r h. h; ends = λ x h. h; calls = λ c h. h; moves = λ c h. h; now = l } in record {
    state = good.state;
    ordered = good.ordered;
    orderly = good.orderly;
    own = good.own;
    named = good.named;
    upto = good.upto;
    rounds = good.rounds;
    waiters = λ x h. let r = good.waiters x h in (r.0, later r.0 x.call r.1, r.2);
    queue = λ a h. absurd (no-element a (subst (λ rows. Contains rows a) none h));
    ends = good.ends;
    ended_by_now = λ x h. le_trans (good.ended_by_now x h) l;
    clients_are = good.clients_are;
    numbers = good.numbers;
    distinct = good.distinct;
    rising = good.rising;
    entered = good.entered;
    sources = λ r h. source-on (ledger_of w) (ledger_of (start e w)) more plan r (good.sources r h);
    returns = λ r h. told-on (ledger_of w) (ledger_of (start e w)) more r.event r.client r.what (good.returns r h);
    clients = λ me. client-on (ledger_of w) (ledger_of (start e w)) more plan me (client_at w me) (good.clients me);
    all_returned = good.all_returned;
  }
    where
      later : (o : Op) (call : Invocation) → Entered w.requests w.history w.shown.number call o → Entered w.requests w.history (length w.effects) call o
      later o call h = record { request = h.request; begun = h.begun; mine = h.mine; op_is = h.op_is; p = h.p; own = h.own; own_at = h.own_at; own_is = h.own_is; begins = h.begins; by_now = le_trans h.by_now l; longer = h.longer }

  -- what is ignored, and effects that are over, are not read
  ignored-good : (cause : Ignored) (w : World) → Good plan w → Good plan (ignore cause w)
  ignored-good cause w good = record { state = good.state; ordered = good.ordered; orderly = good.orderly; own = good.own; named = good.named; upto = good.upto; rounds = good.rounds; waiters = good.waiters; queue = λ a h. let g = good.queue a h in record { answered = g.answered; fits = g.fits }; ends = good.ends; ended_by_now = good.ended_by_now; clients_are = good.clients_are; numbers = good.numbers; distinct = good.distinct; rising = good.rising; entered = good.entered; sources = good.sources; returns = good.returns; clients = good.clients; all_returned = good.all_returned }

  close-good : (w : World) → Good plan w → Good plan (close w)
  close-good w good = record { state = good.state; ordered = good.ordered; orderly = good.orderly; own = good.own; named = good.named; upto = good.upto; rounds = good.rounds; waiters = good.waiters; queue = λ a h. let g = good.queue a h in record { answered = g.answered; fits = g.fits }; ends = good.ends; ended_by_now = good.ended_by_now; clients_are = good.clients_are; numbers = good.numbers; distinct = good.distinct; rising = good.rising; entered = good.entered; sources = good.sources; returns = good.returns; clients = good.clients; all_returned = good.all_returned }

  -- answers are handed on; those that wait stay answers of the fold
  hands-good : (queue : List (Invocation × Answer)) (w : World) → Good plan w → ((a : Invocation × Answer) → Contains queue a → GivenTo w a.0 a.1) → Good plan (hand_all plan queue w)
  hands-good [] w good given = good
  hands-good (a ∷ queue) w good given = let ok = answer-ok plan w a.0 a.1 good (given a (at-head a queue)) in
      let d = answer_client plan (replay_id (client_of a.0)) a.0 a.1 (client_at w (client_of a.0)) in
      hands-good queue (hand_on plan a w) (does-good plan w (client_of a.0) (answer_client plan (replay_id (client_of a.0)) a.0 a.1 (client_at w (client_of a.0))) good ok)
      (λ b h. does-given plan w (client_of a.0) (answer_client plan (replay_id (client_of a.0)) a.0 a.1 (client_at w (client_of a.0))) good ok b (given b (at-tail a b queue h)))

  pub handed-good : (w : World) → Good plan w → Good plan (handed plan w)
  handed-good w good = hands-good w.queue (record w { queue = [] }) (record { state = good.state; ordered = good.ordered; orderly = good.orderly; own = good.own; named = good.named; upto = good.upto; rounds = good.rounds; waiters = good.waiters; queue = λ a h. absurd (no-element a h); ends = good.ends; ended_by_now = good.ended_by_now; clients_are = good.clients_are; numbers = good.numbers; distinct = good.distinct; rising = good.rising; entered = good.entered; sources = good.sources; returns = good.returns; clients = good.clients; all_returned = good.all_returned })
      (λ a h. let g = good.queue a h in record { answered = g.answered; fits = g.fits })

  -- a call's row, or a clock's
  pub called-good : (c : Called) (w : World) → Good plan w → Good plan (record w { calls = w.calls ++ c ∷ [] })
  called-good c w good = let v = record w { calls = w.calls ++ c ∷ [] } in
      let more : Extends (ledger_of w) (ledger_of (record w { calls = w.calls ++ c ∷ [] })) = record { history = λ s client h. h; requests = λ r h. h; ends = λ x h. h; calls = λ x h. Contains-append_left w.calls (c ∷ []) x h; moves = λ x h. h; now = le_refl w.shown.number } in
      record {
        state = good.state;
        ordered = good.ordered;
        orderly = good.orderly;
        own = good.own;
        named = good.named;
        upto = good.upto;
        rounds = good.rounds;
        waiters = good.waiters;
        queue = λ a h. let g = good.queue a h in record { answered = g.answered; fits = g.fits };
        ends = good.ends;
        ended_by_now = good.ended_by_now;
        clients_are = good.clients_are;
        numbers = good.numbers;
        distinct = good.distinct;
        rising = good.rising;
        entered = good.entered;
        sources = λ r h. source-on (ledger_of w) (ledger_of (record w { calls = w.calls ++ c ∷ [] })) more plan r (good.sources r h);
        returns = λ r h. told-on (ledger_of w) (ledger_of (record w { calls = w.calls ++ c ∷ [] })) more r.event r.client r.what (good.returns r h);
        clients = λ me. client-on (ledger_of w) (ledger_of (record w { calls = w.calls ++ c ∷ [] })) more plan me (client_at w me) (good.clients me);
        all_returned = good.all_returned;
      }

  pub moved-good : (m : Moved) (w : World) → Good plan w → Good plan (record w { moves = w.moves ++ m ∷ [] })
  moved-good m w good = let more : Extends (ledger_of w) (ledger_of (record w { moves = w.moves ++ m ∷ [] })) = record { history = λ s client h. h; requests = λ r h. h; ends = λ x h. h; calls = λ x h. h; moves = λ x h. Contains-append_left w.moves (m ∷ []) x h; now = le_refl w.shown.number } in
      record {
        state = good.state;
        ordered = good.ordered;
        orderly = good.orderly;
        own = good.own;
        named = good.named;
        upto = good.upto;
        rounds = good.rounds;
        waiters = good.waiters;
        queue = λ a h. let g = good.queue a h in record { answered = g.answered; fits = g.fits };
        ends = good.ends;
        ended_by_now = good.ended_by_now;
        clients_are = good.clients_are;
        numbers = good.numbers;
        distinct = good.distinct;
        rising = good.rising;
        entered = good.entered;
        sources = λ r h. source-on (ledger_of w) (ledger_of (record w { moves = w.moves ++ m ∷ [] })) more plan r (good.sources r h);
        returns = λ r h. told-on (ledger_of w) (ledger_of (record w { moves = w.moves ++ m ∷ [] })) more r.event r.client r.what (good.returns r h);
        clients = λ me. client-on (ledger_of w) (ledger_of (record w { moves = w.moves ++ m ∷ [] })) more plan me (client_at w me) (good.clients me);
        all_returned = good.all_returned;
      }

  call-good : (me : ClientNo) (t : ThreadNo) (o : UserOp) (now : Option Pending) (w : World) → Good plan w → Good plan (calls_if_idle plan me t o now w)
  call-good me t o (Some now) w good = ignored-good _ w good
  call-good me t o None w good = let c : Called = record { event = w.shown.number; client = me; thread = t; op = o; clock = (client_at w me).clock } in
      let g = called-good (record { event = w.shown.number; client = me; thread = t; op = o; clock = (client_at w me).clock }) w good in
      does-good plan (record w { calls = w.calls ++ record { event = w.shown.number; client = me; thread = t; op = o; clock = (client_at w me).clock } ∷ [] }) me (call_client plan (replay_id me) t o (client_at w me)) g
      (call-ok plan (record w { calls = w.calls ++ record { event = w.shown.number; client = me; thread = t; op = o; clock = (client_at w me).clock } ∷ [] }) me t o g (Contains-push w.calls (record { event = w.shown.number; client = me; thread = t; op = o; clock = (client_at w me).clock })))

  tick-good : (me : ClientNo) (ms : ℕ) (w : World) → Good plan w → Good plan (moves_now me ms w)
  tick-good me ms w good = let g = moved-good (record { event = w.shown.number; client = me; ms = ms; clock = (client_at w me).clock + ms }) w good in
      does-good plan (record w { moves = w.moves ++ record { event = w.shown.number; client = me; ms = ms; clock = (client_at w me).clock + ms } ∷ [] }) me (tick_client (replay_id me) ms (client_at w me)) g
      (tick-ok plan (record w { moves = w.moves ++ record { event = w.shown.number; client = me; ms = ms; clock = (client_at w me).clock + ms } ∷ [] }) me ms g (Contains-push w.moves (record { event = w.shown.number; client = me; ms = ms; clock = (client_at w me).clock + ms })))

  pub begin-good : (e : Event) (w : World) → Good plan w → Good plan (begin plan e w)
  begin-good (event.Call me t o) w good = either (Good plan) (is_client plan me) _ _ (call-good me t o (thread_at (client_at w me) t).pending w good) (ignored-good _ w good)
  begin-good (event.ClientTick me ms) w good = either (Good plan) (is_client plan me) _ _ (either (Good plan) (nat_lt (2 ^ 62) ((client_at w me).clock + ms)) _ _ (ignored-good _ w good) (tick-good me ms w good)) (ignored-good _ w good)
  begin-good (event.Deliver k) w good = ignored-good _ w good
  begin-good (event.Tick m ms) w good = ignored-good _ w good
  begin-good (event.Crash m) w good = ignored-good _ w good
  begin-good (event.CrashAfter m calls choice) w good = ignored-good _ w good
  begin-good (event.Start m) w good = ignored-good _ w good
  begin-good event.Open w good = good

  pub step-good : (e : Event) (w : World) → w.shown.number ≤ length w.effects → w.queue ≡ [] → Good plan w → Good plan (world_step plan w e)
  step-good e w l none good = close-good (handed plan (handed plan (begin plan e (start e w)))) (handed-good (handed plan (begin plan e (start e w))) (handed-good (begin plan e (start e w)) (begin-good e (start e w) (started e w l none good))))

pub none-good : (plan : Plan) → Good plan new_world
none-good plan = record {
  state = refl;
  ordered = order-empty;
  orderly = tt;
  own = λ place call o s is. absurd (none_some is);
  named = λ place call o s is. absurd (none_some is);
  upto = λ x client h. absurd (false_true h);
  rounds = All-nil (λ (r : LatchRow). r.round ≤ 2 ^ 62);
  waiters = λ x h. absurd (no-element x h);
  queue = λ a h. absurd (no-element a h);
  ends = λ e h. absurd (no-element e h);
  ended_by_now = λ e h. absurd (no-element e h);
  clients_are = λ r h. absurd (no-element r h);
  numbers = λ r h. absurd (no-element r h);
  distinct = λ j k a b at_j. absurd (none_some at_j);
  rising = λ j k a b l at_j. absurd (none_some at_j);
  entered = λ place c is. absurd (none_some is);
  sources = λ r h. absurd (no-element r h);
  returns = λ r h. absurd (no-element r h);
  clients = λ me. record { own = All-nil (λ (e : ℕ × OwnSession). OpenedIn [] e.1.id (replay_id me)); held = All-nil (λ (e : LockKey × HoldRecord). HoldOk (ledger_of new_world) me e.0 e.1); pending = λ t now is. absurd (none_some is) };
  all_returned = λ q e in_q. absurd (no-element q in_q);
}
  where
    false_true : false ≡ true → ⊥
    false_true e = cc

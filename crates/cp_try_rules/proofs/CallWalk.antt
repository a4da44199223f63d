-- What calls and answers do, as small steps.
use Rattle.std.proofs.Common.{◌≡◌, ℕ, ◌+◌, ◌⊎◌, inl, inr, Bool, true, false, List, [], ◌∷◌, ◌++◌, Some, None, Option, refl, sym, subst, ap, ◌∙◌, arith, if◌then◌else◌}
use Rattle.std.specs.Prelude.{◌==◌, ◌&&◌}
use Rattle.std.specs.Ordering.{nat_cmp}
use Rattle.cp_answers.specs.declared.answer.Answer.{Answer}
use Rattle.cp_answers.specs.declared.answer.Answer.TheVariants as answer
use Rattle.cp_base.specs.declared.identifier.ClientId.{ClientId}
use Rattle.cp_base.specs.declared.identifier.GroupId.{GroupId}
use Rattle.cp_base.specs.declared.identifier.Invocation.{Invocation}
use Rattle.cp_base.specs.declared.identifier.ThreadNo.{ThreadNo}
use Rattle.cp_client_rules.specs.Asking.{Need, Nothing, HoldingSession, ItsSession, SessionToClose, Round, metadata, need_of, op_of, wish_of}
use Rattle.cp_client_rules.specs.Calls.{deadline_of}
use Rattle.cp_client_rules.specs.declared.rows.Task.TheVariants as task
use Rattle.cp_events.specs.declared.effects.Opened.{Opened}
use Rattle.cp_events.specs.declared.plan.Plan.{Plan}
use Rattle.cp_events.specs.declared.user_op.UserOp.{UserOp}
use Rattle.cp_group_state.specs.Rows.{put}
use Rattle.cp_object_ops.specs.declared.latch_op.LatchOp.TheVariants as latch
use Rattle.cp_ops.specs.declared.group_op.GroupOp.TheVariants as group
use Rattle.cp_ops.specs.declared.op.Op.{Op}
use Rattle.cp_ops.specs.declared.op.Op.TheVariants as op
use Rattle.cp_ops.specs.declared.session_op.SessionOp.TheVariants as session
use Rattle.cp_try_rules.specs.declared.choices.Then.{Then}
use Rattle.cp_try_rules.specs.declared.choices.Then.TheVariants as next
use Rattle.cp_try_rules.specs.declared.event.Event.{Event}
use Rattle.cp_try_rules.specs.declared.event.Event.TheVariants as event
use Rattle.cp_try_rules.specs.declared.rows.Purpose.TheVariants as purpose
use Rattle.cp_try_rules.specs.Answers.{answer_client, by_then, call_in, end_call, finished, is_open, on_pending, on_task, then_of}
use Rattle.cp_try_rules.specs.Calls.{Call, begin_call, by_group, by_need, call_client, closing, go_on, holding_session, in_session, pending_of}
use Rattle.cp_try_rules.specs.Clients.{Client, Did, Holds, Names, Pending, Purpose, Sessions, Task, ask, done_at_once, nothing, session_in_group, thread_at}
use Rattle.cp_try_rules.specs.Groups.{known_group, names_after, place_of, wanted_name}
use Rattle.cp_try_rules.specs.Holds.{holding}
use Rattle.cp_try_rules.specs.Sessions.{has_session, known_after, opens, sessions_after, with_session}
use Rattle.cp_try_rules.specs.Steps.{Step, quietly, stays}
use Rattle.cp_try_rules.specs.Tries.{Tries}
use Rattle.cp_try_rules.proofs.Told.{told}
use Rattle.cp_try_rules.proofs.Walk.{KeptCalls, Learned, Tells, gives, knows_all, learned}

-- A call that goes on asks, at its deadline, or is done.
module _ (plan : Plan) (me : ClientId) (call : Call) (c : Client) (Q : Did → Type 0)
    (asks : (now : Pending) → now.deadline ≡ call.deadline → Q (ask me call.thread now c)) (done : Q (done_at_once call.thread c)) where
  itself : (g : GroupId) (s round : ℕ) → Q (ask me call.thread (pending_of call g (purpose.ForItself s) (op_of plan call.op s round)) c)
  itself g s round = asks (pending_of call g (purpose.ForItself s) (op_of plan call.op s round)) refl

  by-session : (g : GroupId) (o : Option ℕ) → Q (in_session plan me call g o c)
  by-session g None = asks (pending_of call g purpose.ForSession (op.Session session.Open)) refl
  by-session g (Some s) = itself g s 0

  by-closing : (g : GroupId) (o : Option ℕ) → Q (closing plan me call g o c)
  by-closing g None = done
  by-closing g (Some s) = itself g s 0

  need-cases : (need : Need) (g : GroupId) → Q (by_need plan me need call g c)
  need-cases Nothing g = itself g 0 0
  need-cases (HoldingSession name) g = by-session g (holding_session call g name c)
  need-cases ItsSession g = by-session g (session_in_group c g)
  need-cases SessionToClose g = by-closing g (session_in_group c g)
  need-cases (Round name) g = asks (pending_of call g purpose.ForRound (op.Latch name latch.Round)) refl

  pub go-cases : (g : GroupId) → Q (go_on plan me call g c)
  go-cases g = need-cases (need_of call.op) g

  group-cases : (o : Option GroupId) → Q (by_group plan me o call c)
  group-cases None = asks (pending_of call metadata purpose.ForGroup (op.Group (group.Create (wanted_name (place_of call.op)) plan.size))) refl
  group-cases (Some g) = go-cases g

  pub begin-cases : Q (begin_call plan me call c)
  begin-cases = group-cases (known_group c.names (place_of call.op))

-- the same for a call that begins
pub call-cases : (plan : Plan) (me : ClientId) (t : ThreadNo) (o : UserOp) (c : Client) (Q : Did → Type 0)
    → ((now : Pending) → now.deadline ≡ deadline_of c.clock (wish_of o) → Q (ask me t now c)) → Q (done_at_once t c) → Q (call_client plan me t o c)
call-cases plan me t o c Q asks done = begin-cases plan me (record { thread = t; op = o; deadline = deadline_of c.clock (wish_of o) }) c Q asks done

module _ (plan : Plan) (me : ClientId) (e : Event) (b : Bool) (R : Client → Tries → Step → Type 0) (k : KeptCalls me e b R) where
  pub walk-call : (t : ThreadNo) (o : UserOp) (c : Client) (x : Tries) → e ≡ event.Calls t o → R c x (gives b (call_client plan me t o c) x)
  walk-call t o c x called = call-cases plan me t o c (λ d. R c x (gives b d x))
      (λ now timed. k.asks c x (knows_all c) t now (inl (o, called, timed))) (k.does c x (knows_all c) t)

  -- a call goes on with the groups and the sessions that it knows now
  module _ (c : Client) (x : Tries) (t : ThreadNo) (old : Pending) (is : (thread_at c t).pending ≡ Some old) (o : UserOp) (ended : List (Invocation × Answer)) (names : Names) where
    then-go : (sessions : Sessions) (g : GroupId) → R c x (gives b (record (go_on plan me (call_in t old o) g (record c { names = names; sessions = sessions })) { ended = ended }) x)
    then-go sessions g = go-cases plan me (call_in t old o) (record c { names = names; sessions = sessions }) (λ did. R c x (gives b (record did { ended = ended }) x))
        (λ now timed. k.asks c x (learned names sessions ended [] c) t now (inr (inl (old, is, timed)))) (k.does c x (learned names sessions ended [] c) t) g

    go-opened : (sessions : Sessions) (opened : List Opened) (g : GroupId) → R c x (gives b (record (go_on plan me (call_in t old o) g (record c { names = names; sessions = sessions })) { opened = opened; ended = ended }) x)
    go-opened sessions opened g = go-cases plan me (call_in t old o) (record c { names = names; sessions = sessions }) (λ did. R c x (gives b (record did { opened = opened; ended = ended }) x))
        (λ now timed. k.asks c x (learned names sessions ended opened c) t now (inr (inl (old, is, timed)))) (k.does c x (learned names sessions ended opened c) t) g

    -- the session becomes the client's, or is so already
    then-open : (sessions : Sessions) (g : GroupId) (s : ℕ) → R c x (gives b (record (go_on plan me (call_in t old o) g (with_session g s (record c { names = names; sessions = sessions })))
        { opened = opens g s (record c { names = names; sessions = sessions }); ended = ended }) x)
    then-open sessions g s = by (has_session g s (record c { names = names; sessions = sessions })) where
      by : (has : Bool) → R c x (gives b (record (go_on plan me (call_in t old o) g (if has then record c { names = names; sessions = sessions } else record c { names = names; sessions = put nat_cmp sessions g.0 (record { id = s; beat = c.clock }) }))
          { opened = if has then [] else record { group = g; session = s } ∷ []; ended = ended }) x)
      by true = go-opened sessions [] g
      by false = go-opened (put nat_cmp sessions g.0 (record { id = s; beat = c.clock })) (record { group = g; session = s } ∷ []) g

    then-cases : (sessions : Sessions) (choice : Then) (g : GroupId) (p : Purpose) (a : Answer) → ((last : Answer) → (last ≡ a) ⊎ (last ≡ answer.OwnershipLost) → Tells e t last)
        → R c x (gives b (record (by_then plan me choice (call_in t old o) g p a (record c { names = names; sessions = sessions })) { ended = ended }) x)
    then-cases sessions (next.Finds found) g p a tells = then-go sessions found
    then-cases sessions (next.Opens s) g p a tells = then-open sessions g s
    then-cases sessions (next.CountsDown round) g p a tells = k.asks c x (learned names sessions ended [] c) t (pending_of (call_in t old o) g (purpose.ForItself 0) (op_of plan o 0 round)) (inr (inl (old, is, refl)))
    then-cases sessions next.Returns g p a tells = let h = holding t g o p a c.holds in
        k.ends c x (record { names = names; sessions = sessions; holds = h.holds; ended = ended; opened = [] }) t h.answer (tells h.answer (told t g o p a c.holds))

  walk-task : (c : Client) (x : Tries) (t : ThreadNo) (job : Task) (old : Pending) (is : (thread_at c t).pending ≡ Some old) (a : Answer) (ended : List (Invocation × Answer))
      → ((last : Answer) → (last ≡ a) ⊎ (last ≡ answer.OwnershipLost) → Tells e t last) → R c x (gives b (record (on_task plan me t job old a (known_after old.group old.op a c)) { ended = ended }) x)
  walk-task c x t (task.Calls o) old is a ended tells = then-cases c x t old is o ended (names_after old.op a c.names) (sessions_after old.group old.op a c.sessions) (then_of old.purpose a) old.group old.purpose a tells
  walk-task c x t (task.Beats s) old is a ended tells = k.idles c x (learned (names_after old.op a c.names) (sessions_after old.group old.op a c.sessions) ended [] c) t

  rests-given : (v : Bool) (c : Client) (x : Tries) → R c x (stays c x) → R c x (gives v (nothing c) x)
  rests-given true c x h = h
  rests-given false c x h = h

  pub walk-answer : (t : ThreadNo) (g : GroupId) (n : ℕ) (a : Answer) (c : Client) (x : Tries) → e ≡ event.Answered t g n a → R c x (gives b (answer_client plan me t g n a c) x)
  walk-answer t g n a c x answered = by (is_open t g n c) where
    tells : (last : Answer) → (last ≡ a) ⊎ (last ≡ answer.OwnershipLost) → Tells e t last
    tells last is = subst (λ y. Tells y t last) (sym answered) (refl, is)

    pending : (o : Option Pending) → (thread_at c t).pending ≡ o → R c x (gives b (on_pending plan me t o a c) x)
    pending None is = rests-given b c x (k.rests c x)
    pending (Some old) is = walk-task c x t old.task old is a ((record { client = me; thread = t; number = (thread_at c t).number }, a) ∷ []) tells

    by : (v : Bool) → R c x (gives b (if v then on_pending plan me t (thread_at c t).pending a c else nothing c) x)
    by true = pending (thread_at c t).pending refl
    by false = rests-given b c x (k.rests c x)

-- Steps of the code's world by their parts.
use Rattle.std.proofs.Common.{◌≡◌, ◌≤◌, ◌<◌, ◌+◌, ℕ, suc, Bool, true, false, List, [], ◌∷◌, ◌++◌, length, map, refl, ap, sym, ◌∙◌, arith, subst}
use Rattle.std.specs.Prelude.{◌^◌, Option, Some, None, nat_lt, if◌then◌else◌}
use Rattle.std.specs.Ordering.{nat_cmp}
use Rattle.std.proofs.lemmas.Bool.Decides.{nat_tests}
use Rattle.cp_base.specs.declared.identifier.ClientNo.{ClientNo}
use Rattle.cp_base.specs.declared.identifier.Invocation.{Invocation}
use Rattle.cp_base.specs.declared.identifier.ThreadNo.{ThreadNo}
use Rattle.cp_answers.specs.declared.answer.Answer.{Answer}
use Rattle.cp_events.specs.declared.effects.Effects.{Effects}
use Rattle.cp_events.specs.declared.effects.Ignored.TheVariants as ignored
use Rattle.cp_events.specs.declared.effects.Opened.{Opened}
use Rattle.cp_events.specs.declared.effects.Return.{Return}
use Rattle.cp_events.specs.declared.event.Event.{Event}
use Rattle.cp_events.specs.declared.event.Event.TheVariants as event
use Rattle.cp_events.specs.declared.plan.Plan.{Plan}
use Rattle.cp_events.specs.declared.user_op.UserOp.{UserOp}
use Rattle.cp_group_state.specs.Rows.{find}
use Rattle.cp_client_rules.specs.declared.rows.Pending.{Pending}
use Rattle.cp_client_rules.specs.Clients.{Asked, Client, Did, thread_at}
use Rattle.cp_client.specs.declared.output.ClientOut.{ClientOut}
use Rattle.cp_client.specs.Threads.{open_number}
use Rattle.cp_world_rules.specs.World as rules
use Rattle.cp_world_rules.proofs.Desked.{runs-printed}
use Rattle.cp_world.specs.declared.turn.Turn.{Turn}
use Rattle.cp_world.specs.declared.world.World.{World}
use Rattle.cp_world.specs.Following.{Goes, Leads, LeadsFrom}
use Rattle.cp_world.specs.Given.{IsGiven}
use Rattle.cp_world.specs.Rooms.{CanCount, CanCountDone, HasRoomFor, IsReached}
use Rattle.cp_world.specs.Steps.{calls}
use Rattle.cp_world.proofs.Taking.{client_is}
use Rattle.cp_world.proofs.Events.{note_leads}

-- what is noted is what the client's step gave
pub note_to : (me : ClientNo) (opened : List Opened) (returns : List Return) (world : World) (turn : Turn) (shown : List (ClientNo × Opened)) (told : List (ClientNo × Return))
    → shown ≡ turn.opened ++ map (λ o. (me, o)) opened → told ≡ turn.returns ++ map (λ r. (me, r)) returns
    → (d : Did) → opened ≡ d.opened → returns ≡ d.returns → LeadsFrom me d (rules.note me d) world turn world (record turn { opened = shown; returns = told })
note_to me opened returns world turn shown told shown_is told_is d one two =
    let all = note_leads me d world turn in
    let first : shown ≡ turn.opened ++ map (λ o. (me, o)) d.opened = shown_is ∙ ap (λ (os : List Opened). turn.opened ++ map (λ o. (me, o)) os) one in
    let second : told ≡ turn.returns ++ map (λ r. (me, r)) d.returns = told_is ∙ ap (λ (rs : List Return). turn.returns ++ map (λ r. (me, r)) rs) two in
    subst (λ (os : List (ClientNo × Opened)). LeadsFrom me d (rules.note me d) world turn world (record turn { opened = os; returns = told })) (sym first)
    (subst (λ (rs : List (ClientNo × Return)). LeadsFrom me d (rules.note me d) world turn world (record turn { opened = turn.opened ++ map (λ o. (me, o)) d.opened; returns = rs })) (sym second) all)

module _ (me : ClientNo) (given : ClientOut) (world : World) (turn : Turn) (shown : List (ClientNo × Opened)) (told : List (ClientNo × Return))
    (shown_is : shown ≡ turn.opened ++ map (λ o. (me, o)) given.opened) (told_is : told ≡ turn.returns ++ map (λ r. (me, r)) given.returns) where
  abbrev later : Turn
  later = record turn { opened = shown; returns = told }

  noted : (d : Did) → IsGiven d given → LeadsFrom me d (rules.note me d) world turn world later
  noted d g = note_to me given.opened given.returns world turn shown told shown_is told_is d g.opened g.returns

  pub done_counts : CanCountDone me given world turn → CanCount (rules.commit_all given.asked) world later
  done_counts r = record {
    before = r.before;
    event = r.event;
    w = rules.note me r.did r.w;
    goes = (noted r.did r.gives).leads r.before r.event r.w r.goes;
    few = subst (λ (asked : List Asked). length (rules.commit_all asked (rules.note me r.did r.w)).history < 2 ^ 62) (sym r.gives.asked) r.few;
  }

  pub does_leads : (two : World) (y : Turn) → Leads (rules.commit_all given.asked) world later two y → (d : Did) → IsGiven d given → LeadsFrom me d (rules.does me d) world turn two y
  does_leads two y leads d g = record {
    leads = λ before e w goes. subst (λ (asked : List Asked). Goes before e (rules.commit_all asked (rules.note me d w)) two y) g.asked
        (leads.leads before e (rules.note me d w) ((noted d g).leads before e w goes));
  }

not_busy : (n : ℕ) (p : Option Pending) → None ≡ open_number n p → p ≡ None
not_busy n None e = refl
not_busy n (Some now) e = cc

-- a thread without an open request begins its call
pub calls_idle : (plan : Plan) (me : ClientNo) (t : ThreadNo) (o : UserOp) (world : World) (turn : Turn) (done : World) (later : Turn)
    → None ≡ open_number (thread_at (rules.or_new (find nat_cmp world.clients.entries me.0)) t).number (thread_at (rules.or_new (find nat_cmp world.clients.entries me.0)) t).pending
    → Leads (rules.calls_now plan me t o) world turn done later → Leads (calls plan me t o) world turn done later
calls_idle plan me t o world turn done later e leads = record {
  leads = λ before x w g.
      let idle : (thread_at (rules.client_at w me) t).pending ≡ None = ap (λ (c : Client). (thread_at c t).pending) (sym (client_is me before x w world turn g)) ∙ not_busy _ _ e in
      subst (λ (p : Option Pending). Goes before x (rules.calls_if_idle plan me t o p w) done later) (sym idle) (leads.leads before x w g);
}

pub calls_room : (plan : Plan) (me : ClientNo) (t : ThreadNo) (o : UserOp) (world : World) (turn : Turn)
    → None ≡ open_number (thread_at (rules.or_new (find nat_cmp world.clients.entries me.0)) t).number (thread_at (rules.or_new (find nat_cmp world.clients.entries me.0)) t).pending
    → HasRoomFor (calls plan me t o) world turn → HasRoomFor (rules.calls_now plan me t o) world turn
calls_room plan me t o world turn e r =
    let idle : (thread_at (rules.client_at r.w me) t).pending ≡ None = ap (λ (c : Client). (thread_at c t).pending) (sym (client_is me r.before r.event r.w world turn r.goes)) ∙ not_busy _ _ e in record {
      before = r.before;
      event = r.event;
      w = r.w;
      goes = r.goes;
      n = r.n;
      within = r.within;
      few = subst (λ (p : Option Pending). length (rules.calls_if_idle plan me t o p r.w).history + r.n < 2 ^ 62) idle r.few;
    }

not_past : (clock ms : ℕ) → clock + ms ≤ 2 ^ 62 → nat_lt (2 ^ 62) (clock + ms) ≡ false
not_past clock ms h = not_more (2 ^ 62) (clock + ms) h where
  not_more : (a b : ℕ) → b ≤ a → nat_lt a b ≡ false
  not_more a b h = grind (arith, nat_tests)

-- a clock that doesn't pass its end moves
module _ (me : ClientNo) (ms : ℕ) (world : World) (turn : Turn) (short : (rules.or_new (find nat_cmp world.clients.entries me.0)).clock + ms ≤ 2 ^ 62) where
  stays : (before : rules.World) (e : Event) (w : rules.World) → Goes before e w world turn → nat_lt (2 ^ 62) ((rules.client_at w me).clock + ms) ≡ false
  stays before e w g = not_past (rules.client_at w me).clock ms (subst (λ (c : Client). c.clock + ms ≤ 2 ^ 62) (client_is me before e w world turn g) short)

  pub moves_leads : (done : World) (later : Turn) → Leads (rules.moves_now me ms) world turn done later → Leads (rules.moves_if_room me ms) world turn done later
  moves_leads done later leads = record {
    leads = λ before e w g. subst (λ (b : Bool). Goes before e (if b then rules.ignore (ignored.ClockEnd (rules.client_at w me).clock) w else rules.moves_now me ms w) done later) (sym (stays before e w g)) (leads.leads before e w g);
  }

  pub moves_room : HasRoomFor (rules.moves_if_room me ms) world turn → HasRoomFor (rules.moves_now me ms) world turn
  moves_room r = record {
    before = r.before;
    event = r.event;
    w = r.w;
    goes = r.goes;
    n = r.n;
    within = r.within;
    few = subst (λ (b : Bool). length (if b then rules.ignore (ignored.ClockEnd (rules.client_at r.w me).clock) r.w else rules.moves_now me ms r.w).history + r.n < 2 ^ 62) (stays r.before r.event r.w r.goes) r.few;
  }

-- events of clients that there are
pub client_calls : (plan : Plan) (me : ClientNo) (t : ThreadNo) (o : UserOp) (world : World) (turn : Turn) (done : World) (later : Turn) → true ≡ rules.is_client plan me → Leads (calls plan me t o) world turn done later → Leads (rules.begin plan (event.Call me t o)) world turn done later
client_calls plan me t o world turn done later is l = subst (λ (b : Bool). Leads (λ w. if b then calls plan me t o w else rules.ignore ignored.NoSuchClient w) world turn done later) is l

pub client_calls_room : (plan : Plan) (me : ClientNo) (t : ThreadNo) (o : UserOp) (world : World) (turn : Turn) → true ≡ rules.is_client plan me → HasRoomFor (rules.begin plan (event.Call me t o)) world turn → HasRoomFor (calls plan me t o) world turn
client_calls_room plan me t o world turn is r = subst (λ (b : Bool). HasRoomFor (λ w. if b then calls plan me t o w else rules.ignore ignored.NoSuchClient w) world turn) (sym is) r

pub client_moves : (plan : Plan) (me : ClientNo) (ms : ℕ) (world : World) (turn : Turn) (done : World) (later : Turn) → true ≡ rules.is_client plan me → Leads (rules.moves_if_room me ms) world turn done later → Leads (rules.begin plan (event.ClientTick me ms)) world turn done later
client_moves plan me ms world turn done later is l = subst (λ (b : Bool). Leads (λ w. if b then rules.moves_if_room me ms w else rules.ignore ignored.NoSuchClient w) world turn done later) is l

pub client_moves_room : (plan : Plan) (me : ClientNo) (ms : ℕ) (world : World) (turn : Turn) → true ≡ rules.is_client plan me → HasRoomFor (rules.begin plan (event.ClientTick me ms)) world turn → HasRoomFor (rules.moves_if_room me ms) world turn
client_moves_room plan me ms world turn is r = subst (λ (b : Bool). HasRoomFor (λ w. if b then rules.moves_if_room me ms w else rules.ignore ignored.NoSuchClient w) world turn) (sym is) r

-- events are few
counted : {X Y : Type 0} (f : X → Y) (xs : List X) → length (map f xs) ≡ length xs
counted f [] = refl
counted f (x ∷ xs) = ap (λ (n : ℕ). suc n) (counted f xs)

pub events_few : (plan : Plan) (world : World) → IsReached plan world → world.events < 2 ^ 60
events_few plan world r =
    let w = rules.world_after plan rules.new_world r.events in
    let events_are : map (λ (x : Effects). x.event) w.effects ≡ event.Open ∷ r.events = (runs-printed plan r.events).events_are in
    let same : length w.effects ≡ length (event.Open ∷ r.events) = sym (counted (λ (x : Effects). x.event) w.effects) ∙ ap length events_are in
    let mine : world.events + 1 ≡ length w.effects = r.follows.events in
    let few = r.few in omega arith

-- nothing is left to be handed on
pub none_led : (plan : Plan) (queue : List (Invocation × Answer)) (world : World) (turn : Turn) → length queue ≡ 0 → Leads (rules.hand_all plan queue) world turn world turn
none_led plan [] world turn e = record { leads = λ before x w g. g }
none_led plan (a ∷ queue) world turn e = absurd (omega arith)

-- nothing is left to be committed
pub none_committed : (asked : List Asked) (world : World) (turn : Turn) → length asked ≡ 0 → Leads (rules.commit_all asked) world turn world turn
none_committed [] world turn e = record { leads = λ before x w g. g }
none_committed (a ∷ asked) world turn e = absurd (omega arith)

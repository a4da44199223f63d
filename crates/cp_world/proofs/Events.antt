-- The parts of an event in the code's world.
use Rattle.std.proofs.Common.{◌≡◌, ◌≤◌, ◌<◌, ◌+◌, ℕ, List, [], ◌∷◌, ◌++◌, length, map, refl, ap, sym, ◌∙◌, arith, subst, length-append}
use Rattle.std.specs.Prelude.{◌^◌, ◌*◌, Some, None}
use Rattle.std.proofs.lemmas.List.{append-nil}
use Rattle.cp_base.specs.declared.identifier.ClientNo.{ClientNo}
use Rattle.cp_base.specs.declared.identifier.Invocation.{Invocation}
use Rattle.cp_answers.specs.declared.answer.Answer.{Answer}
use Rattle.cp_ops.specs.declared.entry.Entry.TheVariants as entry
use Rattle.cp_events.specs.declared.effects.Effects.{Effects}
use Rattle.cp_events.specs.declared.effects.Ignored.{Ignored}
use Rattle.cp_events.specs.declared.event.Event.{Event}
use Rattle.cp_events.specs.declared.plan.Plan.{Plan}
use Rattle.cp_group_state.specs.Apply.{apply}
use Rattle.cp_group_state.specs.GroupState.{GroupState}
use Rattle.cp_client_rules.specs.Clients.{Asked, Did}
use Rattle.cp_world_rules.specs.Bounds.{AllWithin}
use Rattle.cp_world_rules.proofs.Bounds.{after, begins, hands_on}
use Rattle.cp_world_rules.proofs.Settled.{settled}
use Rattle.cp_world_rules.specs.World as rules
use Rattle.cp_world.specs.declared.turn.Turn.{Turn}
use Rattle.cp_world.specs.declared.world.World.{World}
use Rattle.cp_world.specs.Following.{Follows, Goes, IsStep, Leads, LeadsFrom}
use Rattle.cp_world.specs.Rooms.{HasRoomFor, IsReached}
use Rattle.cp_world.proofs.Growing.{after_step, handed_grows}
use Rattle.cp_world.proofs.Leading.{history_more}

-- a request is committed
pub commit_leads : (a : Asked) (world done : World) (turn : Turn)
    → done.clients.entries ≡ world.clients.entries → done.tables ≡ (apply (world.entries + 1) (entry.Call a.call a.op) world.tables).state
    → done.queue ≡ world.queue ++ (apply (world.entries + 1) (entry.Call a.call a.op) world.tables).answers
    → done.entries ≡ world.entries + 1 → done.events ≡ world.events
    → Leads (rules.commit a) world turn done (record turn { entries = turn.entries ++ entry.Call a.call a.op ∷ [] })
commit_leads a world done turn clients tables queue entries events = record {
  leads = λ before e w g.
      let e_is = entry.Call a.call a.op in
      let applied : apply (world.entries + 1) e_is world.tables ≡ apply (length w.history + 1) e_is w.state =
      ap (λ (n : ℕ). apply (n + 1) e_is world.tables) g.rest.entries ∙ ap (λ (s : GroupState). apply (length w.history + 1) e_is s) g.rest.state in
      let number : turn.number ≡ w.shown.number = ap (λ (x : Effects). x.number) (sym g.rest.shown) in record {
        clients = clients ∙ g.clients;
        rest = record {
          state = tables ∙ ap (λ x. x.state) applied;
          entries = entries ∙ ap (λ (n : ℕ). n + 1) g.rest.entries ∙ sym (length-append w.history (record { event = w.shown.number; entry = e_is } ∷ []));
          events = ap (λ (n : ℕ). n + 1) events ∙ g.rest.events;
          effects_are = g.rest.effects_are;
          queue = queue ∙ ap (λ (q : List (Invocation × Answer)). q ++ (apply (world.entries + 1) e_is world.tables).answers) g.rest.queue ∙ ap (λ x. w.queue ++ x.answers) applied;
          shown = g.rest.shown;
          history = ap (λ (n : ℕ). w.history ++ record { event = n; entry = e_is } ∷ []) (sym number) ∙ history_more turn.number before.history w.history turn.entries e_is g.rest.history;
        };
      };
}

-- what a client's step gives is noted
pub note_leads : (me : ClientNo) (d : Did) (world : World) (turn : Turn)
    → LeadsFrom me d (rules.note me d) world turn world (record turn { opened = turn.opened ++ map (λ o. (me, o)) d.opened; returns = turn.returns ++ map (λ r. (me, r)) d.returns })
note_leads me d world turn = record {
  leads = λ before e w g. record {
    clients = g.clients;
    rest = record {
      state = g.rest.state;
      entries = g.rest.entries;
      events = g.rest.events;
      effects_are = g.rest.effects_are;
      queue = g.rest.queue;
      shown = ap (λ (s : Effects). record s { opened = s.opened ++ map (λ o. (me, o)) d.opened; returns = s.returns ++ map (λ r. (me, r)) d.returns }) g.rest.shown;
      history = g.rest.history;
    };
  };
}

-- an event that could not take place changes only what is shown
pub ignore_leads : (cause : Ignored) (world : World) (turn : Turn) → Leads (rules.ignore cause) world turn world (record turn { ignored = Some cause })
ignore_leads cause world turn = record {
  leads = λ before e w g. record {
    clients = g.clients;
    rest = record {
      state = g.rest.state;
      entries = g.rest.entries;
      events = g.rest.events;
      effects_are = g.rest.effects_are;
      queue = g.rest.queue;
      shown = ap (λ (s : Effects). record s { ignored = Some cause }) g.rest.shown;
      history = g.rest.history;
    };
  };
}

-- The queue is taken out. Lists that are lent may differ.
module _ (plan : Plan) (world two : World) (turn : Turn) (queue : List (Invocation × Answer))
    (clients : two.clients.entries ≡ world.clients.entries) (tables : two.tables ≡ world.tables) (entries : two.entries ≡ world.entries) (events : two.events ≡ world.events)
    (left : two.queue ≡ []) (taken : queue ≡ world.queue) where
  emptied : (before : rules.World) (e : Event) (w : rules.World) → Goes before e w world turn → Goes before e (record w { queue = [] }) two turn
  emptied before e w g = record {
    clients = clients ∙ g.clients;
    rest = record {
      state = tables ∙ g.rest.state;
      entries = entries ∙ g.rest.entries;
      events = ap (λ (n : ℕ). n + 1) events ∙ g.rest.events;
      effects_are = g.rest.effects_are;
      queue = left;
      shown = g.rest.shown;
      history = g.rest.history;
    };
  }

  pub queue_room : HasRoomFor (rules.handed plan) world turn → HasRoomFor (rules.hand_all plan queue) two turn
  queue_room r = record {
    before = r.before;
    event = r.event;
    w = record r.w { queue = [] };
    goes = emptied r.before r.event r.w r.goes;
    n = r.n;
    within = r.within;
    few = subst (λ (q : List (Invocation × Answer)). length (rules.hand_all plan q (record r.w { queue = [] })).history + r.n < 2 ^ 62) (sym (taken ∙ r.goes.rest.queue)) r.few;
  }

  pub handed_leads : (done : World) (later : Turn) → Leads (rules.hand_all plan queue) two turn done later → Leads (rules.handed plan) world turn done later
  handed_leads done later leads = record {
    leads = λ before e w g. subst (λ (q : List (Invocation × Answer)). Goes before e (rules.hand_all plan q (record w { queue = [] })) done later) (taken ∙ g.rest.queue)
        (leads.leads before e (record w { queue = [] }) (emptied before e w g));
  }

-- What leads to a world leads to any that differs in lent lists alone.
pub leads_same : (f : rules.World → rules.World) (world : World) (turn : Turn) (done same : World) (later : Turn)
    → same.clients.entries ≡ done.clients.entries → same.tables ≡ done.tables → same.entries ≡ done.entries → same.events ≡ done.events → same.queue ≡ done.queue
    → Leads f world turn done later → Leads f world turn same later
leads_same f world turn done same later clients tables entries events queue l = record {
  leads = λ before e w goes. let g = l.leads before e w goes in record {
    clients = clients ∙ g.clients;
    rest = record {
      state = tables ∙ g.rest.state;
      entries = entries ∙ g.rest.entries;
      events = ap (λ (n : ℕ). n + 1) events ∙ g.rest.events;
      effects_are = g.rest.effects_are;
      queue = queue ∙ g.rest.queue;
      shown = g.rest.shown;
      history = g.rest.history;
    };
  };
}

-- nothing waits to be handed on
pub none_handed : (plan : Plan) (world : World) (turn : Turn) → world.queue ≡ [] → Leads (rules.handed plan) world turn world turn
none_handed plan world turn empty = handed_leads plan world world turn [] refl refl refl refl empty (sym empty) world turn (record { leads = λ before e w g. g })

abbrev pub fresh : World → Turn
fresh world = record { number = world.events + 1; ignored = None; opened = []; returns = []; entries = [] }

-- the event begins
begun : (e : Event) (w : rules.World) (world : World) → Follows w world → Goes w e (rules.start e w) world (fresh world)
begun e w world f = record {
  clients = f.clients;
  rest = record {
    state = f.state;
    entries = f.entries;
    events = f.events;
    effects_are = refl;
    queue = f.queue;
    shown = ap (λ (n : ℕ). rules.shows_nothing n e) (sym f.events);
    history = sym (append-nil w.history);
  };
}

-- the event is over
ended : (plan : Plan) (e : Event) (w : rules.World) (world : World) (turn : Turn) → Goes w e (rules.handed plan (rules.handed plan (rules.begin plan e (rules.start e w)))) world turn
    → IsStep plan e w (record world { events = world.events + 1 }) turn
ended plan e w world turn g = let v = rules.handed plan (rules.handed plan (rules.begin plan e (rules.start e w))) in record {
  follows = record {
    clients = g.clients;
    state = g.rest.state;
    entries = g.rest.entries;
    events = ap (λ (n : ℕ). n + 1) g.rest.events ∙ sym (length-append v.effects (v.shown ∷ []));
    queue = g.rest.queue;
  };
  effects_are = ap (λ (effects : List Effects). effects ++ v.shown ∷ []) g.rest.effects_are ∙ ap (λ (s : Effects). w.effects ++ s ∷ []) g.rest.shown;
  history = g.rest.history;
}

all_handed : (plan : Plan) (queue : List (Invocation × Answer)) (w : rules.World) (n : ℕ) → AllWithin n w → AllWithin n (rules.hand_all plan queue w)
all_handed plan [] w n all = all
all_handed plan (a ∷ queue) w n all = all_handed plan queue (rules.hand_on plan a w) n (hands_on plan a w n all)

-- An event of a schedule. The history that it leads to can be counted.
module _ (plan : Plan) (e : Event) (world : World) (r : IsReached plan world) where
  abbrev first : rules.World
  first = rules.start e (rules.world_after plan rules.new_world r.events)

  abbrev second : rules.World
  second = rules.begin plan e first

  abbrev third : rules.World
  third = rules.handed plan second

  abbrev count : ℕ
  count = length r.events

  within_first : AllWithin count first
  within_first = after plan r.events

  within_second : AllWithin (count + 1) second
  within_second = begins plan e first count within_first

  within_third : AllWithin (count + 1) third
  within_third = all_handed plan second.queue (record second { queue = [] }) (count + 1) within_second

  few_last : length (rules.handed plan third).history ≤ 2 * (count + 1)
  few_last = let all : length (rules.world_after plan rules.new_world (r.events ++ e ∷ [])).history ≤ 2 * length (r.events ++ e ∷ []) = (settled plan (r.events ++ e ∷ [])).1 in
      let one : length (r.events ++ e ∷ []) ≡ count + 1 = length-append r.events (e ∷ []) in
      let here : length (rules.world_step plan (rules.world_after plan rules.new_world r.events) e).history ≤ 2 * length (r.events ++ e ∷ []) =
      subst (λ (w : rules.World). length w.history ≤ 2 * length (r.events ++ e ∷ [])) (after_step plan r.events e rules.new_world) all in
      subst (λ (n : ℕ). length (rules.handed plan third).history ≤ 2 * n) one here

  few_third : length third.history ≤ 2 * (count + 1)
  few_third = let grown = handed_grows plan third in let last = few_last in omega arith

  few_second : length second.history ≤ 2 * (count + 1)
  few_second = let grown = handed_grows plan second in let last = few_third in omega arith

  goes_first : Goes (rules.world_after plan rules.new_world r.events) e first world (fresh world)
  goes_first = begun e (rules.world_after plan rules.new_world r.events) world r.follows

  pub begin_room : HasRoomFor (rules.begin plan e) world (fresh world)
  begin_room = let last = few_second in let few = r.few in record {
    before = rules.world_after plan rules.new_world r.events;
    event = e;
    w = first;
    goes = goes_first;
    n = count;
    within = within_first;
    few = omega arith;
  }

  pub handed_room : (one : World) (x : Turn) → Leads (rules.begin plan e) world (fresh world) one x → HasRoomFor (rules.handed plan) one x
  handed_room one x leads = let last = few_third in let few = r.few in record {
    before = rules.world_after plan rules.new_world r.events;
    event = e;
    w = second;
    goes = leads.leads (rules.world_after plan rules.new_world r.events) e first goes_first;
    n = count + 1;
    within = within_second;
    few = omega arith;
  }

  pub again_room : (one : World) (x : Turn) (two : World) (y : Turn) → Leads (rules.begin plan e) world (fresh world) one x → Leads (rules.handed plan) one x two y → HasRoomFor (rules.handed plan) two y
  again_room one x two y begin hand = let last = few_last in let few = r.few in record {
    before = rules.world_after plan rules.new_world r.events;
    event = e;
    w = third;
    goes = hand.leads (rules.world_after plan rules.new_world r.events) e second (begin.leads (rules.world_after plan rules.new_world r.events) e first goes_first);
    n = count + 1;
    within = within_third;
    few = omega arith;
  }

  -- what an event does leaves the count of events
  pub same_events : (one : World) (x : Turn) (two : World) (y : Turn) (three : World) (z : Turn) → Leads (rules.begin plan e) world (fresh world) one x → Leads (rules.handed plan) one x two y → Leads (rules.handed plan) two y three z → three.events ≡ world.events
  same_events one x two y three z begin hand again =
      let g = again.leads (rules.world_after plan rules.new_world r.events) e third (hand.leads (rules.world_after plan rules.new_world r.events) e second (begin.leads (rules.world_after plan rules.new_world r.events) e first goes_first)) in
      let one_more : three.events + 1 ≡ world.events + 1 = g.rest.events ∙ ap length g.rest.effects_are ∙ sym r.follows.events in
      omega arith

-- the event, whole
pub is_step : (plan : Plan) (e : Event) (w : rules.World) (world one two three : World) (x y z : Turn) → Leads (rules.begin plan e) world (fresh world) one x → Leads (rules.handed plan) one x two y → Leads (rules.handed plan) two y three z → Follows w world
    → IsStep plan e w (record three { events = three.events + 1 }) z
is_step plan e w world one two three x y z begin hand again f = ended plan e w three z
    (again.leads w e (rules.handed plan (rules.begin plan e (rules.start e w))) (hand.leads w e (rules.begin plan e (rules.start e w)) (begin.leads w e (rules.start e w) (begun e w world f))))

-- lists that are lent say nothing of the world
module _ (one two : World) (clients : two.clients.entries ≡ one.clients.entries) (tables : two.tables ≡ one.tables) (entries : two.entries ≡ one.entries) (events : two.events ≡ one.events) (queue : two.queue ≡ one.queue) where
  pub follows_same : (w : rules.World) → Follows w one → Follows w two
  follows_same w f = record {
    clients = clients ∙ f.clients;
    state = tables ∙ f.state;
    entries = entries ∙ f.entries;
    events = ap (λ (n : ℕ). n + 1) events ∙ f.events;
    queue = queue ∙ f.queue;
  }

  pub reached_same : (plan : Plan) → IsReached plan one → IsReached plan two
  reached_same plan r = record { events = r.events; follows = follows_same (rules.world_after plan rules.new_world r.events) r.follows; few = r.few }

  pub step_same : (plan : Plan) (e : Event) (w : rules.World) (turn : Turn) → IsStep plan e w one turn → IsStep plan e w two turn
  step_same plan e w turn s = record { follows = follows_same (rules.world_step plan w e) s.follows; effects_are = s.effects_are; history = s.history }

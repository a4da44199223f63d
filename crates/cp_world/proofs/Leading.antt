-- Steps of the code's world, one after another.
use Rattle.std.proofs.Common.{◌≡◌, ◌<◌, ◌+◌, ℕ, List, [], ◌∷◌, ◌++◌, length, refl, ap, sym, ◌∙◌, arith, append_assoc}
use Rattle.std.specs.Prelude.{◌^◌}
use Rattle.cp_base.specs.declared.identifier.Invocation.{Invocation}
use Rattle.cp_answers.specs.declared.answer.Answer.{Answer}
use Rattle.cp_events.specs.declared.plan.Plan.{Plan}
use Rattle.cp_ops.specs.declared.entry.Entry.{Entry}
use Rattle.cp_client_rules.specs.Clients.{Asked}
use Rattle.cp_world_rules.specs.Rows.{Committed}
use Rattle.cp_world_rules.proofs.Bounds.{hands_on}
use Rattle.cp_world_rules.specs.World as rules
use Rattle.cp_world.specs.declared.turn.Turn.{Turn}
use Rattle.cp_world.specs.declared.world.World.{World}
use Rattle.cp_world.specs.Following.{Leads, committed_at}
use Rattle.cp_world.specs.Rooms.{CanCount, HasRoomFor}
use Rattle.cp_world.proofs.Growing.{commit_grows, commit_all_grows, hand_all_grows}

abbrev Rules : Type 0
Rules = rules.World

pub leads_nowhere : (world : World) (turn : Turn) → Leads (λ w. w) world turn world turn
leads_nowhere world turn = record { leads = λ before e w g. g }

-- one step, and what comes after it
pub leads_on : (f g : Rules → Rules) (a : World) (x : Turn) (b : World) (y : Turn) (c : World) (z : Turn) → Leads f a x b y → Leads g b y c z → Leads (λ w. g (f w)) a x c z
leads_on f g a x b y c z one two = record { leads = λ before e w h. two.leads before e (f w) (one.leads before e w h) }

-- the first of several steps is taken
pub rest_counts : (f g : Rules → Rules) (a : World) (x : Turn) (b : World) (y : Turn) → CanCount (λ w. g (f w)) a x → Leads f a x b y → CanCount g b y
rest_counts f g a x b y c one = record { before = c.before; event = c.event; w = f c.w; goes = one.leads c.before c.event c.w c.goes; few = c.few }

-- there is room for a request more
pub entries_few : (a : Asked) (asked : List Asked) (world : World) (turn : Turn) → CanCount (rules.commit_all (a ∷ asked)) world turn → world.entries < 2 ^ 62
entries_few a asked world turn c =
    let mine : world.entries ≡ length c.w.history = c.goes.rest.entries in
    let one = commit_grows a c.w in
    let rest = commit_all_grows asked (rules.commit a c.w) in
    let few : length (rules.commit_all asked (rules.commit a c.w)).history < 2 ^ 62 = c.few in
    omega arith

-- an answer is handed on, and there is room for the others
pub rest_room : (plan : Plan) (q : Invocation × Answer) (queue : List (Invocation × Answer)) (a : World) (x : Turn) (b : World) (y : Turn)
    → HasRoomFor (rules.hand_all plan (q ∷ queue)) a x → Leads (rules.hand_on plan q) a x b y → HasRoomFor (rules.hand_all plan queue) b y
rest_room plan q queue a x b y r one = record {
  before = r.before;
  event = r.event;
  w = rules.hand_on plan q r.w;
  goes = one.leads r.before r.event r.w r.goes;
  n = r.n;
  within = hands_on plan q r.w r.n r.within;
  few = r.few;
}

pub first_room : (plan : Plan) (q : Invocation × Answer) (queue : List (Invocation × Answer)) (a : World) (x : Turn) → HasRoomFor (rules.hand_all plan (q ∷ queue)) a x → HasRoomFor (rules.hand_on plan q) a x
first_room plan q queue a x r = record {
  before = r.before;
  event = r.event;
  w = r.w;
  goes = r.goes;
  n = r.n;
  within = r.within;
  few = let rest = hand_all_grows plan queue (rules.hand_on plan q r.w) in let few : length (rules.hand_all plan queue (rules.hand_on plan q r.w)).history + r.n < 2 ^ 62 = r.few in omega arith;
}

committed_more : (event : ℕ) (entries : List Entry) (e : Entry) → committed_at event (entries ++ e ∷ []) ≡ committed_at event entries ++ record { event = event; entry = e } ∷ []
committed_more event [] e = refl
committed_more event (x ∷ entries) e = ap (λ (r : List Committed). record { event = event; entry = x } ∷ r) (committed_more event entries e)

-- what an event committed, with an entry more
pub history_more : (event : ℕ) (before now : List Committed) (entries : List Entry) (e : Entry) → now ≡ before ++ committed_at event entries
    → now ++ record { event = event; entry = e } ∷ [] ≡ before ++ committed_at event (entries ++ e ∷ [])
history_more event before now entries e h =
    ap (λ (r : List Committed). r ++ record { event = event; entry = e } ∷ []) h
    ∙ append_assoc before (committed_at event entries) (record { event = event; entry = e } ∷ [])
    ∙ ap (λ (r : List Committed). before ++ r) (sym (committed_more event entries e))

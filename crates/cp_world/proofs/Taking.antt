-- A client takes its step where it stands in the world.
use Rattle.std.proofs.Common.{◌≡◌, ◌≤◌, ◌<◌, ◌+◌, ℕ, Bool, true, false, List, [], ◌∷◌, ◌++◌, Some, None, length, refl, ap, sym, ◌∙◌, arith, subst, cond}
use Rattle.std.specs.Prelude.{◌^◌, All}
use Rattle.std.specs.Ordering.{nat_cmp}
use Rattle.std.specs.BTreeMap.{is_at}
use Rattle.std.specs.Map.{set_value}
use Rattle.std.proofs.lemmas.Cmp.{nat_cmp_total}
use Rattle.std.proofs.lemmas.List.Elements.{All-head, All-tail}
use Rattle.cp_base.specs.declared.identifier.ClientNo.{ClientNo}
use Rattle.cp_base.specs.declared.identifier.ThreadNo.{ThreadNo}
use Rattle.cp_events.specs.declared.event.Event.{Event}
use Rattle.cp_events.specs.declared.user_op.UserOp.{UserOp}
use Rattle.cp_group_state.specs.Rows.{find, put}
use Rattle.cp_group_state.specs.Invariants.{IsRising}
use Rattle.cp_client_rules.specs.declared.rows.HoldRecord.{HoldRecord}
use Rattle.cp_client_rules.specs.Clients.{Client, Did, LockKey, lock_cmp, new_client}
use Rattle.cp_client.specs.declared.output.ClientOut.{ClientOut}
use Rattle.cp_client.specs.Rooms.{HasRoom}
use Rattle.cp_client.specs.Steps.{Gives}
use Rattle.cp_rows.proofs.Ordered.{put_there}
use Rattle.cp_world_rules.specs.Bounds.{IsEarned, IsWithin}
use Rattle.cp_world_rules.specs.World as rules
use Rattle.cp_world.specs.declared.turn.Turn.{Turn}
use Rattle.cp_world.specs.declared.world.World.{World}
use Rattle.cp_world.specs.Following.{Goes, GoesFrom, Leads, LeadsFrom}
use Rattle.cp_world.specs.Given.{GivesAt, IsGiven}
use Rattle.cp_world.specs.Rooms.{CanCountDone, HasRoomFor}
use Rattle.cp_world.proofs.Growing.{does_grows}

-- numbers that stay within a bound leave room
earned_few : (c : Client) (most : ℕ) → IsWithin most c → (key : LockKey) (h : HoldRecord) → IsEarned c key h → h.holds ≤ most
earned_few c most ok key h e = let mine = ok.numbers (record { 0 = key.0 }) in omega arith

some_same : (a b : HoldRecord) → Some a ≡ Some b → a ≡ b
some_same a b e = cc

abbrev Earns : Client → LockKey × HoldRecord → Type 0
Earns c e = IsEarned c e.0 e.1

found : (c : Client) (holds : List (LockKey × HoldRecord)) → All (Earns c) holds → (key : LockKey) (h : HoldRecord) → find lock_cmp holds key ≡ Some h → (k : LockKey) × IsEarned c k h
found c [] all key h e = cc
found c (row ∷ rows) all key h e = by (is_at (lock_cmp key) row.0) (found c rows (All-tail (Earns c) row rows all) key h) e where
  by : (b : Bool) → (find lock_cmp rows key ≡ Some h → (k : LockKey) × IsEarned c k h) → cond b (Some row.1) (find lock_cmp rows key) ≡ Some h → (k : LockKey) × IsEarned c k h
  by true rest e = (row.0, subst (IsEarned c row.0) (some_same row.1 h e) (All-head (Earns c) row rows all))
  by false rest e = rest e

pub within_room : (c : Client) (most : ℕ) (t : ThreadNo) → most < 2 ^ 62 → IsWithin most c → HasRoom t c
within_room c most t few ok = record {
  clock = ok.clock;
  number = let mine = ok.numbers t in omega arith;
  holds = λ key h e. let f = found c c.holds ok.holds key h e in let mine = earned_few c most ok f.0 h f.1 in omega arith;
}

-- the client that stands in the world
pub client_is : (me : ClientNo) (before : rules.World) (e : Event) (w : rules.World) (world : World) (turn : Turn) → Goes before e w world turn → rules.or_new (find nat_cmp world.clients.entries me.0) ≡ rules.client_at w me
client_is me before e w world turn g = ap (λ (rows : List (ℕ × Client)). rules.or_new (find nat_cmp rows me.0)) g.clients

-- all but the clients is the same
pub record KeepsRest (world after : World) : Type 0 where
  pub tables : after.tables ≡ world.tables
  pub entries : after.entries ≡ world.entries
  pub events : after.events ≡ world.events
  pub queue : after.queue ≡ world.queue

abbrev pub none : ClientOut
none = record { asked = []; opened = []; returns = [] }

-- What is noted of a call or of a tick besides its client's step: nothing that the code keeps.
pub record Keeps (notes : rules.World → rules.World) : Type 0 where
  pub keeps : (before : rules.World) (e : Event) (w : rules.World) (world : World) (turn : Turn) → Goes before e w world turn → Goes before e (notes w) world turn
  pub history : (w : rules.World) → (notes w).history ≡ w.history

same : (before : rules.World) (e : Event) (w v : rules.World) (world : World) (turn : Turn)
    → v.clients ≡ w.clients → v.state ≡ w.state → v.history ≡ w.history → v.effects ≡ w.effects → v.queue ≡ w.queue → v.shown ≡ w.shown
    → Goes before e w world turn → Goes before e v world turn
same before e w v world turn clients state history effects queue shown g = record {
  clients = g.clients ∙ sym clients;
  rest = record {
    state = g.rest.state ∙ sym state;
    entries = g.rest.entries ∙ ap length (sym history);
    events = g.rest.events ∙ ap length (sym effects);
    effects_are = effects ∙ g.rest.effects_are;
    queue = g.rest.queue ∙ sym queue;
    shown = shown ∙ g.rest.shown;
    history = history ∙ g.rest.history;
  };
}

-- the step of a client, and what is noted besides
abbrev pub stepped : ClientNo → (Client → Did) → (rules.World → rules.World) → rules.World → rules.World
stepped me step notes w = rules.does me (step (rules.client_at w me)) (notes w)

-- the client that the code has under this number
abbrev pub stood : World → ClientNo → Client
stood world me = rules.or_new (find nat_cmp world.clients.entries me.0)

module _ (me : ClientNo) (step : Client → Did) (notes : rules.World → rules.World) (kept : Keeps notes) (world : World) (turn : Turn) where
  module _ (after : World) (given : ClientOut) (rest : KeepsRest world after) (gives : GivesAt me (step (stood world me)) world.clients.entries after.clients.entries none given) where
    goes_from : (before : rules.World) (e : Event) (w : rules.World) → Goes before e w world turn → GoesFrom me (step (rules.client_at w me)) before e (notes w) after turn
    goes_from before e w goes = let g = kept.keeps before e w world turn goes in record {
      clients = gives.clients
          ∙ ap (λ (rows : List (ℕ × Client)). put nat_cmp rows me.0 (step (stood world me)).client) g.clients
          ∙ ap (λ (c : Client). put nat_cmp (notes w).clients me.0 (step c).client) (client_is me before e w world turn goes);
      rest = record {
        state = rest.tables ∙ g.rest.state;
        entries = rest.entries ∙ g.rest.entries;
        events = ap (λ (n : ℕ). n + 1) rest.events ∙ g.rest.events;
        effects_are = g.rest.effects_are;
        queue = rest.queue ∙ g.rest.queue;
        shown = g.rest.shown;
        history = g.rest.history;
      };
    }

    given_is : (before : rules.World) (e : Event) (w : rules.World) → Goes before e w world turn → IsGiven (step (rules.client_at w me)) given
    given_is before e w goes = subst (λ (c : Client). IsGiven (step c) given) (client_is me before e w world turn goes)
        (record { asked = gives.gives.asked; opened = gives.gives.opened; returns = gives.gives.returns })

    pub can_count : HasRoomFor (stepped me step notes) world turn → CanCountDone me given after turn
    can_count r = record {
      before = r.before;
      event = r.event;
      w = notes r.w;
      did = step (rules.client_at r.w me);
      gives = given_is r.before r.event r.w r.goes;
      goes = goes_from r.before r.event r.w r.goes;
      few = let few : length (rules.does me (step (rules.client_at r.w me)) (notes r.w)).history + r.n < 2 ^ 62 = r.few in omega arith;
    }

    pub steps : (done : World) (later : Turn) → ((d : Did) → IsGiven d given → LeadsFrom me d (rules.does me d) after turn done later) → Leads (stepped me step notes) world turn done later
    steps done later leads = record {
      leads = λ before e w goes. (leads (step (rules.client_at w me)) (given_is before e w goes)).leads before e (notes w) (goes_from before e w goes);
    }

  -- the numbers of the client that stands in the world leave room for the step
  pub client_room : (t : ThreadNo) → HasRoomFor (stepped me step notes) world turn → HasRoom t (stood world me)
  client_room t r =
      let grown = does_grows me (step (rules.client_at r.w me)) (notes r.w) in
      let kept_history = kept.history r.w in
      let few : length (rules.does me (step (rules.client_at r.w me)) (notes r.w)).history + r.n < 2 ^ 62 = r.few in
      let e = ap length kept_history in
      subst (λ c. HasRoom t c) (sym (client_is me r.before r.event r.w world turn r.goes)) (within_room (rules.client_at r.w me) (length r.w.history + r.n) t (omega arith) (r.within me))

-- a client that stands in its place took a step
pub gives_there : (me : ClientNo) (step : Client → Did) (rows now : List (ℕ × Client)) (old new : Client) (before after : ClientOut)
    → IsRising nat_cmp rows → find nat_cmp rows me.0 ≡ Some old → now ≡ set_value (is_at (nat_cmp me.0)) rows new → Gives (step old) new before after
    → GivesAt me (step (rules.or_new (find nat_cmp rows me.0))) rows now before after
gives_there me step rows now old new before after rising there written g = subst (λ (c : Client). GivesAt me (step c) rows now before after) (sym (ap rules.or_new there)) (record {
  clients = written ∙ put_there nat_cmp nat_cmp_total rows me.0 old new rising there ∙ ap (put nat_cmp rows me.0) g.client_is;
  gives = record { client_is = refl; asked = g.asked; opened = g.opened; returns = g.returns };
})

-- a new client took a step
pub gives_new : (me : ClientNo) (step : Client → Did) (rows there now : List (ℕ × Client)) (fresh new : Client) (before after : ClientOut)
    → there ≡ rows → find nat_cmp rows me.0 ≡ None → fresh ≡ new_client → now ≡ put nat_cmp there me.0 new → Gives (step fresh) new before after
    → GivesAt me (step (rules.or_new (find nat_cmp rows me.0))) rows now before after
gives_new me step rows there now fresh new before after same_rows none_there is_new written g = subst (λ (c : Client). GivesAt me (step c) rows now before after) (is_new ∙ sym (ap rules.or_new none_there)) (record {
  clients = written ∙ ap (λ (rs : List (ℕ × Client)). put nat_cmp rs me.0 new) same_rows ∙ ap (put nat_cmp rows me.0) g.client_is;
  gives = record { client_is = refl; asked = g.asked; opened = g.opened; returns = g.returns };
})

pub notes_nothing : Keeps (λ w. w)
notes_nothing = record { keeps = λ before e w world turn g. g; history = λ w. refl }

pub notes_call : (me : ClientNo) (t : ThreadNo) (o : UserOp) → Keeps (λ w. record w { calls = w.calls ++ record { event = w.shown.number; client = me; thread = t; op = o; clock = (rules.client_at w me).clock } ∷ [] })
notes_call me t o = record { keeps = λ before e w world turn g. same before e w (record w { calls = w.calls ++ record { event = w.shown.number; client = me; thread = t; op = o; clock = (rules.client_at w me).clock } ∷ [] }) world turn refl refl refl refl refl refl g; history = λ w. refl }

pub notes_move : (me : ClientNo) (ms : ℕ) → Keeps (λ w. record w { moves = w.moves ++ record { event = w.shown.number; client = me; ms = ms; clock = (rules.client_at w me).clock + ms } ∷ [] })
notes_move me ms = record { keeps = λ before e w world turn g. same before e w (record w { moves = w.moves ++ record { event = w.shown.number; client = me; ms = ms; clock = (rules.client_at w me).clock + ms } ∷ [] }) world turn refl refl refl refl refl refl g; history = λ w. refl }

-- A step of the code follows a step of the definition.
use Rattle.std.proofs.Common.{◌≡◌, ◌≤◌, ◌<◌, ◌+◌, ◌*◌, ◌^◌, ℕ, List, [], ◌∷◌, ◌++◌, length, refl, sym, ◌∙◌, ap, subst, length-append, arith}
use Rattle.std.proofs.lemmas.List.{length-map}
use Rattle.cp_base.specs.declared.identifier.ClientNo.{ClientNo}
use Rattle.cp_ops.specs.declared.entry.Entry.{Entry}
use Rattle.cp_events.specs.declared.effects.Effects.{Effects}
use Rattle.cp_events.specs.declared.effects.Opened.{Opened}
use Rattle.cp_events.specs.declared.effects.Return.{Return}
use Rattle.cp_events.specs.declared.event.Event.{Event}
use Rattle.cp_events.specs.declared.plan.Plan.{Plan}
use Rattle.cp_world_rules.specs.Rows.{Committed}
use Rattle.cp_world_rules.specs.World as rules
use Rattle.cp_world_rules.proofs.Settled.{settled}
use Rattle.cp_transcript.specs.Telling.{Tells}
use Rattle.cp_transcript.specs.declared.transcript.TranscriptWriter.{TranscriptWriter}
use Rattle.cp_world.specs.Following as world
use Rattle.cp_world.specs.declared.turn.Turn.{Turn}
use Rattle.cp_world.specs.declared.world.World.{World}
use Rattle.cp_tool.specs.declared.running.Running.{Running}
use Rattle.cp_tool.specs.Running.{Follows}

pub after_one_more : (plan : Plan) (w : rules.World) (events : List Event) (e : Event)
    → rules.world_after plan w (events ++ e ∷ []) ≡ rules.world_step plan (rules.world_after plan w events) e
after_one_more plan w [] e = refl
after_one_more plan w (x ∷ events) e = after_one_more plan (rules.world_step plan w x) events e

abbrev pub after : Plan → List Event → rules.World
after plan events = rules.world_after plan rules.new_world events

one_more : {X : Type 0} (xs : List X) (x : X) → length (xs ++ x ∷ []) ≡ length xs + 1
one_more xs x = length-append xs (x ∷ [])

-- The lines of the history can be counted.
pub few_rows : (plan : Plan) (events : List Event) (e : Event) (w : World) (rows : ℕ) (turn : Turn)
    → length events ≤ 100000 → rows ≡ length (after plan events).history
    → world.IsStep plan e (after plan events) w turn
    → rows + length turn.entries < 2 ^ 62
few_rows plan events e w rows turn few rows_are step =
    let all : length (after plan (events ++ e ∷ [])).history ≤ 2 * length (events ++ e ∷ []) = (settled plan (events ++ e ∷ [])).1 in
    let same : length (after plan (events ++ e ∷ [])).history ≡ length ((after plan events).history ++ world.committed_at turn.number turn.entries) =
    ap (λ x. length x.history) (after_one_more plan rules.new_world events e) ∙ ap length step.history in
    let parts = length-append (after plan events).history (world.committed_at turn.number turn.entries) in
    let each : length (world.committed_at turn.number turn.entries) ≡ length turn.entries = length-map turn.entries (λ (e : Entry). record { event = turn.number; entry = e }) in
    let one = one_more events e in
    omega (arith, all, same, parts, each, one, few, rows_are)

-- What was shown follows the events, one more.
pub shown_follows : (plan : Plan) (events : List Event) (e : Event) (old new : Running) (turn : Turn)
    → Follows plan events old
    → world.IsStep plan e (after plan events) new.world turn
    → ((shown : List Effects) (history : List Committed) → Tells shown history old.transcript → Tells (shown ++ world.effects_of e turn ∷ []) (history ++ world.committed_at turn.number turn.entries) new.transcript)
    → new.events ≡ old.events + 1
    → Follows plan (events ++ e ∷ []) new
shown_follows plan events e old new turn follows step tells count = record {
  count = count ∙ ap (λ n. n + 1) follows.count ∙ sym (one_more events e);
  follows = subst (λ w. world.Follows w new.world) (sym (after_one_more plan rules.new_world events e)) step.follows;
  tells = subst (λ w. Tells w.effects w.history new.transcript) (sym (after_one_more plan rules.new_world events e))
      (subst (λ es. Tells es (rules.world_step plan (after plan events) e).history new.transcript) (sym step.effects_are)
      (subst (λ hs. Tells ((after plan events).effects ++ world.effects_of e turn ∷ []) hs new.transcript) (sym step.history)
      (tells (after plan events).effects (after plan events).history follows.tells)));
}

-- An event is printed, and then the entries that it committed.
pub printed : (e : Event) (turn : Turn) (opened : List (ClientNo × Opened)) (returns : List (ClientNo × Return)) (entries : List Entry) (old one two : TranscriptWriter)
    → opened ≡ turn.opened → returns ≡ turn.returns → entries ≡ turn.entries
    → ((shown : List Effects) (history : List Committed) → Tells shown history old → Tells (shown ++ record { number = turn.number; event = e; ignored = turn.ignored; opened = opened; returns = returns } ∷ []) history one)
    → ((shown : List Effects) (history : List Committed) → Tells shown history one → Tells shown (history ++ world.committed_at turn.number entries) two)
    → (shown : List Effects) (history : List Committed) → Tells shown history old → Tells (shown ++ world.effects_of e turn ∷ []) (history ++ world.committed_at turn.number turn.entries) two
printed e turn opened returns entries old one two is_opened is_returns is_entries first second shown history tells =
    subst (λ os. Tells (shown ++ record { number = turn.number; event = e; ignored = turn.ignored; opened = os; returns = turn.returns } ∷ []) (history ++ world.committed_at turn.number turn.entries) two) is_opened
    (subst (λ rs. Tells (shown ++ record { number = turn.number; event = e; ignored = turn.ignored; opened = opened; returns = rs } ∷ []) (history ++ world.committed_at turn.number turn.entries) two) is_returns
    (subst (λ es. Tells (shown ++ record { number = turn.number; event = e; ignored = turn.ignored; opened = opened; returns = returns } ∷ []) (history ++ world.committed_at turn.number es) two) is_entries
    (second _ history (first shown history tells))))

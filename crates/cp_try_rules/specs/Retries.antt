-- The clock of a client moves, where there are members.
use Rattle.std.specs.Prelude.{ℕ, ◌-◌, Bool, false, not, ◌&&◌, List, [], ◌∷◌, Option, Some, None, if◌then◌else◌, nat_lt}
use Rattle.cp_base.specs.declared.identifier.ClientId.{ClientId}
use Rattle.cp_base.specs.declared.identifier.ThreadNo.{ThreadNo}
use Rattle.cp_events.specs.declared.plan.Plan.{Plan}
use Rattle.cp_try_rules.specs.declared.choices.Rule.{Rule}
use Rattle.cp_try_rules.specs.declared.choices.Rule.TheVariants as rule
use Rattle.cp_try_rules.specs.declared.event.Says.TheVariants as says
use Rattle.cp_try_rules.specs.Again.{may_again}
use Rattle.cp_try_rules.specs.Clients.{Client, Asked, OwnSession, Sessions, open_at}
use Rattle.cp_try_rules.specs.Groups.{group_number}
use Rattle.cp_try_rules.specs.Steps.{Step, each_thread, quietly, stays, then_step, tries_only, with_tries}
use Rattle.cp_try_rules.specs.Ticks.{beat, is_due, late_calls, own_thread, user_threads}
use Rattle.cp_try_rules.specs.Tries.{Tries, Tried, Try, may_try, restart_of, says_to, target_of, tried_at, try_request, turned, with_tried}
use Rattle.cp_try_rules.specs.declared.rows.Try.TheVariants as how

-- how long a pause is, and how old a try gets
abbrev pub pause_time : ℕ
pause_time = 1000

abbrev pub try_time : ℕ
try_time = 5000

abbrev pub is_aged : ℕ → ℕ → ℕ → Bool
is_aged time at clock = not (nat_lt (clock - at) time)

-- what the age of its last try has an open request do
abbrev pub by_age : ℕ → Bool → Option Try → Rule
by_age clock again None = rule.Rests
by_age clock again (Some (how.Hello m at)) = if is_aged try_time at clock then rule.Moves else rule.Rests
by_age clock again (Some (how.Attempt m r at)) = if is_aged try_time at clock then (if again then rule.Moves else rule.Knocks m r) else rule.Rests

abbrev pub is_over : ℕ → Option ℕ → Bool
is_over clock None = false
is_over clock (Some since) = is_aged pause_time since clock

-- The first that holds: a pause is over; the last try is old.
abbrev pub rule_of : ℕ → Bool → Tried → Rule
rule_of clock again row = if is_over clock row.paused then rule.Tries else by_age clock again row.last

module _ (plan : Plan) where
  -- A Hello that asks whether the member was restarted is no try; the age of the attempt begins anew.
  abbrev pub follow : Rule → Asked → Client → Tries → Step
  follow rule.Rests a c tries = stays c tries
  follow rule.Tries a c tries = tries_only c (try_request c.clock a tries)
  follow rule.Moves a c tries = tries_only c (try_request c.clock a (turned plan.members a.group tries))
  follow (rule.Knocks m r) a c tries = tries_only c (record {
    tries = with_tried tries a.call.thread (record (tried_at tries a.call.thread) { last = Some (how.Attempt m r c.clock) });
    sent = says_to m says.Hello;
  })

  abbrev pub age_open : Option Asked → Client → Tries → Step
  age_open None c tries = stays c tries
  age_open (Some a) c tries = follow (rule_of c.clock (may_again a.op) (tried_at tries a.call.thread)) a c tries

module _ (plan : Plan) (me : ClientId) where
  abbrev pub age_thread : ThreadNo → Client → Tries → Step
  age_thread t c tries = age_open plan (open_at me t c) c tries

  -- A beat goes to the target of its group. Where no start of that is known, it is asked for it, and the beat stays due.
  abbrev pub beat_to : ℕ → Option ℕ → ℕ → OwnSession → Client → Tries → Step
  beat_to m None g own c tries = tries_only c (record { tries = tries; sent = says_to m says.Hello })
  beat_to m (Some r) g own c tries = if may_try own_thread tries then with_tries (beat me g own c) tries else stays c tries

  abbrev pub beat_group : ℕ → OwnSession → Client → Tries → Step
  beat_group g own c tries = if is_due own c
      then beat_to (target_of tries (group_number g)) (restart_of tries (target_of tries (group_number g))) g own c tries
      else stays c tries

  abbrev pub beat_groups : Sessions → Client → Tries → Step
  beat_groups [] c tries = stays c tries
  beat_groups (row ∷ sessions) c tries = then_step (beat_group row.0 row.1 c tries) (beat_groups sessions)

  abbrev pub beats_due : Client → Tries → Step
  beats_due c tries = beat_groups c.sessions c tries

  -- First calls end at their deadlines. Then open requests are tried again, thread by thread; then beats go, by group.
  -- (A call that ends tries nothing, so that all deadlines may come first.)
  abbrev pub pass_step : ℕ → Client → Tries → Step
  pass_step ms c tries = then_step (then_step (quietly (late_calls ms c) tries) (each_thread age_thread user_threads)) beats_due

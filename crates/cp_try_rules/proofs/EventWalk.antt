-- What is so of the small steps is so of what each event does.
use Rattle.std.proofs.Common.{◌≡◌, ℕ, ◌+◌, ◌-◌, ◌⊎◌, inl, inr, Bool, true, false, List, [], ◌∷◌, ◌++◌, Some, None, Option, refl, sym, subst, ap, ◌∙◌, arith, if◌then◌else◌}
use Rattle.std.specs.Prelude.{◌==◌, ◌&&◌, ◌<◌, nat_lt, not}
use Rattle.std.specs.Ordering.{nat_cmp}
use Rattle.std.proofs.lemmas.Bool.Decides.{eqb_tells, nat_tests}
use Rattle.cp_answers.specs.declared.answer.Answer.{Answer}
use Rattle.cp_answers.specs.declared.ended_by.EndedBy.TheVariants as ended_by
use Rattle.cp_answers.specs.declared.refusal.Refusal.{Refusal}
use Rattle.cp_answers.specs.declared.refusal.Refusal.TheVariants as refusal
use Rattle.cp_base.specs.declared.identifier.ClientId.{ClientId}
use Rattle.cp_base.specs.declared.identifier.GroupId.{GroupId}
use Rattle.cp_base.specs.declared.identifier.ThreadNo.{ThreadNo}
use Rattle.cp_events.specs.declared.effects.Ending.TheVariants as ending
use Rattle.cp_events.specs.declared.plan.Plan.{Plan}
use Rattle.cp_group_state.specs.Rows.{put}
use Rattle.cp_try_rules.specs.declared.choices.Rule.{Rule}
use Rattle.cp_try_rules.specs.declared.choices.Rule.TheVariants as rule
use Rattle.cp_try_rules.specs.declared.choices.Turn.{Turn}
use Rattle.cp_try_rules.specs.declared.choices.Turn.TheVariants as turn
use Rattle.cp_try_rules.specs.declared.event.Event.{Event}
use Rattle.cp_try_rules.specs.declared.event.Event.TheVariants as event
use Rattle.cp_try_rules.specs.declared.rows.Try.{Try}
use Rattle.cp_try_rules.specs.declared.rows.Try.TheVariants as how
use Rattle.cp_try_rules.specs.Again.{may_again}
use Rattle.cp_try_rules.specs.Answers.{answer_client, end_call, end_unknown, is_open, is_to}
use Rattle.cp_try_rules.specs.Calls.{call_client}
use Rattle.cp_try_rules.specs.Clients.{Client, Did, Asked, OwnSession, Pending, Sessions, and_then, as_asked, nothing, open_at, thread_at}
use Rattle.cp_try_rules.specs.Events.{ClientState, client_step, with_members, without_members}
use Rattle.cp_try_rules.specs.Groups.{group_number}
use Rattle.cp_try_rules.specs.Laws.{goes_on}
use Rattle.cp_try_rules.specs.Refusals.{turn_of, take_turn, beat_turn, refuse_step}
use Rattle.cp_try_rules.specs.Retries.{age_open, age_thread, beat_to, beat_group, beat_groups, beats_due, by_age, follow, is_aged, is_over, pass_step, rule_of, try_time}
use Rattle.cp_try_rules.specs.Steps.{Step, each_thread, quietly, stays, then_step, tries_only, try_open, try_thread, with_tries}
use Rattle.cp_try_rules.specs.Ticks.{beat, beat_each, beat_if_due, beat_of, beats, end_each, end_late, is_due, is_late, late_calls, own_thread, tick_client, user_threads}
use Rattle.cp_try_rules.specs.Tries.{Tries, Tried, may_try, next_member, pause, restart_of, target_of, tried_at, try_request, turned, with_target}
use Rattle.cp_try_rules.specs.Welcomes.{is_older, lose_open, rises, waits_for, welcome_older, welcome_step, welcome_waiting, with_restart}
use Rattle.cp_try_rules.proofs.CallWalk.{walk-answer, walk-call}
use Rattle.cp_try_rules.proofs.Walk.{Bounces, IsReady, KeptCalls, KeptTries, Outlived, RefusedLost, WentTo, after_clock, asked_as, gives, learned}

pub and-both : (a b : Bool) → (a && b) ≡ true → (a ≡ true) × (b ≡ true)
and-both true b h = (refl, h)
and-both false b h = cc

pub equal-numbers : (a b : ℕ) → (a == b) ≡ true → a ≡ b
equal-numbers a b h = by (eqb_tells a b) where
  by : (((a == b) ≡ true) × (a ≡ b)) ⊎ (((a == b) ≡ false) × (a ≡ b → ⊥)) → a ≡ b
  by (inl e) = e.1
  by (inr e) = cc

waits-hello : (m : ℕ) (o : Option Try) → waits_for m o ≡ true → (to : ℕ) × (at : ℕ) × (o ≡ Some (how.Hello to at))
waits-hello m None h = cc
waits-hello m (Some (how.Hello to at)) h = (to, at, refl)
waits-hello m (Some (how.Attempt to r at)) h = cc

older-attempt : (m r : ℕ) (o : Option Try) → is_older m r o ≡ true → (restart : ℕ) × (at : ℕ) × (o ≡ Some (how.Attempt m restart at)) × (restart < r)
older-attempt m r None h = cc
older-attempt m r (Some (how.Hello to at)) h = cc
older-attempt m r (Some (how.Attempt to restart at)) h = let both = and-both (to == m) (nat_lt restart r) h in
    (restart, at, ap (λ n. Some (how.Attempt n restart at)) (equal-numbers to m both.0), grind (arith, nat_tests, both.1))

lost-is : (why : Refusal) → turn_of why ≡ turn.Loses → why ≡ refusal.Lost
lost-is (refusal.NotLeader m) h = by (m == 0) h where
  by : (b : Bool) → (if b then turn.Moves else turn.Follows m) ≡ turn.Loses → refusal.NotLeader m ≡ refusal.Lost
  by true e = cc
  by false e = cc
lost-is (refusal.Overloaded n) h = cc
lost-is refusal.NoGroup h = cc
lost-is (refusal.IndexEnd i) h = cc
lost-is (refusal.WrongMembers i) h = cc
lost-is (refusal.ChangePending i) h = cc
lost-is (refusal.NoOwnTermCommit i) h = cc
lost-is refusal.AlreadyThere h = cc
lost-is refusal.NotThere h = cc
lost-is refusal.LastMember h = cc
lost-is refusal.Lost h = refl

-- what the clock has a request do, and why
abbrev pub Means : Rule → Option ℕ → Option Try → Bool → Type 0
Means rule.Rests paused last again = true ≡ true
Means rule.Tries paused last again = (since : ℕ) × (paused ≡ Some since)
Means rule.Moves paused last again = ((m : ℕ) × (at : ℕ) × (last ≡ Some (how.Hello m at))) ⊎ (again ≡ true)
Means (rule.Knocks m r) paused last again = (at : ℕ) × (last ≡ Some (how.Attempt m r at))

means-age : (clock : ℕ) (again : Bool) (paused : Option ℕ) (last : Option Try) → Means (by_age clock again last) paused last again
means-age clock again paused None = refl
means-age clock again paused (Some (how.Hello m at)) = by (is_aged try_time at clock) where
  by : (b : Bool) → Means (if b then rule.Moves else rule.Rests) paused (Some (how.Hello m at)) again
  by true = inl (m, at, refl)
  by false = refl
means-age clock again paused (Some (how.Attempt m r at)) = by (is_aged try_time at clock) again refl where
  by : (b v : Bool) → again ≡ v → Means (if b then (if v then rule.Moves else rule.Knocks m r) else rule.Rests) paused (Some (how.Attempt m r at)) again
  by true true e = inr e
  by true false e = (at, refl)
  by false v e = refl

means-over : (clock : ℕ) (again : Bool) (paused : Option ℕ) (last : Option Try) → Means (if is_over clock paused then rule.Tries else by_age clock again last) paused last again
means-over clock again None last = means-age clock again None last
means-over clock again (Some since) last = by (is_over clock (Some since)) where
  by : (b : Bool) → Means (if b then rule.Tries else by_age clock again last) (Some since) last again
  by true = (since, refl)
  by false = means-age clock again (Some since) last

module _ (R : Client → Tries → Step → Type 0) where
  pub walk-if : (c : Client) (x : Tries) (b : Bool) (s u : Step) → (b ≡ true → R c x s) → (b ≡ false → R c x u) → R c x (if b then s else u)
  walk-if c x b s u so otherwise = by b refl where
    by : (v : Bool) → b ≡ v → R c x (if v then s else u)
    by true is = so is
    by false is = otherwise is

module _ (plan : Plan) (me : ClientId) (e : Event) (b : Bool) (R : Client → Tries → Step → Type 0) (k : KeptCalls me e b R) where
  pub walk-late : (threads : List ThreadNo) (c : Client) (x : Tries) → R c x (quietly (end_each threads c) x)
  walk-late [] c x = k.rests c x
  walk-late (t ∷ threads) c x = k.follows c x (quietly (end_late t c) x) (λ d y. quietly (end_each threads d) y) (by (is_late c.clock (thread_at c t).pending) refl) (walk-late threads) where
    by : (v : Bool) → is_late c.clock (thread_at c t).pending ≡ v → R c x (quietly (if v then end_unknown t ended_by.Deadline c else nothing c) x)
    by true late = k.lates c x t late
    by false late = k.rests c x

  pub walk-beat : (g : ℕ) (own : OwnSession) (c : Client) (x : Tries) → R c x (gives b (beat me g own c) x)
  walk-beat g own c x = k.asks c x (learned c.names (put nat_cmp c.sessions g (record { id = own.id; beat = c.clock })) [] [] c) own_thread (beat_of g own) (inr (inr refl))

module _ (plan : Plan) (me : ClientId) (e : Event) (R : Client → Tries → Step → Type 0) (k : KeptCalls me e true R) (j : KeptTries me e R) where
  walk-each : (f : ThreadNo → Client → Tries → Step) → ((t : ThreadNo) (c : Client) (x : Tries) → R c x (f t c x)) → (threads : List ThreadNo) (c : Client) (x : Tries) → R c x (each_thread f threads c x)
  walk-each f all [] c x = k.rests c x
  walk-each f all (t ∷ threads) c x = k.follows c x (f t c x) (each_thread f threads) (all t c x) (walk-each f all threads)

  -- by whether the thread has an open request
  by-open : (t : ThreadNo) (c : Client) (P : Option Asked → Type 0) → P None
      → ((now : Pending) → (thread_at c t).pending ≡ Some now → open_at me t c ≡ Some (asked_as me t c now)
      → P (Some (asked_as me t c now)))
      → P (open_at me t c)
  by-open t c P none some = by (thread_at c t).pending refl where
    by : (o : Option Pending) → (thread_at c t).pending ≡ o → P (as_asked me t (thread_at c t).number o)
    by None is = none
    by (Some now) is = some now is (ap (as_asked me t (thread_at c t).number) is)

  walk-turned : (n : ℕ) (g : GroupId) (c : Client) (x : Tries) (s : Step) → R c (turned n g x) s → R c x s
  walk-turned n g c x s h = j.knows c x x.restarts (put nat_cmp x.targets g.0 (next_member n (target_of x g))) s h

  walk-target : (m : ℕ) (g : GroupId) (c : Client) (x : Tries) (s : Step) → R c (with_target g m x) s → R c x s
  walk-target m g c x s h = j.knows c x x.restarts (put nat_cmp x.targets g.0 m) s h

  -- ---- restart numbers

  walk-waiting : (m : ℕ) (t : ThreadNo) (c : Client) (x : Tries) → R c x (welcome_waiting me m t c x)
  walk-waiting m t c x = walk-if R c x (waits_for m (tried_at x t).last) (try_thread me t c x) (stays c x)
      (λ waits. by-open t c (λ o. R c x (try_open o c x)) (k.rests c x) (λ now is held. j.tries c x (asked_as me t c now) held (inl (waits-hello m (tried_at x t).last waits))))
      (λ otherwise. k.rests c x)

  -- what is lost is tried again, or ends
  walk-lose : (before : Tries → Tries) (c : Client) (x : Tries) (a : Asked) → ((s : Step) → R c (before x) s → R c x s) → open_at me a.call.thread c ≡ Some a → Outlived e x a ⊎ RefusedLost e a
      → R c x (lose_open before (Some a) c x)
  walk-lose before c x a knows held cause = walk-if R c x (may_again a.op) (tries_only c (try_request c.clock a (before x))) (quietly (end_unknown a.call.thread ended_by.Lost c) x)
      (λ again. knows (tries_only c (try_request c.clock a (before x))) (j.tries c (before x) a held (inr (inl again))))
      (λ otherwise. j.loses c x a held otherwise cause)

  walk-older : (m r : ℕ) → e ≡ event.Welcomed m r → (t : ThreadNo) (c : Client) (x : Tries) → R c x (welcome_older me m r t c x)
  walk-older m r welcomed t c x = walk-if R c x (is_older m r (tried_at x t).last) (lose_open (λ y. y) (open_at me t c) c x) (stays c x)
      (λ older. by-open t c (λ o. R c x (lose_open (λ y. y) o c x)) (k.rests c x)
      (λ now is held. let old = older-attempt m r (tried_at x t).last older in
      walk-lose (λ y. y) c x (asked_as me t c now) (λ s h. h) held (inl (m, r, old.0, welcomed, (old.1, old.2), old.3))))
      (λ otherwise. k.rests c x)

  walk-welcome : (m r : ℕ) (c : Client) (x : Tries) → e ≡ event.Welcomed m r → R c x (welcome_step me m r c x)
  walk-welcome m r c x welcomed = walk-if R c x (rises m r x)
      (then_step (each_thread (welcome_waiting me m) user_threads c (with_restart m r x)) (each_thread (welcome_older me m r) user_threads))
      (each_thread (welcome_waiting me m) user_threads c x)
      (λ so. j.knows c x (put nat_cmp x.restarts m r) x.targets (then_step (each_thread (welcome_waiting me m) user_threads c (with_restart m r x)) (each_thread (welcome_older me m r) user_threads))
      (k.follows c (with_restart m r x) (each_thread (welcome_waiting me m) user_threads c (with_restart m r x)) (each_thread (welcome_older me m r) user_threads)
      (walk-each (welcome_waiting me m) (walk-waiting m) user_threads c (with_restart m r x)) (walk-each (welcome_older me m r) (walk-older m r welcomed) user_threads)))
      (λ otherwise. walk-each (welcome_waiting me m) (walk-waiting m) user_threads c x)

  -- ---- refusals

  walk-take : (turned-to : Turn) (t : ThreadNo) (g : GroupId) (why : Refusal) (c : Client) (x : Tries) (now : Pending) → turn_of why ≡ turned-to
      → (open_at me t c ≡ Some (asked_as me t c now))
      → e ≡ event.Refused t (tried_at x t).attempt now.group (thread_at c t).number why → R c x (take_turn plan me turned-to t g why c x)
  walk-take (turn.Follows m) t g why c x now is held refused = walk-target m g c x (try_thread me t c (with_target g m x))
      (subst (λ o. R c (with_target g m x) (try_open o c (with_target g m x))) (sym held)
      (j.tries c (with_target g m x) (asked_as me t c now) held (inr (inr (inr (why, ap goes_on is, refused))))))
  walk-take turn.Moves t g why c x now is held refused = walk-turned plan.members g c x (stays c (pause c.clock t (turned plan.members g x)))
      (j.pauses c (turned plan.members g x) (asked_as me t c now) held (why, ap goes_on is, refused))
  walk-take turn.Waits t g why c x now is held refused = j.pauses c x (asked_as me t c now) held (why, ap goes_on is, refused)
  walk-take turn.Loses t g why c x now is held refused = subst (λ o. R c x (lose_open (turned plan.members g) o c x)) (sym held)
      (walk-lose (turned plan.members g) c x (asked_as me t c now) (walk-turned plan.members g c x) held
      (inr ((tried_at x t).attempt, refused ∙ ap (event.Refused t (tried_at x t).attempt now.group (thread_at c t).number) (lost-is why is))))
  walk-take turn.Ends t g why c x now is held refused = j.refuses c x t why

  walk-beat-turn : (turned-to : Turn) (g : GroupId) (c : Client) (x : Tries) → R c x (beat_turn plan me turned-to g c x)
  walk-beat-turn (turn.Follows m) g c x = walk-target m g c x (stays c (with_target g m x)) (k.rests c (with_target g m x))
  walk-beat-turn turn.Moves g c x = walk-turned plan.members g c x (stays c (turned plan.members g x)) (k.rests c (turned plan.members g x))
  walk-beat-turn turn.Waits g c x = k.rests c x
  walk-beat-turn turn.Loses g c x = k.rests c x
  walk-beat-turn turn.Ends g c x = k.rests c x

  -- a reply is to the open request
  reply-is : (t : ThreadNo) (g : GroupId) (n at : ℕ) (c : Client) (x : Tries) (why : Refusal) → e ≡ event.Refused t at g n why → is_open t g n c ≡ true → (tried_at x t).attempt ≡ at
      → (now : Pending) × ((thread_at c t).pending ≡ Some now) × (e ≡ event.Refused t (tried_at x t).attempt now.group (thread_at c t).number why)
  reply-is t g n at c x why refused held same = by (thread_at c t).pending refl held where
    by : (o : Option Pending) → (thread_at c t).pending ≡ o → is_to g n (thread_at c t).number o ≡ true
        → (now : Pending) × ((thread_at c t).pending ≡ Some now) × (e ≡ event.Refused t (tried_at x t).attempt now.group (thread_at c t).number why)
    by None is h = cc
    by (Some now) is h = let both = and-both (now.group.0 == g.0) (n == (thread_at c t).number) h in
        let group : now.group ≡ g = ap group_number (equal-numbers now.group.0 g.0 both.0) in
        let number : n ≡ (thread_at c t).number = equal-numbers n (thread_at c t).number both.1 in
        (now, is, refused ∙ ap (λ z. event.Refused t z g n why) (sym same) ∙ ap (λ z. event.Refused t (tried_at x t).attempt z n why) (sym group) ∙ ap (λ z. event.Refused t (tried_at x t).attempt now.group z why) number)

  walk-refuse : (t : ThreadNo) (at : ℕ) (g : GroupId) (n : ℕ) (why : Refusal) (c : Client) (x : Tries) → e ≡ event.Refused t at g n why → R c x (refuse_step plan me t at g n why c x)
  walk-refuse t at g n why c x refused = walk-if R c x (is_open t g n c && ((tried_at x t).attempt == at)) (if t.0 == 0 then beat_turn plan me (turn_of why) g c x else take_turn plan me (turn_of why) t g why c x) (stays c x)
      (λ counts. let both = and-both (is_open t g n c) ((tried_at x t).attempt == at) counts in
      let reply = reply-is t g n at c x why refused both.0 (equal-numbers (tried_at x t).attempt at both.1) in
      walk-if R c x (t.0 == 0) (beat_turn plan me (turn_of why) g c x) (take_turn plan me (turn_of why) t g why c x)
      (λ own. walk-beat-turn (turn_of why) g c x)
      (λ users. walk-take (turn_of why) t g why c x reply.0 refl (ap (as_asked me t (thread_at c t).number) reply.1) reply.2))
      (λ otherwise. k.rests c x)

  -- ---- the clock

  walk-follow : (what : Rule) (c : Client) (x : Tries) (a : Asked) → open_at me a.call.thread c ≡ Some a → Means what (tried_at x a.call.thread).paused (tried_at x a.call.thread).last (may_again a.op) → R c x (follow plan what a c x)
  walk-follow rule.Rests c x a held means = k.rests c x
  walk-follow rule.Tries c x a held means = j.tries c x a held (inr (inr (inl means)))
  walk-follow rule.Moves c x a held means = walk-turned plan.members a.group c x (tries_only c (try_request c.clock a (turned plan.members a.group x))) (j.tries c (turned plan.members a.group x) a held (ready means)) where
    ready : ((m : ℕ) × (at : ℕ) × ((tried_at x a.call.thread).last ≡ Some (how.Hello m at))) ⊎ (may_again a.op ≡ true) → IsReady e (turned plan.members a.group x) a
    ready (inl waits) = inl waits
    ready (inr again) = inr (inl again)
  walk-follow (rule.Knocks m r) c x a held means = j.knocks c x a m r held means

  walk-age : (t : ThreadNo) (c : Client) (x : Tries) → R c x (age_thread plan me t c x)
  walk-age t c x = by-open t c (λ o. R c x (age_open plan o c x)) (k.rests c x)
      (λ now is held. let a = asked_as me t c now in
      walk-follow (rule_of c.clock (may_again now.op) (tried_at x t)) c x a held (means-over c.clock (may_again now.op) (tried_at x t).paused (tried_at x t).last))

  walk-beat-to : (m : ℕ) (o : Option ℕ) (g : ℕ) (own : OwnSession) (c : Client) (x : Tries) → R c x (beat_to plan me m o g own c x)
  walk-beat-to m None g own c x = j.greets c x m
  walk-beat-to m (Some r) g own c x = walk-if R c x (may_try own_thread x) (with_tries (beat me g own c) x) (stays c x) (λ so. walk-beat plan me e true R k g own c x) (λ otherwise. k.rests c x)

  walk-beats : (sessions : Sessions) (c : Client) (x : Tries) → R c x (beat_groups plan me sessions c x)
  walk-beats [] c x = k.rests c x
  walk-beats (row ∷ sessions) c x = k.follows c x (beat_group plan me row.0 row.1 c x) (beat_groups plan me sessions)
      (walk-if R c x (is_due row.1 c) (beat_to plan me (target_of x (group_number row.0)) (restart_of x (target_of x (group_number row.0))) row.0 row.1 c x) (stays c x)
      (λ so. walk-beat-to (target_of x (group_number row.0)) (restart_of x (target_of x (group_number row.0))) row.0 row.1 c x) (λ otherwise. k.rests c x))
      (walk-beats sessions)

  walk-pass : (ms : ℕ) (c : Client) (x : Tries) → R (record c { clock = c.clock + ms }) x (pass_step plan me ms c x)
  walk-pass ms c x = let d = record c { clock = c.clock + ms } in k.follows d x (then_step (quietly (late_calls ms c) x) (each_thread (age_thread plan me) user_threads)) (beats_due plan me)
      (k.follows d x (quietly (late_calls ms c) x) (each_thread (age_thread plan me) user_threads) (walk-late plan me e true R k user_threads d x) (walk-each (age_thread plan me) walk-age user_threads))
      (λ f y. walk-beats f.sessions f y)

  -- each event, with members
  pub walk-with : (how-it-is : Event) → e ≡ how-it-is → (c : Client) (x : Tries) → R (after_clock how-it-is c) x (with_members plan me how-it-is c x)
  walk-with (event.Calls t o) is c x = walk-call plan me e true R k t o c x is
  walk-with (event.Passes ms) is c x = walk-pass ms c x
  walk-with (event.Welcomed m r) is c x = walk-welcome m r c x is
  walk-with (event.Answered t g n a) is c x = walk-answer plan me e true R k t g n a c x is
  walk-with (event.Refused t at g n why) is c x = walk-refuse t at g n why c x is

-- each event, without members
module _ (plan : Plan) (me : ClientId) (e : Event) (R : Client → Tries → Step → Type 0) (k : KeptCalls me e false R) where
  walk-alone-beats : (sessions : Sessions) (c : Client) (x : Tries) → R c x (quietly (beat_each me sessions c) x)
  walk-alone-beats [] c x = k.rests c x
  walk-alone-beats (row ∷ sessions) c x = k.follows c x (quietly (beat_if_due me row.0 row.1 c) x) (λ d y. quietly (beat_each me sessions d) y) (by (is_due row.1 c)) (walk-alone-beats sessions) where
    by : (b : Bool) → R c x (quietly (if b then beat me row.0 row.1 c else nothing c) x)
    by true = walk-beat plan me e false R k row.0 row.1 c x
    by false = k.rests c x

  pub walk-without : (how-it-is : Event) → e ≡ how-it-is → (c : Client) (x : Tries) → R (after_clock how-it-is c) x (without_members plan me how-it-is c x)
  walk-without (event.Calls t o) is c x = walk-call plan me e false R k t o c x is
  walk-without (event.Passes ms) is c x = let d = record c { clock = c.clock + ms } in
      k.follows d x (quietly (late_calls ms c) x) (λ f y. quietly (beats me f) y) (walk-late plan me e false R k user_threads d x) (λ f y. walk-alone-beats f.sessions f y)
  walk-without (event.Welcomed m r) is c x = k.rests c x
  walk-without (event.Answered t g n a) is c x = walk-answer plan me e false R k t g n a c x is
  walk-without (event.Refused t at g n why) is c x = k.rests c x

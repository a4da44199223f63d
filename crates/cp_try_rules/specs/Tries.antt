-- A request becomes tries: what a client knows of members and groups, and how it tries a request.
use Rattle.cp_base.specs.declared.limits.TheConstants.{LAST_NUMBER}
use Rattle.std.specs.Prelude.{ℕ, ◌+◌, Bool, ◌&&◌, not, List, [], ◌∷◌, ◌++◌, Option, Some, None, is_some, if◌then◌else◌, nat_lt}
use Rattle.std.specs.Ordering.{nat_cmp}
use Rattle.cp_base.specs.declared.identifier.GroupId.{GroupId}
use Rattle.cp_base.specs.declared.identifier.Invocation.{Invocation}
use Rattle.cp_base.specs.declared.identifier.ThreadNo.{ThreadNo}
use Rattle.cp_answers.specs.declared.answer.Answer.{Answer}
use Rattle.cp_answers.specs.declared.answer.Answer.TheVariants as answer
use Rattle.cp_group_state.specs.Rows.{find, put}
pub use Rattle.cp_try_rules.specs.declared.rows.Try.{Try}
use Rattle.cp_try_rules.specs.declared.rows.Try.TheVariants as how
pub use Rattle.cp_try_rules.specs.declared.rows.Tried.{Tried}
use Rattle.cp_try_rules.specs.declared.event.Says.{Says}
use Rattle.cp_try_rules.specs.declared.event.Says.TheVariants as says
use Rattle.cp_try_rules.specs.declared.event.Sent.{Sent}
use Rattle.cp_try_rules.specs.Clients.{Asked}

-- Lists under keys are in rising order of the keys.
pub record Tries : Type 0 where
  -- the greatest restart number that each member has told
  pub restarts : List (ℕ × ℕ)
  -- the member to which requests of a group go; member 1 where there is no row
  pub targets : List (ℕ × ℕ)
  pub threads : List (ℕ × Tried)

abbrev pub no_tries : Tries
no_tries = record { restarts = []; targets = []; threads = [] }

abbrev pub says_to : ℕ → Says → List Sent
says_to m s = record { to = m; says = s } ∷ []

-- tries after something, and what was sent
pub record Trying : Type 0 where
  pub tries : Tries
  pub sent : List Sent

abbrev pub unsent : Tries → Trying
unsent tries = record { tries = tries; sent = [] }

abbrev pub or_untried : Option Tried → Tried
or_untried None = record { attempt = 0; last = None; paused = None }
or_untried (Some row) = row

abbrev pub tried_at : Tries → ThreadNo → Tried
tried_at tries t = or_untried (find nat_cmp tries.threads t.0)

abbrev pub with_tried : Tries → ThreadNo → Tried → Tries
with_tried tries t row = record tries { threads = put nat_cmp tries.threads t.0 row }

abbrev pub restart_of : Tries → ℕ → Option ℕ
restart_of tries m = find nat_cmp tries.restarts m

abbrev pub or_first : Option ℕ → ℕ
or_first None = 1
or_first (Some m) = m

abbrev pub target_of : Tries → GroupId → ℕ
target_of tries g = or_first (find nat_cmp tries.targets g.0)

abbrev pub with_target : GroupId → ℕ → Tries → Tries
with_target g m tries = record tries { targets = put nat_cmp tries.targets g.0 m }

-- the member after this one, of so many
abbrev pub next_member : ℕ → ℕ → ℕ
next_member n m = if nat_lt m n then m + 1 else 1

-- requests of the group go to the next member, of so many
abbrev pub turned : ℕ → GroupId → Tries → Tries
turned n g tries = with_target g (next_member n (target_of tries g)) tries

-- whether the thread's next attempt has a number
abbrev pub may_try : ThreadNo → Tries → Bool
may_try t tries = nat_lt (tried_at tries t).attempt LAST_NUMBER

-- A start of the member that is known is asked. A member of which none is known is asked for it.
abbrev pub try_to : ℕ → Asked → ℕ → Option ℕ → Tries → Trying
try_to clock a m None tries = record {
  tries = with_tried tries a.call.thread (record { attempt = (tried_at tries a.call.thread).attempt; last = Some (how.Hello m clock); paused = None });
  sent = says_to m says.Hello;
}
try_to clock a m (Some r) tries = record {
  tries = with_tried tries a.call.thread (record { attempt = (tried_at tries a.call.thread).attempt + 1; last = Some (how.Attempt m r clock); paused = None });
  sent = says_to m (says.Asks ((tried_at tries a.call.thread).attempt + 1) r a);
}

-- a try of a request: it goes to the target of its group
abbrev pub try_request : ℕ → Asked → Tries → Trying
try_request clock a tries = if may_try a.call.thread tries then try_to clock a (target_of tries a.group) (restart_of tries (target_of tries a.group)) tries else unsent tries

-- a request begins, with nothing tried of it
abbrev pub fresh : ThreadNo → Tries → Tries
fresh t tries = with_tried tries t (record { attempt = (tried_at tries t).attempt; last = None; paused = None })

abbrev pub begin_request : ℕ → Asked → Tries → Trying
begin_request clock a tries = try_request clock a (fresh a.call.thread tries)

abbrev pub before_each : Trying → Trying → Trying
before_each first rest = record { tries = rest.tries; sent = first.sent ++ rest.sent }

abbrev pub begin_each : ℕ → List Asked → Tries → Trying
begin_each clock [] tries = unsent tries
begin_each clock (a ∷ asked) tries = let first = begin_request clock a tries in before_each first (begin_each clock asked first.tries)

-- the thread's request waits before it is tried again
abbrev pub pause : ℕ → ThreadNo → Tries → Tries
pause clock t tries = with_tried tries t (record (tried_at tries t) { paused = Some clock })

-- The first answer that names a group gives its first target. Groups 0 and 1 have theirs from the beginning.
abbrev pub first_target : GroupId → List ℕ → Tries → Tries
first_target g [] tries = tries
first_target g (m ∷ members) tries = if nat_lt 1 g.0 && not (is_some (find nat_cmp tries.targets g.0)) then with_target g m tries else tries

abbrev pub told : Answer → Tries → Tries
told (answer.Group g members) tries = first_target g members tries
told a tries = tries

abbrev pub told_each : List (Invocation × Answer) → Tries → Tries
told_each [] tries = tries
told_each (row ∷ ended) tries = told_each ended (told row.1 tries)

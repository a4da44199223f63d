-- Cases worked out by hand: ticks, requests, starts.
use Rattle.std.specs.Prelude.{ℕ, List, [], ◌∷◌}
use Rattle.cp_answers.specs.declared.answer.Answer.TheVariants as answer
use Rattle.cp_answers.specs.declared.refusal.Refusal.{Refusal}
use Rattle.cp_log_rules.specs.Persistent.{PersistentState, new_group}
use Rattle.cp_group_rules.specs.Worked.{three, call, led}
use Rattle.cp_member_rules.specs.Letters.{Letter, Asks, letter, reply, refuse, group_id}
use Rattle.cp_member_rules.specs.Members.{MemberState, started}
use Rattle.cp_member_rules.specs.MemberSteps.{MemberStep}
use Rattle.cp_member_rules.specs.Steps.{Passes}
use Rattle.cp_member_rules.specs.Worked.{machines, one, member, follower, leader, new_member, does, comes, stored}

-- ---- two groups in one tick

-- Both would take leadership.
abbrev pub first_tick : MemberStep
first_tick = does (new_member one) (Passes 0)

-- METADATA has taken it.
abbrev pub second_tick : MemberStep
second_tick = does (member ((0, led one []) ∷ (1, new_group one) ∷ []) ((0, leader) ∷ (1, follower) ∷ [])) (Passes 0)

-- ---- requests

-- attempt 2 of the client's first thread has come
abbrev pub attempted : MemberState
attempted = record (new_member three) { attempts = ((17, 1), 2) ∷ [] }

abbrev pub refused : ℕ → ℕ → Refusal → List Letter
refused attempt group why = letter 1 17 (refuse group (call 1) attempt why) ∷ []

abbrev pub destroyed : ℕ → ℕ → List Letter
destroyed attempt group = letter 1 17 (reply group (call 1) attempt (answer.GroupDestroyed (group_id group))) ∷ []

abbrev pub answered : ℕ → ℕ → List Letter
answered attempt group = letter 1 17 (reply group (call 1) attempt answer.Ok) ∷ []

-- what spells no operation
abbrev pub nonsense : MemberStep
nonsense = does attempted (comes 17 (Asks (call 1) 3 1 1 (255 ∷ [])))

-- ---- a start

-- the snapshot of group 1 restores no machine
abbrev pub snapped : PersistentState
snapped = record (new_group one) { base = 3; snapshot = 7 ∷ [] }

abbrev pub restarted : MemberState
restarted = started machines (stored ((0, new_group one) ∷ (1, new_group one) ∷ []))

-- The repeats of a call, and what it means that each call acts at most once.
use Rattle.std.specs.Prelude.{◌≡◌, ℕ, ◌+◌, ◌⊎◌, Bool, true, false, not, ◌&&◌, ◌==◌, List, [], ◌∷◌, ◌++◌, Option, Some, None, if◌then◌else◌, is_some, Contains}
use Rattle.std.specs.List.{list_any}
use Rattle.cp_base.specs.declared.identifier.Invocation.{Invocation}
use Rattle.cp_answers.specs.declared.answer.Answer.{Answer}
use Rattle.cp_answers.specs.declared.answer.Answer.TheVariants as answer
use Rattle.cp_ops.specs.declared.op.Op.{Op}
use Rattle.cp_ops.specs.declared.entry.Entry.{Entry}
use Rattle.cp_ops.specs.declared.entry.Entry.TheVariants as entry
use Rattle.cp_group_state.specs.Waiters.{same_call, stands}
use Rattle.cp_group_state.specs.GroupState.{GroupState, empty}
use Rattle.cp_group_state.specs.Protected.{down_in, is_protected}
use Rattle.cp_group_state.specs.Apply.{Applied, apply, run, supersede, changed, give_again}
use Rattle.cp_group_state.specs.History.{History}

-- An entry, or a repeat of a call in its place.
pub data EntryOrRepeat : Type 0 where
  Itself : Entry → EntryOrRepeat
  Repeat : Invocation → Op → EntryOrRepeat

-- A repeat ends the older waits of its thread, as each call does, and does nothing else.
abbrev pub apply_repeat : Invocation → GroupState → Applied
apply_repeat call s = if s.destroyed_group.0 == 0 then changed (supersede call s) else record { state = s; answers = [] }

abbrev pub apply_or_repeat : ℕ → EntryOrRepeat → GroupState → Applied
apply_or_repeat index (Itself e) s = apply index e s
apply_or_repeat index (Repeat call o) s = apply_repeat call s

abbrev pub run_without_repeats : ℕ → List EntryOrRepeat → GroupState → List Applied
run_without_repeats index [] s = []
run_without_repeats index (v ∷ vs) s = apply_or_repeat index v s ∷ run_without_repeats (index + 1) vs (apply_or_repeat index v s).state

abbrev pub is_full_answer : Answer → Bool
is_full_answer (answer.TableFull n) = true
is_full_answer a = false

-- whether the call was told that a table is full
abbrev pub is_refused : Invocation → Applied → Bool
is_refused call step = list_any (λ a. same_call call a.0 && is_full_answer a.1) step.answers

-- the call whose later entries are repeats after this one
abbrev pub settled_by : Entry → Applied → List Invocation
settled_by (entry.Call call o) step = if is_protected o && not (is_some (down_in o) && is_refused call step) then call ∷ [] else []
settled_by e step = []

-- an entry of a call that was seen is a repeat
abbrev pub without_repeat : List Invocation → Entry → EntryOrRepeat
without_repeat seen (entry.Call call o) =
    if is_protected o && list_any (same_call call) seen then Repeat call o else Itself (entry.Call call o)
without_repeat seen e = Itself e

-- the entries from this index on, where these calls were seen before
abbrev pub without_repeats_from : ℕ → List Invocation → List Entry → GroupState → List EntryOrRepeat
without_repeats_from index seen [] s = []
without_repeats_from index seen (e ∷ es) s =
    without_repeat seen e ∷ without_repeats_from (index + 1) (settled_by e (apply index e s) ++ seen) es (apply index e s).state

-- A history in which each later entry of a protected call is a repeat. A countdown that was refused, since too many calls
-- were counted, may still count at its next entry.
abbrev pub without_repeats : History → List EntryOrRepeat
without_repeats history = without_repeats_from 1 [] history empty

-- what a repeat may be answered beside what the call was told
abbrev pub IsOwnAnswer : Op → Answer → Type 0
IsOwnAnswer o (answer.Stale n) = Unit {0}
IsOwnAnswer o (answer.SessionExpired n) = Unit {0}
IsOwnAnswer o answer.ObjectDestroyed = Unit {0}
IsOwnAnswer o (answer.GroupDestroyed g) = Unit {0}
IsOwnAnswer o answer.Ok = is_some (down_in o) ≡ true
IsOwnAnswer o a = ⊥

-- a repeat may be answered by what the call was told before, or by one of these
abbrev pub MayAnswer : List (Invocation × Answer) → Invocation → Op → Option Answer → Type 0
MayAnswer told call o None = Unit {0}
MayAnswer told call o (Some a) = Contains told (call, a) ⊎ IsOwnAnswer o a

-- Where a repeat stands for the call, its own answer alone is missing.
pub record IsRepeat (told : List (Invocation × Answer)) (call : Invocation) (o : Op) (marked whole : Applied) : Type 0 where
  pub own : Option Answer
  pub answers : whole.answers ≡ marked.answers ++ give_again call own
  pub may : MayAnswer (told ++ marked.answers) call o own
  -- no answer comes while the call still waits
  pub waits : stands call whole.state.waiters ≡ true → own ≡ None

abbrev pub SameAnswers : List (Invocation × Answer) → EntryOrRepeat → Applied → Applied → Type 0
SameAnswers told (Itself e) marked whole = marked.answers ≡ whole.answers
SameAnswers told (Repeat call o) marked whole = IsRepeat told call o marked whole

-- At each index the two runs have the same state, and the same answers save a repeat's own.
abbrev pub Agree : List (Invocation × Answer) → List EntryOrRepeat → List Applied → List Applied → Type 0
Agree told [] [] [] = Unit {0}
Agree told (v ∷ vs) (a ∷ marked) (b ∷ whole) = (a.state ≡ b.state) × SameAnswers told v a b × Agree (told ++ b.answers) vs marked whole
Agree told vs marked whole = ⊥

-- With repeats in place of later entries, all comes out the same but for the repeats' own answers.
abbrev pub ActsAtMostOnce : History → Type 0
ActsAtMostOnce history = Agree [] (without_repeats history) (run_without_repeats 1 (without_repeats history) empty) (run 1 history empty)

-- Where a run keeps the limits, and where it passes one.
use Rattle.std.proofs.Common.{◌≡◌, ◌≤◌, ◌<◌, ◌+◌, ℕ, List, [], ◌∷◌, ◌++◌, length, take, get_or, zero, suc, Some, None, refl, sym, ◌∙◌, ap, subst, arith}
use Rattle.std.specs.Prelude.{slice_get}
use Rattle.std.proofs.lemmas.List.{take_more, take_all}
use Rattle.cp_events.specs.declared.event.Event.{Event}
use Rattle.cp_events.specs.declared.plan.Plan.{Plan}
use Rattle.cp_events.specs.declared.schedule.Line.{Line}
use Rattle.cp_events.specs.declared.schedule.Line.TheVariants as line
use Rattle.cp_world_rules.specs.Execution.{events_of}
use borrow.Author.Count.{below_more}
use Rattle.cp_schedule.specs.Reading.{line_of_event}
use Rattle.cp_tool.specs.Limits.{beyond, IsLimit, KeepsLimits, passed, text_of}
use Rattle.cp_tool.specs.declared.status.LimitName.{LimitName}
use Rattle.cp_tool.specs.Running.{Follows, Runs, GoesOn, Halts}
use Rattle.cp_tool.specs.declared.running.Running.{Running}
use Rattle.cp_tool.specs.declared.running.Halt.TheVariants as halt
use Rattle.cp_tool.proofs.Beyond.{few_events}

nothing_behind : {X : Type 0} (xs : List X) → xs ++ [] ≡ xs
nothing_behind [] = refl
nothing_behind (x ∷ xs) = ap (λ ys. x ∷ ys) (nothing_behind xs)

pub few : (plan : Plan) (events : List Event) (r : Running) → Runs plan events r → length events ≤ 100000
few plan events r runs = few_events (length events) (length (text_of plan events)) runs.kept

-- no event more
pub goes_on_idly : (plan : Plan) (r : Running) → GoesOn plan [] r r
goes_on_idly plan r = record { runs = λ events runs. subst (λ es. Runs plan es r) (sym (nothing_behind events)) runs }

-- what is beyond its limit after an event more
now : (plan : Plan) (events : List Event) (e : Event) (new : Running) (bytes : ℕ) → Follows plan (events ++ e ∷ []) new
    → ((es : List Event) → Follows plan es new → bytes ≡ length (text_of plan es))
    → beyond new.events bytes ≡ passed plan (events ++ e ∷ [])
now plan events e new bytes follows counts =
    ap (λ n. beyond n bytes) follows.count ∙ ap (λ n. beyond (length (events ++ e ∷ [])) n) (counts (events ++ e ∷ []) follows)

pub halts_there : (plan : Plan) (e : Event) (old new : Running) (bytes : ℕ) (name : LimitName)
    → ((events : List Event) → Follows plan events old → Follows plan (events ++ e ∷ []) new)
    → ((events : List Event) → Follows plan events new → bytes ≡ length (text_of plan events))
    → beyond new.events bytes ≡ Some name → Halts (halt.Limit name) plan (e ∷ []) old
halts_there plan e old new bytes name goes counts there = record { halts = λ events runs. sym (now plan events e new bytes (goes events runs.follows) counts) ∙ there }

pub goes_on_there : (plan : Plan) (e : Event) (old new : Running) (bytes : ℕ)
    → ((events : List Event) → Follows plan events old → Follows plan (events ++ e ∷ []) new)
    → ((events : List Event) → Follows plan events new → bytes ≡ length (text_of plan events))
    → beyond new.events bytes ≡ None → GoesOn plan (e ∷ []) old new
goes_on_there plan e old new bytes goes counts none = record {
  runs = λ events runs. record {
    follows = goes events runs.follows;
    kept = sym (now plan events e new bytes (goes events runs.follows) counts) ∙ none;
  };
}

events_more : (lines : List Line) (l : Line) → events_of (lines ++ l ∷ []) ≡ events_of lines ++ events_of (l ∷ [])
events_more [] l = refl
events_more (line.Settle n ∷ lines) l = events_more lines l
events_more (line.One e ∷ lines) l = ap (λ es. e ∷ es) (events_more lines l)

-- the events of one line more
pub next_events : (lines : List Line) (i : ℕ) (l : Line) → i < length lines → l ≡ get_or lines i l
    → events_of (take i lines) ++ events_of (l ∷ []) ≡ events_of (take (i + 1) lines)
next_events lines i l within is =
    sym (events_more (take i lines) l)
    ∙ ap (λ x. events_of (take i lines ++ x ∷ [])) is
    ∙ ap events_of (sym (take_more lines i l within))

no_limit : (name : LimitName) → Some name ≡ None → ⊥
no_limit name same = cc

-- one more place at which none is beyond its limit
pub kept_more : (plan : Plan) (lines : List Line) (i : ℕ) → KeepsLimits plan lines i → passed plan (events_of (take (i + 1) lines)) ≡ None → KeepsLimits plan lines (i + 1)
kept_more plan lines i kept here k within =
    below_more (λ n. passed plan (events_of (take n lines)) ≡ None) (i + 1) (λ n before. kept n (omega arith)) here k (omega arith)

stands : (lines : List Line) (i : ℕ) (l : Line) → i < length lines → slice_get lines i ≡ Some (get_or lines i l)
stands [] i l within = absurd (omega arith)
stands (x ∷ lines) zero l within = refl
stands (x ∷ lines) (suc i) l within = stands lines i l (omega arith)

-- The run halts at the event of this line.
pub limit_here : (plan : Plan) (lines : List Line) (i number : ℕ) (l : Line) (name : LimitName) (r : Running)
    → i < length lines → l ≡ get_or lines i l → number ≡ line_of_event plan i
    → Runs plan (events_of (take i lines)) r → KeepsLimits plan lines i → Halts (halt.Limit name) plan (events_of (l ∷ [])) r
    → IsLimit plan lines number name
limit_here plan lines i number (line.Settle n) name r within is at runs kept halts =
    let idle = nothing_behind (events_of (take i lines)) in
    let none = runs.kept in
    let some : passed plan (events_of (take i lines)) ≡ Some name =
    subst (λ es. passed plan es ≡ Some name) idle (halts.halts (events_of (take i lines)) runs) in
    absurd (no_limit name (sym some ∙ none))
limit_here plan lines i number (line.One e) name r within is at runs kept halts = record {
  place = i;
  number_is = at;
  event = e;
  stands = stands lines i (line.One e) within ∙ ap Some (sym is);
  kept = kept;
  passes = subst (λ es. passed plan es ≡ Some name) (next_events lines i (line.One e) within is) (halts.halts (events_of (take i lines)) runs);
}

-- no line is left
pub runs_all : (plan : Plan) (lines : List Line) (i : ℕ) (r : Running) → length lines ≤ i
    → Runs plan (events_of (take i lines)) r → Runs plan (events_of lines) r
runs_all plan lines i r none runs = subst (λ ls. Runs plan (events_of ls) r) (take_all i lines none) runs

pub kept_all : (plan : Plan) (lines : List Line) (i : ℕ) → length lines ≤ i → KeepsLimits plan lines i → KeepsLimits plan lines (length lines)
kept_all plan lines i none kept = λ k within. kept k (omega (arith, none, within))

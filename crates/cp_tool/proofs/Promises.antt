-- What was written for the bytes that a source gave keeps the promises.
use Rattle.std.proofs.Common.{◌≡◌, ◌≤◌, ℕ, List, ◌++◌, [], Option, Some, None, length, take, refl, sym, ◌∙◌, ap, subst, arith}
use Rattle.std.specs.Prelude.{IfSome, ◌∷◌}
use Rattle.std.specs.Io.KnownBytes.{Appends, Consumes, IsAtEnd}
use Rattle.std.proofs.lemmas.List.{take_all}
use Rattle.cp_base.specs.Faults.{AppendsFront}
use Rattle.cp_io.specs.Causes.{GaveAll}
use Rattle.cp_events.specs.declared.plan.Plan.{Plan}
use Rattle.cp_events.specs.declared.schedule.Line.{Line}
use Rattle.cp_events.specs.declared.schedule.Schedule.{Schedule}
use Rattle.cp_schedule.specs.Reading.{IsRead}
use Rattle.cp_world_rules.specs.World.{new_world}
use Rattle.cp_world_rules.specs.Execution.{Settled, events_of, executed, execution_of}
use Rattle.cp_transcript.specs.Transcripts.{transcript_of}
use Rattle.cp_world_rules.proofs.Kept.{headline-kept, lines-same}
use Rattle.cp_tool.specs.Limits.{IsLimit, KeepsLimits, text_of}
use Rattle.cp_tool.specs.Running.{IsWhole}
use Rattle.cp_tool.specs.Runs.{Limits, Replays, ReplaysFront}
use Rattle.cp_tool.specs.declared.status.LimitName.{LimitName}
use Rattle.cp_tool.proofs.Beyond.{few_events}

append_nil : {A : Type 0} (xs : List A) → xs ++ [] ≡ xs
append_nil [] = refl
append_nil (x ∷ xs) = ap (λ ys. x ∷ ys) (append_nil xs)

-- a source that gave these bytes and no more held these bytes
held : (left now : Option (List ℕ)) (bytes : List ℕ) (P : List ℕ → Type 0) → Consumes left now bytes → IsAtEnd now → P bytes → IfSome left P
held None now bytes P taken ended p = tt
held (Some xs) None bytes P taken ended p = absurd taken
held (Some xs) (Some ys) bytes P taken ended p = subst P (sym (taken ∙ ap (λ t. bytes ++ t) ended ∙ append_nil bytes)) p

-- lines that keep the limits have few events
few_in_all : (plan : Plan) (lines : List Line) → KeepsLimits plan lines (length lines) → length (events_of lines) ≤ 100000
few_in_all plan lines kept =
    subst (λ ls. length (events_of ls) ≤ 100000) (take_all (length lines) lines (omega arith))
    (few_events (length (events_of (take (length lines) lines))) (length (text_of plan (events_of (take (length lines) lines)))) (kept (length lines) (omega arith)))

-- lines that settle nothing stand for no event
same_text : (s : Schedule) → text_of s.plan (events_of s.lines) ≡ transcript_of (execution_of s Settled)
same_text s = ap (λ w. transcript_of (executed w)) (sym (lines-same s.plan s.lines new_world))

pub replays : (left now : Option (List ℕ)) (bytes : List ℕ) (s : Schedule) (before after : Option (List ℕ)) (text : List ℕ)
    → GaveAll 16777216 left now bytes → IsRead bytes s → IsWhole s.plan s.lines text → Appends before after text
    → IfSome left (λ bs. Replays bs before after)
replays left now bytes s before after text gave spelled whole appended =
    let few = few_in_all s.plan s.lines whole.kept in
    held left now bytes (λ bs. Replays bs before after) gave.taken gave.ended (record {
      schedule = s;
      spelled = spelled;
      limits = whole.kept;
      outcomes = Settled;
      allowed = tt;
      transcript = subst (λ t. Appends before after t) (whole.text_is ∙ same_text s) appended;
      headline = headline-kept s Settled (omega (arith, few));
    })

pub replays_front : (left now : Option (List ℕ)) (bytes : List ℕ) (s : Schedule) (before after : Option (List ℕ)) (text : List ℕ)
    → GaveAll 16777216 left now bytes → IsRead bytes s → IsWhole s.plan s.lines text → AppendsFront before after text
    → IfSome left (λ bs. ReplaysFront bs before after)
replays_front left now bytes s before after text gave spelled whole appended =
    held left now bytes (λ bs. ReplaysFront bs before after) gave.taken gave.ended (record {
      schedule = s;
      spelled = spelled;
      limits = whole.kept;
      outcomes = Settled;
      allowed = tt;
      front = subst (λ t. AppendsFront before after t) (whole.text_is ∙ same_text s) appended;
    })

pub limited : (left now : Option (List ℕ)) (bytes : List ℕ) (s : Schedule) (line : ℕ) (name : LimitName)
    → GaveAll 16777216 left now bytes → IsRead bytes s → IsLimit s.plan s.lines line name
    → IfSome left (Limits line name)
limited left now bytes s line name gave spelled limit =
    held left now bytes (Limits line name) gave.taken gave.ended (record { schedule = s; spelled = spelled; limit = limit })

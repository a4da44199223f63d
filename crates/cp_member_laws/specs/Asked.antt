-- What a request makes: nothing, or one entry at the end of its group's log, which is the one that it asks for.
use Rattle.std.specs.Prelude.{◌≡◌, ◌⊎◌, ℕ, suc, List, [], ◌∷◌, Some, Ok}
use Rattle.cp_grammar.specs.Grammar.{whole}
use Rattle.cp_log_rules.specs.Persistent.{PersistentState, last}
use Rattle.cp_ops.specs.declared.entry.Entry.TheVariants as entry
use Rattle.cp_ops.specs.declared.op.Op.{Op}
use Rattle.cp_ops.specs.declared.op.Op.TheVariants as op
use Rattle.cp_ops.specs.Ops.{op_grammar}
use Rattle.cp_parts.specs.declared.part.Part.{Part}
use Rattle.cp_parts.specs.declared.part.Part.TheVariants as part
use Rattle.cp_rules.specs.declared.outcome.Outcome.{Outcome}
use Rattle.cp_rules.specs.declared.outcome.Outcome.TheVariants as outcome
use Rattle.cp_rules.specs.Changes.{changed}
use Rattle.cp_rules.specs.Persistent.{members}
use Rattle.cp_rules.specs.Spelling.{members_entry}
use Rattle.cp_group_rules.specs.Events.{change_of, entry_bytes}
use Rattle.cp_member_rules.specs.Letters.{Request, group_id}
use Rattle.cp_member_rules.specs.Machines.{Machines, Setup}
use Rattle.cp_member_rules.specs.Members.{MemberState, stored_at}
use Rattle.cp_member_rules.specs.MemberSteps.{MemberStep}
use Rattle.cp_member_rules.specs.Steps.{MemberEvent, member_step}
use Rattle.cp_member_laws.specs.Runs.{request_in}

-- the entry of a call, or the members entry that it asks for
abbrev pub asked_entry : Request → Op → PersistentState → List ℕ
asked_entry r (op.Change o) p = members_entry (Some r.call) 0 (changed (change_of o) (members p))
asked_entry r o p = entry_bytes (entry.Call r.call o)

abbrev pub asked_part : Request → Op → PersistentState → Part
asked_part r o p = part.Append (group_id r.group) p.term p.vote (last p) (record { term = p.term; bytes = asked_entry r o p } ∷ [])

abbrev pub IsProposed : Outcome → Type 0
IsProposed outcome.Done = ⊥
IsProposed (outcome.Proposed index) = Unit {0}
IsProposed (outcome.Refused refusal) = ⊥

pub record MakesNothing (e : MemberStep) : Type 0 where
  pub parts : e.parts ≡ []
  pub outcome : IsProposed e.outcome → ⊥

pub record MakesIts (r : Request) (o : Op) (p : PersistentState) (e : MemberStep) : Type 0 where
  pub parts : e.parts ≡ asked_part r o p ∷ []
  pub outcome : e.outcome ≡ outcome.Proposed (suc (last p))

module _ {V : Type 0} (ms : Machines V) (setup : Setup) where
  abbrev pub MakesWhatIsAsked : Type 0
  MakesWhatIsAsked = (me : ℕ) (member : MemberState) (event : MemberEvent) (r : Request) (o : Op) → request_in me event ≡ Some r → whole op_grammar r.op ≡ Ok o
      → MakesNothing (member_step ms setup me member event) ⊎ MakesIts r o (stored_at member r.group) (member_step ms setup me member event)

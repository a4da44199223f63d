-- A request that comes to a member: the member's own tests, in their order; then those of the group.
use Rattle.std.specs.Prelude.{ℕ, Option, Some, None, Result, Ok, Err, ◌==◌, nat_le, if◌then◌else◌}
use Rattle.cp_answers.specs.declared.answer.Answer.TheVariants as answer
use Rattle.cp_answers.specs.declared.refusal.Refusal.TheVariants as refusal
use Rattle.cp_grammar.specs.Grammar.{whole}
use Rattle.cp_group_state.specs.Rows.{put}
use Rattle.cp_log_rules.specs.Durable.{has_ended}
use Rattle.cp_ops.specs.declared.op.Op.{Op}
use Rattle.cp_ops.specs.Ops.{op_grammar}
use Rattle.cp_group_rules.specs.Events as groups
use Rattle.cp_group_rules.specs.Groups.{VolatileGroup}
use Rattle.cp_member_rules.specs.Acting.{acts_in}
use Rattle.cp_member_rules.specs.MemberSteps.{MemberStep, says}
use Rattle.cp_member_rules.specs.Letters.{Request, Welcome, reply, refuse, is_client, group_id}
use Rattle.cp_member_rules.specs.Machines.{Machines, Setup}
use Rattle.cp_member_rules.specs.Members.{MemberState, endpoint_cmp, last_attempt, group_at}

-- It is the last attempt of its endpoint by now, also where it is then refused.
abbrev pub attempted : Request → MemberState → MemberState
attempted r x = record x { attempts = put endpoint_cmp x.attempts (r.from, r.call.thread.0) r.attempt }

module _ {V : Type 0} (ms : Machines V) (setup : Setup) (me : ℕ) where
  abbrev pub in_group : Request → Op → Option VolatileGroup → MemberStep → MemberStep
  in_group r o None s = says me r.from (refuse r.group r.call r.attempt refusal.NoGroup) s
  in_group r o (Some g) s = acts_in ms setup me r.group (groups.Asks r.from r.call r.attempt o) (Some g) s

  abbrev pub if_not_ended : Request → Op → MemberStep → MemberStep
  if_not_ended r o s = if has_ended s.state.stored r.group
      then says me r.from (reply r.group r.call r.attempt (answer.GroupDestroyed (group_id r.group))) s
      else in_group r o (group_at s.state r.group) s

  -- of one endpoint only an attempt above all before
  abbrev pub if_new : Request → Op → MemberStep → MemberStep
  if_new r o s = if nat_le r.attempt (last_attempt s.state r.from r.call.thread.0) then s
      else if_not_ended r o (record s { state = attempted r s.state })

  -- this start of the member alone
  abbrev pub if_started : Request → Op → MemberStep → MemberStep
  if_started r o s = if r.restart == s.state.stored.restart then if_new r o s else says me r.from (Welcome s.state.stored.restart) s

  abbrev pub if_read : Request → Result Op ℕ → MemberStep → MemberStep
  if_read r (Ok o) s = if_started r o s
  if_read r (Err place) s = s

  abbrev pub requests : Request → MemberStep → MemberStep
  requests r s = if is_client r.from then if_read r (whole op_grammar r.op) s else s

-- Creations are what the group's rule of sessions says.
use Rattle.std.proofs.Common.{◌≡◌, ℕ, Bool, true, false, Option, Some, None, refl, cond}
use Rattle.std.specs.Ordering.{nat_cmp}
use Rattle.cp_group_state.specs.declared.rows.SessionRow.{SessionRow}
use Rattle.cp_group_state.specs.Rows.{has_room, most}
use Rattle.cp_group_state.specs.Sessions.{session_of}
use Rattle.cp_group_state.specs.GroupState.{GroupState}
use Rattle.cp_group_state.specs.Outcomes.{Outcome, answered}
use Rattle.cp_group_state.specs.SessionRules.{opened}
use Rattle.cp_session.specs.Creation.{Created, created_from}
use Rattle.cp_session.specs.Rule.{CreationsFollowTheRule, creation_answer}

-- the outcome by what is created
outcome_of : GroupState → Created → Outcome
outcome_of s c = answered (creation_answer c.number) (record s { sessions = c.rows })

choice : (s : GroupState) (b : Bool) (x y : Created) → cond b (outcome_of s x) (outcome_of s y) ≡ outcome_of s (cond b x y)
choice s true x y = refl
choice s false x y = refl

pub creations_follow : CreationsFollowTheRule
unfolding outcome_of
creations_follow index call s = by (session_of s.sessions call.client) where
  by : (o : Option (ℕ × SessionRow)) → opened index call o s ≡ outcome_of s (created_from s.sessions index call.client o)
  by (Some e) = refl
  by None = choice s (has_room nat_cmp most s.sessions index) _ _

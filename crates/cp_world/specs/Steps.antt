-- Steps of a world by their parts.
use Rattle.cp_base.specs.Identifiers.{replay_id}
use Rattle.cp_base.specs.declared.identifier.ClientNo.{ClientNo}
use Rattle.cp_base.specs.declared.identifier.Invocation.{Invocation}
use Rattle.cp_base.specs.declared.identifier.ThreadNo.{ThreadNo}
use Rattle.cp_answers.specs.declared.answer.Answer.{Answer}
use Rattle.cp_events.specs.declared.plan.Plan.{Plan}
use Rattle.cp_events.specs.declared.user_op.UserOp.{UserOp}
use Rattle.cp_client_rules.specs.Answers.{answer_client}
use Rattle.cp_client_rules.specs.Clients.{thread_at}
use Rattle.cp_world_rules.specs.World.{World, calls_if_idle, client_at, does}

-- a thread makes one call at a time
abbrev pub calls : Plan → ClientNo → ThreadNo → UserOp → World → World
calls plan me t o w = calls_if_idle plan me t o (thread_at (client_at w me) t).pending w

-- an answer is handed to this client
abbrev pub hand_to : Plan → ClientNo → Invocation → Answer → World → World
hand_to plan me request a w = does me (answer_client plan (replay_id me) request a (client_at w me)) w

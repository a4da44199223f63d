-- Histories grow.
use Rattle.std.proofs.Common.{◌≡◌, ◌≤◌, ◌+◌, List, [], ◌∷◌, ◌++◌, length, refl, arith, length-append}
use Rattle.cp_base.specs.declared.identifier.ClientNo.{ClientNo}
use Rattle.cp_base.specs.declared.identifier.Invocation.{Invocation}
use Rattle.cp_answers.specs.declared.answer.Answer.{Answer}
use Rattle.cp_events.specs.declared.event.Event.{Event}
use Rattle.cp_events.specs.declared.plan.Plan.{Plan}
use Rattle.cp_ops.specs.declared.entry.Entry.TheVariants as entry
use Rattle.cp_client_rules.specs.Clients.{Asked, Did}
use Rattle.cp_base.specs.Identifiers.{replay_id}
use Rattle.cp_client_rules.specs.Answers.{answer_client}
use Rattle.cp_world_rules.specs.World.{World, client_at, client_of, commit, commit_all, does, hand_all, hand_on, handed, note, world_after, world_step}

pub commit_grows : (a : Asked) (w : World) → length (commit a w).history ≡ length w.history + 1
commit_grows a w = length-append w.history (record { event = w.shown.number; entry = entry.Call a.call a.op } ∷ [])

pub commit_all_grows : (asked : List Asked) (w : World) → length w.history ≤ length (commit_all asked w).history
commit_all_grows [] w = omega arith
commit_all_grows (a ∷ asked) w = let one = commit_grows a w in let rest = commit_all_grows asked (commit a w) in omega arith

pub does_grows : (me : ClientNo) (d : Did) (w : World) → length w.history ≤ length (does me d w).history
does_grows me d w = commit_all_grows d.asked (note me d w)

pub hand_all_grows : (plan : Plan) (queue : List (Invocation × Answer)) (w : World) → length w.history ≤ length (hand_all plan queue w).history
hand_all_grows plan [] w = omega arith
hand_all_grows plan (a ∷ queue) w = let rest = hand_all_grows plan queue (hand_on plan a w) in let mine = does_grows (client_of a.0) (answer_client plan (replay_id (client_of a.0)) a.0 a.1 (client_at w (client_of a.0))) w in let same : length (hand_on plan a w).history ≡ length (does (client_of a.0) (answer_client plan (replay_id (client_of a.0)) a.0 a.1 (client_at w (client_of a.0))) w).history = refl in omega arith

pub handed_grows : (plan : Plan) (w : World) → length w.history ≤ length (handed plan w).history
handed_grows plan w = hand_all_grows plan w.queue (record w { queue = [] })

-- one event more
pub after_step : (plan : Plan) (events : List Event) (e : Event) (w : World) → world_after plan w (events ++ e ∷ []) ≡ world_step plan (world_after plan w events) e
after_step plan [] e w = refl
after_step plan (x ∷ events) e w = after_step plan events e (world_step plan w x)

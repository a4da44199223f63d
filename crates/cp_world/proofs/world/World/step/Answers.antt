use Rattle.std.proofs.Common.{refl}
use Rattle.cp_world.proofs.Events.{follows_same, reached_same, step_same}
use Rattle.cp_world.proofs.world.World.step.Goals as goal

pub step-requires : goal.step-requires
step-requires c = reached_same c.args.self.now _ refl refl refl refl refl c.args.plan.now c.requires

pub returns : goal.returns
returns c = λ w f. step_same c.step.new.world _ refl refl refl refl refl c.args.plan.now c.args.event.now w c.step.new.turn
    (c.in_ok-step.ensures w (follows_same c.args.self.now _ refl refl refl refl refl w f))

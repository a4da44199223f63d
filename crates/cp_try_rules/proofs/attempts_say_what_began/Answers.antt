use Rattle.cp_try_rules.proofs.Begun.{all-begun}
use Rattle.cp_try_rules.proofs.Rising.{requests-rise, rise-same}
use Rattle.cp_try_rules.specs.Laws.{begun_by}
use Rattle.cp_try_rules.proofs.attempts_say_what_began.Goals as goal

pub returns : goal.returns
returns c = record {
  begun = all-begun;
  same = λ plan me events m m2 k k2 r r2 a b p q. rise-same (begun_by plan me events) (requests-rise me plan events) a b (all-begun plan me events m k r a p) (all-begun plan me events m2 k2 r2 b q);
}

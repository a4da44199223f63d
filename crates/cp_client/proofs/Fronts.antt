-- The first of several steps.
use Rattle.std.proofs.Common.{◌≡◌, ◌≤◌, ◌<◌, ◌-◌, ℕ, List, [], ◌∷◌, length, get_or, take, drop, ap, subst, ◌∙◌, arith}
use Rattle.std.proofs.Math.Seq.{take-length}
use Rattle.cp_base.specs.declared.identifier.ClientId.{ClientId}
use Rattle.cp_base.specs.declared.identifier.ThreadNo.{ThreadNo}
use Rattle.cp_client_rules.specs.declared.rows.OwnSession.{OwnSession}
use Rattle.cp_client_rules.specs.Clients.{Client}
use Rattle.cp_client_rules.specs.Ticks.{beat_each, beat_if_due, end_each, end_late}
use Rattle.cp_client.specs.declared.output.ClientOut.{ClientOut}
use Rattle.cp_client.specs.Steps.{Gives}
use Rattle.cp_client.proofs.Steps.{nothing_gives, then_gives}

behind : {X : Type 0} (y : X) (ys : List X) → take (length (y ∷ ys) - 1) ys ≡ ys
behind y ys = ap (λ (n : ℕ). take n ys) one_less ∙ take-length ys where
  one_less : length (y ∷ ys) - 1 ≡ length ys
  one_less = omega arith

pub late_front : (rest : List ThreadNo) (d : ThreadNo) (client mid last : Client) (x y z : ClientOut) → 1 ≤ length rest → Gives (end_late (get_or rest 0 d) client) mid x y
    → Gives (end_each (take (length rest - 1) (drop 1 rest)) mid) last y z → Gives (end_each rest client) last x z
late_front [] d client mid last x y z h one g = absurd (omega arith)
late_front (t ∷ rest) d client mid last x y z h one g = then_gives (end_late t client) (end_each rest) mid last x y z one (subst (λ (r : List ThreadNo). Gives (end_each r mid) last y z) (behind t rest) g)

pub late_none : (rest : List ThreadNo) (client : Client) (x : ClientOut) → length rest < 1 → Gives (end_each rest client) client x x
late_none [] client x h = nothing_gives client x
late_none (t ∷ rest) client x h = absurd (omega arith)

module _ (me : ClientId) where
  pub beat_front : (rest : List (ℕ × OwnSession)) (d : ℕ × OwnSession) (client mid last : Client) (x y z : ClientOut) → 1 ≤ length rest → Gives (beat_if_due me (get_or rest 0 d).0 (get_or rest 0 d).1 client) mid x y
      → Gives (beat_each me (take (length rest - 1) (drop 1 rest)) mid) last y z → Gives (beat_each me rest client) last x z
  beat_front [] d client mid last x y z h one g = absurd (omega arith)
  beat_front (row ∷ rest) d client mid last x y z h one g = then_gives (beat_if_due me row.0 row.1 client) (beat_each me rest) mid last x y z one (subst (λ (r : List (ℕ × OwnSession)). Gives (beat_each me r mid) last y z) (behind row rest) g)

  pub beat_none : (rest : List (ℕ × OwnSession)) (client : Client) (x : ClientOut) → length rest < 1 → Gives (beat_each me rest client) client x x
  beat_none [] client x h = nothing_gives client x
  beat_none (row ∷ rest) client x h = absurd (omega arith)

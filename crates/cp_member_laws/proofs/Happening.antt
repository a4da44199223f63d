-- One event at a member.
use Rattle.std.proofs.Common.{◌≡◌, ℕ, Bool, true, false, Some, None, Option, refl, zero-le, if◌then◌else◌}
use Rattle.std.specs.Prelude.{◌==◌, is_ok}
use Rattle.cp_grammar.specs.Grammar.{whole}
use Rattle.cp_ops.specs.Ops.{op_grammar}
use Rattle.cp_member_rules.specs.Letters.{Request, Talk, Hello, Welcome, Asks, Reply, Refuse, StartGroup, Told, Did, Raft, is_client}
use Rattle.cp_member_rules.specs.Machines.{Machines, Setup}
use Rattle.cp_member_rules.specs.Members.{MemberState}
use Rattle.cp_member_rules.specs.MemberSteps.{MemberStep, unmoved}
use Rattle.cp_member_rules.specs.Requesting.{if_read}
use Rattle.cp_member_rules.specs.Steps.{MemberEvent, Passes, Gets, gets, member_step}
use Rattle.cp_member_laws.specs.Runs.{asked, request_in}
use Rattle.cp_member_laws.proofs.Following.{Follows, same, relax}
use Rattle.cp_member_laws.proofs.Rules.{follows_member, follows_hello}
use Rattle.cp_member_laws.proofs.Ticking.{follows_ticks}
use Rattle.cp_member_laws.proofs.Requesting.{Answered, answered}

module _ {V : Type 0} (ms : Machines V) (setup : Setup) (me : ℕ) (key : ℕ → ℕ → ℕ → Bool) where
  -- an event with this request, or without one
  pub data Goes (o : Option Request) (d e : MemberStep) : Type 0 where
    Plain : o ≡ None → Follows key 1 d e → Goes o d e
    Asked : (r : Request) → o ≡ Some r → Answered ms setup me key r (is_ok (whole op_grammar r.op)) d e → Goes o d e

  still : (d : MemberStep) → Goes None d d
  still d = Plain refl (relax key 0 1 d d zero-le (same key d))

  goes_if : (b : Bool) (o : Option Request) (d e : MemberStep) → Goes o d e → Goes (if b then o else None) d (if b then e else d)
  goes_if true o d e h = h
  goes_if false o d e h = still d

  got : (from : ℕ) (talk : Talk) (d : MemberStep) → Goes (asked from talk) d (gets ms setup me from talk d)
  got from (Asks call attempt restart group op) d =
      let r : Request = record { from = from; call = call; attempt = attempt; restart = restart; group = group; op = op } in
      goes_if (is_client from) (Some r) d (if_read ms setup me r (whole op_grammar op) d) (Asked r refl (answered ms setup me key r (whole op_grammar op) d))
  got from Hello d = Plain refl (follows_hello ms setup me key from d)
  got from (Welcome restart) d = Plain refl (follows_member ms setup me key from (Welcome restart) d)
  got from (Reply thread attempt group number a) d = Plain refl (follows_member ms setup me key from (Reply thread attempt group number a) d)
  got from (Refuse thread attempt group number r) d = Plain refl (follows_member ms setup me key from (Refuse thread attempt group number r) d)
  got from (StartGroup group first) d = Plain refl (follows_member ms setup me key from (StartGroup group first) d)
  got from (Told group t) d = Plain refl (follows_member ms setup me key from (Told group t) d)
  got from (Did group reply) d = Plain refl (follows_member ms setup me key from (Did group reply) d)
  got from (Raft group body) d = Plain refl (follows_member ms setup me key from (Raft group body) d)

  pub goes : (member : MemberState) (event : MemberEvent) → Goes (request_in me event) (unmoved member) (member_step ms setup me member event)
  goes member (Passes millis) = Plain refl (follows_ticks ms setup me key millis (unmoved member) refl)
  goes member (Gets x) = goes_if (x.to == me) (asked x.from x.talk) (unmoved member) (gets ms setup me x.from x.talk (unmoved member)) (got x.from x.talk (unmoved member))

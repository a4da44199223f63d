use Rattle.std.proofs.Common.{List, reverse, sym, subst, arith}
use Rattle.cp_client_rules.specs.Clients.{Asked}
use Rattle.cp_world_rules.specs.World.{commit, commit_all}
use Rattle.cp_world.specs.Following.{Leads}
use Rattle.cp_world.specs.Rooms.{CanCount}
use Rattle.cp_world.proofs.Leading.{entries_few, leads_on, rest_counts}
use Rattle.cp_world.proofs.Parts.{none_committed}
use Rattle.cp_world.proofs.Turned.{first_of, none_left}
use Rattle.cp_world.proofs.committing.commit_all.Goals as goal

pub commit-requires : goal.commit-requires
commit-requires c = entries_few c.in-Some.request (reverse c.pop.new.self.items) c.loop-request.world c.loop-request.turn
    (subst (λ (r : List Asked). CanCount (commit_all r) c.loop-request.world c.loop-request.turn) (first_of c.in-Some.request c.loop-request.requests.items c.pop.new.self.items c.in-Some.ensures.items) c.loop-request.invariant.room)

pub loop-request-preserved : goal.loop-request-preserved
loop-request-preserved c = let split = first_of c.in-Some.request c.loop-request.requests.items c.pop.new.self.items c.in-Some.ensures.items in record {
  room = rest_counts (commit c.in-Some.request) (commit_all (reverse c.pop.new.self.items)) c.loop-request.world c.loop-request.turn c.commit.new.world c.commit.new.turn
      (subst (λ (r : List Asked). CanCount (commit_all r) c.loop-request.world c.loop-request.turn) split c.loop-request.invariant.room) c.in_ok-commit.ensures;
  leads = λ world turn l. c.loop-request.invariant.leads world turn (subst (λ (r : List Asked). Leads (commit_all r) c.loop-request.world c.loop-request.turn world turn) (sym split)
      (leads_on (commit c.in-Some.request) (commit_all (reverse c.pop.new.self.items)) c.loop-request.world c.loop-request.turn c.commit.new.world c.commit.new.turn world turn c.in_ok-commit.ensures l));
}

pub loop-request-init : goal.loop-request-init
loop-request-init c = record {
  room = subst (λ (r : List Asked). CanCount (commit_all r) c.args.world.now c.args.turn.now) (sym c.take_backwards-requests.ensures.taken) c.requires;
  leads = λ world turn l. subst (λ (r : List Asked). Leads (commit_all r) c.args.world.now c.args.turn.now world turn) c.take_backwards-requests.ensures.taken l;
}

pub returns : goal.returns
returns c = c.loop-request.invariant.leads c.loop-request.world c.loop-request.turn (none_committed (reverse c.loop-request.requests.items) c.loop-request.world c.loop-request.turn
    (none_left c.loop-request.requests.items (omega (arith, c.loop-request.requests.ok.0, c.in_default.ensures.cases.0))))

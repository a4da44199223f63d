use Rattle.std.proofs.Common.{◌∙◌, ap, sym, true≢false, List}
use Rattle.std.specs.Prelude.{filter}
use Rattle.cp_snapshot.specs.Assemblers as assemblers
use Rattle.cp_rules.specs.Confirming as confirming
use Rattle.cp_rules.specs.Volatile.{Look, VolatileState}
use Rattle.cp_raft_state.specs.Looking.{without_ready}
use Rattle.cp_raft_state.proofs.volatile.Volatile.take_ready.Goals as goal

pub returns-clause-looks : goal.returns-clause-looks
returns-clause-looks c =
    c.in_ok-looks.ensures.ready
    ∙ ap (λ (v : VolatileState). filter (confirming.is_ready c.args.me c.args.members.now v.reads v.commit) v.reads.looks) c.self.view_is

pub returns-clause-state : goal.returns-clause-state
returns-clause-state c =
    let here = c.self.inside in
    let with_looks : List Look → VolatileState = λ looks. record {
      role = here.role;
      leader = here.leader;
      clock = here.clock;
      heard = here.heard;
      beat = here.beat;
      votes = here.votes;
      peers = here.peers;
      commit = here.commit;
      received = assemblers.received here.received;
      reads = record { round = here.round; confirmed = here.confirmed; looks = looks };
    } in
    ap with_looks c.in_ok-looks.ensures.waiting ∙ ap (without_ready c.args.me c.args.members.now) c.self.view_is

pub returns-in_err-looks-clause-frugal : goal.returns-in_err-looks-clause-frugal
returns-in_err-looks-clause-frugal c = λ none. absurd (true≢false (sym (c.in_err-looks.ensures.frugal (ap (λ (v : VolatileState). filter (confirming.is_ready c.args.me c.args.members.now v.reads v.commit) v.reads.looks) c.self.view_is ∙ none))))

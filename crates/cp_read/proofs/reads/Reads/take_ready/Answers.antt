use Rattle.std.proofs.Common.{◌∙◌, ap, sym, true≢false, ℕ, List}
use Rattle.std.specs.Prelude.{filter}
use Rattle.cp_rules.specs.Confirming.{is_ready}
use Rattle.cp_rules.specs.Volatile.{Look, Reads}
use Rattle.cp_read.specs.Looks.{without_ready}
use Rattle.cp_read.proofs.reads.Reads.take_ready.Goals as goal

-- the reads that are ready
abbrev all_ready : ℕ → List ℕ → ℕ → Reads → List Look
all_ready me members applied reads = filter (is_ready me members reads applied) reads.looks

pub returns-clause-looks : goal.returns-clause-looks
returns-clause-looks c = c.in_ok-looks.ensures.ready ∙ ap (all_ready c.args.me c.args.members.now c.args.applied) c.self.view_is

pub returns-clause-rest : goal.returns-clause-rest
returns-clause-rest c =
    let here = c.self.inside in
    let with_looks : List Look → Reads = λ looks. record { round = here.round; confirmed = here.confirmed; looks = looks } in
    ap with_looks c.in_ok-looks.ensures.waiting ∙ ap (without_ready c.args.me c.args.members.now c.args.applied) c.self.view_is

pub returns-in_err-looks-clause-frugal : goal.returns-in_err-looks-clause-frugal
returns-in_err-looks-clause-frugal c = λ none.
    absurd (true≢false (sym (c.in_err-looks.ensures.frugal (ap (all_ready c.args.me c.args.members.now c.args.applied) c.self.view_is ∙ none))))

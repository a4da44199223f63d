use Rattle.std.proofs.Common.{List, ◌++◌, ◌∙◌, ap, map}
use Rattle.cp_events.specs.declared.effects.Opened.{Opened}
use Rattle.cp_client.proofs.Taken.{where_ok}
use Rattle.cp_world.proofs.Parts.{does_leads, done_counts}
use Rattle.cp_world.proofs.committing.does.Goals as goal

pub commit_all-requires : goal.commit_all-requires
commit_all-requires c = done_counts c.args.me c.args.given.now c.args.world.now c.args.turn.now c.show_opened.new.out c.show_returns.new.out
    (c.in_ok-show_opened.ensures ∙ ap (λ (os : List Opened). c.args.turn.now.opened ++ map (λ o. (c.args.me, o)) os) c.as_slice.ensures) c.in_ok-show_returns.ensures c.requires

pub returns : goal.returns
returns c = where_ok c.commit_all.result
    (λ leads. does_leads c.args.me c.args.given.now c.args.world.now c.args.turn.now c.show_opened.new.out c.show_returns.new.out
    (c.in_ok-show_opened.ensures ∙ ap (λ (os : List Opened). c.args.turn.now.opened ++ map (λ o. (c.args.me, o)) os) c.as_slice.ensures) c.in_ok-show_returns.ensures c.commit_all.new.world c.commit_all.new.turn leads)
    c.commit_all.ensures

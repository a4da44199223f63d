use Rattle.std.proofs.Common.{◌≡◌, ◌+◌, ◌∷◌, ◌++◌, [], List, ◌∙◌, ap, sym, subst, refl}
use Rattle.cp_ops.specs.declared.entry.Entry.{Entry}
use Rattle.cp_ops.specs.declared.entry.Entry.TheVariants as entry
use Rattle.cp_group_state.specs.Apply.{apply}
use Rattle.cp_client.proofs.Taken.{where_ok}
use Rattle.cp_world_rules.specs.World as rules
use Rattle.cp_world.specs.declared.world.World.{World}
use Rattle.cp_world.specs.Following.{Leads}
use Rattle.cp_world.proofs.Events.{commit_leads}
use Rattle.cp_world.proofs.committing.commit.Goals as goal

pub returns : goal.returns
returns c =
    let world = c.args.world.now in
    let turn = c.args.turn.now in
    let done : World = record world { tables = c.apply_entry.new.self; entries = world.entries + 1; queue = c.apply_entry.new.out } in
    let made : c.into_entry-entry.result ≡ entry.Call c.args.asked.call c.args.asked.op = c.into_entry-entry.ensures in
    let leads = commit_leads c.args.asked world done turn refl
    (c.in_ok-apply_entry.ensures.state ∙ ap (λ (e : Entry). (apply (world.entries + 1) e world.tables).state) made)
    (c.in_ok-apply_entry.ensures.answers ∙ ap (λ (e : Entry). world.queue ++ (apply (world.entries + 1) e world.tables).answers) made) refl refl in
    where_ok c.push.result
    (λ pushed. subst (λ (es : List Entry). Leads (rules.commit c.args.asked) world turn done (record turn { entries = es })) (sym (pushed ∙ ap (λ (e : Entry). turn.entries ++ e ∷ []) made)) leads)
    c.push.ensures.ok

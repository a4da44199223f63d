-- What no step leaves, case by case.
use Rattle.std.proofs.Common.{◌≡◌, ◌-◌, inl, ⊎_elim, true, true≢false, List, [], ◌∷◌, ◌++◌, length, take, refl, ap, sym, ◌∙◌, subst, arith, Some, None, slice_get, length-append, length-take}
use Rattle.cp_parts.specs.declared.log_entry.LogEntry.{LogEntry}
use Rattle.std.proofs.lemmas.Option.{same_Some}
use Rattle.cp_codec.specs.Fields.{big_endian}
use Rattle.cp_grammar.specs.Grammar.{whole}
use Rattle.cp_grammar.specs.Fields.{mark_reading, number_reading}
use Rattle.cp_grammar.specs.Lists.{items_spelling, items_reading}
use Rattle.cp_grammar.specs.Common.{index, client_id, thread_no, invocation, member_after, members}
use Rattle.cp_parts.specs.Configs.{config_grammar, members_entry, config_in}
use Rattle.cp_log_rules.specs.Configurations.{config_after}
use Rattle.cp_rules.specs.Local.{Tick}
use Rattle.cp_rules.specs.Worked.{second, empty, entry, call}
use Rattle.cp_rules_facts.specs.Soundness.{IsFair}
use Rattle.cp_rules_facts.specs.Executions.{opening, IsExecution}
use Rattle.cp_rules_laws.specs.Writes.{After, KeepsLog, FollowsEntries, MakesEntry, TakesOwn, Installs}
use Rattle.cp_rules_laws.specs.Origins.{Makes}
use Rattle.cp_rules_laws.specs.Worked.{alone, cut_off, has_committed, asked, IsNoStep, forgets, falls, makes_as_follower, answers_nothing}

-- where an entry is asked, no Append came
follows_none : (x : After) (y : FollowsEntries second has_committed asked x) (entries : List LogEntry) → y.entries ≡ entries → length x.stored.log ≡ 1
follows_none x y [] is =
    let above = y.above in
    let within = y.within in
    omega (arith, ap length (y.log ∙ ap (λ (l : List LogEntry). take (y.at - 0) second.log ++ l) is), length-append (take (y.at - 0) second.log) [], length-take (y.at - 0) second.log, above, within)
follows_none x y (e ∷ entries) is = absurd (let c = y.came 0 e (ap (λ (l : List LogEntry). slice_get l 0) is) in let z = c.2 in cc)

-- so, where the log is of another length than before, an entry is made
is_none : (x : After) → (length x.stored.log ≡ 1 → ⊥) → (MakesEntry second asked x → ⊥) → IsNoStep x
is_none x other makes g = ⊎_elim
    (λ (y : KeepsLog second x). other (ap length y.log))
    (λ z. ⊎_elim
    (λ (y : FollowsEntries second has_committed asked x). other (follows_none x y y.entries refl))
    (λ z. ⊎_elim
    makes
    (λ z. ⊎_elim
    (λ (y : TakesOwn second has_committed asked x). let e = y.event_is in cc)
    (λ (y : Installs second has_committed asked x). let e = y.event_is in cc)
    z)
    z)
    z)
    g.log

pub forgetting : IsNoStep forgets
forgetting = is_none forgets (λ e. omega (arith, e)) (λ (y : MakesEntry second asked forgets). omega (arith, ap length y.log))

pub falling : IsNoStep falls
falling g = let up = g.rises in omega (arith, up)

pub following : IsNoStep makes_as_follower
following = is_none makes_as_follower (λ e. omega (arith, e)) (λ (y : MakesEntry second asked makes_as_follower). true≢false (sym y.leads))

pub silent : IsNoStep answers_nothing
silent = is_none answers_nothing (λ e. omega (arith, e)) (λ (y : MakesEntry second asked answers_nothing).
    let own : entry 1 call ≡ y.entry = (let h = y.log in cc) in
    ⊎_elim
    (λ z. let b = ap (λ (f : LogEntry). f.bytes) own ∙ z.0 in cc)
    (λ z. let o = z.1 in cc)
    y.made)

-- ---- the leader that nobody sees

pub happens : IsExecution alone cut_off
happens = (
  record {
    named = λ e. cc;
    delivered = λ from body e. absurd (cc);
    fair = λ e is. subst (IsFair ((opening alone).member 1).stored ((opening alone).member 1).state) (same_Some (Tick 2000 true None None) e is) (λ bytes none. absurd (cc), λ bytes none. absurd (cc));
  },
  tt,
)

pub makes : Makes (opening alone) (record { actor = 1; event = Some (Tick 2000 true None None); cut = true; clock = 0 }) 1 (empty 1)
unfolding big_endian whole mark_reading number_reading items_spelling items_reading index client_id thread_no invocation member_after members config_grammar members_entry config_in config_after
makes = record { event = Tick 2000 true None None; event_is = refl; makes = record { index_is = refl; term_is = refl; leads = refl; made = inl (refl, refl) } }

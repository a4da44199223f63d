use Rattle.std.proofs.Common.{◌≡◌, ℕ, true, false, List, refl, sym, ap, subst, ◌∙◌}
use Rattle.std.specs.Option.{option_map}
use Rattle.cp_rules.specs.Local.{Event, Got, Propose, Read}
use Rattle.cp_rules.specs.Steps as steps
use Rattle.cp_rules_ranges.specs.Laws.{MayStep}
use Rattle.cp_raft_state.specs.Said.{body_in}
use Rattle.cp_raft.specs.Events.{event_of}
use Rattle.cp_raft.specs.Frugal.{is_voting}
use Rattle.cp_raft.specs.Offices.{takes_office}
use Rattle.cp_raft.proofs.Voting.{not_voting, body_of}
use Rattle.cp_raft.proofs.deciding.rule.Goals as goal

pub on_tick-requires : goal.on_tick-requires
on_tick-requires g c = record { may = c.requires.may _ (ap event_of c.in-Tick.is) }

pub on_message-requires-clause-may : goal.on_message-requires-clause-may
on_message-requires-clause-may g c = λ x is. c.requires.may (Got c.in-Got.message.from x) (ap event_of c.in-Got.is ∙ ap (option_map (Got c.in-Got.message.from)) is)

pub on_propose-requires : goal.on_propose-requires
on_propose-requires g c = record {
  may = subst (λ (entry : List ℕ). MayStep c.args.seat.me (g.G.Log.stored c.args.stored.now) c.args.state.now (Propose entry)) (sym c.as_slice.ensures) (c.requires.may _ (ap event_of c.in-Propose.is));
}

pub on_change-requires-clause-may : goal.on_change-requires-clause-may
on_change-requires-clause-may g c = c.requires.may _ (ap event_of c.in-Change.is)

pub on_change-requires-clause-member : goal.on_change-requires-clause-member
on_change-requires-clause-member g c = c.requires.names _ (ap event_of c.in-Change.is)

pub on_read-requires : goal.on_read-requires
on_read-requires g c = record {
  may = subst (λ (op : List ℕ). MayStep c.args.seat.me (g.G.Log.stored c.args.stored.now) c.args.state.now (Read c.in-Look.call c.in-Look.attempt op)) (sym c.as_slice-in-Look.ensures) (c.requires.may _ (ap event_of c.in-Look.is));
}

pub returns-in-Got-clause-frugal : goal.returns-in-Got-clause-frugal
returns-in-Got-clause-frugal g c = λ e is voting none room.
    let m = c.in-Got.message in
    let x = body_of m.from (body_in m.body) e (sym (ap event_of c.in-Got.is) ∙ is) in
    c.on_message.ensures.frugal x.0 x.1 (subst (λ (e : Event). is_voting e ≡ true) x.2 voting)
    (subst (λ (e : Event). takes_office c.args.state.now (steps.rule c.args.seat.me (g.G.Log.stored c.args.stored.now) c.args.state.now e) ≡ false) x.2 none)
    room

pub returns-in-Tick-clause-frugal : goal.returns-in-Tick-clause-frugal
returns-in-Tick-clause-frugal g c = λ e is voting none room. absurd (not_voting (event_of c.args.event.now) _ e (ap event_of c.in-Tick.is) refl is voting)

pub returns-in-Propose-clause-frugal : goal.returns-in-Propose-clause-frugal
returns-in-Propose-clause-frugal g c = λ e is voting none room. absurd (not_voting (event_of c.args.event.now) _ e (ap event_of c.in-Propose.is) refl is voting)

pub returns-in-Change-clause-frugal : goal.returns-in-Change-clause-frugal
returns-in-Change-clause-frugal g c = λ e is voting none room. absurd (not_voting (event_of c.args.event.now) _ e (ap event_of c.in-Change.is) refl is voting)

pub returns-in-Look-clause-frugal : goal.returns-in-Look-clause-frugal
returns-in-Look-clause-frugal g c = λ e is voting none room. absurd (not_voting (event_of c.args.event.now) _ e (ap event_of c.in-Look.is) refl is voting)

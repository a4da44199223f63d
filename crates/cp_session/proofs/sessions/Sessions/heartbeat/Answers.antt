use Rattle.std.proofs.Common.{sym, ap}
use Rattle.cp_group_state.specs.declared.rows.SessionRow.{SessionRow}
use Rattle.cp_session.proofs.Indexed.{kept_client}
use Rattle.cp_session.proofs.sessions.Sessions.heartbeat.Goals as goal

pub invariant_of-self : goal.invariant_of-self
invariant_of-self c = kept_client c.self.inside.rows.entries c.beat_row.new.rows.entries c.self.inside.numbers.entries c.args.session c.in_ok-get.field-0.now c.beaten_row-next.result c.self.invariant
    (sym c.in_ok-get.ensures.value) (ap (λ (r : SessionRow). r.client) c.beaten_row-next.ensures) c.beat_row.ensures.sets

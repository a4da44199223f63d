use Rattle.std.proofs.Common.{ℕ, List, ap, sym, ◌∙◌, ◌≡◌, subst, IfOk, get_or}
use Rattle.std.specs.List.{filter}
use Rattle.std.specs.Map.{values_of}
use Rattle.cp_group_state.specs.Sessions.{is_among}
use Rattle.cp_group_state.specs.declared.rows.Waiter.{Waiter}
use Rattle.cp_wait.specs.Indexes.{is_of_session}
use Rattle.cp_wait.proofs.Standing.{gathered, one-session, single}
use Rattle.cp_wait.proofs.waits.Waits.of_sessions.Goals as goal

pub returns-in-len1 : goal.returns-in-len1
returns-in-len1 c = subst (λ (ws : List Waiter). IfOk c.gather.result (λ found. found ≡ ws))
    (gathered c.self.inside.rows.entries c.self.inside.indexes c.self.invariant c.of_session-calls.result.now (is_of_session (get_or c.args.sessions.now 0 0))
    (c.of_session-calls.ensures ∙ c.self.invariant.indexed.sessions (get_or c.args.sessions.now 0 0))
    ∙ one-session (get_or c.args.sessions.now 0 0) (values_of c.self.inside.rows.entries)
    ∙ ap (λ (sessions : List ℕ). filter (λ w. is_among sessions w.session) (values_of c.self.inside.rows.entries)) (sym (single c.args.sessions.now c.in-len1.len_at_least c.in-len1.len_below))
    ∙ ap (λ (ws : List Waiter). filter (λ w. is_among c.args.sessions.now w.session) ws) c.self.view_is)
    c.gather.ensures

use Rattle.std.proofs.Common.{◌||◌, ap, sym, ◌∙◌}
use Rattle.cp_semaphore.specs.Nested.{Nested, flat}
use Rattle.cp_semaphore.specs.Concerns.{has, held_named}
use Rattle.cp_semaphore.proofs.ConcernedTogether.{held_more, not_held}
use Rattle.cp_semaphore.proofs.held.names_held.Goals as goal

pub loop-session-preserved-in-Continue-1 : goal.loop-session-preserved-in-Continue-1
loop-session-preserved-in-Continue-1 c = λ name.
    held_more c.loop-session.names.entries c.add_each.new.names.entries c.args.sessions.now name (c.in-Some.session.now, c.in-Some.held.now) c.next.new.self (sym c.if-is_among.ensures) (c.in_ok-add_each.ensures name)
    ∙ ap (λ (es : Nested). has c.loop-session.names.entries name || held_named c.args.sessions.now (flat es) name) (sym c.in-Some.ensures.steps)
    ∙ c.loop-session.invariant name

pub loop-session-preserved : goal.loop-session-preserved
loop-session-preserved c = λ name.
    not_held c.loop-session.names.entries c.args.sessions.now name (c.in-Some.session.now, c.in-Some.held.now) c.next.new.self (sym c.if-is_among.ensures)
    ∙ ap (λ (es : Nested). has c.loop-session.names.entries name || held_named c.args.sessions.now (flat es) name) (sym c.in-Some.ensures.steps)
    ∙ c.loop-session.invariant name

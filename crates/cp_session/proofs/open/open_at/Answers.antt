use Rattle.std.proofs.Common.{◌∙◌, sym, refl}
use Rattle.cp_session.proofs.Indexed.{opened_new, opened_over, taken_back}
use Rattle.cp_session.proofs.open.open_at.Goals as goal

pub returns-in-Ok-None-clause-indexed : goal.returns-in-Ok-None-clause-indexed
returns-in-Ok-None-clause-indexed c = opened_new c.args.rows.now.entries c.replace_row.new.rows.entries c.args.numbers.now.entries c.name.new.numbers.entries c.args.client.now c.args.number
    (record { client = c.args.client.now; version = 0 }) c.requires.indexed c.requires.none refl c.in_ok-name.ensures.ok c.in-Ok-None.ensures.sets (sym c.in-Ok-None.ensures.old ∙ c.in-Ok-None.field-0-is)

pub returns-in-Ok-Some-clause-indexed : goal.returns-in-Ok-Some-clause-indexed
returns-in-Ok-Some-clause-indexed c = opened_over c.args.rows.now.entries c.replace_row.new.rows.entries c.args.numbers.now.entries c.name.new.numbers.entries c.args.client.now c.args.number
    (record { client = c.args.client.now; version = 0 }) c.requires.indexed c.requires.none refl c.in_ok-name.ensures.ok c.in-Ok-Some.ensures.sets
    c.in-Ok-Some.old (sym c.in-Ok-Some.ensures.old ∙ c.in-Ok-Some.field-0-is) c.unname.new.numbers.entries c.unname.ensures

pub returns-in-Err-clause-indexed : goal.returns-in-Err-clause-indexed
returns-in-Err-clause-indexed c = rw c.in-Err.ensures.err (taken_back c.args.rows.now.entries c.args.numbers.now.entries c.name.new.numbers.entries c.unname-in-Err.new.numbers.entries c.args.client.now c.args.number
    c.requires.indexed c.requires.none c.in_ok-name.ensures.ok c.unname-in-Err.ensures)

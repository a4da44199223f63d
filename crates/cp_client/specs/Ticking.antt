-- A clock that moves ends calls first.
use Rattle.std.specs.Prelude.{ℕ, ◌+◌}
use Rattle.cp_client_rules.specs.Clients.{Client, Did}
use Rattle.cp_client_rules.specs.Ticks.{end_each, user_threads}

abbrev pub end_calls : ℕ → Client → Did
end_calls ms c = end_each user_threads (record c { clock = c.clock + ms })

use Rattle.cp_group_rules.proofs.Viewing.{views_go_on, commits_move_views}
use Rattle.cp_group_rules.proofs.views_go_on.Goals as goal

pub returns : goal.returns
returns g c = record { parts = λ m. views_go_on m; commits = λ m. commits_move_views m }

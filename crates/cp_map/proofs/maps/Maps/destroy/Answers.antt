use Rattle.std.proofs.Common.{rules, ap, ◌∙◌, not}
use Rattle.std.specs.Prelude.{List, ℕ, bytes_eq}
use Rattle.std.proofs.lemmas.Map.Made.{filter_same_pairs}
use Rattle.cp_group_state.specs.Maps.{map_destroyed}
use Rattle.cp_map.proofs.maps.Maps.destroy.Goals as goal

pub returns : goal.returns
returns c = filter_same_pairs _ (λ (e : (List ℕ × List ℕ) × List ℕ). not (bytes_eq c.args.name.now e.0.0)) _ (λ k v b w f' t. search rules) _ _ c.retain.ensures.filtered
    ∙ ap (map_destroyed c.args.name.now) c.self.view_is

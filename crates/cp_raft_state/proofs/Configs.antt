-- Configurations at the ends of logs, and behind a place of one.
use Rattle.std.proofs.Common.{◌≡◌, ℕ, zero, suc, ◌+◌, ◌-◌, List, [], ◌∷◌, ◌++◌, length, take, drop, refl, ap, sym, ◌∙◌, arith}
use Rattle.std.proofs.Math.Seq.{take-length, take-nil}
use Rattle.cp_parts.specs.Configs.{config_in}
use Rattle.cp_parts.specs.declared.config.Config.{Config}
use Rattle.cp_parts.specs.declared.log_entry.LogEntry.{LogEntry}
use Rattle.cp_log_rules.specs.Persistent.{PersistentState, last}
use Rattle.cp_log_rules.specs.Configurations.{config_at, config_after, config_or}
use Rattle.cp_rules.specs.Persistent.{configuration}

-- the configuration at the last index is the one in force
pub in_force : (p : PersistentState) → config_at p (last p) ≡ configuration p
in_force p = let here : last p - p.base ≡ length p.log = omega arith in
    ap (λ (k : ℕ). config_after p.base_config p.base (take k p.log)) here ∙ ap (λ (log : List LogEntry). config_after p.base_config p.base log) (take-length p.log)

-- one entry more
pub after_entry : (before : Config) (at : ℕ) (log : List LogEntry) (e : LogEntry)
    → config_after before at (log ++ e ∷ []) ≡ config_or (config_in (suc (at + length log)) e.bytes) (config_after before at log)
unfolding config_after
after_entry before at [] e = let here : at + 1 ≡ suc (at + 0) = omega arith in ap (λ (i : ℕ). config_or (config_in i e.bytes) before) here
after_entry before at (d ∷ log) e = let here : suc (at + 1 + length log) ≡ suc (at + suc (length log)) = omega arith in
    after_entry (config_or (config_in (at + 1) d.bytes) before) (at + 1) log e
    ∙ ap (λ (i : ℕ). config_or (config_in i e.bytes) (config_after (config_or (config_in (at + 1) d.bytes) before) (at + 1) log)) here

-- the entries behind a place go on from the configuration there
pub behind_place : (before : Config) (at k : ℕ) (log : List LogEntry) → config_after (config_after before at (take k log)) (at + k) (drop k log) ≡ config_after before at log
unfolding config_after
behind_place before at zero log = let here : at + 0 ≡ at = omega arith in ap (λ (i : ℕ). config_after before i log) here
behind_place before at (suc k) [] = refl
behind_place before at (suc k) (e ∷ log) = let here : at + suc k ≡ at + 1 + k = omega arith in
    ap (λ (i : ℕ). config_after (config_after (config_or (config_in (at + 1) e.bytes) before) (at + 1) (take k log)) i (drop k log)) here
    ∙ behind_place (config_or (config_in (at + 1) e.bytes) before) (at + 1) k log

-- so do as many of them as there are up to another place
pub between_places : (before : Config) (at k m : ℕ) (log : List LogEntry) → config_after (config_after before at (take k log)) (at + k) (take m (drop k log)) ≡ config_after before at (take (k + m) log)
unfolding config_after
between_places before at zero m log = let here : at + 0 ≡ at = omega arith in let there : 0 + m ≡ m = omega arith in
    ap (λ (i : ℕ). config_after before i (take m log)) here ∙ ap (λ (i : ℕ). config_after before at (take i log)) (sym there)
between_places before at (suc k) m [] = ap (λ (log : List LogEntry). config_after before (at + suc k) log) (take-nil m) ∙ ap (λ (log : List LogEntry). config_after before at log) (sym (take-nil (suc k + m)))
between_places before at (suc k) m (e ∷ log) = let here : at + suc k ≡ at + 1 + k = omega arith in let there : suc k + m ≡ suc (k + m) = omega arith in
    ap (λ (i : ℕ). config_after (config_after (config_or (config_in (at + 1) e.bytes) before) (at + 1) (take k log)) i (take m (drop k log))) here
    ∙ between_places (config_or (config_in (at + 1) e.bytes) before) (at + 1) k m log
    ∙ ap (λ (i : ℕ). config_after before at (take i (e ∷ log))) (sym there)

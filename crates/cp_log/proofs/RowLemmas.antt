-- What the changes of a row leave of its invariants.
use Rattle.std.proofs.Common.{◌≡◌, ◌≤◌, ◌<◌, ◌+◌, ◌-◌, ◌^◌, ◌++◌, ℕ, zero, suc, List, [], ◌∷◌, length, take, drop, refl, sym, ◌∙◌, ap, arith, length-append, length-take, length-drop}
use Rattle.std.specs.Prelude.{Bool, true, false, Some, None, nat_le, nat_lt, slice_get, slice_index_or, if◌then◌else◌}
use Rattle.cp_base.specs.declared.limits.TheConstants.{LAST_NUMBER}
use Rattle.cp_parts.specs.declared.config.Config.{Config}
use Rattle.cp_parts.specs.declared.log_entry.LogEntry.{LogEntry}
use Rattle.cp_log_rules.specs.Persistent.{is_term}
use Rattle.cp_log_rules.specs.Configurations.{config_after, configs_in, last_within}
use Rattle.cp_log_rules.proofs.InForce.{config_found, count_within, last_found}

-- ---- the configuration in force

pub config_is : (base index : ℕ) (before : Config) (log : List LogEntry) (configs : List Config) → base ≤ index → configs ≡ configs_in base log → config_after before base (take (index - base) log) ≡ last_within index before configs
config_is base index before log configs from is =
    let place : base + (index - base) ≡ index = omega arith in
    config_found before base (index - base) log ∙ rw (place, is) refl

pub count_bound : (index : ℕ) (configs : List Config) → count_within index configs ≤ length configs
count_bound index [] = omega arith
count_bound index (c ∷ configs) = go (nat_le c.index index) (count_bound index configs)
  where
    go : (test : Bool) → count_within index configs ≤ length configs → (if test then suc (count_within index configs) else 0) ≤ suc (length configs)
    go true le = omega arith
    go false le = omega arith

item_at : (configs : List Config) (k : ℕ) (x d : Config) → slice_get configs k ≡ Some x → slice_index_or configs k d ≡ x
item_at [] k x d is = absurd cc
item_at (c ∷ configs) zero x d is = cc
item_at (c ∷ configs) (suc k) x d is = item_at configs k x d is

pub config_there : (base index count : ℕ) (before d : Config) (log : List LogEntry) (configs : List Config) → base ≤ index → configs ≡ configs_in base log → count ≡ count_within index configs → 0 < count
    → slice_index_or configs (count - 1) d ≡ config_after before base (take (index - base) log)
config_there base index count before d log configs from is counted some =
    let place : count_within index configs ≡ suc (count - 1) = omega arith in
    item_at configs (count - 1) (last_within index before configs) d (last_found index before configs (count - 1) place) ∙ sym (config_is base index before log configs from is)

-- ---- sizes

pub entries_short : (base after : ℕ) (log entries now : List LogEntry) → base ≤ after → after ≤ base + length log → after + length entries ≤ LAST_NUMBER → now ≡ take (after - base) log ++ entries → base + length now ≤ LAST_NUMBER
entries_short base after log entries now from to most is =
    let size : length now ≡ length (take (after - base) log) + length entries = ap length is ∙ length-append (take (after - base) log) entries in
    omega (arith, length-take (after - base) log)

some_within : (log : List LogEntry) (k term : ℕ) → is_term term (slice_get log k) ≡ true → k < length log
some_within [] k term is = absurd cc
some_within (e ∷ log) zero term is = omega arith
some_within (e ∷ log) (suc k) term is = omega (arith, some_within log k term is)

-- an entry of this term stands up to the last index
pub term_within : (base index term : ℕ) (log : List LogEntry) (keeps : Bool) → base < index → keeps ≡ is_term term (if nat_lt base index then slice_get log (index - base - 1) else None) → keeps ≡ true → index ≤ base + length log
term_within base index term log keeps above is found = go (nat_lt base index) (sym is ∙ found)
  where
    go : (test : Bool) → is_term term (if test then slice_get log (index - base - 1) else None) ≡ true → index ≤ base + length log
    go true found = omega (arith, some_within log (index - base - 1) term found)
    go false found = absurd cc

pub suffix_short : (base index : ℕ) (keeps : Bool) (log now : List LogEntry) → base ≤ index → index ≤ LAST_NUMBER → base + length log ≤ LAST_NUMBER → (keeps ≡ true → index ≤ base + length log) → now ≡ (if keeps then drop (index - base) log else [])
    → index + length now ≤ LAST_NUMBER
suffix_short base index false log now from most short to is = omega (arith, ap length is)
suffix_short base index true log now from most short to is = omega (arith, ap length is, length-drop (index - base) log, to refl)

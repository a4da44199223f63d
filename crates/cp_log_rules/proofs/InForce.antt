-- The configuration in force, found in the list of the configurations that entries bring.
use Rattle.std.proofs.Common.{◌≡◌, ◌≤◌, ◌<◌, ◌+◌, ◌-◌, ◌++◌, ℕ, zero, suc, List, [], ◌∷◌, length, take, drop, refl, sym, ◌∙◌, ap, subst, arith, length-take}
use Rattle.std.proofs.lemmas.Bool.Decides.{nat_tests}
use Rattle.std.specs.Prelude.{Bool, true, false, Option, Some, None, Result, Ok, Err, nat_le, slice_get, slice_index_or, if◌then◌else◌}
use Rattle.std.specs.List.Sorted.{IsNonDecreasingBy, IsPartitionPoint}
use Rattle.cp_base.specs.declared.identifier.Invocation.{Invocation}
use Rattle.cp_grammar.specs.Grammar.{whole}
use Rattle.cp_parts.specs.declared.config.Config.{Config}
use Rattle.cp_parts.specs.declared.log_entry.LogEntry.{LogEntry}
use Rattle.cp_parts.specs.Configs.{brought, brought_at, config_in, members_entry}
use Rattle.cp_log_rules.specs.Configurations.{config_or, config_after, with_config, configs_in, last_within}

-- ---- an entry's configuration has the entry's index

brought_index : (at : ℕ) (read : Result (Option Invocation × (ℕ × List ℕ)) ℕ) (c : Config) → brought_at at read ≡ Some c → c.index ≡ at
brought_index at (Ok entry) c is =
    let same : brought at entry ≡ c = cc in
    ap (λ (d : Config). d.index) (sym same)
brought_index at (Err place) c is = absurd cc

pub config_index : (at : ℕ) (bytes : List ℕ) (c : Config) → config_in at bytes ≡ Some c → c.index ≡ at
unfolding config_in
config_index at bytes c is = brought_index at (whole members_entry bytes) c is

-- ---- rising configurations

-- how many of them, from the first on, have an index of at most this
abbrev pub count_within : ℕ → List Config → ℕ
count_within index [] = 0
count_within index (c ∷ configs) = if nat_le c.index index then suc (count_within index configs) else 0

within_none : (index : ℕ) (o : Option Config) (at : ℕ) (configs : List Config) → ((c : Config) → o ≡ Some c → c.index ≡ at) → index < at → count_within index configs ≡ 0 → count_within index (with_config o configs) ≡ 0
within_none index None at configs is below rest = rest
within_none index (Some c) at configs is below rest = grind (arith, nat_tests, is c refl)

-- none of the entries behind an index brings one of an index up to it
pub none_within : (index at : ℕ) (log : List LogEntry) → index ≤ at → count_within index (configs_in at log) ≡ 0
unfolding configs_in
none_within index at [] below = refl
none_within index at (e ∷ log) below =
    within_none index (config_in (at + 1) e.bytes) (at + 1) (configs_in (at + 1) log) (λ c is. config_index (at + 1) e.bytes c is) (omega arith) (none_within index (at + 1) log (omega arith))

pub last_of_none : (index : ℕ) (before : Config) (configs : List Config) → count_within index configs ≡ 0 → last_within index before configs ≡ before
last_of_none index before [] none = refl
last_of_none index before (c ∷ configs) none = go (nat_le c.index index) none
  where
    go : (is : Bool) → (if is then suc (count_within index configs) else 0) ≡ 0 → (if is then last_within index c configs else before) ≡ before
    go true none = absurd (omega arith)
    go false none = refl

-- ---- one entry more

last_with : (index : ℕ) (before : Config) (o : Option Config) (at : ℕ) (configs : List Config) → ((c : Config) → o ≡ Some c → c.index ≡ at) → at ≤ index
    → last_within index before (with_config o configs) ≡ last_within index (config_or o before) configs
last_with index before None at configs is le = refl
last_with index before (Some c) at configs is le =
    let yes : nat_le c.index index ≡ true = grind (arith, nat_tests, is c refl) in
    rw yes refl

count_with : (index : ℕ) (o : Option Config) (at : ℕ) (configs : List Config) → ((c : Config) → o ≡ Some c → c.index ≡ at) → at ≤ index → (before : List Config) → before ≡ with_config o (take (count_within index configs) configs)
    → before ≡ take (count_within index (with_config o configs)) (with_config o configs)
count_with index None at configs is le before e = e
count_with index (Some c) at configs is le before e =
    let yes : nat_le c.index index ≡ true = grind (arith, nat_tests, is c refl) in
    rw yes e

drop_with : (index : ℕ) (o : Option Config) (at : ℕ) (configs : List Config) → ((c : Config) → o ≡ Some c → c.index ≡ at) → at ≤ index → drop (count_within index (with_config o configs)) (with_config o configs) ≡ drop (count_within index configs) configs
drop_with index None at configs is le = refl
drop_with index (Some c) at configs is le =
    let yes : nat_le c.index index ≡ true = grind (arith, nat_tests, is c refl) in
    rw yes refl

-- ---- the front of a log, and what is behind it

pub config_found : (before : Config) (at k : ℕ) (log : List LogEntry) → config_after before at (take k log) ≡ last_within (at + k) before (configs_in at log)
unfolding config_after configs_in
config_found before at zero log =
    sym (last_of_none (at + 0) before (configs_in at log) (none_within (at + 0) at log (omega arith)))
config_found before at (suc k) [] = refl
config_found before at (suc k) (e ∷ log) =
    let here : at + suc k ≡ at + 1 + k = omega arith in
    config_found (config_or (config_in (at + 1) e.bytes) before) (at + 1) k log
    ∙ ap (λ (i : ℕ). last_within i (config_or (config_in (at + 1) e.bytes) before) (configs_in (at + 1) log)) (sym here)
    ∙ sym (last_with (at + suc k) before (config_in (at + 1) e.bytes) (at + 1) (configs_in (at + 1) log) (λ c is. config_index (at + 1) e.bytes c is) (omega arith))

pub front_configs : (at k : ℕ) (log : List LogEntry) → configs_in at (take k log) ≡ take (count_within (at + k) (configs_in at log)) (configs_in at log)
unfolding configs_in
front_configs at zero log = rw (none_within (at + 0) at log (omega arith)) refl
front_configs at (suc k) [] = refl
front_configs at (suc k) (e ∷ log) =
    let here : at + suc k ≡ at + 1 + k = omega arith in
    count_with (at + suc k) (config_in (at + 1) e.bytes) (at + 1) (configs_in (at + 1) log) (λ c is. config_index (at + 1) e.bytes c is) (omega arith) _
    (ap (with_config (config_in (at + 1) e.bytes)) (front_configs (at + 1) k log ∙ ap (λ (i : ℕ). take (count_within i (configs_in (at + 1) log)) (configs_in (at + 1) log)) (sym here)))

pub behind_configs : (at k : ℕ) (log : List LogEntry) → k ≤ length log → configs_in (at + k) (drop k log) ≡ drop (count_within (at + k) (configs_in at log)) (configs_in at log)
unfolding configs_in
behind_configs at zero log within =
    let here : at + 0 ≡ at = omega arith in
    rw (none_within (at + 0) at log (omega arith)) (ap (λ (i : ℕ). configs_in i log) here)
behind_configs at (suc k) [] within = absurd (omega arith)
behind_configs at (suc k) (e ∷ log) within =
    let here : at + suc k ≡ at + 1 + k = omega arith in
    ap (λ (i : ℕ). configs_in i (drop k log)) here ∙ behind_configs (at + 1) k log (omega arith)
    ∙ ap (λ (i : ℕ). drop (count_within i (configs_in (at + 1) log)) (configs_in (at + 1) log)) (sym here)
    ∙ sym (drop_with (at + suc k) (config_in (at + 1) e.bytes) (at + 1) (configs_in (at + 1) log) (λ c is. config_index (at + 1) e.bytes c is) (omega arith))

with_more : (o : Option Config) (configs more : List Config) → with_config o (configs ++ more) ≡ with_config o configs ++ more
with_more None configs more = refl
with_more (Some c) configs more = refl

pub more_configs : (at : ℕ) (log more : List LogEntry) → configs_in at (log ++ more) ≡ configs_in at log ++ configs_in (at + length log) more
unfolding configs_in
more_configs at [] more = ap (λ (i : ℕ). configs_in i more) (omega arith)
more_configs at (e ∷ log) more =
    let here : at + suc (length log) ≡ at + 1 + length log = omega arith in
    ap (with_config (config_in (at + 1) e.bytes)) (more_configs (at + 1) log more ∙ ap (λ (i : ℕ). configs_in (at + 1) log ++ configs_in i more) (sym here))
    ∙ with_more (config_in (at + 1) e.bytes) (configs_in (at + 1) log) (configs_in (at + suc (length log)) more)

-- ---- what a search finds

-- as a binary search tells where the indexes pass this one
pub count_found : (index : ℕ) (configs : List Config) (i : ℕ) → IsPartitionPoint (λ c. nat_le c.index index ≡ true) (λ c. nat_le c.index index ≡ false) configs i → i ≤ length configs → i ≡ count_within index configs
count_found index [] zero point within = refl
count_found index [] (suc i) point within = absurd (omega arith)
count_found index (c ∷ configs) zero point within = rw (point.1 0 c (omega arith) (omega arith)) refl
count_found index (c ∷ configs) (suc i) point within =
    let rest : IsPartitionPoint (λ c. nat_le c.index index ≡ true) (λ c. nat_le c.index index ≡ false) configs i = (λ k d low high. point.0 (suc k) d (omega arith) (omega arith), λ k d low high. point.1 (suc k) d (omega arith) (omega arith)) in
    rw (point.0 0 c (omega arith) (omega arith)) (ap suc (count_found index configs i rest (omega arith)))

-- the configuration before the place of the search, else the one before them all
found_behind : (index : ℕ) (c : Config) (configs : List Config) (m k : ℕ) → count_within index configs ≡ m → suc m ≡ suc k → ((j : ℕ) → count_within index configs ≡ suc j → slice_get configs j ≡ Some (last_within index c configs))
    → slice_get (c ∷ configs) k ≡ Some (last_within index c configs)
found_behind index c configs zero zero is same rest = ap Some (sym (last_of_none index c configs is))
found_behind index c configs zero (suc k) is same rest = absurd (omega arith)
found_behind index c configs (suc m) zero is same rest = absurd (omega arith)
found_behind index c configs (suc m) (suc k) is same rest = rest k (is ∙ omega arith)

found_by : (index : ℕ) (before c : Config) (configs : List Config) (test : Bool) (k : ℕ) → ((j : ℕ) → count_within index configs ≡ suc j → slice_get configs j ≡ Some (last_within index c configs))
    → (if test then suc (count_within index configs) else 0) ≡ suc k → slice_get (c ∷ configs) k ≡ Some (if test then last_within index c configs else before)
found_by index before c configs true k rest is = found_behind index c configs (count_within index configs) k refl is rest
found_by index before c configs false k rest is = absurd (omega arith)

pub last_found : (index : ℕ) (before : Config) (configs : List Config) (k : ℕ) → count_within index configs ≡ suc k → slice_get configs k ≡ Some (last_within index before configs)
last_found index before [] k is = absurd (omega arith)
last_found index before (c ∷ configs) k is = found_by index before c configs (nat_le c.index index) k (λ j here. last_found index c configs j here) is

-- ---- they rise

above_with : (at : ℕ) (o : Option Config) (configs : List Config) (k : ℕ) (d : Config) → ((c : Config) → o ≡ Some c → c.index ≡ at + 1) → ((j : ℕ) → j < length configs → at + 1 < (slice_index_or configs j d).index)
    → k < length (with_config o configs) → at < (slice_index_or (with_config o configs) k d).index
above_with at None configs k d is rest within = omega (arith, rest k within)
above_with at (Some c) configs zero d is rest within = omega (arith, is c refl)
above_with at (Some c) configs (suc k) d is rest within = omega (arith, rest k (omega arith))

above : (at : ℕ) (log : List LogEntry) (k : ℕ) (d : Config) → k < length (configs_in at log) → at < (slice_index_or (configs_in at log) k d).index
unfolding configs_in
above at [] k d within = absurd (omega arith)
above at (e ∷ log) k d within = above_with at (config_in (at + 1) e.bytes) (configs_in (at + 1) log) k d (λ c is. config_index (at + 1) e.bytes c is) (λ j inside. above (at + 1) log j d inside) within

rising_with : (at : ℕ) (o : Option Config) (configs : List Config) → ((c : Config) → o ≡ Some c → c.index ≡ at + 1) → ((j : ℕ) (d : Config) → j < length configs → at + 1 < (slice_index_or configs j d).index)
    → IsNonDecreasingBy (λ c. c.index) configs → IsNonDecreasingBy (λ c. c.index) (with_config o configs)
rising_with at None configs is over rest i j d le within = rest i j d le within
rising_with at (Some c) configs is over rest zero zero d le within = omega arith
rising_with at (Some c) configs is over rest zero (suc j) d le within = omega (arith, is c refl, over j d (omega arith))
rising_with at (Some c) configs is over rest (suc i) zero d le within = absurd (omega arith)
rising_with at (Some c) configs is over rest (suc i) (suc j) d le within = rest i j d (omega arith) (omega arith)

rising : (at : ℕ) (log : List LogEntry) → IsNonDecreasingBy (λ c. c.index) (configs_in at log)
unfolding configs_in
rising at [] = λ i j d le within. absurd (omega arith)
rising at (e ∷ log) = rising_with at (config_in (at + 1) e.bytes) (configs_in (at + 1) log) (λ c is. config_index (at + 1) e.bytes c is) (λ j d inside. above (at + 1) log j d inside) (rising (at + 1) log)

pub configs_rise : (at : ℕ) (log : List LogEntry) (configs : List Config) → configs ≡ configs_in at log → IsNonDecreasingBy (λ c. c.index) configs
configs_rise at log configs is = subst (λ (cs : List Config). IsNonDecreasingBy (λ c. c.index) cs) (sym is) (rising at log)

-- ---- after parts

-- entries behind an index, and the configurations that they bring
pub entries_configs : (base after : ℕ) (log entries : List LogEntry) (configs more : List Config) → base ≤ after → after ≤ base + length log → configs ≡ configs_in base log → more ≡ configs_in after entries
    → take (count_within after configs) configs ++ more ≡ configs_in base (take (after - base) log ++ entries)
entries_configs base after log entries configs more from to is brought =
    let place : base + (after - base) ≡ after = omega arith in
    let size : base + length (take (after - base) log) ≡ after = omega (arith, length-take (after - base) log) in
    let front : configs_in base (take (after - base) log) ≡ take (count_within after configs) configs = front_configs base (after - base) log ∙ rw (place, is) refl in
    sym (more_configs base (take (after - base) log) entries ∙ rw (front, size, brought) refl)

-- what is behind a snapshot's index, and the configurations that it brings
pub suffix_configs : (base index : ℕ) (log : List LogEntry) (configs : List Config) (keeps : Bool) → base ≤ index → (keeps ≡ true → index ≤ base + length log) → configs ≡ configs_in base log
    → (if keeps then drop (count_within index configs) configs else []) ≡ configs_in index (if keeps then drop (index - base) log else [])
unfolding configs_in
suffix_configs base index log configs false from to is = refl
suffix_configs base index log configs true from to is =
    let place : base + (index - base) ≡ index = omega arith in
    let behind : configs_in index (drop (index - base) log) ≡ drop (count_within index configs) configs =
    ap (λ (i : ℕ). configs_in i (drop (index - base) log)) (sym place) ∙ behind_configs base (index - base) log (omega (arith, to refl)) ∙ rw (place, is) refl in
    sym behind

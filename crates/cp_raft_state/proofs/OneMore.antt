-- A log with one own entry more.
use Rattle.std.proofs.Common.{◌≡◌, ◌≢◌, ℕ, zero, suc, ◌+◌, ◌-◌, ◌<◌, ◌≤◌, ◌==◌, List, [], ◌∷◌, ◌++◌, length, take, refl, ap, sym, ◌∙◌, arith, length-append, Bool, true, false}
use Rattle.std.proofs.Math.Seq.{take-length}
use Rattle.std.proofs.lemmas.Bool.Decides.{nat_tests}
use Rattle.std.proofs.lemmas.List.{take-append-le}
use Rattle.std.specs.Prelude.{Option, Some, None, slice_get, nat_lt, if◌then◌else◌}
use Rattle.std.specs.Option.{option_map}
use Rattle.cp_parts.specs.Configs.{config_in}
use Rattle.cp_parts.specs.declared.config.Config.{Config}
use Rattle.cp_parts.specs.declared.log_entry.LogEntry.{LogEntry}
use Rattle.cp_log_rules.specs.Persistent.{PersistentState, last, entry_at, term_at}
use Rattle.cp_log_rules.specs.Configurations.{config_at, config_after, config_or}
use Rattle.cp_rules.specs.declared.ballot.Ballot.{Ballot}
use Rattle.cp_rules.specs.Leadership.{created_part}
use Rattle.cp_rules.specs.Persistent.{configuration, with_part}
use Rattle.cp_raft_state.proofs.Configs.{in_force, after_entry}

abbrev entry_in : Ballot → List ℕ → LogEntry
entry_in b bytes = record { term = b.term; bytes = bytes }

-- what is stored with the entry
abbrev pub more : PersistentState → Ballot → List ℕ → PersistentState
more p b bytes = with_part (created_part p b bytes) p

whole : (p : PersistentState) → take (last p - p.base) p.log ≡ p.log
whole p = let here : last p - p.base ≡ length p.log = omega arith in ap (λ (k : ℕ). take k p.log) here ∙ take-length p.log

log_more : (p : PersistentState) (b : Ballot) (bytes : List ℕ) → (more p b bytes).log ≡ p.log ++ entry_in b bytes ∷ []
log_more p b bytes = ap (λ (log : List LogEntry). log ++ entry_in b bytes ∷ []) (whole p)

pub last_more : (p : PersistentState) (b : Ballot) (bytes : List ℕ) → last (more p b bytes) ≡ last p + 1
last_more p b bytes = omega (arith, ap (λ (log : List LogEntry). length log) (log_more p b bytes), length-append p.log (entry_in b bytes ∷ []))

-- ---- the entry at an index

get_own : (xs : List LogEntry) (x : LogEntry) → slice_get (xs ++ x ∷ []) (length xs) ≡ Some x
get_own [] x = refl
get_own (y ∷ xs) x = get_own xs x

get_other : (xs : List LogEntry) (x : LogEntry) (k : ℕ) → k ≢ length xs → slice_get (xs ++ x ∷ []) k ≡ slice_get xs k
get_other [] x zero other = absurd (other refl)
get_other [] x (suc k) other = refl
get_other (y ∷ xs) x zero other = refl
get_other (y ∷ xs) x (suc k) other = get_other xs x k (λ h. other (ap suc h))

-- an entry of a log behind a base
abbrev found : ℕ → List LogEntry → ℕ → Option LogEntry
found base log i = if nat_lt base i then slice_get log (i - base - 1) else None

found_own : (base : ℕ) (xs : List LogEntry) (x : LogEntry) → found base (xs ++ x ∷ []) (base + length xs + 1) ≡ Some x
found_own base xs x =
    let above : nat_lt base (base + length xs + 1) ≡ true = grind (arith, nat_tests) in
    let place : base + length xs + 1 - base - 1 ≡ length xs = omega arith in
    rw (above, place) (get_own xs x)

found_other : (base : ℕ) (xs : List LogEntry) (x : LogEntry) (i : ℕ) → i ≢ base + length xs + 1 → found base (xs ++ x ∷ []) i ≡ found base xs i
found_other base xs x i other = go (nat_lt base i) refl
  where
    go : (t : Bool) → nat_lt base i ≡ t → (if t then slice_get (xs ++ x ∷ []) (i - base - 1) else None) ≡ (if t then slice_get xs (i - base - 1) else None)
    go true is = let above : base < i = grind (arith, nat_tests) in get_other xs x (i - base - 1) (λ h. other (omega arith))
    go false is = refl

pub entry_own : (p : PersistentState) (b : Ballot) (bytes : List ℕ) (i : ℕ) → i ≡ last p + 1 → entry_at (more p b bytes) i ≡ Some (entry_in b bytes)
entry_own p b bytes i is = ap (λ (k : ℕ). found p.base (more p b bytes).log k) is ∙ ap (λ (log : List LogEntry). found p.base log (last p + 1)) (log_more p b bytes) ∙ found_own p.base p.log (entry_in b bytes)

pub entry_other : (p : PersistentState) (b : Ballot) (bytes : List ℕ) (i : ℕ) → i ≢ last p + 1 → entry_at (more p b bytes) i ≡ entry_at p i
entry_other p b bytes i other = ap (λ (log : List LogEntry). found p.base log i) (log_more p b bytes) ∙ found_other p.base p.log (entry_in b bytes) i other

pub term_own : (p : PersistentState) (b : Ballot) (bytes : List ℕ) (i : ℕ) → i ≡ last p + 1 → term_at (more p b bytes) i ≡ Some b.term
term_own p b bytes i is =
    let apart : (i == p.base) ≡ false = grind (arith, nat_tests) in
    rw (apart, entry_own p b bytes i is) refl

pub term_other : (p : PersistentState) (b : Ballot) (bytes : List ℕ) (i : ℕ) → i ≢ last p + 1 → term_at (more p b bytes) i ≡ term_at p i
term_other p b bytes i other = ap (λ (e : Option LogEntry). if i == p.base then Some p.base_term else option_map (λ (x : LogEntry). x.term) e) (entry_other p b bytes i other)

-- ---- the configuration

pub config_more : (p : PersistentState) (b : Ballot) (bytes : List ℕ) → configuration (more p b bytes) ≡ config_or (config_in (last p + 1) bytes) (configuration p)
config_more p b bytes = let here : suc (p.base + length p.log) ≡ last p + 1 = omega arith in
    ap (λ (log : List LogEntry). config_after p.base_config p.base log) (log_more p b bytes)
    ∙ after_entry p.base_config p.base p.log (entry_in b bytes)
    ∙ ap (λ (i : ℕ). config_or (config_in i bytes) (configuration p)) here

pub config_own : (p : PersistentState) (b : Ballot) (bytes : List ℕ) (i : ℕ) → i ≡ last p + 1 → config_at (more p b bytes) i ≡ config_or (config_in (last p + 1) bytes) (configuration p)
config_own p b bytes i is =
    ap (λ (k : ℕ). config_at (more p b bytes) k) (is ∙ sym (last_more p b bytes)) ∙ in_force (more p b bytes) ∙ config_more p b bytes

pub config_other : (p : PersistentState) (b : Ballot) (bytes : List ℕ) (i : ℕ) → i ≤ last p → config_at (more p b bytes) i ≡ config_at p i
config_other p b bytes i within = let short : i - p.base ≤ length p.log = omega arith in
    ap (λ (log : List LogEntry). config_after p.base_config p.base (take (i - p.base) log)) (log_more p b bytes)
    ∙ ap (λ (log : List LogEntry). config_after p.base_config p.base log) (take-append-le (i - p.base) p.log (entry_in b bytes ∷ []) short)

-- ---- by the configuration that the entry brings

brings : (p : PersistentState) (b : Ballot) (bytes : List ℕ) → configuration (more p b bytes) ≡ config_or (config_in (suc (last p)) bytes) (configuration p)
brings p b bytes = let here : last p + 1 ≡ suc (last p) = omega arith in
    config_more p b bytes ∙ ap (λ (i : ℕ). config_or (config_in i bytes) (configuration p)) here

pub brings_some : (p : PersistentState) (b : Ballot) (bytes : List ℕ) (config : Config) → config_in (suc (last p)) bytes ≡ Some config → config ≡ configuration (more p b bytes)
brings_some p b bytes config is = sym (brings p b bytes ∙ ap (λ (o : Option Config). config_or o (configuration p)) is)

pub brings_none : (p : PersistentState) (b : Ballot) (bytes : List ℕ) → config_in (suc (last p)) bytes ≡ None → configuration p ≡ configuration (more p b bytes)
brings_none p b bytes is = sym (brings p b bytes ∙ ap (λ (o : Option Config). config_or o (configuration p)) is)

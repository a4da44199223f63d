-- What is stored with a snapshot of the member's own.
use Rattle.std.proofs.Common.{◌≡◌, ℕ, zero, suc, ◌+◌, ◌-◌, ◌<◌, ◌≤◌, ◌==◌, List, [], ◌∷◌, length, take, drop, refl, ap, sym, ◌∙◌, arith, length-drop, Bool, true, false}
use Rattle.std.proofs.lemmas.Bool.Decides.{nat_tests}
use Rattle.std.specs.Prelude.{Option, Some, None, slice_get, unwrap_or, nat_lt}
use Rattle.std.specs.Option.{option_map}
use Rattle.cp_base.proofs.Tests.{number_itself}
use Rattle.cp_parts.specs.Heads.{head_of}
use Rattle.cp_parts.specs.declared.log_entry.LogEntry.{LogEntry}
use Rattle.cp_parts.specs.declared.snapshot_head.SnapshotHead.{SnapshotHead}
use Rattle.cp_log_rules.specs.Persistent.{PersistentState, last, entry_at, term_at, suffix_behind, with_head}
use Rattle.cp_log_rules.specs.Configurations.{config_at, config_after}
use Rattle.cp_rules.specs.Persistent.{ballot, configuration, known_term, with_part, SnapshotPart}
use Rattle.cp_rules.specs.Snapshots.{own_head}
use Rattle.cp_raft_state.proofs.Configs.{behind_place, between_places}

-- An index above the base, within the log, and bytes that begin with its head.
pub record IsOwn (p : PersistentState) (index : ℕ) (bytes : List ℕ) : Type 0 where
  pub from : p.base < index
  pub to : index ≤ last p
  pub reads_back : head_of bytes ≡ Some (own_head p index)

-- what is stored with it
abbrev pub kept : PersistentState → ℕ → List ℕ → PersistentState
kept p index bytes = with_part (SnapshotPart (ballot p) index bytes) p

-- the same, with all that stood behind the index
abbrev behind : PersistentState → ℕ → List ℕ → PersistentState
behind p index bytes = record p { base = index; base_term = known_term p index; base_config = config_at p index; snapshot = bytes; log = drop (index - p.base) p.log }

get_some : (xs : List LogEntry) (k : ℕ) → k < length xs → (x : LogEntry) × (slice_get xs k ≡ Some x)
get_some [] k within = absurd (omega arith)
get_some (x ∷ xs) zero within = (x, refl)
get_some (x ∷ xs) (suc k) within = get_some xs k (omega arith)

entry_there : (p : PersistentState) (index : ℕ) → p.base < index → index ≤ last p → (e : LogEntry) × (entry_at p index ≡ Some e)
entry_there p index from to =
    let above : nat_lt p.base index ≡ true = grind (arith, nat_tests) in
    let short : index - p.base - 1 < length p.log = omega arith in
    let got = get_some p.log (index - p.base - 1) short in
    (got.0, rw above got.1)

term_there : (p : PersistentState) (index : ℕ) (e : LogEntry) → p.base < index → entry_at p index ≡ Some e → term_at p index ≡ Some e.term
term_there p index e from is =
    let apart : (index == p.base) ≡ false = grind (arith, nat_tests) in
    rw (apart, is) refl

-- all that stood behind the index stays
suffix_stays : (p : PersistentState) (index : ℕ) (e : LogEntry) → entry_at p index ≡ Some e → suffix_behind index e.term p ≡ drop (index - p.base) p.log
suffix_stays p index e is = rw (is, number_itself e.term) refl

pub is_behind : (p : PersistentState) (index : ℕ) (bytes : List ℕ) → IsOwn p index bytes → kept p index bytes ≡ behind p index bytes
is_behind p index bytes own =
    let there = entry_there p index own.from own.to in
    let term : known_term p index ≡ there.0.term = ap (λ (o : Option ℕ). unwrap_or o 0) (term_there p index there.0 own.from there.1) in
    let suffix : suffix_behind index (known_term p index) p ≡ drop (index - p.base) p.log = ap (λ (t : ℕ). suffix_behind index t p) term ∙ suffix_stays p index there.0 there.1 in
    ap (λ (h : Option SnapshotHead). with_head p.term p.vote index bytes h p) own.reads_back
    ∙ ap (λ (log : List LogEntry). record p { base = index; base_term = known_term p index; base_config = config_at p index; snapshot = bytes; log = log }) suffix

-- ---- what is read of it

pub last_kept : (p : PersistentState) (index : ℕ) (bytes : List ℕ) → IsOwn p index bytes → last (kept p index bytes) ≡ last p
last_kept p index bytes own = ap last (is_behind p index bytes own) ∙ omega (arith, own.from, own.to, length-drop (index - p.base) p.log)

none_at : (none : List LogEntry) → none ≡ [] → (i : ℕ) → slice_get none i ≡ None
none_at [] e zero = refl
none_at [] e (suc i) = refl
none_at (x ∷ xs) e i = absurd (cc)

get_behind : (xs : List LogEntry) (n k : ℕ) → slice_get (drop n xs) k ≡ slice_get xs (n + k)
get_behind xs zero k = let here : 0 + k ≡ k = omega arith in ap (λ (i : ℕ). slice_get xs i) (sym here)
get_behind [] (suc n) k = none_at [] refl k ∙ sym (none_at [] refl (suc n + k))
get_behind (x ∷ xs) (suc n) k = let here : suc n + k ≡ suc (n + k) = omega arith in get_behind xs n k ∙ ap (λ (i : ℕ). slice_get (x ∷ xs) i) (sym here)

pub entry_kept : (p : PersistentState) (index : ℕ) (bytes : List ℕ) → IsOwn p index bytes → (i : ℕ) → index < i → entry_at (kept p index bytes) i ≡ entry_at p i
entry_kept p index bytes own i above =
    let far : nat_lt index i ≡ true = grind (arith, nat_tests) in
    let further : nat_lt p.base i ≡ true = grind (arith, nat_tests, own.from) in
    let place : index - p.base + (i - index - 1) ≡ i - p.base - 1 = omega (arith, own.from) in
    ap (λ (q : PersistentState). entry_at q i) (is_behind p index bytes own)
    ∙ rw (far, further) (get_behind p.log (index - p.base) (i - index - 1) ∙ ap (λ (k : ℕ). slice_get p.log k) place)

pub entry_gone : (p : PersistentState) (index : ℕ) (bytes : List ℕ) → IsOwn p index bytes → (i : ℕ) → i ≤ index → entry_at (kept p index bytes) i ≡ None
entry_gone p index bytes own i below =
    let near : nat_lt index i ≡ false = grind (arith, nat_tests) in
    ap (λ (q : PersistentState). entry_at q i) (is_behind p index bytes own) ∙ rw near refl

pub term_kept : (p : PersistentState) (index : ℕ) (bytes : List ℕ) → IsOwn p index bytes → (i : ℕ) → index ≤ i → term_at (kept p index bytes) i ≡ term_at p i
term_kept p index bytes own i from = go (i == index) refl
  where
    there : (e : LogEntry) × (entry_at p index ≡ Some e)
    there = entry_there p index own.from own.to

    go : (t : Bool) → (i == index) ≡ t → term_at (kept p index bytes) i ≡ term_at p i
    go true is =
        let same : i ≡ index = grind (arith, nat_tests) in
        let known : term_at p index ≡ Some there.0.term = term_there p index there.0 own.from there.1 in
        let base : term_at (behind p index bytes) i ≡ Some (known_term p index) = rw is refl in
        let told : Some (known_term p index) ≡ term_at p index = ap (λ (o : Option ℕ). Some (unwrap_or o 0)) known ∙ sym known in
        ap (λ (q : PersistentState). term_at q i) (is_behind p index bytes own) ∙ base ∙ told ∙ ap (term_at p) (sym same)
    go false is =
        let above : index < i = grind (arith, nat_tests) in
        let apart : (i == p.base) ≡ false = grind (arith, nat_tests, own.from) in
        let entries : entry_at (behind p index bytes) i ≡ entry_at p i = ap (λ (q : PersistentState). entry_at q i) (sym (is_behind p index bytes own)) ∙ entry_kept p index bytes own i above in
        ap (λ (q : PersistentState). term_at q i) (is_behind p index bytes own) ∙ rw (is, apart) (ap (λ (e : Option LogEntry). option_map (λ (x : LogEntry). x.term) e) entries)

pub term_gone : (p : PersistentState) (index : ℕ) (bytes : List ℕ) → IsOwn p index bytes → (i : ℕ) → i < index → term_at (kept p index bytes) i ≡ None
term_gone p index bytes own i below =
    let apart : (i == index) ≡ false = grind (arith, nat_tests) in
    let near : nat_lt index i ≡ false = grind (arith, nat_tests) in
    ap (λ (q : PersistentState). term_at q i) (is_behind p index bytes own) ∙ rw (apart, near) refl

pub config_kept : (p : PersistentState) (index : ℕ) (bytes : List ℕ) → IsOwn p index bytes → configuration (kept p index bytes) ≡ configuration p
config_kept p index bytes own =
    let here : p.base + (index - p.base) ≡ index = omega (arith, own.from) in
    ap configuration (is_behind p index bytes own)
    ∙ ap (λ (i : ℕ). config_after (config_at p index) i (drop (index - p.base) p.log)) (sym here)
    ∙ behind_place p.base_config p.base (index - p.base) p.log

pub config_at_kept : (p : PersistentState) (index : ℕ) (bytes : List ℕ) → IsOwn p index bytes → (i : ℕ) → index ≤ i → config_at (kept p index bytes) i ≡ config_at p i
config_at_kept p index bytes own i from =
    let here : p.base + (index - p.base) ≡ index = omega (arith, own.from) in
    let there : index - p.base + (i - index) ≡ i - p.base = omega (arith, own.from) in
    ap (λ (q : PersistentState). config_at q i) (is_behind p index bytes own)
    ∙ ap (λ (k : ℕ). config_after (config_at p index) k (take (i - index) (drop (index - p.base) p.log))) (sym here)
    ∙ between_places p.base_config p.base (index - p.base) (i - index) p.log
    ∙ ap (λ (k : ℕ). config_after p.base_config p.base (take k p.log)) there

pub parts_kept : (p : PersistentState) (index : ℕ) (bytes : List ℕ) → IsOwn p index bytes → ((kept p index bytes).base ≡ index) × ((kept p index bytes).snapshot ≡ bytes) × ((kept p index bytes).term ≡ p.term) × ((kept p index bytes).vote ≡ p.vote)
parts_kept p index bytes own =
    let is = is_behind p index bytes own in
    (ap (λ (q : PersistentState). q.base) is, ap (λ (q : PersistentState). q.snapshot) is, ap (λ (q : PersistentState). q.term) is, ap (λ (q : PersistentState). q.vote) is)

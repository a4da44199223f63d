-- What sessions hold, kept session by session, seen as one list.
use Rattle.std.specs.Prelude.{◌≡◌, ◌&&◌, ◌==◌, ℕ, List, [], ◌∷◌, ◌++◌, map, Option, Some, None, bytes_eq, if◌then◌else◌}
use Rattle.std.specs.Ordering.{nat_cmp}
use Rattle.std.specs.BTreeMap.{BTreeMap, is_at}
use Rattle.cp_group_state.specs.Rows.{find, name_cmp}
use Rattle.cp_group_state.specs.Sessions.{is_among}
use Rattle.cp_group_state.specs.Invariants.{IsRising}

-- permits under names, under sessions
abbrev pub Nested : Type 0
Nested = List (ℕ × BTreeMap (List ℕ) ℕ)

abbrev pub under : ℕ → List (List ℕ × ℕ) → List ((ℕ × List ℕ) × ℕ)
under session rows = map (λ e. ((session, e.0), e.1)) rows

-- the holdings as one list
abbrev pub flat : Nested → List ((ℕ × List ℕ) × ℕ)
flat [] = []
flat (e ∷ es) = under e.0 e.1.entries ++ flat es

abbrev pub found_in : Option (BTreeMap (List ℕ) ℕ) → List ℕ → Option ℕ
found_in None name = None
found_in (Some held) name = find name_cmp held.entries name

-- what a session holds under a name
abbrev pub found : Nested → ℕ × List ℕ → Option ℕ
found nested key = found_in (find nat_cmp nested key.0) key.1

-- sessions rise, and under each session the names
pub record IsNested (nested : Nested) : Type 0 where
  pub sessions : IsRising nat_cmp nested
  pub names : (session : ℕ) (held : BTreeMap (List ℕ) ℕ) → find nat_cmp nested session ≡ Some held → IsRising name_cmp held.entries

-- a holding of no permits has no row
abbrev pub held_option : ℕ → Option ℕ
held_option n = if n == 0 then None else Some n

-- at this session and name stands this, and elsewhere what stood
abbrev pub Sets : ℕ → List ℕ → Option ℕ → Nested → Nested → Type 0
Sets session name n old new = (q : ℕ × List ℕ) → found new q ≡ (if is_at (nat_cmp session) q.0 && is_at (name_cmp name) q.1 then n else found old q)

abbrev pub SameHoldings : Nested → Nested → Type 0
SameHoldings old new = (q : ℕ × List ℕ) → found new q ≡ found old q

-- nothing stands under this session, and elsewhere what stood
abbrev pub ClosesSession : ℕ → Nested → Nested → Type 0
ClosesSession session old new = (q : ℕ × List ℕ) → found new q ≡ (if is_at (nat_cmp session) q.0 then None else found old q)

-- nothing stands under this name in these sessions, and elsewhere what stood
abbrev pub without_name : List ℕ → List ℕ → Nested → ℕ × List ℕ → Option ℕ
without_name name sessions nested q = if bytes_eq name q.1 && is_among sessions q.0 then None else found nested q

-- nothing stands under this name, and elsewhere what stood
abbrev pub ForgetsName : List ℕ → Nested → Nested → Type 0
ForgetsName name old new = (q : ℕ × List ℕ) → found new q ≡ (if bytes_eq name q.1 then None else found old q)

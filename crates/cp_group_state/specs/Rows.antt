-- Rows under keys. A list of rows is kept in rising order of the keys.
use Rattle.std.specs.Prelude.{ℕ, Bool, ◌||◌, List, length, Option, is_some, nat_lt}
use Rattle.std.specs.declared.cmp.Ordering.{Ordering}
use Rattle.std.specs.Ordering.{nat_cmp, ordering_then}
use Rattle.std.specs.Cmp.Lexicographic.{slice_cmp}
use Rattle.std.specs.BTreeMap.{insert_entry, is_at}
use Rattle.std.specs.Map.{lookup, remove_entry}
use Rattle.cp_base.specs.declared.limits.TheConstants.{MOST_ROWS}
use Rattle.cp_op_values.specs.declared.kind.Kind.{Kind}
use Rattle.cp_op_values.specs.declared.kind.Kind.TheVariants as kind

module _ {K X : Type 0} (cmp : K → K → Ordering) where
  -- the row under a key
  abbrev pub find : List (K × X) → K → Option X
  find rows k = lookup (is_at (cmp k)) rows

  -- the rows with this one under the key
  abbrev pub put : List (K × X) → K → X → List (K × X)
  put rows k row = insert_entry cmp rows k row

  -- the rows without the one under the key
  abbrev pub without : List (K × X) → K → List (K × X)
  without rows k = remove_entry (is_at (cmp k)) rows

  -- a list is full where it has as many rows as its limit; a row that is there takes no room
  abbrev pub has_room : ℕ → List (K × X) → K → Bool
  has_room limit rows k = is_some (find rows k) || nat_lt (length rows) limit

-- the limit of sessions, waiters, destroyed names and of each kind's rows
abbrev pub most : ℕ
most = MOST_ROWS

-- rows under names
abbrev pub Named : Type 0 → Type 0
Named X = List (List ℕ × X)

-- an object: its name and its kind
abbrev pub Object : Type 0
Object = List ℕ × Kind

-- names in the order of their bytes
abbrev pub name_cmp : List ℕ → List ℕ → Ordering
name_cmp = slice_cmp nat_cmp

abbrev pub kind_number : Kind → ℕ
kind_number kind.Long = 1
kind_number kind.Ref = 2
kind_number kind.Lock = 3
kind_number kind.Sem = 4
kind_number kind.Jsem = 5
kind_number kind.Latch = 6
kind_number kind.Map = 7

-- objects by name, and under one name by kind
abbrev pub object_cmp : Object → Object → Ordering
object_cmp a b = ordering_then (name_cmp a.0 b.0) (nat_cmp (kind_number a.1) (kind_number b.1))

-- a session's permits of a semaphore, by session and name
abbrev pub holding_cmp : ℕ × List ℕ → ℕ × List ℕ → Ordering
holding_cmp a b = ordering_then (nat_cmp a.0 b.0) (name_cmp a.1 b.1)

-- a thread of a session
abbrev pub holder_cmp : ℕ × ℕ → ℕ × ℕ → Ordering
holder_cmp a b = ordering_then (nat_cmp a.0 b.0) (nat_cmp a.1 b.1)

-- the pairs of maps by the map's name and the key
abbrev pub pair_cmp : List ℕ × List ℕ → List ℕ × List ℕ → Ordering
pair_cmp a b = ordering_then (name_cmp a.0 b.0) (name_cmp a.1 b.1)

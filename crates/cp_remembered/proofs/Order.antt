-- The order of objects in the code is that of the definitions.
use Rattle.std.proofs.Common.{◌≡◌, List, [], ◌∷◌, refl}
use Rattle.std.specs.declared.cmp.Ordering.{Ordering}
use Rattle.std.specs.Ordering.{nat_cmp, ordering_then}
use Rattle.std.specs.Map.{keys_of}
use Rattle.std.specs.List.Sorted.{IsStrictlySortedBy}
use Rattle.cp_op_values.specs.declared.kind.Kind.{Kind}
use Rattle.cp_op_values.specs.declared.kind.Kind.TheVariants as kind
use Rattle.cp_op_values.specs.contracts.kind.KindOrd.TheImpl as derived
use Rattle.cp_group_state.specs.Rows.{Object, name_cmp, object_cmp, kind_number}
use Rattle.cp_rows.proofs.Changes.{rises_one}

-- what holds at each kind
each : (P : Kind → Type 0) → P kind.Long → P kind.Ref → P kind.Lock → P kind.Sem → P kind.Jsem → P kind.Latch → P kind.Map → (k : Kind) → P k
each P a b c d e f g kind.Long = a
each P a b c d e f g kind.Ref = b
each P a b c d e f g kind.Lock = c
each P a b c d e f g kind.Sem = d
each P a b c d e f g kind.Jsem = e
each P a b c d e f g kind.Latch = f
each P a b c d e f g kind.Map = g

abbrev Same : Kind → Kind → Type 0
Same a b = derived.ghosts.cmp a b ≡ nat_cmp (kind_number a) (kind_number b)

kinds : (a b : Kind) → Same a b
kinds = each (λ a. (b : Kind) → Same a b)
    (each (Same kind.Long) refl refl refl refl refl refl refl)
    (each (Same kind.Ref) refl refl refl refl refl refl refl)
    (each (Same kind.Lock) refl refl refl refl refl refl refl)
    (each (Same kind.Sem) refl refl refl refl refl refl refl)
    (each (Same kind.Jsem) refl refl refl refl refl refl refl)
    (each (Same kind.Latch) refl refl refl refl refl refl refl)
    (each (Same kind.Map) refl refl refl refl refl refl refl)

abbrev pub code_cmp : Object → Object → Ordering
code_cmp x y = ordering_then (name_cmp x.0 y.0) (derived.ghosts.cmp x.1 y.1)

pub same_order : code_cmp ≡ object_cmp
same_order = λ i x y. ordering_then (name_cmp x.0 y.0) (kinds x.1 y.1 i)

-- one object rises
pub one_rises : (rows : List (Object × Unit {0})) (e : Object × Unit {0}) → rows ≡ e ∷ [] → IsStrictlySortedBy object_cmp (keys_of rows)
one_rises rows e one = rises_one object_cmp [] rows e refl one

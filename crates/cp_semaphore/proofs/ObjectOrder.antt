-- Objects are in the order of their names and the numbers of their kinds.
use Rattle.std.proofs.Common.{◌≡◌, rules}
use Rattle.std.specs.declared.cmp.Ordering.{Ordering}
use Rattle.std.specs.Ordering.{nat_cmp, ordering_then}
use Rattle.cp_op_values.specs.contracts.kind.KindOrd.TheImpl.{cmp-value}
use Rattle.cp_op_values.specs.declared.kind.Kind.{Kind}
use Rattle.cp_group_state.specs.Rows.{Object, kind_number, name_cmp, object_cmp}

each : (a b : Kind) → (cmp-value).it a b ≡ nat_cmp (kind_number a) (kind_number b)
each a b = search rules

abbrev pub derived_cmp : Object → Object → Ordering
derived_cmp a b = ordering_then (name_cmp a.0 b.0) ((cmp-value).it a.1 b.1)

pub objects_in_order : derived_cmp ≡ object_cmp
objects_in_order = λ i a b. ordering_then (name_cmp a.0 b.0) (each a.1 b.1 i)

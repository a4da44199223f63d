-- Kinds are in the order of their numbers.
use Rattle.std.proofs.Common.{◌≡◌, rules}
use Rattle.cp_op_values.specs.contracts.kind.KindOrd.TheImpl.{cmp-value}
use Rattle.cp_op_values.specs.declared.kind.Kind.{Kind}
use Rattle.cp_wait.specs.Indexes.{kind_cmp}

each : (a b : Kind) → (cmp-value).it a b ≡ kind_cmp a b
each a b = search rules

pub kinds_in_order : (cmp-value).it ≡ kind_cmp
kinds_in_order = λ i a b. each a b i

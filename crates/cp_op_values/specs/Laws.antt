-- The grammars of values are lawful.
use Rattle.std.specs.Prelude.{◌<◌, ◌^◌, ℕ}
use Rattle.cp_codec.specs.Exact.{IsByte}
use Rattle.cp_grammar.specs.Lawful.{IsLawful}
use Rattle.cp_grammar.specs.FieldLaws.{lawful, bytes_lawful}
use Rattle.cp_op_values.specs.Numbers.{group_size}
use Rattle.cp_op_values.specs.Values.{reference, key, value, kind_grammar}
use Rattle.cp_op_values.specs.Wishes.{wish_grammar}

pub size_lawful : IsLawful IsByte group_size
unfolding group_size
size_lawful = search lawful

pub reference_lawful : (most : ℕ) → most < 2 ^ 32 → IsLawful IsByte (reference most)
unfolding reference
reference_lawful most below = search (lawful, bytes_lawful most below) depth 12

pub key_lawful : IsLawful IsByte key
unfolding key
key_lawful = search lawful

pub value_lawful : IsLawful IsByte value
unfolding value
value_lawful = search lawful

pub kind_lawful : IsLawful IsByte kind_grammar
unfolding kind_grammar
kind_lawful = search lawful depth 16

pub wish_lawful : IsLawful IsByte wish_grammar
unfolding wish_grammar
wish_lawful = search lawful depth 11

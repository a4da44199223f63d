-- What a client says in bytes.
use Rattle.cp_ops.specs.Ops.{op_grammar}
use Rattle.cp_try_rules.specs.declared.event.Says.{Says}
use Rattle.cp_try_rules.specs.declared.event.Says.TheVariants as says

-- what is asked has a spelling
abbrev pub IsSpellable : Says → Type 0
IsSpellable says.Hello = Unit {0}
IsSpellable (says.Asks attempt restart a) = op_grammar.Fits a.op

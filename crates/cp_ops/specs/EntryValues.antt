-- Values that entries hold, and their texts.
use Rattle.std.specs.Prelude.{ℕ, List, [], ◌∷◌, ◌++◌, Option, Some, None, codes, slice_index}
use Rattle.std.specs.Fmt.{decimal}
use Rattle.std.specs.Int.{w32}
use Rattle.cp_base.specs.declared.identifier.Invocation.{Invocation}
use Rattle.cp_base.specs.declared.limits.TheConstants.{MOST_EXPIRED}
use Rattle.cp_grammar.specs.Grammar.{Grammar}
use Rattle.cp_grammar.specs.Fields.{number, at_least, optional}
use Rattle.cp_grammar.specs.Lists.{listed, each}
use Rattle.cp_grammar.specs.Common.{index_pair, invocation}

-- from 1 to 100 items
abbrev pub hundred : Grammar ℕ ℕ
hundred = at_least 1 (number w32 MOST_EXPIRED)

-- from 1 to 100 sessions with their versions
unfoldable pub session_list : Grammar ℕ (List (ℕ × ℕ))
session_list = listed hundred (each index_pair)

unfoldable pub optional_invocation : Grammar ℕ (Option Invocation)
optional_invocation = optional invocation

-- `C T N`: the lowest byte of the client's identifier, the thread, the number
abbrev pub invocation_text : Invocation → List ℕ
invocation_text call = decimal (slice_index call.client.0 15) ++ 32 ∷ decimal call.thread.0 ++ 32 ∷ decimal call.number

abbrev pub for_text : Option Invocation → List ℕ
for_text None = []
for_text (Some call) = codes " for " ++ invocation_text call

-- `S:V` each after a space
abbrev pub pairs_text : List (ℕ × ℕ) → List ℕ
pairs_text [] = []
pairs_text (p ∷ ps) = 32 ∷ decimal p.0 ++ 58 ∷ decimal p.1 ++ pairs_text ps

-- `C/T/N` each after a space
abbrev pub wait_text : Invocation → List ℕ
wait_text call = 32 ∷ decimal (slice_index call.client.0 15) ++ 47 ∷ decimal call.thread.0 ++ 47 ∷ decimal call.number

unfoldable pub waits_text : List Invocation → List ℕ
waits_text [] = []
waits_text (call ∷ calls) = wait_text call ++ waits_text calls

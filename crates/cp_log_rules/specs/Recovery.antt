-- What the bodies of a journal stand for.
use Rattle.std.specs.Prelude.{ℕ, ◌+◌, List, [], ◌∷◌, length, Option, Some, None, Result, Ok, Err, if◌then◌else◌}
use Rattle.cp_grammar.specs.Grammar.{whole}
use Rattle.cp_parts.specs.declared.part.Part.{Part}
use Rattle.cp_parts.specs.Parts.{part_grammar}
use Rattle.cp_log_rules.specs.Durable.{DurableState, with_part}
use Rattle.cp_log_rules.specs.Legal.{is_legal}

-- ---- parts

-- the state after a part, if it is legal there
abbrev pub after_part : Part → DurableState → Option DurableState
after_part part s = if is_legal part s then Some (with_part part s) else None

abbrev pub after_parts : List Part → Option DurableState → Option DurableState
after_parts parts None = None
after_parts [] (Some s) = Some s
after_parts (part ∷ parts) (Some s) = after_parts parts (after_part part s)

-- What a list of parts stands for, by a fold from the state before the first; none where a part is not legal after those before it.
abbrev pub recovered : List Part → DurableState → Option DurableState
recovered parts first = after_parts parts (Some first)

-- ---- bodies

abbrev pub after_read : Result Part ℕ → DurableState → Option DurableState
after_read (Ok part) s = after_part part s
after_read (Err place) s = None

-- the state after a body, if it spells a part that is legal there
unfoldable pub after_body : List ℕ → DurableState → Option DurableState
after_body body s = after_read (whole part_grammar body) s

abbrev pub or_bad : ℕ → Option DurableState → (DurableState → Result DurableState ℕ) → Result DurableState ℕ
or_bad place None next = Err place
or_bad place (Some s) next = next s

-- What bodies stand for, or the place of the first that is no part or not legal after those before it. The length of the first
-- stands at this place of the file, and each is followed by a gate.
unfoldable pub recovered_from : ℕ → DurableState → List (List ℕ) → Result DurableState ℕ
recovered_from place s [] = Ok s
recovered_from place s (body ∷ bodies) = or_bad place (after_body body s) (λ t. recovered_from (place + (length body + 5)) t bodies)

-- what a file's bodies stand for: the length of the first stands behind the first gate
abbrev pub state_of_bodies : DurableState → List (List ℕ) → Result DurableState ℕ
state_of_bodies first bodies = recovered_from 1 first bodies

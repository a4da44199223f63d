-- What a file of a journal stands for.
use Rattle.std.specs.Prelude.{◌≡◌, ◌+◌, ◌⊎◌, ℕ, List, [], ◌∷◌, length, Result, Ok, Err}
use Rattle.cp_journal.specs.Records.{records_of}
use Rattle.cp_parts.specs.declared.part.Part.TheVariants as part
use Rattle.cp_log_rules.specs.Durable.{DurableState, with_part}
use Rattle.cp_log_rules.specs.Recovery.{state_of_bodies}
use Rattle.cp_log.specs.declared.error.StoreError.{StoreError}
use Rattle.cp_log.specs.declared.error.StoreError.TheVariants as error

abbrev pub of_bodies : Result DurableState ℕ → Result DurableState StoreError
of_bodies (Ok s) = Ok s
of_bodies (Err place) = Err (error.BadRecord place)

abbrev pub of_records : DurableState → Result (List (List ℕ)) ℕ → Result DurableState StoreError
of_records first (Ok bodies) = of_bodies (state_of_bodies first bodies)
of_records first (Err place) = Err (error.BadFrame place)

-- What a file stands for, by a fold of its parts from this state, or why it stands for nothing.
abbrev pub file_state : DurableState → List ℕ → Result DurableState StoreError
file_state first file = of_records first (records_of file)

-- the file stands for one state or for the other
abbrev pub StandsForEither : DurableState → DurableState → DurableState → List ℕ → Type 0
StandsForEither first before after file = (file_state first file ≡ Ok before) ⊎ (file_state first file ≡ Ok after)

-- the file stands for some state
abbrev pub IsSound : DurableState → List ℕ → Type 0
IsSound first file = (s : DurableState) × (file_state first file ≡ Ok s)

-- the state after the start that opening writes
abbrev pub started : DurableState → DurableState
started s = with_part (part.Start2 (s.restart + 1)) s

-- What a crash leaves while a file is opened: an image from before, or a file that stands for the same, or for that with one start more.
abbrev pub IsOpening : (List ℕ → Type 0) → DurableState → List ℕ → List ℕ → Type 0
IsOpening images first file image =
    images image ⊎ ((file_state first image ≡ file_state first file) ⊎ ((s : DurableState) × (file_state first file ≡ Ok s) × (file_state first image ≡ Ok (started s))))

-- the bytes that records have behind the first gate, with the gates behind them
abbrev pub sizes : List (List ℕ) → ℕ
sizes [] = 0
sizes (body ∷ bodies) = length body + 5 + sizes bodies

-- the file stands for a state that has P
abbrev pub IfOkState : Result DurableState StoreError → (DurableState → Type 0) → Type 0
IfOkState (Ok s) P = P s
IfOkState (Err e) P = ⊥

-- What a journal file spells: a gate, and behind each open gate a record and a gate. A gate is closed exactly where it is 0.
use Rattle.std.specs.Prelude.{Bool, ◌≡◌, ◌≤◌, ◌+◌, ◌==◌, ◌&&◌, ◌⊎◌, ℕ, zero, suc, List, [], ◌∷◌, ◌++◌, length, take, drop, slice_index, Result, Ok, Err, Option, Some, None, nat_lt, if◌then◌else◌}
use Rattle.std.specs.Int.{w32, to_be_bytes, from_be_bytes}
use Rattle.cp_base.specs.declared.limits.TheConstants.{BODY_LIMIT}

-- a body has 1 to 2^26 bytes
pub record IsBody (body : List ℕ) : Type 0 where
  pub some : 1 ≤ length body
  pub most : length body ≤ BODY_LIMIT

-- what is appended for a body: its length, the body, and a closed gate
abbrev pub record_bytes : List ℕ → List ℕ
record_bytes body = to_be_bytes w32 (length body) ++ body ++ 0 ∷ []

-- the length that stands behind a gate
abbrev pub size_at : ℕ → List ℕ → ℕ
size_at gate file = from_be_bytes w32 (take 4 (drop (gate + 1) file))

-- the place of the gate behind a record
abbrev pub next_gate : ℕ → List ℕ → ℕ
next_gate gate file = gate + 5 + size_at gate file

-- whether a whole record and a gate stand behind a gate
abbrev pub is_whole : ℕ → List ℕ → Bool
is_whole gate file = nat_lt 0 (size_at gate file) && nat_lt (size_at gate file) (BODY_LIMIT + 1) && nat_lt (next_gate gate file) (length file)

abbrev pub body_at : ℕ → List ℕ → List ℕ
body_at gate file = take (size_at gate file) (drop (gate + 5) file)

abbrev pub with_first : List ℕ → Result (List (List ℕ)) ℕ → Result (List (List ℕ)) ℕ
with_first body (Ok bodies) = Ok (body ∷ bodies)
with_first body (Err place) = Err place

-- The bodies from a gate up to the first closed gate, or the place of an open gate that no whole record and gate follow.
-- The file has fewer than `most` records.
abbrev pub records_from : (most gate : ℕ) → List ℕ → Result (List (List ℕ)) ℕ
records_from zero gate file = Err gate
records_from (suc most) gate file =
    if slice_index file gate == 0 then Ok []
    else if is_whole gate file then with_first (body_at gate file) (records_from most (next_gate gate file) file)
    else Err gate

-- the records of a file, or the place of its bad frame; a file of at most one byte has none
abbrev pub records_of : List ℕ → Result (List (List ℕ)) ℕ
records_of file = if nat_lt (length file) 2 then Ok [] else records_from (length file) 0 file

-- the place of the first closed gate, from a gate on, where only whole records stand before it
abbrev pub gate_from : (most gate : ℕ) → List ℕ → Option ℕ
gate_from zero gate file = None
gate_from (suc most) gate file =
    if slice_index file gate == 0 then Some gate
    else if is_whole gate file then gate_from most (next_gate gate file) file
    else None

-- the place of a file's first closed gate
abbrev pub closed_gate : List ℕ → Option ℕ
closed_gate file = gate_from (length file) 0 file

-- these records, and one more
abbrev pub and_record : Result (List (List ℕ)) ℕ → List ℕ → Result (List (List ℕ)) ℕ
and_record (Ok bodies) body = Ok (bodies ++ body ∷ [])
and_record (Err place) body = Err place

-- the file has the records from before, or these with the one appended
abbrev pub IsBeforeOrAfter : Result (List (List ℕ)) ℕ → List ℕ → List ℕ → Type 0
IsBeforeOrAfter records body file = (records_of file ≡ records) ⊎ (records_of file ≡ and_record records body)

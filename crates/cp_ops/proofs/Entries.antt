-- The length of entries and of what they hold.
use Rattle.std.proofs.Common.{◌≡◌, ◌≤◌, ℕ, ◌+◌, ◌-◌, ◌*◌, ◌^◌, List, [], ◌∷◌, ◌++◌, length, refl, ◌∙◌, ap, arith}
use Rattle.std.specs.Prelude.{Some, slice_get}
use Rattle.std.proofs.lemmas.Bool.{ltb-true}
use Rattle.std.proofs.lemmas.List.{length-append}
use Rattle.std.specs.Int.{w32, w64}
use Rattle.cp_grammar.specs.Grammar.{Grammar, tokens, ◌then◌}
use Rattle.cp_grammar.specs.Fields.{byte, number, at_least, marked, bytes, signed}
use Rattle.cp_grammar.specs.Lists.{ItemsFit, listed, each}
use Rattle.cp_grammar.specs.Common.{index, index_pair, name, group_id, thread_no, member_no, client_id, invocation, member_after, or_zero, last_number, members}
use Rattle.cp_op_values.specs.Numbers.{any_u32, any_u64, permits, latch_count, group_size}
use Rattle.cp_op_values.specs.Values.{reference, key, value, kind_grammar}
use Rattle.cp_op_values.specs.Wishes.{wish_grammar}
use Rattle.cp_object_ops.specs.LongOps.{long_op}
use Rattle.cp_object_ops.specs.RefOps.{ref_op_within}
use Rattle.cp_object_ops.specs.LockOps.{lock_op}
use Rattle.cp_object_ops.specs.SemOps.{sem_op}
use Rattle.cp_object_ops.specs.LatchOps.{latch_op}
use Rattle.cp_object_ops.specs.MapOps.{map_op}
use Rattle.cp_ops.specs.SessionOps.{session_op}
use Rattle.cp_ops.specs.GroupOps.{group_op}
use Rattle.cp_ops.specs.MemberOps.{member_op}
use Rattle.cp_ops.specs.ChangeOps.{change_op}
use Rattle.cp_ops.specs.Ops.{op_within}
use Rattle.cp_ops.specs.EntryValues.{session_list, hundred, optional_invocation}
use Rattle.cp_ops.specs.declared.entry.Entry.{Entry}
use Rattle.cp_ops.specs.Entries.{entry_within, entry_grammar}
use Rattle.cp_ops.specs.Sizes.{IsShort}
use Rattle.cp_ops.proofs.Parts.{byte_short, u32_short, u64_short, bytes_short, tokens_short, marked_short, always_short, no_case_short, checked_short, mapped_short, variant_short, then_short, keyed_short, case_short, optional_short, listed_short, shorter}

-- the parts: at most so many bytes each

index_short : IsShort 8 index
unfolding index
index_short = u64_short (2 ^ 62)

pair_short : IsShort 16 index_pair
unfolding index_pair
pair_short = then_short 8 index index_short 8 index index_short

name_short : IsShort 68 name
unfolding name
name_short = checked_short 68 (bytes 64) (bytes_short 64) _

group_short : IsShort 8 group_id
unfolding group_id
group_short = mapped_short 8 index index_short _ _

member_short : IsShort 1 member_no
unfolding member_no
member_short = mapped_short 1 (at_least 1 (byte 9)) (checked_short 1 (byte 9) (byte_short 9) _) _ _

invocation_short : IsShort 25 invocation
unfolding invocation client_id thread_no
invocation_short = mapped_short 25 (client_id then thread_no then index)
    (then_short 16 client_id (mapped_short 16 (tokens 16) (tokens_short 16) _ _) 9 (thread_no then index)
    (then_short 1 thread_no (mapped_short 1 (byte 8) (byte_short 8) _ _) 8 index index_short)) _ _

signed_short : IsShort 8 signed
unfolding signed
signed_short = mapped_short 8 (number w64 (2 ^ 64 - 1)) (u64_short (2 ^ 64 - 1)) _ _

reference_short : (most : ℕ) → IsShort (1 + (4 + most)) (reference most)
unfolding reference
reference_short most = optional_short (4 + most) (bytes most) (bytes_short most)

key_short : IsShort 68 key
unfolding key
key_short = checked_short 68 (bytes 64) (bytes_short 64) _

value_short : IsShort 1028 value
unfolding value
value_short = bytes_short 1024

kind_short : IsShort 1 kind_grammar
unfolding kind_grammar
kind_short = keyed_short 1 _ (checked_short 1 (byte 12) (byte_short 12) _) 0 _ _
    (case_short 0 1 _ _ (always_short 0 _) (case_short 0 2 _ _ (always_short 0 _) (case_short 0 3 _ _ (always_short 0 _) (case_short 0 4 _ _ (always_short 0 _)
    (case_short 0 5 _ _ (always_short 0 _) (case_short 0 6 _ _ (always_short 0 _) (case_short 0 12 _ _ (always_short 0 _) (no_case_short 0))))))))

wish_short : IsShort 5 wish_grammar
unfolding wish_grammar
wish_short = keyed_short 1 (byte 1) (byte_short 1) 4 _ _
    (case_short 4 0 _ _ (always_short 4 _) (case_short 4 1 _ _ (variant_short 4 any_u32 (u32_short (2 ^ 32 - 1)) _ _) (no_case_short 4)))

long_short : IsShort 17 long_op
unfolding long_op
long_short = keyed_short 1 (byte 5) (byte_short 5) 16 _ _
    (case_short 16 0 _ _ (always_short 16 _)
    (case_short 16 1 _ _ (variant_short 16 signed one _ _)
    (case_short 16 2 _ _ (variant_short 16 signed one _ _)
    (case_short 16 3 _ _ (variant_short 16 signed one _ _)
    (case_short 16 4 _ _ (variant_short 16 signed one _ _)
    (case_short 16 5 _ _ (variant_short 16 (signed then signed) (then_short 8 signed signed_short 8 signed signed_short) _ _)
    (no_case_short 16)))))))
  where
    one : IsShort 16 signed
    one = shorter 8 signed signed_short 16 (omega arith)

-- two references
abbrev both : ℕ → ℕ
both most = (1 + (4 + most)) + (1 + (4 + most))

one_of_both : (most : ℕ) → IsShort (both most) (reference most)
one_of_both most = shorter (1 + (4 + most)) (reference most) (reference_short most) (both most) (omega arith)

ref_short : (most : ℕ) → IsShort (1 + both most) (ref_op_within most)
unfolding ref_op_within
ref_short most = keyed_short 1 (byte 4) (byte_short 4) (both most) _ _
    (case_short (both most) 0 _ _ (always_short (both most) _)
    (case_short (both most) 1 _ _ (variant_short (both most) (reference most) (one_of_both most) _ _)
    (case_short (both most) 2 _ _ (variant_short (both most) (reference most) (one_of_both most) _ _)
    (case_short (both most) 3 _ _ (variant_short (both most) (reference most then reference most) (then_short (1 + (4 + most)) (reference most) (reference_short most) (1 + (4 + most)) (reference most) (reference_short most)) _ _)
    (case_short (both most) 4 _ _ (variant_short (both most) (reference most) (one_of_both most) _ _)
    (no_case_short (both most)))))))

lock_short : IsShort 18 lock_op
unfolding lock_op
lock_short = keyed_short 1 (byte 2) (byte_short 2) 17 _ _
    (case_short 17 0 _ _ (always_short 17 _)
    (case_short 17 1 _ _ (variant_short 17 (index then any_u32 then wish_grammar) (then_short 8 index index_short 9 (any_u32 then wish_grammar) (then_short 4 any_u32 (u32_short (2 ^ 32 - 1)) 5 wish_grammar wish_short)) _ _)
    (case_short 17 2 _ _ (variant_short 17 index (shorter 8 index index_short 17 (omega arith)) _ _)
    (no_case_short 17))))

permits_short : IsShort 4 permits
permits_short = u32_short (2 ^ 31 - 1)

sem_short : (most_session : ℕ) → IsShort 18 (sem_op most_session)
unfolding sem_op
sem_short most_session = keyed_short 1 (byte 6) (byte_short 6) 17 _ _
    (case_short 17 0 _ _ (always_short 17 _)
    (case_short 17 1 _ _ (variant_short 17 permits (shorter 4 permits permits_short 17 (omega arith)) _ _)
    (case_short 17 2 _ _ (variant_short 17 (number w64 most_session then permits then wish_grammar) (then_short 8 (number w64 most_session) (u64_short most_session) 9 (permits then wish_grammar) (then_short 4 permits permits_short 5 wish_grammar wish_short)) _ _)
    (case_short 17 3 _ _ (variant_short 17 (number w64 most_session then permits) one _ _)
    (case_short 17 4 _ _ (variant_short 17 (number w64 most_session) (shorter 8 (number w64 most_session) (u64_short most_session) 17 (omega arith)) _ _)
    (case_short 17 5 _ _ (variant_short 17 (number w64 most_session then permits) one _ _)
    (case_short 17 6 _ _ (variant_short 17 (number w64 most_session then permits) one _ _)
    (no_case_short 17))))))))
  where
    one : IsShort 17 (number w64 most_session then permits)
    one = shorter 12 (number w64 most_session then permits) (then_short 8 (number w64 most_session) (u64_short most_session) 4 permits permits_short) 17 (omega arith)

latch_short : IsShort 9 latch_op
unfolding latch_op
latch_short = keyed_short 1 (byte 4) (byte_short 4) 8 _ _
    (case_short 8 0 _ _ (always_short 8 _)
    (case_short 8 1 _ _ (always_short 8 _)
    (case_short 8 2 _ _ (variant_short 8 latch_count (shorter 4 latch_count (checked_short 4 (number w32 10000) (u32_short 10000) _) 8 (omega arith)) _ _)
    (case_short 8 3 _ _ (variant_short 8 index index_short _ _)
    (case_short 8 4 _ _ (variant_short 8 (marked 1 any_u32) (shorter 5 (marked 1 any_u32) (marked_short 4 1 any_u32 (u32_short (2 ^ 32 - 1))) 8 (omega arith)) _ _)
    (no_case_short 8))))))

map_short : IsShort 2125 map_op
unfolding map_op
map_short = keyed_short 1 (byte 6) (byte_short 6) 2124 _ _
    (case_short 2124 0 _ _ (variant_short 2124 key one _ _)
    (case_short 2124 1 _ _ (variant_short 2124 (key then value) two _ _)
    (case_short 2124 2 _ _ (variant_short 2124 (key then value) two _ _)
    (case_short 2124 3 _ _ (variant_short 2124 key one _ _)
    (case_short 2124 4 _ _ (variant_short 2124 key one _ _)
    (case_short 2124 5 _ _ (variant_short 2124 (key then value) two _ _)
    (case_short 2124 6 _ _ (variant_short 2124 (key then value then value) (then_short 68 key key_short 2056 (value then value) (then_short 1028 value value_short 1028 value value_short)) _ _)
    (no_case_short 2124))))))))
  where
    one : IsShort 2124 key
    one = shorter 68 key key_short 2124 (omega arith)

    two : IsShort 2124 (key then value)
    two = shorter 1096 (key then value) (then_short 68 key key_short 1028 value value_short) 2124 (omega arith)

session_short : IsShort 9 session_op
unfolding session_op
session_short = keyed_short 1 (byte 2) (byte_short 2) 8 _ _
    (case_short 8 0 _ _ (always_short 8 _)
    (case_short 8 1 _ _ (variant_short 8 index index_short _ _)
    (case_short 8 2 _ _ (variant_short 8 index index_short _ _)
    (no_case_short 8))))

group_op_short : IsShort 70 group_op
unfolding group_op group_size
group_op_short = keyed_short 1 (byte 1) (byte_short 1) 69 _ _
    (case_short 69 0 _ _ (variant_short 69 (name then group_size) (then_short 68 name name_short 1 group_size (checked_short 1 (byte 9) (byte_short 9) _)) _ _)
    (case_short 69 1 _ _ (variant_short 69 name (shorter 68 name name_short 69 (omega arith)) _ _)
    (no_case_short 69)))

member_op_short : IsShort 2 member_op
unfolding member_op
member_op_short = keyed_short 1 (byte 1) (byte_short 1) 1 _ _
    (case_short 1 0 _ _ (variant_short 1 member_no member_short _ _)
    (case_short 1 1 _ _ (variant_short 1 member_no member_short _ _)
    (no_case_short 1)))

change_op_short : IsShort 10 change_op
unfolding change_op
change_op_short = keyed_short 1 (byte 1) (byte_short 1) 9 _ _
    (case_short 9 0 _ _ (variant_short 9 (member_no then index) one _ _)
    (case_short 9 1 _ _ (variant_short 9 (member_no then index) one _ _)
    (no_case_short 9)))
  where
    one : IsShort 9 (member_no then index)
    one = then_short 1 member_no member_short 8 index index_short

-- an operation after its byte
module _ (most n : ℕ) (reference_fits : 2 * most + 79 ≤ n) (map_fits : 2193 ≤ n) where
  named : {A : Type 0} (k : ℕ) (g : Grammar ℕ A) → IsShort k g → 68 + k ≤ n → IsShort n (name then g)
  named k g short below = shorter (68 + k) (name then g) (then_short 68 name name_short k g short) n below

  op_short : IsShort (1 + n) (op_within most)
  unfolding op_within
  op_short = keyed_short 1 (at_least 1 (byte 12)) (checked_short 1 (byte 12) (byte_short 12) _) n _ _
      (case_short n 1 _ _ (variant_short n (name then long_op) (named 17 long_op long_short (omega (arith, map_fits))) _ _)
      (case_short n 2 _ _ (variant_short n (name then (ref_op_within most)) (named (1 + both most) (ref_op_within most) (ref_short most) (omega (arith, reference_fits))) _ _)
      (case_short n 3 _ _ (variant_short n (name then lock_op) (named 18 lock_op lock_short (omega (arith, map_fits))) _ _)
      (case_short n 4 _ _ (variant_short n (name then (sem_op (2 ^ 62))) (named 18 (sem_op (2 ^ 62)) (sem_short (2 ^ 62)) (omega (arith, map_fits))) _ _)
      (case_short n 5 _ _ (variant_short n (name then (sem_op 0)) (named 18 (sem_op 0) (sem_short 0) (omega (arith, map_fits))) _ _)
      (case_short n 6 _ _ (variant_short n (name then latch_op) (named 9 latch_op latch_short (omega (arith, map_fits))) _ _)
      (case_short n 7 _ _ (variant_short n session_op (shorter 9 session_op session_short n (omega (arith, map_fits))) _ _)
      (case_short n 8 _ _ (variant_short n (kind_grammar then name) (shorter 69 (kind_grammar then name) (then_short 1 kind_grammar kind_short 68 name name_short) n (omega (arith, map_fits))) _ _)
      (case_short n 9 _ _ (variant_short n group_op (shorter 70 group_op group_op_short n (omega (arith, map_fits))) _ _)
      (case_short n 10 _ _ (variant_short n member_op (shorter 2 member_op member_op_short n (omega (arith, map_fits))) _ _)
      (case_short n 11 _ _ (variant_short n change_op (shorter 10 change_op change_op_short n (omega (arith, map_fits))) _ _)
      (case_short n 12 _ _ (variant_short n (name then map_op) (named 2125 map_op map_short (omega (arith, map_fits))) _ _)
      (no_case_short n)))))))))))))

-- ---- lists

hundred_short : IsShort 4 hundred
hundred_short = checked_short 4 (number w32 100) (u32_short 100) _

sessions_short : IsShort 1604 session_list
unfolding session_list each
sessions_short = listed_short 16 (each index_pair) (λ before. pair_short) 4 100 hundred hundred_short (λ xs fits counted. counted.0)

waits_short : IsShort 2504 (listed hundred (each invocation))
unfolding each
waits_short = listed_short 25 (each invocation) (λ before. invocation_short) 4 100 hundred hundred_short (λ xs fits counted. counted.0)

optional_invocation_short : IsShort 26 optional_invocation
unfolding optional_invocation
optional_invocation_short = optional_short 25 invocation invocation_short

get_last : {X : Type 0} (xs : List X) (x : X) → slice_get (xs ++ x ∷ []) (length xs) ≡ Some x
get_last [] x = refl
get_last (z ∷ xs) x = get_last xs x

-- the last of some numbers and one more is that one
last_pushed : (before : List ℕ) (m : ℕ) → last_number (before ++ m ∷ []) ≡ m
last_pushed before m =
    let len : length (before ++ m ∷ []) - 1 ≡ length before = omega (arith, length-append before (m ∷ [])) in
    ap or_zero (ap (λ place. slice_get (before ++ m ∷ []) place) len ∙ get_last before m)

-- members rise up to 9
few_members : (before xs : List ℕ) → last_number before ≤ 9 → ItemsFit member_after before xs → length xs + last_number before ≤ 9
unfolding member_after ItemsFit
few_members before [] small fits = omega (arith, small)
few_members before (m ∷ xs) small fits =
    let rest = few_members (before ++ m ∷ []) xs (omega (arith, last_pushed before m, fits.0.0)) fits.1 in
    omega (arith, rest, last_pushed before m, ltb-true (last_number before) m fits.0.1)

one_member : (before : List ℕ) → IsShort 1 (member_after before)
unfolding member_after
one_member before = checked_short 1 (byte 9) (byte_short 9) _

members_short : IsShort 13 members
unfolding members
members_short = listed_short 1 member_after one_member 4 9 (at_least 1 (number w32 (2 ^ 32 - 1))) (checked_short 4 (number w32 (2 ^ 32 - 1)) (u32_short (2 ^ 32 - 1)) _)
    (λ xs fits counted. omega (arith, few_members [] xs (omega arith) fits))

-- ---- entries

module _ (most n : ℕ) (reference_fits : 2 * most + 105 ≤ n) (list_fits : 2504 ≤ n) where
  abbrev call_op : ℕ
  call_op = n - 26

  entry_short : IsShort (1 + n) (entry_within most)
  unfolding entry_within
  entry_short = keyed_short 1 (byte 8) (byte_short 8) n _ _
      (case_short n 0 _ _ (always_short n _)
      (case_short n 1 _ _ (variant_short n (invocation then (op_within most)) (shorter (25 + (1 + call_op)) (invocation then (op_within most)) (then_short 25 invocation invocation_short (1 + call_op) (op_within most) (op_short most call_op (omega (arith, reference_fits)) (omega (arith, list_fits)))) n (omega (arith, list_fits))) _ _)
      (case_short n 2 _ _ (variant_short n session_list (shorter 1604 session_list sessions_short n (omega (arith, list_fits))) _ _)
      (case_short n 3 _ _ (variant_short n (listed hundred (each invocation)) (shorter 2504 (listed hundred (each invocation)) waits_short n (omega (arith, list_fits))) _ _)
      (case_short n 4 _ _ (variant_short n (optional_invocation then any_u64 then members) (shorter 47 (optional_invocation then any_u64 then members) (then_short 26 optional_invocation optional_invocation_short 21 (any_u64 then members) (then_short 8 any_u64 (u64_short (2 ^ 64 - 1)) 13 members members_short)) n (omega (arith, list_fits))) _ _)
      (case_short n 5 _ _ (variant_short n group_id (shorter 8 group_id group_short n (omega (arith, list_fits))) _ _)
      (case_short n 6 _ _ (variant_short n group_id (shorter 8 group_id group_short n (omega (arith, list_fits))) _ _)
      (case_short n 7 _ _ (variant_short n (group_id then index then members) (shorter 29 (group_id then index then members) (then_short 8 group_id group_short 21 (index then members) (then_short 8 index index_short 13 members members_short)) n (omega (arith, list_fits))) _ _)
      (case_short n 8 _ _ (variant_short n member_no (shorter 1 member_no member_short n (omega (arith, list_fits))) _ _)
      (no_case_short n))))))))))

pub entries_short : (e : Entry) → entry_grammar.Fits e → length (entry_grammar.spelling e) ≤ 8192
entries_short e fits = (entry_short 4000 8191 (omega arith) (omega arith)).bound e fits

pub older_entries_short : (e : Entry) → (entry_within 1024).Fits e → length ((entry_within 1024).spelling e) ≤ 4096
older_entries_short e fits = (entry_short 1024 4095 (omega arith) (omega arith)).bound e fits

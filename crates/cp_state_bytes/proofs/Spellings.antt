-- The spelling of a state is that of its lists, row by row.
use Rattle.std.proofs.Common.{◌≡◌, ℕ, ◌^◌, ◌<◌, List, [], ◌∷◌, ◌++◌, length, Ok, refl, ap, sym, subst, ◌∙◌, append_assoc, arith}
use Rattle.std.specs.Prelude.{ℤ, Option}
use Rattle.std.specs.Int.{w32}
use Rattle.std.proofs.lemmas.List.{append-nil, nil_from_length}
use Rattle.std.specs.List.{AllByRecursion}
use Rattle.cp_codec.specs.Fields.{big_endian}
use Rattle.cp_grammar.specs.Grammar.{Grammar}
use Rattle.cp_grammar.specs.Lists.{items_spelling, each}
use Rattle.cp_group_state.specs.GroupState.{GroupState}
use Rattle.cp_group_state.specs.Rows.{Named, Object, holding_cmp, put}
use Rattle.cp_group_state.specs.Invariants.{IsRising}
use Rattle.cp_group_state.specs.declared.rows.SessionRow.{SessionRow}
use Rattle.cp_group_state.specs.declared.rows.LockRow.{LockRow}
use Rattle.cp_group_state.specs.declared.rows.SemaphoreRow.{SemaphoreRow}
use Rattle.cp_group_state.specs.declared.rows.LatchRow.{LatchRow}
use Rattle.cp_group_state.specs.declared.rows.Waiter.{Waiter}
use Rattle.cp_group_state.specs.declared.rows.MemoryRow.{MemoryRow}
use Rattle.cp_group_ranges.specs.Rows.{HoldingFits}
use Rattle.cp_group_ranges.specs.States.{IsSound}
use Rattle.cp_state_bytes.specs.declared.version.Version.TheVariants.{Third}
use Rattle.cp_state_bytes.specs.Versions.{version_grammar}
use Rattle.cp_state_bytes.specs.Rows.{name_behind, object_behind, session_row, lock_row, semaphore_row, held_row, counted_list, latch_row, long_row, ref_row, gone_row, waiter_row, holder_behind, memory_row, place_behind, pair_row}
use Rattle.cp_state_bytes.specs.Lists.{Holdings, Held, by_name, by_session, sorted_into, turned, session_list, lock_list, semaphore_list, held_list, holding_list, latch_list, long_list, ref_list, gone_list, waiter_list, memory_list, pair_list}
use Rattle.std.specs.BTreeMap.{BTreeMap}
use Rattle.cp_semaphore.specs.Nested.{Nested, under, flat}
use Rattle.cp_state_bytes.specs.Keys.{held_cmp}
use Rattle.cp_state_bytes.proofs.Resorted.{each-by_name, length-by_session, by_session-by_name}
use Rattle.cp_state_bytes.specs.States.{owners, objects, calls, lists_in, state_in, any_version, spelled, restored, HasCounts}
use Rattle.cp_state_bytes.proofs.Sound.{come_back}
use Rattle.cp_state_bytes.specs.Spelled.{each_spelled, list_spelled, HeldFits}
use Rattle.cp_state_bytes.specs.Whole.{owners_spelled, objects_spelled, calls_spelled}

items_each : {A : Type 0} (item : List A → Grammar ℕ A) → ((before : List A) (x : A) → (item before).spelling x ≡ (item []).spelling x) → (before xs : List A) → items_spelling item before xs ≡ each_spelled (item []) xs
unfolding items_spelling each_spelled
items_each item same before [] = refl
items_each item same before (x ∷ xs) = ap (λ (front : List ℕ). front ++ items_spelling item (before ++ x ∷ []) xs) (same before x) ∙ ap (λ (rest : List ℕ). (item []).spelling x ++ rest) (items_each item same (before ++ x ∷ []) xs)

counted : {A : Type 0} (item : List A → Grammar ℕ A) → ((before : List A) (x : A) → (item before).spelling x ≡ (item []).spelling x) → (xs : List A) → big_endian w32 (length xs) ++ items_spelling item [] xs ≡ list_spelled (item []) xs
counted item same xs = ap (λ (rest : List ℕ). big_endian w32 (length xs) ++ rest) (items_each item same [] xs)

sessions_are : (rows : List (ℕ × SessionRow)) → session_list.spelling rows ≡ list_spelled (session_row []) rows
unfolding session_list session_row
sessions_are rows = counted session_row (λ before x. refl) rows

locks_are : (rows : Named LockRow) → lock_list.spelling rows ≡ list_spelled (lock_row []) rows
unfolding lock_list lock_row name_behind
locks_are rows = counted lock_row (λ before x. refl) rows

semaphores_are : (rows : List (Object × SemaphoreRow)) → semaphore_list.spelling rows ≡ list_spelled (semaphore_row []) rows
unfolding semaphore_list semaphore_row object_behind
semaphores_are rows = counted semaphore_row (λ before x. refl) rows

held_are : (rows : Held) → held_list.spelling rows ≡ list_spelled (held_row []) rows
unfolding held_list held_row
held_are rows = counted held_row (λ before x. refl) rows

holdings_are : (rows : Holdings) → holding_list.spelling rows ≡ list_spelled (held_row []) (by_name rows)
unfolding holding_list
holdings_are rows = held_are (by_name rows)

latches_are : (rows : Named LatchRow) → latch_list.spelling rows ≡ list_spelled (latch_row []) rows
unfolding latch_list latch_row name_behind counted_list
latches_are rows = counted latch_row (λ before x. refl) rows

longs_are : (rows : Named ℤ) → long_list.spelling rows ≡ list_spelled (long_row []) rows
unfolding long_list long_row name_behind
longs_are rows = counted long_row (λ before x. refl) rows

refs_are : (rows : Named (Option (List ℕ))) → (ref_list Third).spelling rows ≡ list_spelled (ref_row Third []) rows
unfolding ref_list ref_row name_behind
refs_are rows = counted (ref_row Third) (λ before x. refl) rows

gone_are : (rows : List (Object × Unit {0})) → (gone_list Third).spelling rows ≡ list_spelled (gone_row Third []) rows
unfolding gone_list gone_row object_behind
gone_are rows = counted (gone_row Third) (λ before x. refl) rows

waiters_are : (rows : List Waiter) → waiter_list.spelling rows ≡ list_spelled waiter_row rows
unfolding waiter_list each
waiters_are rows = counted (each waiter_row) (λ before x. refl) rows

memory_are : (rows : List ((ℕ × ℕ) × MemoryRow)) → (memory_list Third).spelling rows ≡ list_spelled (memory_row Third []) rows
unfolding memory_list memory_row holder_behind
memory_are rows = counted (memory_row Third) (λ before x. refl) rows

pairs_are : (rows : List ((List ℕ × List ℕ) × List ℕ)) → (pair_list Third).spelling rows ≡ list_spelled (pair_row []) rows
unfolding pair_list pair_row place_behind
pairs_are rows = counted pair_row (λ before x. refl) rows

owners_are : (s : GroupState) → owners.spelling (s.destroyed_group, (s.sessions, (s.locks, (s.semaphores.rows, s.semaphores.holdings)))) ≡ owners_spelled s
unfolding owners owners_spelled
owners_are s = rw (sessions_are s.sessions, locks_are s.locks, semaphores_are s.semaphores.rows, holdings_are s.semaphores.holdings) refl

objects_are : (s : GroupState) → (objects Third).spelling (s.latches, (s.longs, (s.refs, s.gone))) ≡ objects_spelled s
unfolding objects objects_spelled
objects_are s = rw (latches_are s.latches, longs_are s.longs, refs_are s.refs, gone_are s.gone) refl

calls_are : (s : GroupState) → (calls Third).spelling (s.waiters, (s.memory, s.maps)) ≡ calls_spelled s
unfolding calls calls_spelled
calls_are s = rw (waiters_are s.waiters, memory_are s.memory, pairs_are s.maps) refl

parts_are : (s : GroupState) → spelled s ≡ version_grammar.spelling Third ++ (owners_spelled s ++ (objects_spelled s ++ calls_spelled s))
unfolding spelled any_version state_in lists_in
parts_are s = rw (owners_are s, objects_are s, calls_are s) refl

pub whole_spelled : (s : GroupState) (out a b c d : List ℕ) → a ≡ out ++ version_grammar.spelling Third → b ≡ a ++ owners_spelled s → c ≡ b ++ objects_spelled s → d ≡ c ++ calls_spelled s → d ≡ out ++ spelled s
whole_spelled s out a b c d first second third last =
    let grouped : (((out ++ version_grammar.spelling Third) ++ owners_spelled s) ++ objects_spelled s) ++ calls_spelled s ≡ out ++ (version_grammar.spelling Third ++ (owners_spelled s ++ (objects_spelled s ++ calls_spelled s))) = simp append_assoc in
    last
    ∙ ap (λ (x : List ℕ). x ++ calls_spelled s) (third ∙ ap (λ (x : List ℕ). x ++ objects_spelled s) (second ∙ ap (λ (x : List ℕ). x ++ owners_spelled s) first))
    ∙ grouped
    ∙ ap (λ (x : List ℕ). out ++ x) (sym (parts_are s))

pub held_rows_fit : (rows : Holdings) → AllByRecursion HoldingFits rows → AllByRecursion HeldFits (by_name rows)
held_rows_fit rows all = each-by_name HoldingFits HeldFits (λ e h. h) rows all

-- as many rows come out of sorting as went in
pub counts_again : (s : GroupState) → IsRising holding_cmp s.semaphores.holdings → length (by_name s.semaphores.holdings) < 2 ^ 32 → length s.memory < 2 ^ 32 → HasCounts s
counts_again s rising few memory =
    let same : length (by_session (by_name s.semaphores.holdings)) ≡ length s.semaphores.holdings = ap (λ (rows : Holdings). length rows) (by_session-by_name s.semaphores.holdings rising) in
    record { holdings = omega (arith, same, few, length-by_session (by_name s.semaphores.holdings)); memory = memory }

pub comes_back : (s : GroupState) → IsSound s → length (by_name s.semaphores.holdings) < 2 ^ 32 → length s.memory < 2 ^ 32 → restored (spelled s) ≡ Ok s
comes_back s sound few memory = come_back s sound (counts_again s sound.ordered.holdings few memory)

-- ---- what sessions hold, session by session

into_append : (acc : Held) (xs ys : Holdings) → sorted_into held_cmp turned acc (xs ++ ys) ≡ sorted_into held_cmp turned (sorted_into held_cmp turned acc xs) ys
into_append acc [] ys = refl
into_append acc (x ∷ xs) ys = into_append (put held_cmp acc (turned x.0) x.1) xs ys

pub one_session : (map next total : Held) (session : ℕ) (held : BTreeMap (List ℕ) ℕ) (left rest : Nested) → next ≡ sorted_into held_cmp turned map (under session held.entries) → left ≡ (session, held) ∷ rest → sorted_into held_cmp turned map (flat left) ≡ total → sorted_into held_cmp turned next (flat rest) ≡ total
one_session map next total session held left rest is first so_far =
    ap (λ (m : Held). sorted_into held_cmp turned m (flat rest)) is
    ∙ sym (into_append map (under session held.entries) (flat rest))
    ∙ ap (λ (rows : Nested). sorted_into held_cmp turned map (flat rows)) (sym first)
    ∙ so_far

-- ---- rows, one after another

module _ {A : Type 0} where
  pub row_written : (g : Grammar ℕ A) (out next total : List ℕ) (x : A) (left rest : List A) → left ≡ x ∷ rest → next ≡ out ++ g.spelling x → out ++ each_spelled g left ≡ total → next ++ each_spelled g rest ≡ total
  unfolding each_spelled
  row_written g out next total x left rest first push so_far =
      ap (λ (n : List ℕ). n ++ each_spelled g rest) push ∙ append_assoc out (g.spelling x) (each_spelled g rest) ∙ ap (λ (xs : List A). out ++ each_spelled g xs) (sym first) ∙ so_far

  pub all_written : (g : Grammar ℕ A) (out total : List ℕ) (left : List A) → left ≡ [] → out ++ each_spelled g left ≡ total → out ≡ total
  unfolding each_spelled
  all_written g out total left none so_far = sym (append-nil out) ∙ ap (λ (xs : List A). out ++ each_spelled g xs) (sym none) ∙ so_far

  pub none_left_written : (g : Grammar ℕ A) (out total : List ℕ) (left : List A) → length left ≡ 0 → out ++ each_spelled g left ≡ total → out ≡ total
  none_left_written g out total left empty so_far = all_written g out total left (nil_from_length left empty) so_far

  pub first_fits : (P : A → Type 0) (left rest : List A) (x : A) → left ≡ x ∷ rest → AllByRecursion P left → P x
  first_fits P left rest x first all = (subst (λ xs. AllByRecursion P xs) first all).0

  pub rest_fits : (P : A → Type 0) (left rest : List A) (x : A) → left ≡ x ∷ rest → AllByRecursion P left → AllByRecursion P rest
  rest_fits P left rest x first all = (subst (λ xs. AllByRecursion P xs) first all).1

pub one_held : (map next total : Held) (session : ℕ) (name : List ℕ) (permits : ℕ) (left rest : List (List ℕ × ℕ)) → next ≡ put held_cmp map (name, session) permits → left ≡ (name, permits) ∷ rest → sorted_into held_cmp turned map (under session left) ≡ total → sorted_into held_cmp turned next (under session rest) ≡ total
one_held map next total session name permits left rest is first so_far =
    ap (λ (m : Held). sorted_into held_cmp turned m (under session rest)) is
    ∙ ap (λ (xs : List (List ℕ × ℕ)). sorted_into held_cmp turned map (under session xs)) (sym first)
    ∙ so_far

-- the newest version has a spelling
pub newest_fits : version_grammar.Fits Third
unfolding version_grammar
newest_fits = ((omega arith, refl), refl)

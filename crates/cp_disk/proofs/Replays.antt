-- Changes that are done in turn.
use Rattle.std.proofs.Common.{◌≡◌, ◌≤◌, ◌+◌, ◌/◌, ◌++◌, ℕ, zero, suc, List, [], ◌∷◌, length, take, drop, max, replicate, Option, sym, ap, ◌∙◌, arith, length-append}
use Rattle.std.specs.Prelude.{reverse}
use Rattle.std.proofs.lemmas.Grind.{common_steps}
use Rattle.std.proofs.lemmas.Bool.Decides.{nat_tests}
use Rattle.std.proofs.lemmas.List.{drop-append-le, drop_all, reverse-append}
use Rattle.cp_disk.specs.declared.record.Call.{Call}
use Rattle.cp_disk.specs.declared.record.Call.TheVariants.{Write, Cut, Sync, Crash}
use Rattle.cp_disk.specs.Record.{put_at, torn_by, cut_by, changed_by, bits_of, pending, after, replayed}
use Rattle.cp_disk.specs.Room.{reach, reach_of}

pub put_length : (at : ℕ) (piece old : List ℕ) → length (put_at at piece old) ≤ max (length old) (at + length piece)
put_length at [] old = omega arith
put_length at (byte ∷ piece) old = grind (arith, common_steps)

torn_length : (bits at : ℕ) (piece old : List ℕ) → length (torn_by bits at piece old) ≤ max (length old) (at + length piece)
torn_length bits at piece old = grind (arith, nat_tests, common_steps, put_length at piece old, put_length at (take (length piece / 2) piece) old, put_length at (replicate (length piece) 255) old)

cut_length : (bits n : ℕ) (old : List ℕ) → length (cut_by bits n old) ≤ length old
cut_length bits n old = grind (arith, nat_tests, common_steps)

changed_length : (bits : ℕ) (call : Call) (old : List ℕ) → length (changed_by bits call old) ≤ max (length old) (reach_of call)
changed_length bits (Write at piece) old = torn_length bits at piece old
changed_length bits (Cut n) old = omega (arith, cut_length bits n old)
changed_length bits Sync old = omega arith
changed_length bits (Crash choice) old = omega arith

pub replayed_length : (choice : Option ℕ) (number : ℕ) (calls : List Call) (bytes : List ℕ) → length (replayed choice number calls bytes) ≤ max (length bytes) (reach calls)
replayed_length choice number [] bytes = omega arith
replayed_length choice number (call ∷ calls) bytes =
    let now : List ℕ = changed_by (bits_of choice number) call bytes in
    omega (arith, replayed_length choice (number + 1) calls now, changed_length (bits_of choice number) call bytes)

pub replayed_push : (choice : Option ℕ) (number n : ℕ) (calls : List Call) (call : Call) (bytes : List ℕ) → n ≡ number + length calls
    → replayed choice number (calls ++ call ∷ []) bytes ≡ changed_by (bits_of choice n) call (replayed choice number calls bytes)
replayed_push choice number n [] call bytes is =
    let same : number ≡ n = omega arith in
    ap (λ (k : ℕ). changed_by (bits_of choice k) call bytes) same
replayed_push choice number n (first ∷ calls) call bytes is = replayed_push choice (number + 1) n calls call (changed_by (bits_of choice number) first bytes) (omega arith)

pub reach_push : (calls : List Call) (call : Call) → reach (calls ++ call ∷ []) ≡ max (reach calls) (reach_of call)
reach_push [] call = omega arith
reach_push (first ∷ calls) call = omega (arith, reach_push calls call)

pub reach_drop : (n : ℕ) (calls : List Call) → reach (drop n calls) ≤ reach calls
reach_drop zero calls = omega arith
reach_drop (suc n) [] = omega arith
reach_drop (suc n) (call ∷ calls) = omega (arith, reach_drop n calls)

-- one change more
module _ (calls next : List Call) (settled : ℕ) (call : Call) (is : next ≡ calls ++ call ∷ []) (within : settled ≤ length calls)
    (steps : (l : List Call) → pending (call ∷ l) ≡ suc (pending l))
    (changes : (choice : Option ℕ) (l : List Call) → after choice (call ∷ l) ≡ changed_by (bits_of choice (pending l)) call (after choice l))
    (counted : pending (reverse calls) ≡ length (drop settled calls)) where
  pub turned : reverse next ≡ call ∷ reverse calls
  turned = ap reverse is ∙ reverse-append calls (call ∷ [])

  tail : drop settled next ≡ drop settled calls ++ call ∷ []
  tail = ap (drop settled) is ∙ drop-append-le settled calls (call ∷ []) within

  pub push_counted : pending (reverse next) ≡ length (drop settled next)
  push_counted = ap pending turned ∙ steps (reverse calls) ∙ omega (arith, ap length tail, counted, length-append (drop settled calls) (call ∷ []))

  pub push_replays : (bytes : List ℕ) → ((choice : Option ℕ) → after choice (reverse calls) ≡ replayed choice 0 (drop settled calls) bytes)
      → (choice : Option ℕ) → after choice (reverse next) ≡ replayed choice 0 (drop settled next) bytes
  push_replays bytes replays choice =
      ap (after choice) turned ∙ changes choice (reverse calls)
      ∙ ap (λ (old : List ℕ). changed_by (bits_of choice (pending (reverse calls))) call old) (replays choice)
      ∙ ap (λ (k : ℕ). changed_by (bits_of choice k) call (replayed choice 0 (drop settled calls) bytes)) counted
      ∙ sym (replayed_push choice 0 (length (drop settled calls)) (drop settled calls) call bytes (omega arith))
      ∙ ap (λ (l : List Call). replayed choice 0 l bytes) (sym tail)

  pub push_reach : reach next ≡ max (reach calls) (reach_of call)
  push_reach = ap reach is ∙ reach_push calls call

-- once a sync or a crash settled what was pending
module _ (calls next : List Call) (settled end : ℕ) (call : Call) (is : next ≡ calls ++ call ∷ []) (ends : end ≡ length next) where
  none_left : drop end next ≡ []
  none_left = drop_all end next (omega arith)

  turned_last : reverse next ≡ call ∷ reverse calls
  turned_last = ap reverse is ∙ reverse-append calls (call ∷ [])

  pub settled_counted : ((l : List Call) → pending (call ∷ l) ≡ 0) → pending (reverse next) ≡ length (drop end next)
  settled_counted none = ap pending turned_last ∙ none (reverse calls) ∙ sym (ap length none_left)

  pub settled_replays : (by : Option ℕ) (old new : List ℕ) → ((choice : Option ℕ) (l : List Call) → after choice (call ∷ l) ≡ after by l)
      → after by (reverse calls) ≡ replayed by 0 (drop settled calls) old → new ≡ replayed by 0 (drop settled calls) old
      → (choice : Option ℕ) → after choice (reverse next) ≡ replayed choice 0 (drop end next) new
  settled_replays by old new settles replays done choice =
      ap (after choice) turned_last ∙ settles choice (reverse calls) ∙ replays ∙ sym done ∙ ap (λ (l : List Call). replayed choice 0 l new) (sym none_left)

  pub settled_long : (by : Option ℕ) (old new : List ℕ) → new ≡ replayed by 0 (drop settled calls) old → length old ≤ reach calls → length new ≤ reach calls
  settled_long by old new done long = omega (arith, ap length done, replayed_length by 0 (drop settled calls) old, reach_drop settled calls)

  pub settled_reach : reach_of call ≡ 0 → reach next ≡ reach calls
  settled_reach none = omega (arith, ap reach is, reach_push calls call)

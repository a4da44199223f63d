-- What a chunk makes of what was received, where it goes on.
use Rattle.std.proofs.Common.{◌≡◌, ◌≤◌, ◌==◌, ◌&&◌, ℕ, zero, suc, ⊎_elim, Bool, true, false, List, ◌++◌, length, take, refl, ap, sym, ◌∙◌, Option, Some, None, option_map, nat_lt, if◌then◌else◌}
use Rattle.std.proofs.lemmas.Bool.{cases_Bool}
use Rattle.std.proofs.lemmas.List.{take_all}
use Rattle.cp_message.specs.declared.snapshot.Chunk.{Chunk}
use Rattle.cp_rules.specs.Limits.{most_snapshot}
use Rattle.cp_rules.specs.Volatile.{Received}
use Rattle.cp_rules.specs.Snapshots as step
use Rattle.cp_rules.specs.Snapshots.{received_of, joined, progress_of}
use Rattle.cp_snapshot.specs.declared.assembler.Progress.TheVariants.{More, Whole, TooLong}
use Rattle.cp_snapshot.specs.declared.assembler.Source.{Source}
use Rattle.cp_snapshot.specs.declared.joining.Join.TheVariants.{Apart, Anew, On}
use Rattle.cp_snapshot.specs.Decisions.{join, joined_to, progress_at, told, whole_in}
use Rattle.cp_snapshot.specs.Assemblers.{received_in}

on_of : (b : List ℕ) (offset : ℕ) (bytes : List ℕ) → join (Some (length b)) offset ≡ On → joined (Some b) offset bytes ≡ Some (b ++ bytes)
on_of b zero bytes h = absurd (let z : Anew ≡ On = h in cc)
on_of b (suc offset) bytes h = ⊎_elim
    (λ (e : (length b == suc offset) ≡ true). rw e refl)
    (λ (e : (length b == suc offset) ≡ false). let z : Apart ≡ On = rw e at h in absurd (cc))
    (cases_Bool (length b == suc offset))

never_on : (offset : ℕ) → join None offset ≡ On → ⊥
never_on zero h = let z : Anew ≡ On = h in cc
never_on (suc offset) h = let z : Apart ≡ On = h in cc

goes_on : (c : Chunk) (source : Option Source) (b : List ℕ) → join (option_map (λ bytes. length bytes) (received_of c.term c.index (received_in source b))) c.offset ≡ On → progress_at c (received_in source b) ≡ joined_to c.last (b ++ c.bytes)
goes_on c None b h = absurd (never_on c.offset h)
goes_on c (Some s) b h = ⊎_elim
    (λ (e : ((s.term == c.term) && (s.index == c.index)) ≡ true).
    let j : join (Some (length b)) c.offset ≡ On = rw e at h in
    rw e (ap (progress_of c.last (Some b)) (on_of b c.offset c.bytes j)))
    (λ (e : ((s.term == c.term) && (s.index == c.index)) ≡ false).
    let j : join None c.offset ≡ On = rw e at h in absurd (never_on c.offset j))
    (cases_Bool ((s.term == c.term) && (s.index == c.index)))

whole_if : (long is_last : Bool) (bytes : List ℕ) (s : step.Progress) → s ≡ (if long then step.TooLong else if is_last then step.Whole bytes else step.More bytes) → told s ≡ Whole → whole_in s ≡ Some bytes
whole_if true is_last bytes s e h = absurd (let z : TooLong ≡ Whole = sym (ap told e) ∙ h in cc)
whole_if false true bytes s e h = ap whole_in e
whole_if false false bytes s e h = absurd (let z : More (length bytes) ≡ Whole = sym (ap told e) ∙ h in cc)

-- a chunk that goes on makes whole what can then be read
pub whole_on : (c : Chunk) (source : Option Source) (kept : ℕ) (items held : List ℕ) (before : Option Received) (known : Option ℕ)
    → length items ≤ kept
    → received_in source (take kept items) ≡ before
    → known ≡ option_map (λ bytes. length bytes) (received_of c.term c.index (received_in source (take kept items)))
    → On ≡ join known c.offset
    → Whole ≡ told (joined_to c.last (items ++ c.bytes))
    → held ≡ items ++ c.bytes
    → whole_in (progress_at c before) ≡ Some held
whole_on c source kept items held before known fits same is on whole shown =
    let all : take kept items ≡ items = take_all kept items fits in
    let joins : join (option_map (λ bytes. length bytes) (received_of c.term c.index (received_in source items))) c.offset ≡ On =
    ap (λ b. join (option_map (λ bytes. length bytes) (received_of c.term c.index (received_in source b))) c.offset) (sym all) ∙ ap (λ k. join k c.offset) (sym is) ∙ sym on in
    let far : progress_at c before ≡ joined_to c.last (items ++ c.bytes) =
    ap (progress_at c) (sym same) ∙ ap (λ b. progress_at c (received_in source b)) all ∙ goes_on c source items joins in
    ap whole_in far
    ∙ whole_if (nat_lt most_snapshot (length (items ++ c.bytes))) c.last (items ++ c.bytes) (joined_to c.last (items ++ c.bytes)) refl (sym whole)
    ∙ ap Some (sym shown)

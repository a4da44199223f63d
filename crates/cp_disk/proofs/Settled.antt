-- Where nothing is pending, a crash leaves what a read gives.
use Rattle.std.proofs.Common.{Bool, false, ◌≡◌, ℕ, suc, List, [], ◌∷◌, sym, ◌∙◌, subst, arith}
use Rattle.std.specs.Prelude.{Some, None, nat_lt}
use Rattle.std.proofs.lemmas.Bool.Decides.{nat_tests}
use Rattle.cp_disk.specs.declared.record.Call.{Call}
use Rattle.cp_disk.specs.declared.record.Call.TheVariants.{Write, Cut, Sync, Crash}
use Rattle.cp_disk.specs.Images.{Only, NoMore}
use Rattle.cp_disk.specs.Record.{pending, leaves, seen_by}
use Rattle.cp_disk.specs.Laws.{crash_leaves}

some : (n : ℕ) → nat_lt 0 (suc n) ≡ false → ⊥
some n none = grind (arith, nat_tests)

pub settled_only : (calls : List Call) (test : Bool) → test ≡ nat_lt 0 (pending calls) → test ≡ false → Only (seen_by calls) (leaves calls)
settled_only [] test is none image left = left
settled_only (Write at piece ∷ calls) test is none image left = absurd (some (pending calls) (sym is ∙ none))
settled_only (Cut n ∷ calls) test is none image left = absurd (some (pending calls) (sym is ∙ none))
settled_only (Sync ∷ calls) test is none image left = left
settled_only (Crash choice ∷ calls) test is none image left = left

-- a sync makes no image that was not there
pub sync_leaves : (calls next : List Call) → next ≡ Sync ∷ calls → NoMore (leaves calls) (leaves next)
sync_leaves calls next is image left =
    let now : leaves (Sync ∷ calls) image = subst (λ (l : List Call). leaves l image) is left in
    subst (leaves calls) (sym now) (crash_leaves None calls)

-- what a crash makes is an image
pub crash_image : (calls next : List Call) (choice : ℕ) → next ≡ Crash choice ∷ calls → leaves calls (seen_by next)
crash_image calls next choice is = subst (λ (l : List Call). leaves calls (seen_by l)) (sym is) (crash_leaves (Some choice) calls)

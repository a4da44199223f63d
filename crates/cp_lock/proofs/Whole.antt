-- The test of a lock's row.
use Rattle.std.proofs.Common.{◌≡◌, ℕ, Bool, true, false, ◌&&◌, [], ◌∷◌, refl, sym, ◌∙◌, arith}
use Rattle.std.specs.Prelude.{◌==◌}
use Rattle.std.specs.Map.{values_of}
use Rattle.std.proofs.lemmas.Bool.Decides.{nat_tests}
use Rattle.std.proofs.lemmas.List.Elements.{All-nil, All-cons, All-head, All-tail}
use Rattle.std.proofs.lemmas.Bool.{and_parts}
use Rattle.cp_base.proofs.Tests.{no_true}
use Rattle.cp_group_state.specs.declared.rows.LockRow.{LockRow}
use Rattle.cp_group_state.specs.Rows.{Named}
use Rattle.cp_group_state.specs.Locks.{is_free, free_lock}
use Rattle.cp_group_state.specs.Invariants.{IsHeldOrFree, LocksWell}
use Rattle.cp_lock.specs.Tables.{IsTable, is_whole, are_whole}

is_none : (n : ℕ) → (n == 0) ≡ true → n ≡ 0
is_none n h = grind (arith, nat_tests)

whole_well : (row : LockRow) → is_whole row ≡ true → IsHeldOrFree row
whole_well row = by (is_free row) refl where
  zeros : is_free row ≡ true → ((row.holder.session == 0) && ((row.holder.thread.0 == 0) && (row.fence == 0))) ≡ true → row ≡ free_lock
  zeros f h =
      let first = and_parts (row.holder.session == 0) ((row.holder.thread.0 == 0) && (row.fence == 0)) h in
      let second = and_parts (row.holder.thread.0 == 0) (row.fence == 0) first.1 in
      let session = is_none row.holder.session first.0 in
      let thread = is_none row.holder.thread.0 second.0 in
      let fence = is_none row.fence second.1 in
      let holds = is_none row.holds f in
      λ j. record { holder = record { session = session j; thread = record { 0 = thread j } }; fence = fence j; holds = holds j }

  by : (b : Bool) → is_free row ≡ b → is_whole row ≡ true → IsHeldOrFree row
  by true f h g = zeros f (rw f at h)
  by false f h g = absurd (no_true (sym g ∙ f))

well_whole : (row : LockRow) → IsHeldOrFree row → is_whole row ≡ true
well_whole row h = by (is_free row) refl where
  by : (b : Bool) → is_free row ≡ b → is_whole row ≡ true
  by true f = rw (h f) refl
  by false f = rw f refl

pub all_well : (rows : Named LockRow) → are_whole rows ≡ true → LocksWell rows
all_well [] h = All-nil IsHeldOrFree
all_well (e ∷ es) h = let parts = and_parts (is_whole e.1) (are_whole es) h in
    All-cons IsHeldOrFree e.1 (values_of es) (whole_well e.1 parts.0) (all_well es parts.1)

all_whole : (rows : Named LockRow) → LocksWell rows → are_whole rows ≡ true
all_whole [] h = refl
all_whole (e ∷ es) h = rw (well_whole e.1 (All-head IsHeldOrFree e.1 (values_of es) h)) (all_whole es (All-tail IsHeldOrFree e.1 (values_of es) h))

pub none_well : (rows : Named LockRow) → are_whole rows ≡ false → IsTable rows → ⊥
none_well rows h table = no_true (sym (all_whole rows table.well) ∙ h)

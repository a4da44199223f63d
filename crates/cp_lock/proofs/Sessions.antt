-- Two lists of the same sessions.
use Rattle.std.proofs.Common.{◌≡◌, ℕ, Bool, arith, List, ap, map, not, ◌&&◌}
use Rattle.std.specs.Prelude.{◌==◌, if◌then◌else◌}
use Rattle.std.specs.List.{filter, list_any}
use Rattle.std.specs.Ordering.{nat_cmp, is_eq}
use Rattle.std.proofs.lemmas.Bool.Decides.{nat_tests}
use Rattle.cp_group_state.specs.Rows.{Named}
use Rattle.cp_group_state.specs.declared.rows.LockRow.{LockRow}
use Rattle.cp_group_state.specs.Sessions.{is_among}
use Rattle.cp_group_state.specs.Locks.{free_lock, is_free, held_among, freed_all}

number_test : (s x : ℕ) → is_eq (nat_cmp s x) ≡ (x == s)
number_test s x = grind (arith, nat_tests)

-- a search in a set of numbers by their order is one by their equality
pub found_among : (s : ℕ) (numbers : List ℕ) → list_any (λ x. is_eq (nat_cmp s x)) numbers ≡ is_among numbers s
found_among s numbers = ap (λ (test : ℕ → Bool). list_any test numbers) (λ i x. number_test s x i)

module _ (a b : List ℕ) (same : (s : ℕ) → is_among a s ≡ is_among b s) where
  pub held_by_same : (rows : Named LockRow) → held_among a rows ≡ held_among b rows
  held_by_same rows = ap (λ (among : ℕ → Bool). map (λ e. e.0) (filter (λ e. not (is_free e.1) && among e.1.holder.session) rows)) (λ i s. same s i)

  pub freed_by_same : (rows : Named LockRow) → freed_all a rows ≡ freed_all b rows
  freed_by_same rows = ap (λ (among : ℕ → Bool). map (λ e. (e.0, if not (is_free e.1) && among e.1.holder.session then free_lock else e.1)) rows) (λ i s. same s i)

-- Views over entries in two parts, and the machine's bytes of a snapshot.
use Rattle.std.proofs.Common.{◌≡◌, ◌≢◌, ◌≤◌, ◌⊎◌, inl, inr, true, false, ℕ, suc, ◌+◌, ◌-◌, List, [], ◌∷◌, ◌++◌, length, take, drop, refl, sym, ap, subst, ◌∙◌, arith, Ok}
use Rattle.std.specs.Prelude.{◌==◌}
use Rattle.std.proofs.lemmas.Bool.Decides.{eqb_tells}
use Rattle.std.proofs.lemmas.List.{take-append-drop, take-take, length-take-le}
use Rattle.cp_parts.specs.Laws.{head_lawful}
use Rattle.cp_parts.specs.declared.log_entry.LogEntry.{LogEntry}
use Rattle.cp_rules.specs.Spelling.{snapshot_bytes}
use Rattle.cp_group_rules.specs.Machines.{Machine}
use Rattle.cp_group_rules.specs.Views.{rest_of, machine_in, view_after, restored_at, or_first, view_at}
use Rattle.cp_group_rules.specs.Laws.{ViewsGoOn, CommitsMoveViews, SnapshotsRestore, MachinesReadBack}

pub machines_read_back : MachinesReadBack
unfolding machine_in
machines_read_back head bytes fits = ap rest_of (head_lawful.again head bytes fits)

module _ {V : Type 0} (m : Machine V) where
  pub views_go_on : ViewsGoOn m
  views_go_on index [] after view = let e : index + 0 ≡ index = omega arith in rw e refl
  views_go_on index (x ∷ before) after view =
      let e : index + suc (length before) ≡ suc index + length before = omega arith in
      rw e (views_go_on (suc index) before after (m.step view index x.bytes).view)

  -- with the same first k entries
  go_on : (index k n : ℕ) (old log : List LogEntry) (view : V) → k ≤ n → k ≤ length old → take k log ≡ take k old
      → view_after m index (take n log) view ≡ view_after m (index + k) (drop k (take n log)) (view_after m index (take k old) view)
  go_on index k n old log view less within same =
      let parts : take n log ≡ take k old ++ drop k (take n log) = sym (take-append-drop k (take n log)) ∙ ap (λ (l : List LogEntry). l ++ drop k (take n log)) (take-take k n log less ∙ same) in
      ap (λ (l : List LogEntry). view_after m index l view) parts ∙ views_go_on index (take k old) (drop k (take n log)) view
      ∙ ap (λ (j : ℕ). view_after m (index + j) (drop k (take n log)) (view_after m index (take k old) view)) (length-take-le k old within)

  pub commits_move_views : CommitsMoveViews m
  commits_move_views p q before commit base snapshot low less within same =
      let next = λ (b : ℕ). drop (before - b) (take (commit - b) q.log) in
      let moved = λ (b : ℕ) (s : List ℕ). view_after m (suc b) (take (commit - b) q.log) (or_first m (restored_at m b s)) ≡ view_after m (suc before) (next b) (view_at m p before) in
      let index : suc p.base + (before - p.base) ≡ suc before = omega (arith, low) in
      let core : moved p.base p.snapshot =
      go_on (suc p.base) (before - p.base) (commit - p.base) p.log q.log (or_first m (restored_at m p.base p.snapshot)) (omega (arith, low, less)) within same
      ∙ ap (λ (j : ℕ). view_after m j (next p.base) (view_at m p before)) index in
      subst (λ (b : ℕ). moved b q.snapshot) (sym base) (subst (λ (s : List ℕ). moved p.base s) (sym snapshot) core)

  pub snapshots_restore : SnapshotsRestore m
  snapshots_restore base head view some fits back = by (eqb_tells base 0) where
    by : (((base == 0) ≡ true) × (base ≡ 0)) ⊎ (((base == 0) ≡ false) × (base ≢ 0)) → restored_at m base (snapshot_bytes head (m.written view)) ≡ Ok view
    by (inl h) = absurd (some h.1)
    by (inr h) = rw h.0 (ap m.restored (machines_read_back head (m.written view) fits) ∙ back)

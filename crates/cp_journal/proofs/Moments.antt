-- How a run of calls of a disk goes on.
use Rattle.std.proofs.Common.{◌≡◌, inl, inr, ⊎_elim, ℕ, List, refl, sym, ◌∙◌, subst, arith}
use Rattle.cp_disk.specs.Images.{Elapses, Only, NoMore, Follows}
use Rattle.cp_journal.specs.Moments.{LeavesOnly, Stays}

module _ {D : Type 0} (moment : D → ℕ) (left_since : D → ℕ → List ℕ → Type 0) where
  -- before the first call
  pub started : (old : D) (P : List ℕ → Type 0) → ((image : List ℕ) → left_since old (moment old) image → P image) → LeavesOnly moment left_since old old P
  started old P here = record { later = omega arith; each = here; before = λ since image le left. inl left }

  -- one call more, after which a crash leaves what has P
  pub goes_on : (old mid new : D) (P may_leave : List ℕ → Type 0) → LeavesOnly moment left_since old mid P → Elapses (moment mid) (moment new) (left_since mid) (left_since new) may_leave
      → ((image : List ℕ) → may_leave image → P image) → LeavesOnly moment left_since old new P
  goes_on old mid new P may_leave so_far time here = record {
    later = omega (arith, so_far.later, time.later);
    each = λ image left. ⊎_elim (so_far.each image) (here image) (time.nothing_else (moment old) image so_far.later left);
    before = λ since image le left. ⊎_elim (so_far.before since image le) (λ now. inr (here image now)) (time.nothing_else since image (omega (arith, le, so_far.later)) left);
  }

  -- what has P has Q too
  pub weaker : (old new : D) (P Q : List ℕ → Type 0) → LeavesOnly moment left_since old new P → ((image : List ℕ) → P image → Q image) → LeavesOnly moment left_since old new Q
  weaker old new P Q leaves step = record {
    later = leaves.later;
    each = λ image left. step image (leaves.each image left);
    before = λ since image le left. ⊎_elim (λ (was : left_since old since image). inl was) (λ (has : P image). inr (step image has)) (leaves.before since image le left);
  }

  -- one run and then another
  pub joined : (old mid new : D) (P : List ℕ → Type 0) → LeavesOnly moment left_since old mid P → LeavesOnly moment left_since mid new P → LeavesOnly moment left_since old new P
  joined old mid new P first second = record {
    later = omega (arith, first.later, second.later);
    each = λ image left. ⊎_elim (first.each image) (λ (has : P image). has) (second.before (moment old) image first.later left);
    before = λ since image le left. ⊎_elim (first.before since image le) (λ (has : P image). inr has) (second.before since image (omega (arith, le, first.later)) left);
  }

  -- a change of a disk whose bytes are all on it, and then a sync
  pub two_calls : (may_leave : D → List ℕ → Type 0) (old mid new : D) (bytes : List ℕ) (step : List ℕ → List ℕ → Type 0)
      → ((image : List ℕ) → left_since old (moment old) image → may_leave old image) → Only bytes (may_leave old) → step bytes bytes
      → Follows step (may_leave old) (may_leave mid) → Elapses (moment old) (moment mid) (left_since old) (left_since mid) (may_leave mid)
      → NoMore (may_leave mid) (may_leave new) → Elapses (moment mid) (moment new) (left_since mid) (left_since new) (may_leave new)
      → LeavesOnly moment left_since old new (step bytes)
  two_calls may_leave old mid new bytes step now only stays follows first no_more second =
      let here : (image : List ℕ) → may_leave old image → step bytes image = λ image left. subst (step bytes) (sym (only image left)) stays in
      let changed : (image : List ℕ) → may_leave mid image → step bytes image = λ image left.
      let from = follows image left in subst (λ (b : List ℕ). step b image) (only from.0 from.1) from.2 in
      goes_on old mid new (step bytes) (may_leave new)
      (goes_on old old mid (step bytes) (may_leave mid) (started old (step bytes) (λ image left. here image (now image left))) first changed)
      second (λ image left. changed image (no_more image left))

  -- no call yet
  pub stays_first : (seen : D → List ℕ) (may_leave : D → List ℕ → Type 0) (old : D) → ((image : List ℕ) → left_since old (moment old) image → may_leave old image) → Only (seen old) (may_leave old)
      → Stays seen may_leave moment left_since old old
  stays_first seen may_leave old now only = record {
    same = refl;
    durable = only;
    leaves = started old (λ image. image ≡ seen old) (λ image left. only image (now image left));
  }

  -- one run of reads and then another
  pub stays_on : (seen : D → List ℕ) (may_leave : D → List ℕ → Type 0) (old mid new : D) → Stays seen may_leave moment left_since old mid → Stays seen may_leave moment left_since mid new
      → Stays seen may_leave moment left_since old new
  stays_on seen may_leave old mid new first second = record {
    same = second.same ∙ first.same;
    durable = λ image left. second.durable image left ∙ first.same;
    leaves = joined old mid new (λ image. image ≡ seen old) first.leaves (weaker mid new (λ image. image ≡ seen mid) (λ image. image ≡ seen old) second.leaves (λ image (is : image ≡ seen mid). is ∙ first.same));
  }

-- The open request of a thread is taken out.
use Rattle.std.proofs.Common.{◌≡◌, ℕ, List, Option, Some, None, sym, ◌∙◌, ap}
use Rattle.std.specs.Prelude.{Result, Ok, Err, IfSome, OnOk}
use Rattle.std.specs.Ordering.{nat_cmp}
use Rattle.std.specs.BTreeMap.{is_at}
use Rattle.std.specs.Map.{set_value}
use Rattle.std.proofs.lemmas.Cmp.{nat_cmp_total}
use Rattle.cp_group_state.specs.Rows.{find, put}
use Rattle.cp_group_state.specs.Invariants.{IsRising}
use Rattle.cp_rows.proofs.Ordered.{put_there}
use Rattle.cp_client_rules.specs.declared.rows.Thread.{Thread}
use Rattle.cp_client_rules.specs.Clients.{or_new}
use Rattle.cp_client.specs.Threads.{idle_row}

pub always : {X P : Type 0} (o : Option X) → P → IfSome o (λ x. P)
always None p = tt
always (Some x) p = p

pub idle_put : (rows : List (ℕ × Thread)) (k : ℕ) (old new : Thread) → IsRising nat_cmp rows → find nat_cmp rows k ≡ Some old → new ≡ idle_row old
    → set_value (is_at (nat_cmp k)) rows new ≡ put nat_cmp rows k (idle_row (or_new (find nat_cmp rows k)))
idle_put rows k old new rising there is = put_there nat_cmp nat_cmp_total rows k old new rising there ∙ ap (put nat_cmp rows k) (is ∙ ap (λ (o : Option Thread). idle_row (or_new o)) (sym there))

pub where_ok : {T E P Q : Type 0} (r : Result T E) → (P → Q) → OnOk r P → OnOk r Q
where_ok (Ok x) f p = f p
where_ok (Err e) f p = p

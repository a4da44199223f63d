-- A call on a value that has a row.
use Rattle.std.proofs.Common.{◌≡◌, ℕ, ℤ, pos, List, Option, Some, None, refl, ap, sym, ◌∙◌}
use Rattle.std.specs.Prelude.{unwrap_or, Result, Ok, Err, OnErr}
use Rattle.std.specs.BTreeMap.{is_at}
use Rattle.std.specs.Map as map
use Rattle.std.proofs.lemmas.Map.Steps.{set_value_same}
use Rattle.std.proofs.lemmas.Cmp.{nat_list_cmp_total}
use Rattle.cp_answers.specs.declared.answer.Answer.{Answer}
use Rattle.cp_object_ops.specs.declared.long_op.LongOp.{LongOp}
use Rattle.cp_object_ops.specs.declared.ref_op.RefOp.{RefOp}
use Rattle.cp_group_state.specs.Rows.{Named, find, put, name_cmp}
use Rattle.cp_group_state.specs.Invariants.{IsRising}
use Rattle.cp_group_state.specs.Atomics.{set_value, long_set, long_answer, long_at, long_step, ref_set, ref_answer, ref_at, ref_step}
use Rattle.cp_rows.proofs.Ordered.{put_there}

-- what a call sets is written over what stands
pub written : {X : Type 0} (rows : Named X) (name : List ℕ) (now next : X) (set : Option X) (a : Answer) → IsRising name_cmp rows → find name_cmp rows name ≡ Some now
    → next ≡ unwrap_or set now → map.set_value (is_at (name_cmp name)) rows next ≡ (set_value rows name set a).after
written rows name now next None a rising there wrote = ap (map.set_value (is_at (name_cmp name)) rows) wrote ∙ set_value_same (is_at (name_cmp name)) rows now there
written rows name now next (Some x) a rising there wrote = ap (map.set_value (is_at (name_cmp name)) rows) wrote ∙ put_there name_cmp nat_list_cmp_total rows name now x rising there ∙ room where
  room : put name_cmp rows name x ≡ (set_value rows name (Some x) a).after
  room = rw there refl

pub long_written : (rows : Named ℤ) (name : List ℕ) (op : LongOp) (now next : ℤ) → IsRising name_cmp rows → find name_cmp rows name ≡ Some now
    → next ≡ unwrap_or (long_set now op) now → map.set_value (is_at (name_cmp name)) rows next ≡ (long_step rows name op).after
long_written rows name op now next rising there wrote =
    let here : long_at rows name ≡ now = ap (λ o. unwrap_or o (pos 0)) there in
    written rows name now next (long_set now op) (long_answer now op) rising there wrote ∙ ap (λ v. (set_value rows name (long_set v op) (long_answer v op)).after) (sym here)

pub ref_written : (rows : Named (Option (List ℕ))) (name : List ℕ) (op : RefOp) (now next : Option (List ℕ)) → IsRising name_cmp rows → find name_cmp rows name ≡ Some now
    → next ≡ unwrap_or (ref_set now op) now → map.set_value (is_at (name_cmp name)) rows next ≡ (ref_step rows name op).after
ref_written rows name op now next rising there wrote =
    let here : ref_at rows name ≡ now = ap (λ o. unwrap_or o None) there in
    written rows name now next (ref_set now op) (ref_answer now op) rising there wrote ∙ ap (λ v. (set_value rows name (ref_set v op) (ref_answer v op)).after) (sym here)

-- a value that is written back as it was changes nothing
pub unwritten : {X : Type 0} (rows : Named X) (name : List ℕ) (now next : X) → find name_cmp rows name ≡ Some now → next ≡ now → map.set_value (is_at (name_cmp name)) rows next ≡ rows
unwritten rows name now next there same = ap (map.set_value (is_at (name_cmp name)) rows) same ∙ set_value_same (is_at (name_cmp name)) rows now there

-- what holds anyway holds after an error
pub after_error : {A E P : Type 0} (r : Result A E) → P → OnErr r P
after_error (Ok x) p = tt
after_error (Err e) p = p

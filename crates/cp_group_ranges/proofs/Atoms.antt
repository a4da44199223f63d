-- Longs, references and maps keep their ranges, and what they answer has a spelling.
use Rattle.std.proofs.Common.{ℕ, List, Some, None, Option, arith}
use Rattle.std.specs.Prelude.{ℤ, pos, unwrap_or}
use Rattle.std.specs.Ordering.{int_eq}
use Rattle.std.specs.Int.{w64, int_wrapping_add}
use Rattle.std.proofs.lemmas.Cmp.{nat_list_cmp_total, then_total, on_total}
use Rattle.std.specs.Cmp.{IsTotalOrder}
use Rattle.cp_grammar.specs.Fields.{signed}
use Rattle.cp_grammar.specs.Common as spelled
use Rattle.cp_op_values.specs.Values as values
use Rattle.cp_op_values.specs.Values.{reference}
use Rattle.cp_object_ops.specs.declared.long_op.LongOp.{LongOp}
use Rattle.cp_object_ops.specs.declared.long_op.LongOp.TheVariants as long
use Rattle.cp_object_ops.specs.declared.ref_op.RefOp.{RefOp}
use Rattle.cp_object_ops.specs.declared.ref_op.RefOp.TheVariants as ref
use Rattle.cp_object_ops.specs.declared.map_op.MapOp.{MapOp}
use Rattle.cp_object_ops.specs.declared.map_op.MapOp.TheVariants as map
use Rattle.cp_answers.specs.declared.answer.Answer.{Answer}
use Rattle.cp_answers.specs.declared.answer.Answer.TheVariants as answer
use Rattle.cp_answers.specs.Answers.{answer_grammar}
use Rattle.cp_group_state.specs.Rows.{Named, find, has_room, most, name_cmp, pair_cmp}
use Rattle.cp_group_state.specs.Atomics.{AtomicStep, set_value, long_set, long_answer, long_at, long_step, same_value, ref_set, ref_answer, ref_at, ref_step}
use Rattle.cp_group_state.specs.Maps.{Pairs, MapStep, Effect, Stays, Sets, Goes, key_of, set_where_absent, has_value, map_effect, map_answer, with_effect, map_step}
use Rattle.cp_group_state.proofs.Keyed.{name_key, pair_key}
use Rattle.cp_group_state.proofs.Walk.{cases, either}
use Rattle.cp_group_ranges.specs.Rows.{LongFits, RefFits, PairFits}
use Rattle.cp_group_ranges.proofs.Listed.{Kept, kept-put, kept-without, kept-or}
use Rattle.cp_group_ranges.proofs.Fitting.{signed_natural, signed_sum, null_fits, value_reference, fits_ok, fits_bool, fits_value, fits_ref, fits_table_full}
use Rattle.cp_group_ranges.proofs.Parts.{LongParts, RefParts, MapParts}

pub pair_total : IsTotalOrder pair_cmp
pair_total = then_total (on_total (λ (k : List ℕ × List ℕ). k.0) nat_list_cmp_total) (on_total (λ (k : List ℕ × List ℕ). k.1) nat_list_cmp_total)

-- what a call sets
abbrev Set : {X : Type 0} → (List ℕ × X → Type 0) → List ℕ → Option X → Type 0
Set P n None = Unit {0}
Set P n (Some x) = P (n, x)

kept-value : {X : Type 0} (P : List ℕ × X → Type 0) (rows : Named X) (n : List ℕ) (o : Option X) (a : Answer) → Set P n o → answer_grammar.Fits a → Kept name_cmp P rows
    → Kept name_cmp P (set_value rows n o a).after × answer_grammar.Fits (set_value rows n o a).answer
kept-value P rows n None a p f h = (h, f)
kept-value {X} P rows n (Some x) a p f h = cases (λ (r : AtomicStep X). Kept name_cmp P r.after × answer_grammar.Fits r.answer) (has_room name_cmp most rows n) _ _
    (λ room. (kept-put name_cmp name_key nat_list_cmp_total P rows n x room p h, f)) (λ room. (h, fits_table_full most (omega arith)))

-- ---- longs

long-set : (n : List ℕ) (now : ℤ) (o : LongOp) → spelled.name.Fits n → LongParts o → Set LongFits n (long_set now o)
long-set n now long.Get f h = tt
long-set n now (long.Set x) f h = record { name = f; long = h }
long-set n now (long.GetSet x) f h = record { name = f; long = h }
long-set n now (long.Add x) f h = record { name = f; long = signed_sum now x }
long-set n now (long.GetAdd x) f h = record { name = f; long = signed_sum now x }
long-set n now (long.Cas old x) f h = either (Set LongFits n) (int_eq now old) (Some x) None (record { name = f; long = h }) tt

long-answer : (now : ℤ) (o : LongOp) → signed.Fits now → answer_grammar.Fits (long_answer now o)
long-answer now long.Get f = fits_value now f
long-answer now (long.Set x) f = fits_ok
long-answer now (long.GetSet x) f = fits_value now f
long-answer now (long.Add x) f = fits_value (int_wrapping_add w64 now x) (signed_sum now x)
long-answer now (long.GetAdd x) f = fits_value now f
long-answer now (long.Cas old x) f = fits_bool (int_eq now old)

long-now : (rows : Named ℤ) (n : List ℕ) → Kept name_cmp LongFits rows → signed.Fits (long_at rows n)
long-now rows n h = kept-or name_cmp name_key nat_list_cmp_total LongFits signed.Fits rows n h (λ (o : Option ℤ). unwrap_or o (pos 0)) (signed_natural 0 (omega arith)) (λ x p. p.long)

pub kept-long : (rows : Named ℤ) (n : List ℕ) (o : LongOp) → spelled.name.Fits n → LongParts o → Kept name_cmp LongFits rows
    → Kept name_cmp LongFits (long_step rows n o).after × answer_grammar.Fits (long_step rows n o).answer
kept-long rows n o f h k = let now = long_at rows n in
    kept-value LongFits rows n (long_set now o) (long_answer now o) (long-set n now o f h) (long-answer now o (long-now rows n k)) k

-- ---- references

ref-set : (n : List ℕ) (now : Option (List ℕ)) (o : RefOp) → spelled.name.Fits n → RefParts o → Set RefFits n (ref_set now o)
ref-set n now ref.Get f h = tt
ref-set n now (ref.Set x) f h = record { name = f; reference = h }
ref-set n now (ref.GetSet x) f h = record { name = f; reference = h }
ref-set n now (ref.Cas old x) f h = either (Set RefFits n) (same_value now old) (Some x) None (record { name = f; reference = h }) tt
ref-set n now (ref.Contains x) f h = tt

ref-answer : (now : Option (List ℕ)) (o : RefOp) → (reference 4000).Fits now → answer_grammar.Fits (ref_answer now o)
ref-answer now ref.Get f = fits_ref now f
ref-answer now (ref.Set x) f = fits_ok
ref-answer now (ref.GetSet x) f = fits_ref now f
ref-answer now (ref.Cas old x) f = fits_bool (same_value now old)
ref-answer now (ref.Contains x) f = fits_bool (same_value now x)

ref-now : (rows : Named (Option (List ℕ))) (n : List ℕ) → Kept name_cmp RefFits rows → (reference 4000).Fits (ref_at rows n)
ref-now rows n h = kept-or name_cmp name_key nat_list_cmp_total RefFits (reference 4000).Fits rows n h (λ (o : Option (Option (List ℕ))). unwrap_or o None) null_fits (λ x p. p.reference)

pub kept-ref : (rows : Named (Option (List ℕ))) (n : List ℕ) (o : RefOp) → spelled.name.Fits n → RefParts o → Kept name_cmp RefFits rows
    → Kept name_cmp RefFits (ref_step rows n o).after × answer_grammar.Fits (ref_step rows n o).answer
kept-ref rows n o f h k = let now = ref_at rows n in
    kept-value RefFits rows n (ref_set now o) (ref_answer now o) (ref-set n now o f h) (ref-answer now o (ref-now rows n k)) k

-- ---- maps

abbrev Now : Option (List ℕ) → Type 0
Now None = Unit {0}
Now (Some v) = values.value.Fits v

abbrev Left : Effect → Type 0
Left Stays = Unit {0}
Left (Sets v) = values.value.Fits v
Left Goes = Unit {0}

absent-set : (now : Option (List ℕ)) (v : List ℕ) → values.value.Fits v → Left (set_where_absent now v)
absent-set None v f = f
absent-set (Some w) v f = tt

map-effect : (now : Option (List ℕ)) (o : MapOp) → MapParts o → Left (map_effect now o)
map-effect now (map.Get k) h = tt
map-effect now (map.Set k v) h = h.1
map-effect now (map.Put k v) h = h.1
map-effect now (map.Remove k) h = tt
map-effect now (map.Delete k) h = tt
map-effect now (map.PutIfAbsent k v) h = absent-set now v h.1
map-effect now (map.Cas k old v) h = either Left (has_value now old) (Sets v) Stays h.1 tt

now-reference : (now : Option (List ℕ)) → Now now → answer_grammar.Fits (answer.Ref now)
now-reference None f = fits_ref None null_fits
now-reference (Some v) f = fits_ref (Some v) (value_reference v f)

map-answer : (now : Option (List ℕ)) (o : MapOp) → Now now → answer_grammar.Fits (map_answer now o)
map-answer now (map.Get k) f = now-reference now f
map-answer now (map.Set k v) f = fits_ok
map-answer now (map.Put k v) f = now-reference now f
map-answer now (map.Remove k) f = now-reference now f
map-answer now (map.Delete k) f = fits_ok
map-answer now (map.PutIfAbsent k v) f = now-reference now f
map-answer now (map.Cas k old v) f = fits_bool (has_value now old)

map-key : (o : MapOp) → MapParts o → values.key.Fits (key_of o)
map-key (map.Get k) h = h
map-key (map.Set k v) h = h.0
map-key (map.Put k v) h = h.0
map-key (map.Remove k) h = h
map-key (map.Delete k) h = h
map-key (map.PutIfAbsent k v) h = h.0
map-key (map.Cas k old v) h = h.0

kept-effect : (pairs : Pairs) (place : List ℕ × List ℕ) (e : Effect) (a : Answer) → spelled.name.Fits place.0 → values.key.Fits place.1 → Left e → answer_grammar.Fits a → Kept pair_cmp PairFits pairs
    → Kept pair_cmp PairFits (with_effect pairs place e a).after × answer_grammar.Fits (with_effect pairs place e a).answer
kept-effect pairs place Stays a f g l h k = (k, h)
kept-effect pairs place (Sets v) a f g l h k = cases (λ (r : MapStep). Kept pair_cmp PairFits r.after × answer_grammar.Fits r.answer) (has_room pair_cmp most pairs place) _ _
    (λ room. (kept-put pair_cmp pair_key pair_total PairFits pairs place v room (record { name = f; key = g; value = l }) k, h)) (λ room. (k, fits_table_full most (omega arith)))
kept-effect pairs place Goes a f g l h k = (kept-without pair_cmp pair_key pair_total PairFits pairs place k, h)

pub kept-map_step : (pairs : Pairs) (n : List ℕ) (o : MapOp) → spelled.name.Fits n → MapParts o → Kept pair_cmp PairFits pairs
    → Kept pair_cmp PairFits (map_step pairs n o).after × answer_grammar.Fits (map_step pairs n o).answer
kept-map_step pairs n o f h k = let now = find pair_cmp pairs (n, key_of o) in
    let there : Now now = kept-or pair_cmp pair_key pair_total PairFits Now pairs (n, key_of o) k (λ (o : Option (List ℕ)). o) tt (λ v p. p.value) in
    kept-effect pairs (n, key_of o) (map_effect now o) (map_answer now o) f (map-key o h) (map-effect now o h) (map-answer now o there) k

-- A call that takes nothing away, on a pair that is there and on one that is not.
use Rattle.std.proofs.Common.{◌≡◌, ℕ, Bool, false, true, List, [], ◌∷◌, Option, Some, None, refl, ap, sym, ◌∙◌}
use Rattle.std.specs.Prelude.{unwrap_or, if◌then◌else◌, Result, Ok, Err, OnOk, IfOk, OnErr}
use Rattle.std.specs.BTreeMap.{is_at}
use Rattle.std.specs.Map as map
use Rattle.std.specs.Map.{keys_of}
use Rattle.std.specs.List.Sorted.{IsStrictlySortedBy}
use Rattle.std.specs.Cmp.{IsTotalOrder}
use Rattle.std.proofs.lemmas.Cmp.{nat_list_cmp_total, on_total, then_total}
use Rattle.std.proofs.lemmas.Map.Steps.{set_value_same}
use Rattle.cp_answers.specs.declared.answer.Answer.{Answer}
use Rattle.cp_object_ops.specs.declared.map_op.MapOp.{MapOp}
use Rattle.cp_object_ops.specs.declared.map_op.MapOp.TheVariants as op
use Rattle.cp_group_state.specs.Rows.{find, put, pair_cmp}
use Rattle.cp_group_state.specs.Invariants.{IsRising}
use Rattle.cp_group_state.specs.Maps.{Effect, Stays, Sets, Goes, Pairs, MapStep, has_value, key_of, with_effect, map_effect, map_answer, map_step}
use Rattle.cp_map.specs.Pairs.{takes_away, value_set, step_at}
use Rattle.cp_rows.proofs.Ordered.{put_there}
use Rattle.cp_rows.proofs.Changes.{rises_one}

pair_total : IsTotalOrder pair_cmp
pair_total = then_total (on_total (λ (k : List ℕ × List ℕ). k.0) nat_list_cmp_total) (on_total (λ (k : List ℕ × List ℕ). k.1) nat_list_cmp_total)

-- the pair does not go
abbrev Remains : Effect → Type 0
Remains Stays = Unit {0}
Remains (Sets value) = Unit {0}
Remains Goes = ⊥

remains_or : (b : Bool) (value : List ℕ) → Remains (if b then Sets value else Stays)
remains_or true value = tt
remains_or false value = tt

remains : (now : Option (List ℕ)) (o : MapOp) → takes_away o ≡ false → Remains (map_effect now o)
remains now (op.Get key) h = tt
remains now (op.Set key value) h = tt
remains now (op.Put key value) h = tt
remains now (op.Remove key) h = cc
remains now (op.Delete key) h = cc
remains None (op.PutIfAbsent key value) h = tt
remains (Some x) (op.PutIfAbsent key value) h = tt
remains now (op.Cas key old value) h = remains_or (has_value now old) value

-- what a call sets is written over what stands
written : (pairs : Pairs) (place : List ℕ × List ℕ) (now next : List ℕ) (e : Effect) (a : Answer) → Remains e → IsRising pair_cmp pairs → find pair_cmp pairs place ≡ Some now
    → next ≡ unwrap_or (value_set e) now → map.set_value (is_at (pair_cmp place)) pairs next ≡ (with_effect pairs place e a).after
written pairs place now next Stays a r rising there wrote = ap (map.set_value (is_at (pair_cmp place)) pairs) wrote ∙ set_value_same (is_at (pair_cmp place)) pairs now there
written pairs place now next (Sets x) a r rising there wrote = ap (map.set_value (is_at (pair_cmp place)) pairs) wrote ∙ put_there pair_cmp pair_total pairs place now x rising there ∙ room where
  room : put pair_cmp pairs place x ≡ (with_effect pairs place (Sets x) a).after
  room = rw there refl
written pairs place now next Goes a r rising there wrote = absurd r

step_there : (pairs : Pairs) (place : List ℕ × List ℕ) (now : Option (List ℕ)) (o : MapOp) → find pair_cmp pairs place ≡ now → with_effect pairs place (map_effect now o) (map_answer now o) ≡ step_at pairs place o
unfolding step_at
step_there pairs place now o there = ap (λ (v : Option (List ℕ)). with_effect pairs place (map_effect v o) (map_answer v o)) (sym there)

pub pair_written : (pairs : Pairs) (place : List ℕ × List ℕ) (o : MapOp) (now next : List ℕ) → takes_away o ≡ false → IsRising pair_cmp pairs → find pair_cmp pairs place ≡ Some now
    → next ≡ unwrap_or (value_set (map_effect (Some now) o)) now → map.set_value (is_at (pair_cmp place)) pairs next ≡ (step_at pairs place o).after
pair_written pairs place o now next stays rising there wrote =
    written pairs place now next (map_effect (Some now) o) (map_answer (Some now) o) (remains (Some now) o stays) rising there wrote ∙ ap (λ (s : MapStep). s.after) (step_there pairs place (Some now) o there)

pub pair_answered : (pairs : Pairs) (place : List ℕ × List ℕ) (o : MapOp) (now : List ℕ) (a : Answer) → takes_away o ≡ false → find pair_cmp pairs place ≡ Some now → a ≡ map_answer (Some now) o → a ≡ (step_at pairs place o).answer
pair_answered pairs place o now a stays there answered = answered ∙ same (map_effect (Some now) o) refl ∙ ap (λ (s : MapStep). s.answer) (step_there pairs place (Some now) o there) where
  same : (e : Effect) → map_effect (Some now) o ≡ e → map_answer (Some now) o ≡ (with_effect pairs place (map_effect (Some now) o) (map_answer (Some now) o)).answer
  same Stays is = rw is refl
  same (Sets value) is = rw is (rw there refl)
  same Goes is = rw is refl

-- a pair that is written back as it was changes nothing
pub unwritten : (pairs : Pairs) (place : List ℕ × List ℕ) (now next : List ℕ) → find pair_cmp pairs place ≡ Some now → next ≡ now → map.set_value (is_at (pair_cmp place)) pairs next ≡ pairs
unwritten pairs place now next there same = ap (map.set_value (is_at (pair_cmp place)) pairs) same ∙ set_value_same (is_at (pair_cmp place)) pairs now there

sets : (e : Effect) (value : List ℕ) → value_set e ≡ Some value → Sets value ≡ e
sets Stays value is = cc
sets (Sets x) value is = cc
sets Goes value is = cc

-- a call that sets a value where there is no pair
pub absent_set : (pairs : Pairs) (place : List ℕ × List ℕ) (o : MapOp) (value : List ℕ) → find pair_cmp pairs place ≡ None → value_set (map_effect None o) ≡ Some value
    → with_effect pairs place (Sets value) (map_answer None o) ≡ step_at pairs place o
absent_set pairs place o value absent is = ap (λ (e : Effect). with_effect pairs place e (map_answer None o)) (sets (map_effect None o) value is) ∙ step_there pairs place None o absent

stays : (e : Effect) → Remains e → value_set e ≡ None → Stays ≡ e
stays Stays r is = refl
stays (Sets x) r is = cc
stays Goes r is = absurd r

-- a call that sets none
pub absent_stays : (pairs : Pairs) (place : List ℕ × List ℕ) (o : MapOp) → takes_away o ≡ false → find pair_cmp pairs place ≡ None → value_set (map_effect None o) ≡ None
    → with_effect pairs place Stays (map_answer None o) ≡ step_at pairs place o
absent_stays pairs place o other absent is = ap (λ (e : Effect). with_effect pairs place e (map_answer None o)) (stays (map_effect None o) (remains None o other) is) ∙ step_there pairs place None o absent

-- what holds anyway holds after an error
pub after_error : {A E P : Type 0} (r : Result A E) → P → OnErr r P
after_error (Ok x) p = tt
after_error (Err e) p = p

step_is : (pairs now : Pairs) (place : List ℕ × List ℕ) (name : List ℕ) (o : MapOp) → pairs ≡ now → place ≡ (name, key_of o) → step_at pairs place o ≡ map_step now name o
unfolding step_at
step_is pairs now place name o same is = λ i. step_at (same i) (is i) o

-- what a call at a place gave, read at the map and the key
pub at_place : {E : Type 0} (pairs now next : Pairs) (place : List ℕ × List ℕ) (name : List ℕ) (o : MapOp) (r : Result Answer E) → pairs ≡ now → place ≡ (name, key_of o)
    → OnOk r (next ≡ (step_at pairs place o).after) → IfOk r (λ a. a ≡ (step_at pairs place o).answer) → OnErr r (next ≡ pairs)
    → (OnOk r (next ≡ (map_step now name o).after)) × (IfOk r (λ a. a ≡ (map_step now name o).answer)) × (OnErr r (next ≡ now))
at_place pairs now next place name o (Ok a) same is after answered kept = let step = step_is pairs now place name o same is in (after ∙ ap (λ (s : MapStep). s.after) step, answered ∙ ap (λ (s : MapStep). s.answer) step, tt)
at_place pairs now next place name o (Err e) same is after answered kept = (tt, tt, kept ∙ same)

-- what was given by a step was given by one that is the same
pub by_step : {E : Type 0} (next : Pairs) (r : Result Answer E) (step same : MapStep) → step ≡ same → OnOk r (next ≡ step.after) → IfOk r (λ a. a ≡ step.answer) → (OnOk r (next ≡ same.after)) × (IfOk r (λ a. a ≡ same.answer))
by_step next (Ok a) step same is after answered = (after ∙ ap (λ (s : MapStep). s.after) is, answered ∙ ap (λ (s : MapStep). s.answer) is)
by_step next (Err e) step same is after answered = (tt, tt)

-- one pair rises
pub one_rises : (pairs : Pairs) (e : (List ℕ × List ℕ) × List ℕ) → pairs ≡ e ∷ [] → IsStrictlySortedBy pair_cmp (keys_of pairs)
one_rises pairs e one = rises_one pair_cmp [] pairs e refl one

-- What a read without an entry is answered has a spelling.
use Rattle.std.proofs.Common.{◌≡◌, ◌≤◌, ◌<◌, ◌-◌, ◌^◌, ℕ, ℤ, Bool, List, Option, Some, None, refl, sym, subst, arith, if◌then◌else◌}
use Rattle.std.specs.Prelude.{◌==◌, pos, Ok}
use Rattle.std.specs.Option.{option_map}
use Rattle.std.proofs.lemmas.Cmp.{nat_list_cmp_total}
use Rattle.cp_grammar.specs.Common as spelled
use Rattle.cp_grammar.specs.Common.{group_id}
use Rattle.cp_grammar.specs.Fields.{signed}
use Rattle.cp_grammar.specs.Grammar.{whole}
use Rattle.cp_answers.specs.declared.answer.Answer.{Answer}
use Rattle.cp_answers.specs.declared.answer.Answer.TheVariants as answer
use Rattle.cp_answers.specs.Answers.{answer_grammar}
use Rattle.cp_op_values.specs.declared.kind.Kind.TheVariants as kind
use Rattle.cp_object_ops.specs.declared.long_op.LongOp.TheVariants as long
use Rattle.cp_object_ops.specs.declared.ref_op.RefOp.TheVariants as ref
use Rattle.cp_object_ops.specs.declared.lock_op.LockOp.TheVariants as lock
use Rattle.cp_object_ops.specs.declared.sem_op.SemOp.TheVariants as sem
use Rattle.cp_object_ops.specs.declared.latch_op.LatchOp.TheVariants as latch
use Rattle.cp_object_ops.specs.declared.map_op.MapOp.TheVariants as map
use Rattle.cp_ops.specs.declared.op.Op.{Op}
use Rattle.cp_ops.specs.declared.op.Op.TheVariants as op
use Rattle.cp_ops.specs.Ops.{op_grammar}
use Rattle.cp_machine.specs.Machines.{LookFits}
use Rattle.cp_group_state.specs.declared.rows.LatchRow.{LatchRow}
use Rattle.cp_group_state.specs.declared.rows.SemaphoreRow.{SemaphoreRow}
use Rattle.cp_group_state.specs.Rows.{Named, Object, name_cmp, object_cmp, find}
use Rattle.cp_group_state.specs.Latches.{latch_at, new_latch, or_new}
use Rattle.cp_group_state.specs.GroupState.{GroupState}
use Rattle.cp_group_state.specs.Destroying.{names_gone, object_of}
use Rattle.cp_group_state.proofs.Keyed.{name_key, object_key}
use Rattle.cp_group_state.proofs.Walk.{either}
use Rattle.cp_group_state.proofs.Ordered.{object_total}
use Rattle.cp_group_ranges.specs.Rows.{LatchFits, SemaphoreFits}
use Rattle.cp_group_ranges.specs.States.{IsSound}
use Rattle.cp_group_ranges.proofs.Listed.{Kept, kept-or, each-find}
use Rattle.cp_group_ranges.proofs.Fitting.{signed_natural, signed_permits, fits_bool, fits_value, fits_ref, fits_not_initialized, fits_object_destroyed, fits_group_destroyed}
use Rattle.cp_group_ranges.proofs.Parts.{OpParts, op_parts}
use Rattle.cp_group_ranges.proofs.Atoms.{kept-long, kept-ref, kept-map_step}
use Rattle.cp_group_ranges.proofs.LockSteps.{owner-fits}
use Rattle.cp_resource.specs.Reads.{available_answer, look, object_read, standing_answer}
use Rattle.cp_resource.specs.Stepping.{looked, looked_of}

-- ---- a read of one object

row-available : (key : Object) (rows : List (Object × SemaphoreRow)) (o : Option SemaphoreRow) → ((row : SemaphoreRow) → o ≡ Some row → SemaphoreFits (key, row))
    → answer_grammar.Fits (available_answer (option_map (λ (row : SemaphoreRow). row.available) o))
row-available key rows None there = fits_not_initialized
row-available key rows (Some row) there = fits_value row.available (signed_permits row.available (there row refl).available)

available-fits : (key : Object) (s : GroupState) → IsSound s → answer_grammar.Fits (available_answer (option_map (λ (row : SemaphoreRow). row.available) (find object_cmp s.semaphores.rows key)))
available-fits key s h = row-available key s.semaphores.rows (find object_cmp s.semaphores.rows key)
    (λ row is. each-find object_cmp object_key object_total SemaphoreFits s.semaphores.rows key row h.fits.semaphores is)

count-fits : (n : List ℕ) (s : GroupState) → IsSound s → answer_grammar.Fits (answer.Value (pos (latch_at s.latches n).count))
count-fits n s h = let few = kept-or name_cmp name_key nat_list_cmp_total LatchFits (λ (r : LatchRow). r.count ≤ 10000) s.latches n
    (record { all = h.fits.latches; rising = h.ordered.latches; few = h.fits.limits.latches }) or_new (omega arith) (λ x p. p.count) in
    fits_value (pos (latch_at s.latches n).count) (signed_natural (latch_at s.latches n).count (omega (arith, few)))

read-fits : (o : Op) (s : GroupState) → OpParts o → IsSound s → LookFits (object_read o s)
read-fits (op.Long n long.Get) s p h = (kept-long s.longs n long.Get p.0 p.1 (record { all = h.fits.longs; rising = h.ordered.longs; few = h.fits.limits.longs })).1
read-fits (op.Long n (long.Set x)) s p h = tt
read-fits (op.Long n (long.GetSet x)) s p h = tt
read-fits (op.Long n (long.Add x)) s p h = tt
read-fits (op.Long n (long.GetAdd x)) s p h = tt
read-fits (op.Long n (long.Cas x y)) s p h = tt
read-fits (op.Ref n ref.Get) s p h = (kept-ref s.refs n ref.Get p.0 p.1 (record { all = h.fits.refs; rising = h.ordered.refs; few = h.fits.limits.refs })).1
read-fits (op.Ref n (ref.Set x)) s p h = tt
read-fits (op.Ref n (ref.GetSet x)) s p h = tt
read-fits (op.Ref n (ref.Cas x y)) s p h = tt
read-fits (op.Ref n (ref.Contains x)) s p h = fits_bool _
read-fits (op.Lock n lock.Owner) s p h = owner-fits s.locks n p.0 (record { all = h.fits.locks; rising = h.ordered.locks; few = h.fits.limits.locks })
read-fits (op.Lock n (lock.Acquire session limit wish)) s p h = tt
read-fits (op.Lock n (lock.Release session)) s p h = tt
read-fits (op.Sem n sem.Available) s p h = available-fits (n, kind.Sem) s h
read-fits (op.Sem n (sem.Init x)) s p h = tt
read-fits (op.Sem n (sem.Acquire session x wish)) s p h = tt
read-fits (op.Sem n (sem.Release session x)) s p h = tt
read-fits (op.Sem n (sem.Drain session)) s p h = tt
read-fits (op.Sem n (sem.Increase session x)) s p h = tt
read-fits (op.Sem n (sem.Reduce session x)) s p h = tt
read-fits (op.Jsem n sem.Available) s p h = available-fits (n, kind.Jsem) s h
read-fits (op.Jsem n (sem.Init x)) s p h = tt
read-fits (op.Jsem n (sem.Acquire session x wish)) s p h = tt
read-fits (op.Jsem n (sem.Release session x)) s p h = tt
read-fits (op.Jsem n (sem.Drain session)) s p h = tt
read-fits (op.Jsem n (sem.Increase session x)) s p h = tt
read-fits (op.Jsem n (sem.Reduce session x)) s p h = tt
read-fits (op.Latch n latch.Count) s p h = count-fits n s h
read-fits (op.Latch n latch.Round) s p h = tt
read-fits (op.Latch n (latch.Set x)) s p h = tt
read-fits (op.Latch n (latch.Down round)) s p h = tt
read-fits (op.Latch n (latch.Await millis)) s p h = tt
read-fits (op.Map n (map.Get key)) s p h = (kept-map_step s.maps n (map.Get key) p.0 p.1 (record { all = h.fits.maps; rising = h.ordered.maps; few = h.fits.limits.maps })).1
read-fits (op.Map n (map.Set key x)) s p h = tt
read-fits (op.Map n (map.Put key x)) s p h = tt
read-fits (op.Map n (map.Remove key)) s p h = tt
read-fits (op.Map n (map.Delete key)) s p h = tt
read-fits (op.Map n (map.PutIfAbsent key x)) s p h = tt
read-fits (op.Map n (map.Cas key x y)) s p h = tt
read-fits (op.Session o) s p h = tt
read-fits (op.Destroy which n) s p h = tt
read-fits (op.Group o) s p h = tt
read-fits (op.Member o) s p h = tt
read-fits (op.Change o) s p h = tt

-- ---- where the group or the object may be destroyed

standing-fits : (o : Op) (s : GroupState) (a : Answer) → group_id.Fits s.destroyed_group → answer_grammar.Fits a → answer_grammar.Fits (standing_answer o s a)
standing-fits o s a g f = either answer_grammar.Fits (s.destroyed_group.0 == 0) _ _
    (either answer_grammar.Fits (names_gone s (object_of o)) _ _ fits_object_destroyed f) (fits_group_destroyed s.destroyed_group g)

over-fits : (o : Op) (s : GroupState) (read : Option Answer) → group_id.Fits s.destroyed_group → LookFits read → LookFits (option_map (standing_answer o s) read)
over-fits o s None g f = tt
over-fits o s (Some a) g f = standing-fits o s a g f

pub look_fits : (o : Op) (s : GroupState) (answer : Option Answer) → op_grammar.Fits o → IsSound s → answer ≡ look o s → LookFits answer
look_fits o s answer f h is = subst LookFits (sym is) (over-fits o s (object_read o s) h.fits.destroyed_group (read-fits o s (op_parts o f) h))

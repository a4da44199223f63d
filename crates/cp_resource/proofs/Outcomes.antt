-- What a read is answered is what the rule of its operation answers, and the rule changes nothing.
use Rattle.std.proofs.Common.{◌≡◌, ℕ, Bool, true, false, Option, Some, None, refl, ap, sym, ◌∙◌, if◌then◌else◌}
use Rattle.std.specs.Prelude.{◌==◌}
use Rattle.std.specs.Option.{option_map}
use Rattle.cp_base.specs.declared.identifier.Invocation.{Invocation}
use Rattle.cp_answers.specs.declared.answer.Answer.{Answer}
use Rattle.cp_answers.specs.declared.answer.Answer.TheVariants as answer
use Rattle.cp_op_values.specs.declared.kind.Kind.TheVariants as kind
use Rattle.cp_object_ops.specs.declared.long_op.LongOp.TheVariants as long
use Rattle.cp_object_ops.specs.declared.ref_op.RefOp.TheVariants as ref
use Rattle.cp_object_ops.specs.declared.lock_op.LockOp.TheVariants as lock
use Rattle.cp_object_ops.specs.declared.sem_op.SemOp.TheVariants as sem
use Rattle.cp_object_ops.specs.declared.latch_op.LatchOp.TheVariants as latch
use Rattle.cp_object_ops.specs.declared.map_op.MapOp.TheVariants as map
use Rattle.cp_ops.specs.declared.op.Op.{Op}
use Rattle.cp_ops.specs.declared.op.Op.TheVariants as op
use Rattle.cp_group_state.specs.declared.rows.SemaphoreRow.{SemaphoreRow}
use Rattle.cp_group_state.specs.Rows.{Object, find, object_cmp}
use Rattle.cp_group_state.specs.Semaphores.{sem_step_on}
use Rattle.cp_group_state.specs.SemaphoreRules.{on_sem, sem_wait}
use Rattle.cp_group_state.specs.GroupState.{GroupState}
use Rattle.cp_group_state.specs.Destroying.{names_gone, object_of}
use Rattle.cp_group_state.specs.Outcomes.{Outcome, answered}
use Rattle.cp_group_state.specs.Apply.{outcome, rule}
use Rattle.cp_resource.specs.Reads.{look, object_read, standing_answer, available_answer}

-- a rule's outcome, where that of a read is known
Follows : ℕ → Invocation → Op → GroupState → Option Answer → Type 0
Follows index call o s None = Unit {0}
Follows index call o s (Some a) = rule index call o s ≡ answered a s

available : (call : Invocation) (key : Object) (s : GroupState) (row : Option SemaphoreRow)
    → on_sem key (sem_wait call key sem.Available s) (sem_step_on key sem.Available row s.semaphores).outcome (record s { semaphores = (sem_step_on key sem.Available row s.semaphores).after })
    ≡ answered (available_answer (option_map (λ (r : SemaphoreRow). r.available) row)) s
available call key s None = refl
available call key s (Some row) = refl

follows : (index : ℕ) (call : Invocation) (o : Op) (s : GroupState) → Follows index call o s (object_read o s)
unfolding Follows
follows index call (op.Long name long.Get) s = refl
follows index call (op.Long name (long.Set x)) s = tt
follows index call (op.Long name (long.GetSet x)) s = tt
follows index call (op.Long name (long.Add x)) s = tt
follows index call (op.Long name (long.GetAdd x)) s = tt
follows index call (op.Long name (long.Cas x y)) s = tt
follows index call (op.Ref name ref.Get) s = refl
follows index call (op.Ref name (ref.Set x)) s = tt
follows index call (op.Ref name (ref.GetSet x)) s = tt
follows index call (op.Ref name (ref.Cas x y)) s = tt
follows index call (op.Ref name (ref.Contains x)) s = refl
follows index call (op.Lock name lock.Owner) s = refl
follows index call (op.Lock name (lock.Acquire session limit wish)) s = tt
follows index call (op.Lock name (lock.Release session)) s = tt
follows index call (op.Sem name sem.Available) s = available call (name, kind.Sem) s (find object_cmp s.semaphores.rows (name, kind.Sem))
follows index call (op.Sem name (sem.Init n)) s = tt
follows index call (op.Sem name (sem.Acquire session n wish)) s = tt
follows index call (op.Sem name (sem.Release session n)) s = tt
follows index call (op.Sem name (sem.Drain session)) s = tt
follows index call (op.Sem name (sem.Increase session n)) s = tt
follows index call (op.Sem name (sem.Reduce session n)) s = tt
follows index call (op.Jsem name sem.Available) s = available call (name, kind.Jsem) s (find object_cmp s.semaphores.rows (name, kind.Jsem))
follows index call (op.Jsem name (sem.Init n)) s = tt
follows index call (op.Jsem name (sem.Acquire session n wish)) s = tt
follows index call (op.Jsem name (sem.Release session n)) s = tt
follows index call (op.Jsem name (sem.Drain session)) s = tt
follows index call (op.Jsem name (sem.Increase session n)) s = tt
follows index call (op.Jsem name (sem.Reduce session n)) s = tt
follows index call (op.Latch name latch.Count) s = refl
follows index call (op.Latch name latch.Round) s = tt
follows index call (op.Latch name (latch.Set n)) s = tt
follows index call (op.Latch name (latch.Down round)) s = tt
follows index call (op.Latch name (latch.Await millis)) s = tt
follows index call (op.Map name (map.Get key)) s = refl
follows index call (op.Map name (map.Set key x)) s = tt
follows index call (op.Map name (map.Put key x)) s = tt
follows index call (op.Map name (map.Remove key)) s = tt
follows index call (op.Map name (map.Delete key)) s = tt
follows index call (op.Map name (map.PutIfAbsent key x)) s = tt
follows index call (op.Map name (map.Cas key x y)) s = tt
follows index call (op.Session o) s = tt
follows index call (op.Destroy which name) s = tt
follows index call (op.Group o) s = tt
follows index call (op.Member o) s = tt
follows index call (op.Change o) s = tt

chosen : (gone : Bool) (r : Outcome) (s : GroupState) (a : Answer) → r ≡ answered a s
    → (if gone then answered answer.ObjectDestroyed s else r) ≡ answered (if gone then answer.ObjectDestroyed else a) s
chosen true r s a e = refl
chosen false r s a e = e

stood : (stands : Bool) (x y : Answer) → stands ≡ true → (if stands then x else y) ≡ x
stood true x y e = refl
stood false x y e = cc

told : (index : ℕ) (call : Invocation) (o : Op) (s : GroupState) (read : Option Answer) (a : Answer) → (s.destroyed_group.0 == 0) ≡ true
    → Follows index call o s read → option_map (standing_answer o s) read ≡ Some a → outcome index call o s ≡ answered a s
unfolding Follows
told index call o s None a stands f e = cc
told index call o s (Some b) a stands f e = chosen (names_gone s (object_of o)) (rule index call o s) s b f
    ∙ ap (λ (c : Answer). answered c s) (sym (stood (s.destroyed_group.0 == 0) (if names_gone s (object_of o) then answer.ObjectDestroyed else b) (answer.GroupDestroyed s.destroyed_group) stands) ∙ given)
  where
    given : standing_answer o s b ≡ a
    given = let h : Some (standing_answer o s b) ≡ Some a = e in cc

pub looks-are-outcomes : (index : ℕ) (call : Invocation) (o : Op) (s : GroupState) (a : Answer)
    → (s.destroyed_group.0 == 0) ≡ true → look o s ≡ Some a → outcome index call o s ≡ answered a s
looks-are-outcomes index call o s a stands e = told index call o s (object_read o s) a stands (follows index call o s) e

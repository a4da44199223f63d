-- An operation, as it stands in an entry or a request.
use Rattle.std.specs.Prelude.{ℕ, List, Option, Some, None, codes, ◌++◌, ◌∷◌}
use Rattle.cp_base.specs.declared.limits.TheConstants.{LAST_NUMBER, MOST_REFERENCE}
use Rattle.cp_grammar.specs.Grammar.{Grammar, keyed, variant, case, no_case, ◌then◌}
use Rattle.cp_grammar.specs.Fields.{byte, at_least}
use Rattle.cp_grammar.specs.Common.{name}
use Rattle.cp_op_values.specs.Values.{kind_grammar, kind_text}
use Rattle.cp_op_values.specs.declared.kind.Kind.{Kind}
use Rattle.cp_object_ops.specs.declared.long_op.LongOp.{LongOp}
use Rattle.cp_object_ops.specs.LongOps.{long_op, long_op_text}
use Rattle.cp_object_ops.specs.declared.ref_op.RefOp.{RefOp}
use Rattle.cp_object_ops.specs.RefOps.{ref_op_within, ref_op_text}
use Rattle.cp_object_ops.specs.declared.lock_op.LockOp.{LockOp}
use Rattle.cp_object_ops.specs.LockOps.{lock_op, lock_op_text}
use Rattle.cp_object_ops.specs.declared.sem_op.SemOp.{SemOp}
use Rattle.cp_object_ops.specs.SemOps.{sem_op, sem_op_text}
use Rattle.cp_object_ops.specs.declared.latch_op.LatchOp.{LatchOp}
use Rattle.cp_object_ops.specs.LatchOps.{latch_op, latch_op_text}
use Rattle.cp_object_ops.specs.declared.map_op.MapOp.{MapOp}
use Rattle.cp_object_ops.specs.MapOps.{map_op, map_op_text}
use Rattle.cp_ops.specs.declared.session_op.SessionOp.{SessionOp}
use Rattle.cp_ops.specs.SessionOps.{session_op, session_op_text}
use Rattle.cp_ops.specs.declared.group_op.GroupOp.{GroupOp}
use Rattle.cp_ops.specs.GroupOps.{group_op, group_op_text}
use Rattle.cp_ops.specs.declared.member_op.MemberOp.{MemberOp}
use Rattle.cp_ops.specs.MemberOps.{member_op, member_op_text}
use Rattle.cp_ops.specs.declared.change_op.ChangeOp.{ChangeOp}
use Rattle.cp_ops.specs.ChangeOps.{change_op, change_op_text}
use Rattle.cp_ops.specs.declared.op.Op.{Op}
use Rattle.cp_ops.specs.declared.op.Op.TheVariants as variants

abbrev pub op_tag : Op → ℕ
op_tag (variants.Long name op) = 1
op_tag (variants.Ref name op) = 2
op_tag (variants.Lock name op) = 3
op_tag (variants.Sem name op) = 4
op_tag (variants.Jsem name op) = 5
op_tag (variants.Latch name op) = 6
op_tag (variants.Session op) = 7
op_tag (variants.Destroy kind name) = 8
op_tag (variants.Group op) = 9
op_tag (variants.Member op) = 10
op_tag (variants.Change op) = 11
op_tag (variants.Map name op) = 12

abbrev pub op_long : Op → Option (List ℕ × LongOp)
op_long (variants.Long name op) = Some (name, op)
op_long _ = None

abbrev pub op_ref : Op → Option (List ℕ × RefOp)
op_ref (variants.Ref name op) = Some (name, op)
op_ref _ = None

abbrev pub op_lock : Op → Option (List ℕ × LockOp)
op_lock (variants.Lock name op) = Some (name, op)
op_lock _ = None

abbrev pub op_sem : Op → Option (List ℕ × SemOp)
op_sem (variants.Sem name op) = Some (name, op)
op_sem _ = None

abbrev pub op_jsem : Op → Option (List ℕ × SemOp)
op_jsem (variants.Jsem name op) = Some (name, op)
op_jsem _ = None

abbrev pub op_latch : Op → Option (List ℕ × LatchOp)
op_latch (variants.Latch name op) = Some (name, op)
op_latch _ = None

abbrev pub op_session : Op → Option SessionOp
op_session (variants.Session op) = Some op
op_session _ = None

abbrev pub op_destroy : Op → Option (Kind × List ℕ)
op_destroy (variants.Destroy kind name) = Some (kind, name)
op_destroy _ = None

abbrev pub op_group : Op → Option GroupOp
op_group (variants.Group op) = Some op
op_group _ = None

abbrev pub op_member : Op → Option MemberOp
op_member (variants.Member op) = Some op
op_member _ = None

abbrev pub op_change : Op → Option ChangeOp
op_change (variants.Change op) = Some op
op_change _ = None

abbrev pub op_map : Op → Option (List ℕ × MapOp)
op_map (variants.Map name op) = Some (name, op)
op_map _ = None

unfoldable pub op_within : ℕ → Grammar ℕ Op
op_within most = keyed op_tag (at_least 1 (byte 12))
    (case 1 (variant (λ p. variants.Long p.0 p.1) op_long (name then long_op))
    (case 2 (variant (λ p. variants.Ref p.0 p.1) op_ref (name then (ref_op_within most)))
    (case 3 (variant (λ p. variants.Lock p.0 p.1) op_lock (name then lock_op))
    (case 4 (variant (λ p. variants.Sem p.0 p.1) op_sem (name then (sem_op LAST_NUMBER)))
    (case 5 (variant (λ p. variants.Jsem p.0 p.1) op_jsem (name then (sem_op 0)))
    (case 6 (variant (λ p. variants.Latch p.0 p.1) op_latch (name then latch_op))
    (case 7 (variant variants.Session op_session session_op)
    (case 8 (variant (λ p. variants.Destroy p.0 p.1) op_destroy (kind_grammar then name))
    (case 9 (variant variants.Group op_group group_op)
    (case 10 (variant variants.Member op_member member_op)
    (case 11 (variant variants.Change op_change change_op)
    (case 12 (variant (λ p. variants.Map p.0 p.1) op_map (name then map_op))
    no_case))))))))))))

-- the newest form
abbrev pub op_grammar : Grammar ℕ Op
op_grammar = op_within MOST_REFERENCE

abbrev pub op_text : Op → List ℕ
op_text (variants.Long name op) = codes "long " ++ name ++ 32 ∷ long_op_text op
op_text (variants.Ref name op) = codes "ref " ++ name ++ 32 ∷ ref_op_text op
op_text (variants.Lock name op) = codes "lock " ++ name ++ 32 ∷ lock_op_text op
op_text (variants.Sem name op) = codes "sem " ++ name ++ 32 ∷ sem_op_text op
op_text (variants.Jsem name op) = codes "jsem " ++ name ++ 32 ∷ sem_op_text op
op_text (variants.Latch name op) = codes "latch " ++ name ++ 32 ∷ latch_op_text op
op_text (variants.Session op) = codes "session " ++ session_op_text op
op_text (variants.Destroy kind name) = codes "destroy " ++ kind_text kind ++ 32 ∷ name
op_text (variants.Group op) = codes "group " ++ group_op_text op
op_text (variants.Member op) = codes "member " ++ member_op_text op
op_text (variants.Change op) = codes "change " ++ change_op_text op
op_text (variants.Map name op) = codes "map " ++ name ++ 32 ∷ map_op_text op

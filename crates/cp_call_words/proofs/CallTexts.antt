-- The texts of calls.
use Rattle.std.proofs.Common.{◌≡◌, ℕ, false, List, [], ◌∷◌, ◌++◌, refl, sym, ap, ◌∙◌, append_assoc}
use Rattle.std.specs.Prelude.{Option, Some, None, codes}
use Rattle.cp_op_values.specs.Values.{kind_text}
use Rattle.cp_op_values.specs.declared.kind.Kind.{Kind}
use Rattle.cp_op_values.specs.declared.kind.Kind.TheVariants as kinds
use Rattle.cp_object_ops.specs.declared.map_op.MapOp.{MapOp}
use Rattle.cp_object_ops.specs.declared.map_op.MapOp.TheVariants as map_op
use Rattle.cp_call_words.specs.Values.{key_word, value_word}
use Rattle.cp_events.specs.declared.object.Object.{Object}
use Rattle.cp_events.specs.declared.user_op.UserOp.{UserOp}
use Rattle.cp_events.specs.declared.user_op.UserOp.TheVariants as user
use Rattle.cp_call_words.specs.declared.context.Context.{Context}
use Rattle.cp_call_words.specs.Objects.{object_text, object_with, object_word}
use Rattle.cp_call_words.specs.ObjectCalls.{call_spelling, map_word, map_calls, on_object}
use Rattle.cp_call_words.specs.Calls.{user_calls, user_op, call_text}
use Rattle.cp_call_words.specs.CallLaws.{call_text_is}
use Rattle.cp_call_words.specs.Shown.{named, with_group, with_groups}

pub destroy_text : (kind : Kind) (object : Object) → call_text (user.Destroy kind object) ≡ (kind_text kind ++ 32 ∷ []) ++ (object_text object ++ 32 ∷ []) ++ (codes "destroy" ++ 10 ∷ [])
unfolding user_op user_calls on_object object_word
destroy_text kinds.Long object = refl
destroy_text kinds.Ref object = refl
destroy_text kinds.Lock object = refl
destroy_text kinds.Sem object = refl
destroy_text kinds.Jsem object = refl
destroy_text kinds.Latch object = refl
destroy_text kinds.Map object = refl

-- what is appended word by word
pub destroy_written : (out new : List ℕ) (kind : Kind) (object : Object) → new ≡ (((out ++ kind_text kind) ++ 32 ∷ []) ++ (object_text object ++ 32 ∷ [])) ++ (codes "destroy" ++ 10 ∷ [])
    → new ≡ out ++ call_text (user.Destroy kind object)
destroy_written out new kind object e =
    let first = append_assoc out (kind_text kind) (32 ∷ []) in
    let second = append_assoc out (kind_text kind ++ 32 ∷ []) (object_text object ++ 32 ∷ []) in
    let third = append_assoc out ((kind_text kind ++ 32 ∷ []) ++ (object_text object ++ 32 ∷ [])) (codes "destroy" ++ 10 ∷ []) in
    e ∙ ap (λ (xs : List ℕ). (xs ++ (object_text object ++ 32 ∷ [])) ++ (codes "destroy" ++ 10 ∷ [])) first
    ∙ ap (λ (xs : List ℕ). xs ++ (codes "destroy" ++ 10 ∷ [])) second ∙ third
    ∙ ap (λ (xs : List ℕ). out ++ xs) (sym (destroy_text kind object))

pub put_if_absent_written : (out new key value : List ℕ) (op : MapOp) → op ≡ map_op.PutIfAbsent key value
    → new ≡ out ++ ((codes "putifabsent" ++ 32 ∷ []) ++ ((key_word 32).spelling key ++ (value_word 10).spelling value))
    → new ≡ out ++ call_spelling map_word map_calls op
unfolding map_calls
put_if_absent_written out new key value op is e = rw is e

named_group : (group : Option (List ℕ)) → named false group ≡ group
named_group None = refl
named_group (Some group) = refl

named_object : (object : Object) → with_group (named false) object ≡ object
named_object object = ap (λ (group : Option (List ℕ)). object_with object.name group) (named_group object.group)

-- a text that is not to be short names every group
pub all_named : (op : UserOp) → with_groups (named false) op ≡ op
all_named (user.Long object call) = ap (λ (o : Object). user.Long o call) (named_object object)
all_named (user.Ref object call) = ap (λ (o : Object). user.Ref o call) (named_object object)
all_named (user.Lock object call) = ap (λ (o : Object). user.Lock o call) (named_object object)
all_named (user.Sem object call) = ap (λ (o : Object). user.Sem o call) (named_object object)
all_named (user.Jsem object call) = ap (λ (o : Object). user.Jsem o call) (named_object object)
all_named (user.Latch object call) = ap (λ (o : Object). user.Latch o call) (named_object object)
all_named (user.Map object op) = ap (λ (o : Object). user.Map o op) (named_object object)
all_named (user.Destroy kind object) = ap (λ (o : Object). user.Destroy kind o) (named_object object)
all_named (user.CloseSession group) = ap (λ (g : Option (List ℕ)). user.CloseSession g) (named_group group)
all_named (user.Group call) = refl
all_named (user.Member op) = refl
all_named (user.Change op) = refl

-- what is written in full is spelled in every context
pub same_text : (context : Context) (op : UserOp) → call_text (with_groups (named false) op) ≡ (user_op context).spelling op
same_text context op = ap call_text (all_named op) ∙ sym (call_text_is context op)

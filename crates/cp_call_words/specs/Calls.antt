-- A call as a line of a schedule spells it, up to the end of the line.
use Rattle.std.specs.Prelude.{ℕ, Bool, true, cond, not, ◌&&◌, List, length, Option, Some, None, Err, IsTrue, codes}
use Rattle.cp_base.specs.declared.identifier.MemberNo.{MemberNo}
use Rattle.cp_grammar.specs.Grammar.{Grammar, always, variant, keyed, no_case, ◌then◌}
use Rattle.cp_grammar.specs.Words.{Token, token, keyword}
use Rattle.cp_object_ops.specs.declared.map_op.MapOp.{MapOp}
use Rattle.cp_op_values.specs.Values.{kind_text}
use Rattle.cp_op_values.specs.declared.kind.Kind.{Kind}
use Rattle.cp_op_values.specs.declared.kind.Kind.TheVariants as kinds
use Rattle.cp_ops.specs.declared.change_op.ChangeOp.{ChangeOp}
use Rattle.cp_ops.specs.declared.change_op.ChangeOp.TheVariants as change
use Rattle.cp_ops.specs.declared.member_op.MemberOp.{MemberOp}
use Rattle.cp_ops.specs.declared.member_op.MemberOp.TheVariants as member
use Rattle.cp_events.specs.declared.object.Object.{Object}
use Rattle.cp_events.specs.declared.user_op.LongCall.{LongCall}
use Rattle.cp_events.specs.declared.user_op.RefCall.{RefCall}
use Rattle.cp_events.specs.declared.user_op.LockCall.{LockCall}
use Rattle.cp_events.specs.declared.user_op.SemCall.{SemCall}
use Rattle.cp_events.specs.declared.user_op.LatchCall.{LatchCall}
use Rattle.cp_events.specs.declared.user_op.GroupCall.{GroupCall}
use Rattle.cp_events.specs.declared.user_op.GroupCall.TheVariants as group_call
use Rattle.cp_events.specs.declared.user_op.UserOp.{UserOp}
use Rattle.cp_events.specs.declared.user_op.UserOp.TheVariants as user
use Rattle.cp_call_words.specs.declared.context.Context.{Context}
use Rattle.cp_call_words.specs.Values.{name_word, group_word, member_word, index_word}
use Rattle.cp_call_words.specs.ObjectCalls.{long_word, long_calls, ref_word, ref_calls, lock_word, lock_calls, sem_word, sem_calls, latch_word, latch_calls, map_word, map_calls, on_object}

-- A form that stands only where this holds, and fails at its first byte elsewhere.
abbrev pub only_if : {A : Type 0} → Bool → Grammar ℕ A → Grammar ℕ A
only_if holds g = record {
  spelling = g.spelling;
  Fits = λ x. IsTrue holds × g.Fits x;
  reading = λ bytes. cond holds (g.reading bytes) (Err (length bytes));
}

-- ---- sessions, groups, members

abbrev pub close_word : Option (List ℕ) → Token
close_word None = (codes "close", 10)
close_word (Some group) = (codes "close", 32)

-- `close`, or `close GROUP`
unfoldable pub closing : Bool → Grammar ℕ (Option (List ℕ))
closing managed = keyed close_word token
    (keyword (codes "close") 10 (always None)
    (keyword (codes "close") 32 (variant Some (λ group. group) (group_word managed 10))
    no_case))

abbrev pub group_call_word : GroupCall → Token
group_call_word (group_call.Create name) = (codes "create", 32)
group_call_word (group_call.Destroy name) = (codes "destroy", 32)

abbrev pub group_create : GroupCall → Option (List ℕ)
group_create (group_call.Create name) = Some name
group_create _ = None

abbrev pub group_destroy : GroupCall → Option (List ℕ)
group_destroy (group_call.Destroy name) = Some name
group_destroy _ = None

unfoldable pub on_group : Grammar ℕ GroupCall
on_group = keyed group_call_word token
    (keyword (codes "create") 32 (variant group_call.Create group_create (name_word 10))
    (keyword (codes "destroy") 32 (variant group_call.Destroy group_destroy (name_word 10))
    no_case))

abbrev pub member_call_word : MemberOp → Token
member_call_word (member.Leave m) = (codes "leave", 32)
member_call_word (member.Join m) = (codes "join", 32)

abbrev pub member_leave : MemberOp → Option MemberNo
member_leave (member.Leave m) = Some m
member_leave _ = None

abbrev pub member_join : MemberOp → Option MemberNo
member_join (member.Join m) = Some m
member_join _ = None

unfoldable pub on_member : Grammar ℕ MemberOp
on_member = keyed member_call_word token
    (keyword (codes "leave") 32 (variant member.Leave member_leave (member_word 10))
    (keyword (codes "join") 32 (variant member.Join member_join (member_word 10))
    no_case))

abbrev pub change_word : ChangeOp → Token
change_word (change.Add m expected) = (codes "add", 32)
change_word (change.Remove m expected) = (codes "remove", 32)

abbrev pub change_add : ChangeOp → Option (MemberNo × ℕ)
change_add (change.Add m expected) = Some (m, expected)
change_add _ = None

abbrev pub change_remove : ChangeOp → Option (MemberNo × ℕ)
change_remove (change.Remove m expected) = Some (m, expected)
change_remove _ = None

unfoldable pub on_change : Grammar ℕ ChangeOp
on_change = keyed change_word token
    (keyword (codes "add") 32 (variant (λ p. change.Add p.0 p.1) change_add (member_word 32 then index_word 10))
    (keyword (codes "remove") 32 (variant (λ p. change.Remove p.0 p.1) change_remove (member_word 32 then index_word 10))
    no_case))

-- ---- every call

-- the first word: the kind of the object, or what else the call is about
abbrev pub user_word : UserOp → Token
user_word (user.Long object call) = (codes "long", 32)
user_word (user.Ref object call) = (codes "ref", 32)
user_word (user.Lock object call) = (codes "lock", 32)
user_word (user.Sem object call) = (codes "sem", 32)
user_word (user.Jsem object call) = (codes "jsem", 32)
user_word (user.Latch object call) = (codes "latch", 32)
user_word (user.Map object op) = (codes "map", 32)
user_word (user.Destroy kind object) = (kind_text kind, 32)
user_word (user.CloseSession group) = (codes "session", 32)
user_word (user.Group call) = (codes "group", 32)
user_word (user.Member op) = (codes "member", 32)
user_word (user.Change op) = (codes "change", 32)

-- a call of a kind, from the object and what is asked of it
abbrev pub made : {A : Type 0} → Kind → (Object → A → UserOp) → Object → Option A → UserOp
made kind make object None = user.Destroy kind object
made kind make object (Some call) = make object call

abbrev pub call_of : {A : Type 0} → Kind → (Object → A → UserOp) → Object × Option A → UserOp
call_of kind make parts = made kind make parts.0 parts.1

abbrev pub user_long : UserOp → Option (Object × Option LongCall)
user_long (user.Long object call) = Some (object, Some call)
user_long (user.Destroy kinds.Long object) = Some (object, None)
user_long _ = None

abbrev pub user_ref : UserOp → Option (Object × Option RefCall)
user_ref (user.Ref object call) = Some (object, Some call)
user_ref (user.Destroy kinds.Ref object) = Some (object, None)
user_ref _ = None

abbrev pub user_lock : UserOp → Option (Object × Option LockCall)
user_lock (user.Lock object call) = Some (object, Some call)
user_lock (user.Destroy kinds.Lock object) = Some (object, None)
user_lock _ = None

abbrev pub user_sem : UserOp → Option (Object × Option SemCall)
user_sem (user.Sem object call) = Some (object, Some call)
user_sem (user.Destroy kinds.Sem object) = Some (object, None)
user_sem _ = None

abbrev pub user_jsem : UserOp → Option (Object × Option SemCall)
user_jsem (user.Jsem object call) = Some (object, Some call)
user_jsem (user.Destroy kinds.Jsem object) = Some (object, None)
user_jsem _ = None

abbrev pub user_latch : UserOp → Option (Object × Option LatchCall)
user_latch (user.Latch object call) = Some (object, Some call)
user_latch (user.Destroy kinds.Latch object) = Some (object, None)
user_latch _ = None

abbrev pub user_map : UserOp → Option (Object × Option MapOp)
user_map (user.Map object op) = Some (object, Some op)
user_map (user.Destroy kinds.Map object) = Some (object, None)
user_map _ = None

abbrev pub user_close : UserOp → Option (Option (List ℕ))
user_close (user.CloseSession group) = Some group
user_close _ = None

abbrev pub user_group : UserOp → Option GroupCall
user_group (user.Group call) = Some call
user_group _ = None

abbrev pub user_member : UserOp → Option MemberOp
user_member (user.Member op) = Some op
user_member _ = None

abbrev pub user_change : UserOp → Option ChangeOp
user_change (user.Change op) = Some op
user_change _ = None

abbrev pub may_change : Context → Bool
may_change context = not context.managed && context.members

-- calls that name no object
unfoldable pub other_calls : Context → Token → Grammar ℕ UserOp
other_calls context =
    keyword (codes "session") 32 (variant user.CloseSession user_close (closing context.managed))
    (keyword (codes "group") 32 (variant user.Group user_group (only_if context.managed on_group))
    (keyword (codes "member") 32 (variant user.Member user_member (only_if context.managed on_member))
    (keyword (codes "change") 32 (variant user.Change user_change (only_if (may_change context) on_change))
    no_case)))

unfoldable pub user_calls : Context → Token → Grammar ℕ UserOp
user_calls context =
    keyword (codes "long") 32 (variant (call_of kinds.Long user.Long) user_long (on_object context.managed long_word long_calls))
    (keyword (codes "ref") 32 (variant (call_of kinds.Ref user.Ref) user_ref (on_object context.managed ref_word ref_calls))
    (keyword (codes "lock") 32 (variant (call_of kinds.Lock user.Lock) user_lock (on_object context.managed lock_word lock_calls))
    (keyword (codes "sem") 32 (variant (call_of kinds.Sem user.Sem) user_sem (on_object context.managed sem_word sem_calls))
    (keyword (codes "jsem") 32 (variant (call_of kinds.Jsem user.Jsem) user_jsem (on_object context.managed sem_word sem_calls))
    (keyword (codes "latch") 32 (variant (call_of kinds.Latch user.Latch) user_latch (on_object context.managed latch_word latch_calls))
    (keyword (codes "map") 32 (variant (call_of kinds.Map user.Map) user_map (on_object context.managed map_word map_calls))
    (other_calls context)))))))

-- A call, whose last word a line feed ends.
unfoldable pub user_op : Context → Grammar ℕ UserOp
user_op context = keyed user_word token (user_calls context)

-- The text of a call, with its line feed. It is its spelling in every context.
abbrev pub call_text : UserOp → List ℕ
call_text op = (user_op (record { managed = true; members = true })).spelling op

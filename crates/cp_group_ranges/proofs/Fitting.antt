-- What has a spelling: numbers, values, and answers.
use Rattle.std.proofs.Common.{◌≡◌, ℕ, ◌+◌, ◌-◌, ◌^◌, ◌%◌, ◌<◌, ◌≤◌, Bool, true, false, List, Some, None, Option, refl, ap, arith, to_z, of_z}
use Rattle.std.specs.Prelude.{ℤ, pos, negsuc}
use Rattle.std.specs.Int.{w64, int_wrapping_add, cast_unsigned}
use Rattle.std.specs.Int.RustNames.{FitsSigned}
use Rattle.std.proofs.Math.Facts.{of_z-to_z}
use Rattle.std.proofs.lemmas.Int.{ints, to_z-of_z, fits_signed_from_abs}
use mir.ValLaws.{of_z_fits}
use Rattle.cp_base.specs.declared.identifier.ThreadNo.{ThreadNo}
use Rattle.cp_base.specs.declared.identifier.GroupId.{GroupId}
use Rattle.cp_base.specs.declared.identifier.Invocation.{Invocation}
use Rattle.cp_grammar.specs.Fields.{byte, signed, flag, optional}
use Rattle.cp_grammar.specs.Common.{index, group_id, thread_no, client_id, invocation}
use Rattle.cp_op_values.specs.declared.kind.Kind.{Kind}
use Rattle.cp_op_values.specs.declared.kind.Kind.TheVariants as kind
use Rattle.cp_op_values.specs.Values.{reference, value, kind_grammar}
use Rattle.cp_answers.specs.declared.answer.Answer.{Answer}
use Rattle.cp_answers.specs.declared.answer.Answer.TheVariants as answer
use Rattle.cp_answers.specs.declared.argument.Argument.TheVariants as argument
use Rattle.cp_answers.specs.Arguments as arguments
use Rattle.cp_answers.specs.Answers.{answer_within, held_row, answer_grammar}
use Rattle.cp_group_ranges.specs.Rows.{IsPermits}

-- ---- numbers

pub index_fits : (n : ℕ) → n ≤ 2 ^ 62 → index.Fits n
unfolding index
index_fits n le = le

pub index_most : (n : ℕ) → index.Fits n → n ≤ 2 ^ 62
unfolding index
index_most n le = le

-- a number of 64 bits with a sign
pub signed_fits : (z : ℤ) → FitsSigned w64 z → signed.Fits z
unfolding signed
signed_fits z fits = let lt : cast_unsigned w64 z < 2 ^ 64 = (of_z_fits w64 z fits).fits in (omega (arith, lt), to_z-of_z w64 z fits)

pub signed_bits : (n : ℕ) → n < 2 ^ 64 → signed.Fits (to_z w64 n)
unfolding signed
signed_bits n lt = let back : of_z w64 (to_z w64 n) ≡ n = of_z-to_z {w = w64} (omega arith) in (omega (arith, back, lt), ap (to_z w64) back)

below-rest : (n : ℕ) → n % 2 ^ 64 < 2 ^ 64
below-rest n = omega arith

pub signed_sum : (a b : ℤ) → signed.Fits (int_wrapping_add w64 a b)
signed_sum a b = signed_bits ((cast_unsigned w64 a + cast_unsigned w64 b) % 2 ^ 64) (below-rest (cast_unsigned w64 a + cast_unsigned w64 b))

pub signed_natural : (n : ℕ) → n < 2 ^ 63 → signed.Fits (pos n)
signed_natural n lt = signed_fits (pos n) (fits_signed_from_abs w64 (pos n) lt)

pub signed_permits : (z : ℤ) → IsPermits z → signed.Fits z
signed_permits (pos n) h = signed_natural n (let most = h.most in omega (arith, ints, most))
signed_permits (negsuc n) h = signed_fits (negsuc n) (fits_signed_from_abs w64 (negsuc n) (let least = h.least in omega (arith, ints, least)))

-- ---- threads, groups, kinds, references

pub thread_byte : (t : ThreadNo) → thread_no.Fits t → (byte 8).Fits t.0
unfolding thread_no
thread_byte t h = h.0

pub no_thread : thread_no.Fits (record { 0 = 0 })
unfolding thread_no
no_thread = (omega arith, refl)

pub no_group : group_id.Fits (record { 0 = 0 })
unfolding group_id index
no_group = (omega arith, refl)

pub call_client : (call : Invocation) → invocation.Fits call → client_id.Fits call.client
unfolding invocation
call_client call h = h.0.0

pub call_thread : (call : Invocation) → invocation.Fits call → thread_no.Fits call.thread
unfolding invocation
call_thread call h = h.0.1.0

pub call_number : (call : Invocation) → invocation.Fits call → index.Fits call.number
unfolding invocation
call_number call h = h.0.1.1

pub kind_fits : (k : Kind) → kind_grammar.Fits k
unfolding kind_grammar
kind_fits kind.Long = ((omega arith, refl), refl)
kind_fits kind.Ref = ((omega arith, refl), refl)
kind_fits kind.Lock = ((omega arith, refl), refl)
kind_fits kind.Sem = ((omega arith, refl), refl)
kind_fits kind.Jsem = ((omega arith, refl), refl)
kind_fits kind.Latch = ((omega arith, refl), refl)
kind_fits kind.Map = ((omega arith, refl), refl)

pub null_fits : (reference 4000).Fits None
unfolding reference
null_fits = (omega arith, refl)

-- a value of a map is a reference
pub value_reference : (v : List ℕ) → value.Fits v → (reference 4000).Fits (Some v)
unfolding reference value
value_reference v h = (omega arith, (omega (arith, h), refl))

pub none_yet : (optional answer_grammar).Fits None
none_yet = (omega arith, refl)

pub some_answer : (a : Answer) → answer_grammar.Fits a → (optional answer_grammar).Fits (Some a)
some_answer a h = (omega arith, (h, refl))

pub the_answer : (a : Answer) → (optional answer_grammar).Fits (Some a) → answer_grammar.Fits a
the_answer a h = h.1.0

-- ---- answers

pub fits_ok : answer_grammar.Fits answer.Ok
unfolding answer_within
fits_ok = (omega arith, refl)

flag_fits : (b : Bool) → flag.Fits b
unfolding flag
flag_fits true = (omega arith, refl)
flag_fits false = (omega arith, refl)

pub fits_bool : (b : Bool) → answer_grammar.Fits (answer.Bool b)
unfolding answer_within
fits_bool b = (omega arith, (flag_fits b, refl))

pub fits_value : (z : ℤ) → signed.Fits z → answer_grammar.Fits (answer.Value z)
unfolding answer_within
fits_value z h = (omega arith, (h, refl))

pub fits_ref : (r : Option (List ℕ)) → (reference 4000).Fits r → answer_grammar.Fits (answer.Ref r)
unfolding answer_within
fits_ref r h = (omega arith, (h, refl))

pub fits_fence : (n : ℕ) → index.Fits n → answer_grammar.Fits (answer.Fence n)
unfolding answer_within
fits_fence n h = (omega arith, (h, refl))

pub fits_free : answer_grammar.Fits answer.Free
unfolding answer_within
fits_free = (omega arith, refl)

pub fits_held : (session : ℕ) (thread : ThreadNo) (holds fence : ℕ) → index.Fits session → thread_no.Fits thread → holds ≤ 2 ^ 32 - 1 → index.Fits fence → answer_grammar.Fits (answer.Held session thread holds fence)
unfolding answer_within held_row
fits_held session thread holds fence s t h f = (omega arith, ((s, (t, (h, f))), refl))

pub fits_session : (n : ℕ) → index.Fits n → answer_grammar.Fits (answer.Session n)
unfolding answer_within
fits_session n h = (omega arith, (h, refl))

pub fits_not_owner : answer_grammar.Fits answer.NotOwner
unfolding answer_within
fits_not_owner = (omega arith, refl)

pub fits_limit : (n : ℕ) → n ≤ 2 ^ 32 - 1 → answer_grammar.Fits (answer.LimitReached n)
unfolding answer_within
fits_limit n h = (omega arith, (h, refl))

pub fits_expired : (n : ℕ) → index.Fits n → answer_grammar.Fits (answer.SessionExpired n)
unfolding answer_within
fits_expired n h = (omega arith, (h, refl))

pub fits_timed_out : answer_grammar.Fits answer.TimedOut
unfolding answer_within
fits_timed_out = (omega arith, refl)

pub fits_cancelled : (n : ℕ) → index.Fits n → answer_grammar.Fits (answer.WaitCancelled n)
unfolding answer_within
fits_cancelled n h = (omega arith, (h, refl))

pub fits_stale : (n : ℕ) → index.Fits n → answer_grammar.Fits (answer.Stale n)
unfolding answer_within
fits_stale n h = (omega arith, (h, refl))

pub fits_not_held : (n : ℕ) → n ≤ 2 ^ 64 - 1 → answer_grammar.Fits (answer.NotHeld n)
unfolding answer_within
fits_not_held n h = (omega arith, (h, refl))

pub fits_not_initialized : answer_grammar.Fits answer.NotInitialized
unfolding answer_within
fits_not_initialized = (omega arith, refl)

pub fits_object_destroyed : answer_grammar.Fits answer.ObjectDestroyed
unfolding answer_within
fits_object_destroyed = (omega arith, refl)

pub fits_group_destroyed : (g : GroupId) → group_id.Fits g → answer_grammar.Fits (answer.GroupDestroyed g)
unfolding answer_within
fits_group_destroyed g h = (omega arith, (h, refl))

pub fits_table_full : (n : ℕ) → n ≤ 2 ^ 32 - 1 → answer_grammar.Fits (answer.TableFull n)
unfolding answer_within
fits_table_full n h = (omega arith, (h, refl))

overflow_fits : arguments.argument.Fits argument.Overflow
unfolding arguments.argument
overflow_fits = (omega arith, refl)

pub fits_overflow : answer_grammar.Fits (answer.BadArgument argument.Overflow)
unfolding answer_within
fits_overflow = (omega arith, (overflow_fits, refl))

-- A set of calls beside their list.
use Rattle.std.proofs.Common.{◌≡◌, Bool, true, false, ◌||◌, ◌&&◌, List, [], ◌∷◌, ◌++◌, refl, ap, sym, ◌∙◌, cond}
use Rattle.std.specs.Prelude.{◌==◌}
use Rattle.std.proofs.lemmas.Cmp.{nat_list_eq_equiv, nat_eq_equiv}
use Rattle.std.proofs.lemmas.List.Folds.{list_any-append}
use Rattle.cp_base.specs.declared.identifier.Invocation.{Invocation}
use Rattle.cp_group_state.specs.Waiters.{same_call, same_client}
use Rattle.cp_latch.specs.Counted.{is_among, Knows, Joined}

turned : (a b : Invocation) → same_call a b ≡ same_call b a
turned a b = let clients : same_client a.client b.client ≡ same_client b.client a.client = nat_list_eq_equiv.symm a.client.0 b.client.0 in
    let threads : (a.thread.0 == b.thread.0) ≡ (b.thread.0 == a.thread.0) = nat_eq_equiv.symm a.thread.0 b.thread.0 in
    let numbers : (a.number == b.number) ≡ (b.number == a.number) = nat_eq_equiv.symm a.number b.number in
    λ i. clients i && (threads i && numbers i)

either : (b o : Bool) → cond b true o ≡ (o || b)
either true true = refl
either true false = refl
either false true = refl
either false false = refl

-- what a set tells of a call after another was put in
pub learnt : (call other : Invocation) (old new : Bool) → new ≡ cond (same_call call other) true old → new ≡ (old || same_call other call)
learnt call other old new told = told ∙ ap (λ b. cond b true old) (turned call other) ∙ either (same_call other call) old

last : (b : Bool) → (b || false) ≡ b
last true = refl
last false = refl

-- a call that is put into the set and behind the list
pub knows_more : (keys calls next : List Invocation) (call : Invocation) → Knows keys calls → ((other : Invocation) → is_among other next ≡ (is_among other keys || same_call other call)) → Knows next (calls ++ call ∷ [])
knows_more keys calls next call known told = λ other. told other ∙ ap (λ b. b || same_call other call) (known other)
    ∙ ap (λ b. is_among other calls || b) (sym (last (same_call other call))) ∙ sym (list_any-append (λ c. same_call other c) calls (call ∷ []))

pub knows_none : (keys calls : List Invocation) → keys ≡ [] → Joined keys calls calls
knows_none keys calls empty = λ other. ap (λ k. is_among other k || is_among other calls) empty

moved : (a b c : Bool) → ((a || b) || c) ≡ (a || (b || c))
moved true b c = refl
moved false b c = refl

-- the first call that is left goes into the set
pub knows_next : (keys next rest calls : List Invocation) (call : Invocation) → Joined keys (call ∷ rest) calls → ((other : Invocation) → is_among other next ≡ (is_among other keys || same_call other call)) → Joined next rest calls
knows_next keys next rest calls call joined told = λ other. ap (λ b. b || is_among other rest) (told other) ∙ moved (is_among other keys) (same_call other call) (is_among other rest) ∙ joined other

pub knows_all : (keys calls : List Invocation) → Joined keys [] calls → Knows keys calls
knows_all keys calls joined = λ other. sym (last (is_among other keys)) ∙ joined other

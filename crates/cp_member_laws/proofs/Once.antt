-- An attempt is taken once.
use Rattle.std.proofs.Common.{◌≡◌, ◌≤◌, ◌<◌, ℕ, ◌+◌, ◌⊎◌, ◌≢◌, inl, inr, Bool, true, false, List, [], ◌∷◌, length, Some, None, Option, refl, sym, ap, subst, ◌∙◌, zero-le, arith}
use Rattle.std.specs.Prelude.{◌==◌, ◌&&◌, is_ok}
use Rattle.std.specs.List.{list_any}
use Rattle.std.proofs.lemmas.Bool.Decides.{eqb_tells}
use Rattle.cp_grammar.specs.Grammar.{whole}
use Rattle.cp_ops.specs.Ops.{op_grammar}
use Rattle.cp_parts.specs.declared.part.Part.{Part}
use Rattle.cp_member_rules.specs.MemberSteps.{MemberStep, unmoved, wrote_nothing}
use Rattle.cp_member_rules.specs.Letters.{Letter}
use Rattle.cp_member_rules.specs.Machines.{Machines, Setup}
use Rattle.cp_member_rules.specs.Steps.{MemberEvent, member_step}
use Rattle.cp_member_rules.specs.Members.{MemberState, last_attempt}
use Rattle.cp_member_rules.specs.Letters.{Request}
use Rattle.cp_member_rules.specs.Requesting.{attempted}
use Rattle.cp_member_laws.specs.Runs.{Happening, Comes, Starts, AttemptKey, request_in, names, is_new, is_taken, is_key, takes_request, tells_key, after, times, one_if, takes}
use Rattle.cp_member_laws.proofs.Telling.{no_true}
use Rattle.cp_member_laws.proofs.Following.{Follows}
use Rattle.cp_member_laws.proofs.Requesting.{Answered, Left, Taken, nobody}
use Rattle.cp_member_laws.proofs.Happening.{Goes, Plain, Asked, goes}
use Rattle.cp_member_laws.proofs.Past.{IsPast, Before, Seen, both, equal, new_facts, past_taken, past_stays}

pub no_less : (n : ℕ) → n < n → ⊥
no_less n h = absurd (omega (arith, h))

-- what wrote no part
pub wrote_none : (key : ℕ → ℕ → ℕ → Bool) (member : MemberState) (e : MemberStep) → Follows key 0 (unmoved member) e → e.parts ≡ []
wrote_none key member e f = by f.news f.few f.parts where
  by : (news : List Part) → length news ≤ 0 → e.parts ≡ news → e.parts ≡ []
  by [] less same = same
  by (x ∷ news) less same = absurd (omega (arith, less))

pub nothing : (e : MemberStep) → e.parts ≡ [] → wrote_nothing e ≡ true
nothing e none = ap (λ (l : List Part). length l == 0) none

pub no_refusal : (key : ℕ → ℕ → ℕ → Bool) (n : ℕ) (member : MemberState) (e : MemberStep) → Follows key n (unmoved member) e → list_any (tells_key key) e.sent ≡ false
no_refusal key n member e f = ap (λ (l : List Letter). list_any (tells_key key) l) f.sent ∙ f.clear

pub and_true : (a b : Bool) → a ≡ true → b ≡ true → (a && b) ≡ true
and_true true b h k = k
and_true false b h k = absurd cc

pub same_true : (a b : ℕ) → a ≡ b → (a == b) ≡ true
same_true a b e = by (eqb_tells a b) where
  by : (((a == b) ≡ true) × (a ≡ b)) ⊎ (((a == b) ≡ false) × (a ≢ b)) → (a == b) ≡ true
  by (inl h) = h.0
  by (inr h) = absurd (h.1 e)

pub and_false : (a b : Bool) → b ≡ false → (a && b) ≡ false
and_false true b h = h
and_false false b h = refl

pub some_none : {A : Type 0} (x : A) → Some x ≡ None → ⊥
some_none x e = cc

pub same_some : {A : Type 0} (x y : A) → Some x ≡ Some y → x ≡ y
same_some x y e = cc

module _ {V : Type 0} (ms : Machines V) (setup : Setup) (me : ℕ) where
  abbrev does : MemberState → MemberEvent → MemberStep
  does member event = member_step ms setup me member event

  abbrev Goes_by : (ℕ → ℕ → ℕ → Bool) → MemberState → MemberEvent → Type 0
  Goes_by key member event = Goes ms setup me key (request_in me event) (unmoved member) (member_step ms setup me member event)

  -- ---- runs

  pub none_after : (t : AttemptKey) (test : MemberState → Happening → Bool) → ((member : MemberState) (h : Happening) → IsPast t member → test member h ≡ false)
      → (run : List Happening) (member : MemberState) → IsPast t member → times ms setup me test member run ≡ 0
  none_after t test never [] member past = refl
  none_after t test never (h ∷ run) member past =
      let now : one_if (test member h) ≡ 0 = ap one_if (never member h past) in
      let rest : times ms setup me test (after ms setup me member h) run ≡ 0 = none_after t test never run (after ms setup me member h) (past_stays ms setup me t member h past) in
      omega (arith, now, rest)

  pub once : (t : AttemptKey) (test : MemberState → Happening → Bool) → ((member : MemberState) (h : Happening) → IsPast t member → test member h ≡ false)
      → ((member : MemberState) (h : Happening) → test member h ≡ true → IsPast t (after ms setup me member h)) → (run : List Happening) (member : MemberState) → times ms setup me test member run ≤ 1
  once t test never past [] member = zero-le
  once t test never past (h ∷ run) member = by (test member h) refl (once t test never past run (after ms setup me member h)) where
    later : ℕ
    later = times ms setup me test (after ms setup me member h) run

    by : (b : Bool) → test member h ≡ b → later ≤ 1 → one_if b + later ≤ 1
    by true e rest = let none = none_after t test never run (after ms setup me member h) (past member h e) in omega (arith, none)
    by false e rest = omega (arith, rest)

  -- ---- what is taken

  pub record Takes (t : AttemptKey) (member : MemberState) (event : MemberEvent) : Type 0 where
    request : Request
    comes : request_in me event ≡ Some request
    named : names t request ≡ true
    taken : is_taken request member ≡ true

  pub took : (t : AttemptKey) (member : MemberState) (event : MemberEvent) → takes ms setup me t member (Comes event) ≡ true → Takes t member event
  took t member event h = by (request_in me event) refl h where
    by : (o : Option Request) → request_in me event ≡ o → takes_request t member o ≡ true → Takes t member event
    by None e h = absurd (no_true (sym h))
    by (Some r) e h = let parts = both (names t r) (is_taken r member) h in record { request = r; comes = e; named = parts.0; taken = parts.1 }

  -- what the names say
  pub named_own : (t : AttemptKey) (r : Request) (member : MemberState) → names t r ≡ true → is_taken r member ≡ true → t.restart ≡ member.stored.restart
  named_own t r member named taken =
      equal t.restart r.restart (both (is_key t r.from r.call.thread.0 r.attempt) (t.restart == r.restart) named).1 ∙ (new_facts r member (both (is_ok (whole op_grammar r.op)) (is_new r member) taken).1).0

  -- a past attempt is not taken
  pub past_never : (t : AttemptKey) (r : Request) (member : MemberState) → names t r ≡ true → is_taken r member ≡ true → IsPast t member → ⊥
  past_never t r member named taken (Before h) = no_less member.stored.restart (subst (λ n. n < member.stored.restart) (named_own t r member named taken) h)
  past_never t r member named taken (Seen own h) =
      let key = both (is_key t r.from r.call.thread.0 r.attempt) (t.restart == r.restart) named in
      let a = both (t.from == r.from) _ key.0 in
      let b = both (t.thread == r.call.thread.0) (t.attempt == r.attempt) a.1 in
      let last : last_attempt member t.from t.thread ≡ last_attempt member r.from r.call.thread.0 = λ i. last_attempt member (equal t.from r.from a.0 i) (equal t.thread r.call.thread.0 b.0 i) in
      let number = equal t.attempt r.attempt b.1 in
      let less = (new_facts r member (both (is_ok (whole op_grammar r.op)) (is_new r member) taken).1).1 in
      no_less r.attempt (omega (arith, last, number, less, h))

  pub past_takes : (t : AttemptKey) (member : MemberState) (h : Happening) → IsPast t member → takes ms setup me t member h ≡ false
  past_takes t member Starts past = refl
  past_takes t member (Comes event) past = by (takes ms setup me t member (Comes event)) refl where
    by : (b : Bool) → takes ms setup me t member (Comes event) ≡ b → b ≡ false
    by true e = let x = took t member event e in absurd (past_never t x.request member x.named x.taken past)
    by false e = refl

  pub taken_past : (t : AttemptKey) (r : Request) (member : MemberState) (event : MemberEvent) → is_key t r.from r.call.thread.0 r.attempt ≡ true → t.restart ≡ member.stored.restart
      → request_in me event ≡ Some r → is_taken r member ≡ true → IsPast t (does member event).state
  taken_past t r member event key own comes taken = by (goes ms setup me nobody member event) where
    e : MemberStep
    e = does member event

    follows : (n : ℕ) → Follows nobody n (record (unmoved member) { state = attempted r member }) e → IsPast t e.state
    follows n f = past_taken t r member e.state key own f.restart f.attempts

    answered : Answered ms setup me nobody r (is_ok (whole op_grammar r.op)) (unmoved member) e → IsPast t e.state
    answered (Left h same f) = absurd (no_true (sym taken ∙ h))
    answered (Taken h (inl f)) = follows 1 f
    answered (Taken h (inr f)) = follows 0 f.0

    by : Goes_by nobody member event → IsPast t e.state
    by (Plain none f) = absurd (some_none r (sym comes ∙ none))
    by (Asked q some a) = answered (subst (λ x. Answered ms setup me nobody x (is_ok (whole op_grammar x.op)) (unmoved member) e) (same_some q r (sym some ∙ comes)) a)

  pub takes_past : (t : AttemptKey) (member : MemberState) (h : Happening) → takes ms setup me t member h ≡ true → IsPast t (after ms setup me member h)
  takes_past t member Starts h = absurd (no_true (sym h))
  takes_past t member (Comes event) h =
      let x = took t member event h in
      let key = both (is_key t x.request.from x.request.call.thread.0 x.request.attempt) (t.restart == x.request.restart) x.named in
      taken_past t x.request member event key.0 (named_own t x.request member x.named x.taken) x.comes x.taken

  pub taken_once : (run : List Happening) (member : MemberState) (t : AttemptKey) → times ms setup me (takes ms setup me t) member run ≤ 1
  taken_once run member t = once t (takes ms setup me t) (past_takes t) (takes_past t) run member

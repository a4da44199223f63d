-- An attempt makes an entry once, and none where it was refused.
use Rattle.std.proofs.Common.{◌≡◌, ◌≤◌, ℕ, ◌+◌, inl, inr, Bool, true, false, List, [], ◌∷◌, ◌++◌, Some, None, Option, refl, sym, ap, subst, ◌∙◌, zero-le, le_refl, arith}
use Rattle.std.specs.Prelude.{◌==◌, not, is_ok}
use Rattle.std.specs.List.{list_any}
use Rattle.cp_grammar.specs.Grammar.{whole}
use Rattle.cp_ops.specs.Ops.{op_grammar}
use Rattle.cp_member_rules.specs.MemberSteps.{MemberStep, unmoved, wrote_nothing}
use Rattle.cp_member_rules.specs.Machines.{Machines, Setup}
use Rattle.cp_member_rules.specs.Steps.{MemberEvent, member_step}
use Rattle.cp_member_rules.specs.Members.{MemberState}
use Rattle.cp_member_rules.specs.Letters.{Request}
use Rattle.cp_member_rules.specs.Requesting.{attempted}
use Rattle.cp_member_laws.specs.Runs.{Happening, Comes, Starts, AttemptKey, request_in, names, is_new, is_taken, is_key, is_request, takes_request, tells_key, after, after_all, times, one_if, takes, makes, refuses}
use Rattle.cp_member_laws.specs.Laws.{IsLeft}
use Rattle.cp_member_laws.proofs.Telling.{no_true}
use Rattle.cp_member_laws.proofs.Following.{Follows}
use Rattle.cp_member_laws.proofs.Requesting.{Answered, Left, Taken, nobody}
use Rattle.cp_member_laws.proofs.Happening.{Goes, Plain, Asked, goes}
use Rattle.cp_member_laws.proofs.Past.{IsPast, both, equal, new_facts}
use Rattle.cp_member_laws.proofs.Once as once
use Rattle.cp_member_laws.proofs.Once.{wrote_none, nothing, no_refusal, same_true, and_true, and_false, some_none, same_some}

module _ {V : Type 0} (ms : Machines V) (setup : Setup) (me : ℕ) where
  abbrev does : MemberState → MemberEvent → MemberStep
  does member event = member_step ms setup me member event

  abbrev Goes_by : (ℕ → ℕ → ℕ → Bool) → MemberState → MemberEvent → Type 0
  Goes_by key member event = Goes ms setup me key (request_in me event) (unmoved member) (member_step ms setup me member event)

  -- ---- what is left, and what makes an entry

  -- a request that is not taken
  pub left : (member : MemberState) (event : MemberEvent) (r : Request) → request_in me event ≡ Some r → is_taken r member ≡ false → IsLeft ms setup me member event
  left member event r comes not_taken = by (goes ms setup me nobody member event) where
    e : MemberStep
    e = does member event

    answered : Answered ms setup me nobody r (is_ok (whole op_grammar r.op)) (unmoved member) e → IsLeft ms setup me member event
    answered (Left h same f) = record { stays = same; writes = wrote_none nobody member e f }
    answered (Taken h f) = absurd (no_true (sym h ∙ not_taken))

    by : Goes_by nobody member event → IsLeft ms setup me member event
    by (Plain none f) = absurd (some_none r (sym comes ∙ none))
    by (Asked q some a) = answered (subst (λ x. Answered ms setup me nobody x (is_ok (whole op_grammar x.op)) (unmoved member) e) (same_some q r (sym some ∙ comes)) a)

  -- what makes an entry takes the attempt
  makes_takes : (t : AttemptKey) (member : MemberState) (h : Happening) → makes ms setup me t member h ≡ true → takes ms setup me t member h ≡ true
  makes_takes t member Starts h = h
  makes_takes t member (Comes event) h = by (request_in me event) refl parts.0 where
    parts : (is_request t (request_in me event) ≡ true) × (not (wrote_nothing (does member event)) ≡ true)
    parts = both (is_request t (request_in me event)) (not (wrote_nothing (does member event))) h

    taken : (r : Request) → request_in me event ≡ Some r → (b : Bool) → is_taken r member ≡ b → b ≡ true
    taken r comes true e = refl
    taken r comes false e = absurd (no_true (sym parts.1 ∙ ap not (nothing (does member event) (left member event r comes e).writes)))

    by : (o : Option Request) → request_in me event ≡ o → is_request t o ≡ true → takes_request t member (request_in me event) ≡ true
    by None e k = absurd (no_true (sym k))
    by (Some r) e k = subst (λ o. takes_request t member o ≡ true) (sym e) (and_true (names t r) (is_taken r member) k (taken r e (is_taken r member) refl))

  past_makes : (t : AttemptKey) (member : MemberState) (h : Happening) → IsPast t member → makes ms setup me t member h ≡ false
  past_makes t member h past = by (makes ms setup me t member h) refl where
    by : (b : Bool) → makes ms setup me t member h ≡ b → b ≡ false
    by true e = absurd (no_true (sym (makes_takes t member h e) ∙ once.past_takes ms setup me t member h past))
    by false e = refl

  pub made_once : (run : List Happening) (member : MemberState) (t : AttemptKey) → times ms setup me (makes ms setup me t) member run ≤ 1
  made_once run member t = once.once ms setup me t (makes ms setup me t) (past_makes t) (λ n h e. once.takes_past ms setup me t n h (makes_takes t n h e)) run member

  -- ---- refusals

  -- A step that refuses an attempt to this start took it, and wrote nothing.
  record Refused (t : AttemptKey) (member : MemberState) (event : MemberEvent) : Type 0 where
    none : (does member event).parts ≡ []
    past : IsPast t (does member event).state
    took : takes ms setup me t member (Comes event) ≡ true

  refused : (t : AttemptKey) (member : MemberState) (event : MemberEvent) → refuses ms setup me t member (Comes event) ≡ true → Refused t member event
  refused t member event h = by (goes ms setup me (is_key t) member event) where
    e : MemberStep
    e = does member event

    parts : ((t.restart == member.stored.restart) ≡ true) × (list_any (tells_key (is_key t)) e.sent ≡ true)
    parts = both (t.restart == member.stored.restart) (list_any (tells_key (is_key t)) e.sent) h

    never : (n : ℕ) (d : MemberState) → Follows (is_key t) n (record (unmoved member) { state = d }) e → ⊥
    never n d f = no_true (sym parts.1 ∙ no_refusal (is_key t) n d e f)

    own : (r : Request) → is_taken r member ≡ true → (t.restart == r.restart) ≡ true
    own r h = same_true t.restart r.restart (equal t.restart member.stored.restart parts.0 ∙ sym (new_facts r member (both (is_ok (whole op_grammar r.op)) (is_new r member) h).1).0)

    by : Goes_by (is_key t) member event → Refused t member event
    by (Plain none f) = absurd (never 1 member f)
    by (Asked r some (Left h same f)) = absurd (never 0 member f)
    by (Asked r some (Taken h (inl f))) = absurd (never 1 (attempted r member) f)
    by (Asked r some (Taken h (inr f))) = keyed (is_key t r.from r.call.thread.0 r.attempt) refl where
      keyed : (b : Bool) → is_key t r.from r.call.thread.0 r.attempt ≡ b → Refused t member event
      keyed true key = record {
        none = wrote_none nobody (attempted r member) e f.0;
        past = once.taken_past ms setup me t r member event key (equal t.restart member.stored.restart parts.0) some h;
        took = subst (λ o. takes_request t member o ≡ true) (sym some) (and_true (names t r) (is_taken r member) (and_true (is_key t r.from r.call.thread.0 r.attempt) (t.restart == r.restart) key (own r h)) h);
      }
      keyed false key = absurd (never 1 (attempted r member) (f.1 key))

  refused_makes : (t : AttemptKey) (member : MemberState) (event : MemberEvent) → (does member event).parts ≡ [] → makes ms setup me t member (Comes event) ≡ false
  refused_makes t member event none = and_false (is_request t (request_in me event)) (not (wrote_nothing (does member event))) (ap not (nothing (does member event) none))

  pub refused_makes_none : (member : MemberState) (h : Happening) (run : List Happening) (t : AttemptKey) → refuses ms setup me t member h ≡ true → times ms setup me (makes ms setup me t) member (h ∷ run) ≡ 0
  refused_makes_none member Starts run t h = absurd (no_true (sym h))
  refused_makes_none member (Comes event) run t h =
      let x = refused t member event h in
      let now : one_if (makes ms setup me t member (Comes event)) ≡ 0 = ap one_if (refused_makes t member event x.none) in
      let rest : times ms setup me (makes ms setup me t) (does member event).state run ≡ 0 = once.none_after ms setup me t (makes ms setup me t) (past_makes t) run (does member event).state x.past in
      omega (arith, now, rest)

  -- ---- over a whole run

  times_append : (test : MemberState → Happening → Bool) (xs ys : List Happening) (member : MemberState)
      → times ms setup me test member (xs ++ ys) ≡ times ms setup me test member xs + times ms setup me test (after_all ms setup me member xs) ys
  times_append test [] ys member = omega arith
  times_append test (h ∷ xs) ys member = let rest = times_append test xs ys (after ms setup me member h) in omega (arith, rest)

  fewer : (a b : Bool) → (a ≡ true → b ≡ true) → one_if a ≤ one_if b
  fewer false b h = zero-le
  fewer true true h = le_refl 1
  fewer true false h = absurd (no_true (sym (h refl)))

  makes_few : (t : AttemptKey) (run : List Happening) (member : MemberState) → times ms setup me (makes ms setup me t) member run ≤ times ms setup me (takes ms setup me t) member run
  makes_few t [] member = zero-le
  makes_few t (h ∷ run) member =
      let now = fewer (makes ms setup me t member h) (takes ms setup me t member h) (makes_takes t member h) in
      let rest = makes_few t run (after ms setup me member h) in
      omega (arith, now, rest)

  refused_takes : (t : AttemptKey) (member : MemberState) (h : Happening) → refuses ms setup me t member h ≡ true → takes ms setup me t member h ≡ true
  refused_takes t member Starts h = absurd (no_true (sym h))
  refused_takes t member (Comes event) h = (refused t member event h).took

  pub refused_never_makes : (member : MemberState) (before : List Happening) (h : Happening) (behind : List Happening) (t : AttemptKey) → refuses ms setup me t (after_all ms setup me member before) h ≡ true
      → times ms setup me (makes ms setup me t) member (before ++ h ∷ behind) ≡ 0
  refused_never_makes member before h behind t e =
      let then_ : MemberState = after_all ms setup me member before in
      let now : one_if (takes ms setup me t then_ h) ≡ 1 = ap one_if (refused_takes t then_ h e) in
      let all = once.taken_once ms setup me (before ++ h ∷ behind) member t in
      let whole_ = times_append (takes ms setup me t) before (h ∷ behind) member in
      let made_ = times_append (makes ms setup me t) before (h ∷ behind) member in
      let few = makes_few t before member in
      let rest = refused_makes_none then_ h behind t e in
      omega (arith, now, all, whole_, made_, few, rest)

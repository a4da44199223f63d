-- An attempt that was taken, or whose start is over, is past for ever.
use Rattle.std.proofs.Common.{◌≡◌, ◌≤◌, ◌<◌, ℕ, ◌⊎◌, inl, inr, ◌≢◌, Bool, true, false, List, refl, sym, ap, subst, ◌∙◌, le_of_eq, le_trans, arith}
use Rattle.std.specs.Prelude.{◌==◌, ◌&&◌, not, nat_le, is_ok, Option, unwrap_or}
use Rattle.std.specs.BTreeMap.{is_at}
use Rattle.std.proofs.lemmas.Bool.Decides.{eqb_tells, leb_tells}
use Rattle.cp_grammar.specs.Grammar.{whole}
use Rattle.cp_ops.specs.Ops.{op_grammar}
use Rattle.cp_group_state.specs.Rows.{find, put}
use Rattle.cp_group_state.proofs.Keyed.{equal_is, find-put_same, find-put_other, holder_key}
use Rattle.cp_member_rules.specs.MemberSteps.{MemberStep, unmoved}
use Rattle.cp_member_rules.specs.Machines.{Machines, Setup}
use Rattle.cp_member_rules.specs.Steps.{member_step}
use Rattle.cp_member_rules.specs.Members.{MemberState, endpoint_cmp, last_attempt}
use Rattle.cp_member_rules.specs.Letters.{Request}
use Rattle.cp_member_rules.specs.Requesting.{attempted}
use Rattle.cp_member_laws.specs.Runs.{Happening, Comes, Starts, AttemptKey, request_in, is_new, is_key, after}
use Rattle.cp_member_laws.proofs.Telling.{no_true}
use Rattle.cp_member_laws.proofs.Following.{Follows}
use Rattle.cp_member_laws.proofs.Requesting.{Answered, Left, Taken, nobody}
use Rattle.cp_member_laws.proofs.Happening.{Goes, Plain, Asked, goes}

pub both : (a b : Bool) → (a && b) ≡ true → (a ≡ true) × (b ≡ true)
both true b h = (refl, h)
both false b h = absurd cc

pub equal : (a b : ℕ) → (a == b) ≡ true → a ≡ b
equal a b h = by (eqb_tells a b) where
  by : (((a == b) ≡ true) × (a ≡ b)) ⊎ (((a == b) ≡ false) × (a ≢ b)) → a ≡ b
  by (inl e) = e.1
  by (inr e) = absurd (no_true (sym h ∙ e.0))

above : (a b : ℕ) → not (nat_le a b) ≡ true → b < a
above a b h = by (leb_tells a b) where
  by : ((nat_le a b ≡ true) × (a ≤ b)) ⊎ ((nat_le a b ≡ false) × (b < a)) → b < a
  by (inl e) = absurd (no_true (sym h ∙ ap not e.0))
  by (inr e) = e.1

-- ---- attempts

abbrev pub last_in : List ((ℕ × ℕ) × ℕ) → ℕ × ℕ → ℕ
last_in rows k = unwrap_or (find endpoint_cmp rows k) 0

put_here : (rows : List ((ℕ × ℕ) × ℕ)) (k : ℕ × ℕ) (n : ℕ) → last_in (put endpoint_cmp rows k n) k ≡ n
put_here rows k n = ap (λ (o : Option ℕ). unwrap_or o 0) (find-put_same endpoint_cmp holder_key rows k n)

put_rises : (rows : List ((ℕ × ℕ) × ℕ)) (k q : ℕ × ℕ) (n : ℕ) → last_in rows k ≤ n → last_in rows q ≤ last_in (put endpoint_cmp rows k n) q
put_rises rows k q n less = by (is_at (endpoint_cmp q) k) refl where
  by : (b : Bool) → is_at (endpoint_cmp q) k ≡ b → last_in rows q ≤ last_in (put endpoint_cmp rows k n) q
  by true e = subst (λ x. last_in rows x ≤ last_in (put endpoint_cmp rows k n) x) (sym (holder_key.same q k (equal_is _ e))) (le_trans less (le_of_eq (sym (put_here rows k n))))
  by false e = le_of_eq (sym (ap (λ (o : Option ℕ). unwrap_or o 0) (find-put_other endpoint_cmp holder_key rows k q n e)))

-- ---- past attempts

pub data IsPast (t : AttemptKey) (member : MemberState) : Type 0 where
  Before : t.restart < member.stored.restart → IsPast t member
  Seen : t.restart ≡ member.stored.restart → t.attempt ≤ last_attempt member t.from t.thread → IsPast t member

-- a step of the same start, after which no number is lower
pub past_on : (t : AttemptKey) (d e : MemberState) → e.stored.restart ≡ d.stored.restart → last_attempt d t.from t.thread ≤ last_attempt e t.from t.thread → IsPast t d → IsPast t e
past_on t d e start rises (Before h) = Before (subst (λ r. t.restart < r) (sym start) h)
past_on t d e start rises (Seen own h) = Seen (own ∙ sym start) (le_trans h rises)

pub same_attempts : (t : AttemptKey) (d e : MemberState) → e.attempts ≡ d.attempts → last_attempt d t.from t.thread ≤ last_attempt e t.from t.thread
same_attempts t d e same = le_of_eq (sym (ap (λ (rows : List ((ℕ × ℕ) × ℕ)). last_in rows (t.from, t.thread)) same))

pub new_facts : (r : Request) (member : MemberState) → is_new r member ≡ true → (r.restart ≡ member.stored.restart) × (last_attempt member r.from r.call.thread.0 < r.attempt)
new_facts r member h = let parts = both _ _ h in (equal r.restart member.stored.restart parts.0, above r.attempt (last_attempt member r.from r.call.thread.0) parts.1)

-- a try with the key of a request that was taken is past then
pub past_taken : (t : AttemptKey) (r : Request) (member e : MemberState) → is_key t r.from r.call.thread.0 r.attempt ≡ true → t.restart ≡ member.stored.restart
    → e.stored.restart ≡ member.stored.restart → e.attempts ≡ (attempted r member).attempts → IsPast t e
past_taken t r member e key own start same =
    let a = both _ _ key in
    let b = both _ _ a.1 in
    let place : (t.from, t.thread) ≡ (r.from, r.call.thread.0) = λ i. (equal t.from r.from a.0 i, equal t.thread r.call.thread.0 b.0 i) in
    let last : last_attempt e t.from t.thread ≡ r.attempt = ap (λ (rows : List ((ℕ × ℕ) × ℕ)). last_in rows (t.from, t.thread)) same ∙ ap (last_in (attempted r member).attempts) place
    ∙ put_here member.attempts (r.from, r.call.thread.0) r.attempt in
    Seen (own ∙ sym start) (le_of_eq (equal t.attempt r.attempt b.1 ∙ sym last))

module _ {V : Type 0} (ms : Machines V) (setup : Setup) (me : ℕ) where
  pub past_stays : (t : AttemptKey) (member : MemberState) (h : Happening) → IsPast t member → IsPast t (after ms setup me member h)
  past_stays t member Starts (Before h) = Before (omega (arith, h))
  past_stays t member Starts (Seen own h) = Before (omega (arith, own))
  past_stays t member (Comes event) past = by (goes ms setup me nobody member event) where
    e : MemberStep
    e = member_step ms setup me member event

    follows : (n : ℕ) (d : MemberState) → IsPast t d → Follows nobody n (record (unmoved member) { state = d }) e → IsPast t e.state
    follows n d h f = past_on t d e.state f.restart (same_attempts t d e.state f.attempts) h

    taken : (r : Request) → is_new r member ≡ true → IsPast t (attempted r member)
    taken r new = past_on t member (attempted r member) refl (put_rises member.attempts (r.from, r.call.thread.0) (t.from, t.thread) r.attempt (omega (arith, (new_facts r member new).1))) past

    answered : (r : Request) → Answered ms setup me nobody r (is_ok (whole op_grammar r.op)) (unmoved member) e → IsPast t e.state
    answered r (Left h same f) = subst (λ n. IsPast t n) (sym same) past
    answered r (Taken h (inl f)) = follows 1 (attempted r member) (taken r (both (is_ok (whole op_grammar r.op)) (is_new r member) h).1) f
    answered r (Taken h (inr f)) = follows 0 (attempted r member) (taken r (both (is_ok (whole op_grammar r.op)) (is_new r member) h).1) f.0

    by : Goes ms setup me nobody (request_in me event) (unmoved member) e → IsPast t e.state
    by (Plain none f) = follows 1 member past f
    by (Asked r some a) = answered r a

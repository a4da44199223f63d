-- The threads of a client, and their tries, after a row is written; and what lists of attempts have.
use Rattle.std.proofs.Common.{◌≡◌, ℕ, ◌+◌, ◌⊎◌, inl, inr, Bool, true, false, List, [], ◌∷◌, ◌++◌, Some, None, Option, refl, sym, subst, ap, ◌∙◌, arith, if◌then◌else◌}
use Rattle.std.specs.Prelude.{Contains}
use Rattle.std.specs.Ordering.{is_eq, nat_cmp}
use Rattle.std.specs.BTreeMap.{is_at}
use Rattle.std.proofs.lemmas.List.Elements.{Contains-append_left, Contains-append_right, Contains-append_cases, Contains-push, Contains-push_cases}
use Rattle.cp_base.specs.declared.identifier.ThreadNo.{ThreadNo}
use Rattle.cp_base.proofs.Tests.{no_true}
use Rattle.cp_group_state.proofs.Keyed.{equal_is, find-put_same, find-put_other, number_key}
use Rattle.cp_try_rules.specs.Clients.{Client, Thread, or_new, thread_at, with_thread}
use Rattle.cp_try_rules.specs.Tries.{Tries, Tried, or_untried, tried_at, with_tried}

pub some-same : {X : Type 0} {x y : X} → Some x ≡ Some y → x ≡ y
some-same e = cc

pub none-some : {X : Type 0} {x : X} → None ≡ Some x → ⊥
none-some e = cc

thread-same : (x t : ThreadNo) → is_at (nat_cmp x.0) t.0 ≡ true → x ≡ t
thread-same x t e = ap (λ n. record { 0 = n }) (number_key.same x.0 t.0 (equal_is _ e))

number-apart : (t u : ThreadNo) → is_at (nat_cmp u.0) t.0 ≡ false → t ≡ u → ⊥
number-apart t u e same = no_true (sym (ap is_eq (number_key.here t.0)) ∙ subst (λ (y : ThreadNo). is_at (nat_cmp y.0) t.0 ≡ false) (sym same) e)

-- of each thread, where it is so of the one that was written and was so of the others
pub thread-cases : (P : ThreadNo → Thread → Type 0) (c : Client) (t : ThreadNo) (row : Thread) → P t row → ((u : ThreadNo) → (t ≡ u → ⊥) → P u (thread_at c u)) → (u : ThreadNo) → P u (thread_at (with_thread c t row) u)
thread-cases P c t row mine others u = by (is_at (nat_cmp u.0) t.0) refl where
  by : (b : Bool) → is_at (nat_cmp u.0) t.0 ≡ b → P u (thread_at (with_thread c t row) u)
  by true e = subst (λ y. P y (thread_at (with_thread c t row) y)) (sym (thread-same u t e)) (subst (λ o. P t (or_new o)) (sym (find-put_same nat_cmp number_key c.threads t.0 row)) mine)
  by false e = subst (λ o. P u (or_new o)) (sym (find-put_other nat_cmp number_key c.threads t.0 u.0 row e)) (others u (number-apart t u e))

-- the same of their tries
pub tried-cases : (P : ThreadNo → Tried → Type 0) (x : Tries) (t : ThreadNo) (row : Tried) → P t row → ((u : ThreadNo) → (t ≡ u → ⊥) → P u (tried_at x u)) → (u : ThreadNo) → P u (tried_at (with_tried x t row) u)
tried-cases P x t row mine others u = by (is_at (nat_cmp u.0) t.0) refl where
  by : (b : Bool) → is_at (nat_cmp u.0) t.0 ≡ b → P u (tried_at (with_tried x t row) u)
  by true e = subst (λ y. P y (tried_at (with_tried x t row) y)) (sym (thread-same u t e)) (subst (λ o. P t (or_untried o)) (sym (find-put_same nat_cmp number_key x.threads t.0 row)) mine)
  by false e = subst (λ o. P u (or_untried o)) (sym (find-put_other nat_cmp number_key x.threads t.0 u.0 row e)) (others u (number-apart t u e))

pub contains-none : {X : Type 0} (x : X) → Contains [] x → ⊥
contains-none x h = omega (arith, h.1)

pub contains-one : {X : Type 0} (x y : X) → Contains (x ∷ []) y → x ≡ y
contains-one x y h = by (Contains-push_cases [] x y h) where
  by : Contains [] y ⊎ (x ≡ y) → x ≡ y
  by (inl none) = absurd (contains-none y none)
  by (inr same) = same

pub contains-head : {X : Type 0} (x : X) (xs : List X) → Contains (x ∷ xs) x
contains-head x xs = Contains-append_left (x ∷ []) xs x (Contains-push [] x)

pub contains-tail : {X : Type 0} (y : X) (xs : List X) (x : X) → Contains xs x → Contains (y ∷ xs) x
contains-tail y xs x h = Contains-append_right (y ∷ []) xs x h

pub contains-cases : {X : Type 0} (y : X) (xs : List X) (x : X) → Contains (y ∷ xs) x → (y ≡ x) ⊎ Contains xs x
contains-cases y xs x h = by (Contains-append_cases (y ∷ []) xs x h) where
  by : Contains (y ∷ []) x ⊎ Contains xs x → (y ≡ x) ⊎ Contains xs x
  by (inl one) = inl (contains-one y x one)
  by (inr rest) = inr rest

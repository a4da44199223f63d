-- The attempts of a thread are numbered one by one.
use Rattle.std.proofs.Common.{◌≡◌, ℕ, ◌+◌, ◌-◌, ◌⊎◌, inl, inr, Bool, true, false, List, [], ◌∷◌, ◌++◌, Some, None, Option, refl, sym, subst, ap, ◌∙◌, ◌≢◌, arith, if◌then◌else◌}
use Rattle.std.specs.Prelude.{◌==◌, not, ◌&&◌, nat_lt, is_some}
use Rattle.std.specs.Ordering.{is_eq, nat_cmp}
use Rattle.std.specs.BTreeMap.{is_at}
use Rattle.cp_answers.specs.declared.answer.Answer.{Answer}
use Rattle.cp_answers.specs.declared.answer.Answer.TheVariants as answer
use Rattle.cp_base.specs.declared.identifier.GroupId.{GroupId}
use Rattle.cp_base.specs.declared.identifier.Invocation.{Invocation}
use Rattle.cp_base.specs.declared.identifier.ThreadNo.{ThreadNo}
use Rattle.cp_group_state.specs.Rows.{find}
use Rattle.std.proofs.lemmas.Bool.Decides.{eqb_tells}
use Rattle.cp_base.proofs.Tests.{no_true}
use Rattle.cp_group_state.proofs.Keyed.{equal_is, find-put_same, find-put_other, number_key}
use Rattle.cp_try_rules.specs.declared.event.Sent.{Sent}
use Rattle.cp_try_rules.specs.declared.event.Says.TheVariants as says
use Rattle.cp_try_rules.specs.declared.rows.Try.TheVariants as how
use Rattle.cp_try_rules.specs.Clients.{Asked}
use Rattle.cp_try_rules.specs.Laws.{attempt_in, counts_on, IsCounted, last_attempt}
use Rattle.cp_try_rules.specs.Ticks.{user_thread}
use Rattle.cp_try_rules.specs.Tries.{Tries, Tried, Trying, or_untried, tried_at, with_tried, try_to, try_request, may_try, target_of, restart_of, fresh, begin_request, begin_each, first_target, told, told_each, unsent, with_target}

pub counted-append : (t : ℕ) (xs ys : List Sent) (n m l : ℕ) → IsCounted t xs n m → IsCounted t ys m l → IsCounted t (xs ++ ys) n l
counted-append t [] ys n m l first rest = subst (λ k. IsCounted t ys k l) (sym first) rest
counted-append t (s ∷ xs) ys n m l first rest = by (attempt_in t s.says) (λ k h. counted-append t xs ys k m l h rest) first where
  by : (o : Option ℕ) → ((k : ℕ) → IsCounted t xs k m → IsCounted t (xs ++ ys) k l) → counts_on o n (λ k. IsCounted t xs k m) → counts_on o n (λ k. IsCounted t (xs ++ ys) k l)
  by None later h = later n h
  by (Some k) later h = (h.0, later k h.1)

-- what is sent between these tries and those counts on, for each thread
abbrev pub Counts : Tries → List Sent → Tries → Type 0
Counts before sent after = (t : ℕ) → IsCounted t sent (last_attempt t before) (last_attempt t after)

pub counts-then : (a b c : Tries) (xs ys : List Sent) → Counts a xs b → Counts b ys c → Counts a (xs ++ ys) c
counts-then a b c xs ys first rest t = counted-append t xs ys (last_attempt t a) (last_attempt t b) (last_attempt t c) (first t) (rest t)

same-number : (x t : ℕ) → is_at (nat_cmp x) t ≡ true → x ≡ t
same-number x t e = number_key.same x t (equal_is _ e)

equal-true : (n : ℕ) → (n == n) ≡ true
equal-true n = by (eqb_tells n n) where
  by : (((n == n) ≡ true) × (n ≡ n)) ⊎ (((n == n) ≡ false) × (n ≢ n)) → (n == n) ≡ true
  by (inl h) = h.0
  by (inr h) = absurd (h.1 refl)

equal-false : (x t : ℕ) → is_at (nat_cmp x) t ≡ false → (t == x) ≡ false
equal-false x t e = by (eqb_tells t x) where
  by : (((t == x) ≡ true) × (t ≡ x)) ⊎ (((t == x) ≡ false) × (t ≢ x)) → (t == x) ≡ false
  by (inl h) = absurd (no_true (sym (ap is_eq (number_key.here t)) ∙ subst (λ y. is_at (nat_cmp y) t ≡ false) (sym h.1) e))
  by (inr h) = h.0

pub tried-cases : (P : ℕ → Tried → Type 0) (tries : Tries) (t : ThreadNo) (row : Tried) → P t.0 row
    → ((x : ℕ) → is_at (nat_cmp x) t.0 ≡ false → P x (tried_at tries (user_thread x))) → (x : ℕ) → P x (tried_at (with_tried tries t row) (user_thread x))
tried-cases P tries t row mine others x = by (is_at (nat_cmp x) t.0) refl where
  by : (b : Bool) → is_at (nat_cmp x) t.0 ≡ b → P x (tried_at (with_tried tries t row) (user_thread x))
  by true e = subst (λ y. P y (tried_at (with_tried tries t row) (user_thread y))) (sym (same-number x t.0 e)) (subst (λ o. P t.0 (or_untried o)) (sym (find-put_same nat_cmp number_key tries.threads t.0 row)) mine)
  by false e = subst (λ o. P x (or_untried o)) (sym (find-put_other nat_cmp number_key tries.threads t.0 x row e)) (others x e)

-- a row with the same attempt
pub counts-row : (tries : Tries) (t : ThreadNo) (row : Tried) → (tried_at tries t).attempt ≡ row.attempt → Counts tries [] (with_tried tries t row)
counts-row tries t row same = tried-cases (λ x r. last_attempt x tries ≡ r.attempt) tries t row same (λ x e. refl)

pub counts-hello : (tries : Tries) (t : ThreadNo) (row : Tried) (s : Sent) → s.says ≡ says.Hello → (tried_at tries t).attempt ≡ row.attempt → Counts tries (s ∷ []) (with_tried tries t row)
counts-hello tries t row s says same x = subst (λ w. counts_on (attempt_in x w) (last_attempt x tries) (λ k. k ≡ last_attempt x (with_tried tries t row))) (sym says) (counts-row tries t row same x)

-- an attempt
pub counts-attempt : (tries : Tries) (a : Asked) (row : Tried) (m r : ℕ) → row.attempt ≡ (tried_at tries a.call.thread).attempt + 1
    → Counts tries (record { to = m; says = says.Asks ((tried_at tries a.call.thread).attempt + 1) r a } ∷ []) (with_tried tries a.call.thread row)
counts-attempt tries a row m r next = tried-cases (λ x w. counts_on (attempt_in x (says.Asks n r a)) (last_attempt x tries) (λ k. k ≡ w.attempt)) tries a.call.thread row mine others where
  n : ℕ
  n = (tried_at tries a.call.thread).attempt + 1

  chosen : (x : ℕ) (w : ℕ) (b : Bool) → (a.call.thread.0 == x) ≡ b → counts_on (if b then Some n else None) (last_attempt x tries) (λ k. k ≡ w) → counts_on (attempt_in x (says.Asks n r a)) (last_attempt x tries) (λ k. k ≡ w)
  chosen x w b e h = subst (λ c. counts_on (if c then Some n else None) (last_attempt x tries) (λ k. k ≡ w)) (sym e) h

  mine : counts_on (attempt_in a.call.thread.0 (says.Asks n r a)) (last_attempt a.call.thread.0 tries) (λ k. k ≡ row.attempt)
  mine = chosen a.call.thread.0 row.attempt true (equal-true a.call.thread.0) (refl, sym next)

  others : (x : ℕ) → is_at (nat_cmp x) a.call.thread.0 ≡ false → counts_on (attempt_in x (says.Asks n r a)) (last_attempt x tries) (λ k. k ≡ last_attempt x tries)
  others x e = chosen x (last_attempt x tries) false (equal-false x a.call.thread.0 e) refl

-- ---- tries

pub counts-try-to : (clock : ℕ) (a : Asked) (m : ℕ) (o : Option ℕ) (tries : Tries) → Counts tries (try_to clock a m o tries).sent (try_to clock a m o tries).tries
counts-try-to clock a m None tries = counts-hello tries a.call.thread (record { attempt = (tried_at tries a.call.thread).attempt; last = Some (how.Hello m clock); paused = None }) (record { to = m; says = says.Hello }) refl refl
counts-try-to clock a m (Some r) tries = counts-attempt tries a (record { attempt = (tried_at tries a.call.thread).attempt + 1; last = Some (how.Attempt m r clock); paused = None }) m r refl

trying-if : (before : Tries) (b : Bool) (x y : Trying) → Counts before x.sent x.tries → Counts before y.sent y.tries → Counts before (if b then x else y).sent (if b then x else y).tries
trying-if before true x y h k = h
trying-if before false x y h k = k

pub counts-try : (clock : ℕ) (a : Asked) (tries : Tries) → Counts tries (try_request clock a tries).sent (try_request clock a tries).tries
counts-try clock a tries = trying-if tries (may_try a.call.thread tries) (try_to clock a (target_of tries a.group) (restart_of tries (target_of tries a.group)) tries) (unsent tries)
    (counts-try-to clock a (target_of tries a.group) (restart_of tries (target_of tries a.group)) tries) (λ t. refl)

counts-begin : (clock : ℕ) (a : Asked) (tries : Tries) → Counts tries (begin_request clock a tries).sent (begin_request clock a tries).tries
counts-begin clock a tries = counts-then tries (fresh a.call.thread tries) (begin_request clock a tries).tries [] (begin_request clock a tries).sent
    (counts-row tries a.call.thread (record { attempt = (tried_at tries a.call.thread).attempt; last = None; paused = None }) refl) (counts-try clock a (fresh a.call.thread tries))

pub counts-begin-each : (clock : ℕ) (asked : List Asked) (tries : Tries) → Counts tries (begin_each clock asked tries).sent (begin_each clock asked tries).tries
counts-begin-each clock [] tries = λ t. refl
counts-begin-each clock (a ∷ asked) tries = let first = begin_request clock a tries in
    counts-then tries first.tries (begin_each clock asked first.tries).tries first.sent (begin_each clock asked first.tries).sent (counts-begin clock a tries) (counts-begin-each clock asked first.tries)

-- ---- what answers tell leaves the tries of threads

counts-first : (g : GroupId) (members : List ℕ) (tries : Tries) → Counts tries [] (first_target g members tries)
counts-first g [] tries = λ t. refl
counts-first g (m ∷ members) tries = by (nat_lt 1 g.0 && not (is_some (find nat_cmp tries.targets g.0))) where
  by : (b : Bool) → Counts tries [] (if b then with_target g m tries else tries)
  by true = λ t. refl
  by false = λ t. refl

counts-told : (a : Answer) (tries : Tries) → Counts tries [] (told a tries)
counts-told (answer.Group g members) tries = counts-first g members tries
counts-told answer.Ok tries = λ t. refl
counts-told (answer.Bool x) tries = λ t. refl
counts-told (answer.Value x) tries = λ t. refl
counts-told (answer.Ref x) tries = λ t. refl
counts-told (answer.Fence x) tries = λ t. refl
counts-told answer.Free tries = λ t. refl
counts-told (answer.Held x b c d) tries = λ t. refl
counts-told (answer.Session x) tries = λ t. refl
counts-told answer.NotOwner tries = λ t. refl
counts-told (answer.LimitReached x) tries = λ t. refl
counts-told answer.OwnershipLost tries = λ t. refl
counts-told (answer.SessionExpired x) tries = λ t. refl
counts-told answer.TimedOut tries = λ t. refl
counts-told (answer.WaitCancelled x) tries = λ t. refl
counts-told (answer.Stale x) tries = λ t. refl
counts-told (answer.NotHeld x) tries = λ t. refl
counts-told answer.NotInitialized tries = λ t. refl
counts-told answer.ObjectDestroyed tries = λ t. refl
counts-told (answer.GroupDestroyed x) tries = λ t. refl
counts-told (answer.TableFull x) tries = λ t. refl
counts-told (answer.BadArgument x) tries = λ t. refl
counts-told (answer.Indeterminate x) tries = λ t. refl

pub counts-told-each : (ended : List (Invocation × Answer)) (tries : Tries) → Counts tries [] (told_each ended tries)
counts-told-each [] tries = λ t. refl
counts-told-each (row ∷ ended) tries = counts-then tries (told row.1 tries) (told_each ended (told row.1 tries)) [] [] (counts-told row.1 tries) (counts-told-each ended (told row.1 tries))

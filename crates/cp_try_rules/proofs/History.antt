-- Over every list of events: a request that may not be sent again has one attempt that was not refused, and `lost` has a cause.
use Rattle.std.proofs.Common.{◌≡◌, ℕ, ◌+◌, ◌⊎◌, inl, inr, Bool, true, false, List, [], ◌∷◌, ◌++◌, Some, None, Option, refl, sym, subst, ap, ◌∙◌, arith, if◌then◌else◌}
use Rattle.std.specs.Prelude.{◌==◌, ◌&&◌, ◌<◌, ◌≤◌, nat_lt, not, is_some, Contains}
use Rattle.std.specs.Ordering.{nat_cmp}
use Rattle.std.proofs.lemmas.List.{append-nil, append_assoc}
use Rattle.std.proofs.lemmas.List.Elements.{Contains-append_left, Contains-append_right, Contains-append_cases, Contains-push, Contains-push_cases}
use Rattle.cp_answers.specs.declared.answer.Answer.{Answer}
use Rattle.cp_answers.specs.declared.answer.Answer.TheVariants as answer
use Rattle.cp_base.specs.declared.identifier.ClientId.{ClientId}
use Rattle.cp_base.specs.declared.identifier.GroupId.{GroupId}
use Rattle.cp_base.specs.declared.identifier.Invocation.{Invocation}
use Rattle.cp_base.specs.declared.identifier.ThreadNo.{ThreadNo}
use Rattle.cp_group_state.specs.Rows.{find}
use Rattle.cp_try_rules.specs.declared.event.Event.{Event}
use Rattle.cp_try_rules.specs.declared.event.Event.TheVariants as event
use Rattle.cp_try_rules.specs.declared.event.Says.TheVariants as says
use Rattle.cp_try_rules.specs.declared.event.Sent.{Sent}
use Rattle.cp_try_rules.specs.declared.rows.Try.{Try}
use Rattle.cp_try_rules.specs.declared.rows.Try.TheVariants as how
use Rattle.cp_try_rules.specs.Again.{may_again}
use Rattle.cp_try_rules.specs.Clients.{Client, Asked, Pending, Thread, as_asked, open_at, thread_at, with_thread}
use Rattle.cp_try_rules.specs.Laws.{WasRefused, attempt_of}
use Rattle.cp_try_rules.specs.Tries.{Tries, Tried, Trying, begin_request, first_target, fresh, pause, says_to, told, told_each, tried_at, try_request, with_target, with_tried}
use Rattle.cp_try_rules.proofs.Begun.{no-attempt, says-same, try-cases}
use Rattle.cp_try_rules.proofs.Threads.{contains-none, contains-one, none-some, some-same, thread-cases, tried-cases}
use Rattle.cp_try_rules.proofs.Walk.{Bounces, IsReady, WentTo, knock}

-- the last try of a row is this attempt, and nothing was learned of it
abbrev pub Stands : Tried → ℕ → Type 0
Stands row k = (row.attempt ≡ k) × (row.paused ≡ None) × ((m : ℕ) × (r : ℕ) × (at : ℕ) × (row.last ≡ Some (how.Attempt m r at)))

-- what answers tell of groups leaves the tries of threads
first-rows : (g : GroupId) (members : List ℕ) (x : Tries) → (first_target g members x).threads ≡ x.threads
first-rows g [] x = refl
first-rows g (m ∷ members) x = by (nat_lt 1 g.0 && not (is_some (find nat_cmp x.targets g.0))) where
  by : (b : Bool) → (if b then with_target g m x else x).threads ≡ x.threads
  by true = refl
  by false = refl

told-one : (a : Answer) (x : Tries) → (told a x).threads ≡ x.threads
told-one (answer.Group g members) x = first-rows g members x
told-one answer.Ok x = refl
told-one (answer.Bool y) x = refl
told-one (answer.Value y) x = refl
told-one (answer.Ref y) x = refl
told-one (answer.Fence y) x = refl
told-one answer.Free x = refl
told-one (answer.Held y b c d) x = refl
told-one (answer.Session y) x = refl
told-one answer.NotOwner x = refl
told-one (answer.LimitReached y) x = refl
told-one answer.OwnershipLost x = refl
told-one (answer.SessionExpired y) x = refl
told-one answer.TimedOut x = refl
told-one (answer.WaitCancelled y) x = refl
told-one (answer.Stale y) x = refl
told-one (answer.NotHeld y) x = refl
told-one answer.NotInitialized x = refl
told-one answer.ObjectDestroyed x = refl
told-one (answer.GroupDestroyed y) x = refl
told-one (answer.TableFull y) x = refl
told-one (answer.BadArgument y) x = refl
told-one (answer.Indeterminate y) x = refl

told-rows : (ended : List (Invocation × Answer)) (x : Tries) → (told_each ended x).threads ≡ x.threads
told-rows [] x = refl
told-rows (row ∷ ended) x = told-rows ended (told row.1 x) ∙ told-one row.1 x

module _ (me : ClientId) (events : List Event) where
  -- the thread's open request
  abbrev pub IsOpen : ThreadNo → Thread → Asked → Type 0
  IsOpen u w a = as_asked me u w.number w.pending ≡ Some a

  -- What is known of one attempt of a thread, by the thread and its tries: its numbers are no later, and where its request is
  -- open and may not be sent again, it was refused, or is the last.
  abbrev pub IsPast : ThreadNo → Thread → Tried → ℕ → Asked → Type 0
  IsPast u w row k a = (k ≤ row.attempt) × (a.call.number ≤ w.number) × (IsOpen u w a → may_again a.op ≡ false → WasRefused events k a ⊎ Stands row k)

  -- the open request went to the member to which the last try went
  abbrev pub Went : List Sent → ThreadNo → Thread → Tried → Type 0
  Went sent u w row = (a : Asked) (m r at : ℕ) → IsOpen u w a → row.last ≡ Some (how.Attempt m r at) → (k : ℕ) × Contains sent (attempt_of m k r a)

  abbrev pub HoldsAt : List Sent → ThreadNo → Thread → Tried → Type 0
  HoldsAt sent u w row = ((m k r : ℕ) (a : Asked) → a.call.thread ≡ u → Contains sent (attempt_of m k r a) → IsPast u w row k a) × Went sent u w row

  -- of two attempts of one request that may not be sent again, the earlier was refused
  abbrev pub Apart : List Sent → Type 0
  Apart sent = (m m2 k k2 r r2 : ℕ) (a : Asked) → may_again a.op ≡ false → Contains sent (attempt_of m k r a) → Contains sent (attempt_of m2 k2 r2 a) → k < k2 → WasRefused events k a

  abbrev pub Past : List Sent → Client → Tries → Type 0
  Past sent c x = ((u : ThreadNo) → HoldsAt sent u (thread_at c u) (tried_at x u)) × Apart sent

  -- each attempt of the thread's open request was refused, where that may not be sent again
  abbrev pub Freed : List Sent → ThreadNo → Thread → Type 0
  Freed sent u w = (m k r : ℕ) (a : Asked) → a.call.thread ≡ u → Contains sent (attempt_of m k r a) → IsOpen u w a → may_again a.op ≡ false → WasRefused events k a

  -- ---- a row is written

  past-thread : (sent : List Sent) (c : Client) (x : Tries) (t : ThreadNo) (w : Thread) → HoldsAt sent t w (tried_at x t) → Past sent c x → Past sent (with_thread c t w) x
  past-thread sent c x t w mine past = (thread-cases (λ u v. HoldsAt sent u v (tried_at x u)) c t w mine (λ u apart. past.0 u), past.1)

  past-tried : (sent : List Sent) (c : Client) (x : Tries) (t : ThreadNo) (row : Tried) → HoldsAt sent t (thread_at c t) row → Past sent c x → Past sent c (with_tried x t row)
  past-tried sent c x t row mine past = (tried-cases (λ u v. HoldsAt sent u (thread_at c u) v) x t row mine (λ u apart. past.0 u), past.1)

  -- the thread has no open request any more
  pub past-idle : (sent : List Sent) (c : Client) (x : Tries) (t : ThreadNo) (n : ℕ) → (thread_at c t).number ≤ n → Past sent c x → Past sent (with_thread c t (record { number = n; pending = None })) x
  past-idle sent c x t n more past = past-thread sent c x t (record { number = n; pending = None })
      (λ m k r a is h. let old = (past.0 t).0 m k r a is h in (old.0, omega (arith, old.1, more), λ held. absurd (none-some held)), λ a m r at held. absurd (none-some held)) past

  past-both : (sent : List Sent) (c : Client) (x : Tries) (t : ThreadNo) (w : Thread) (row : Tried) → HoldsAt sent t w row → Past sent c x → Past sent (with_thread c t w) (with_tried x t row)
  past-both sent c x t w row mine past = (
    tried-cases (λ u v. HoldsAt sent u (thread_at (with_thread c t w) u) v) x t row
        (thread-cases (λ u v. t ≡ u → HoldsAt sent u v row) c t w (λ same. mine) (λ u apart same. absurd (apart same)) t refl)
        (λ u far. thread-cases (λ v z. (t ≡ v → ⊥) → HoldsAt sent v z (tried_at x v)) c t w (λ apart. absurd (apart refl)) (λ v apart other. past.0 v) u far),
    past.1,
  )

  pub open-call : (u : ThreadNo) (n : ℕ) (o : Option Pending) (a : Asked) → as_asked me u n o ≡ Some a → a.call ≡ record { client = me; thread = u; number = n }
  open-call u n None a e = absurd (none-some e)
  open-call u n (Some now) a e = sym (ap (λ b. b.call) (some-same e))

  open-same : (u : ThreadNo) (w : Thread) (a b : Asked) → IsOpen u w a → IsOpen u w b → a ≡ b
  open-same u w a b p q = some-same (sym p ∙ q)

  -- no attempt of a thread's next request was made
  new-apart : (sent : List Sent) (c : Client) (x : Tries) (t : ThreadNo) (now : Pending) (m k r : ℕ) (a : Asked) → Past sent c x → a.call.thread ≡ t → Contains sent (attempt_of m k r a)
      → IsOpen t (record { number = (thread_at c t).number + 1; pending = Some now }) a → ⊥
  new-apart sent c x t now m k r a past is h held = let below = ((past.0 t).0 m k r a is h).1 in
      let number : a.call.number ≡ (thread_at c t).number + 1 = ap (λ i. i.number) (open-call t ((thread_at c t).number + 1) (Some now) a held) in omega (arith, below, number)

  -- the thread's next request begins, with nothing tried of it
  past-begins : (sent : List Sent) (c : Client) (x : Tries) (t : ThreadNo) (now : Pending) → Past sent c x
      → Past sent (with_thread c t (record { number = (thread_at c t).number + 1; pending = Some now })) (fresh t x)
  past-begins sent c x t now past = past-both sent c x t (record { number = (thread_at c t).number + 1; pending = Some now }) (record { attempt = (tried_at x t).attempt; last = None; paused = None })
      (λ m k r a is h. let old = (past.0 t).0 m k r a is h in (old.0, omega (arith, old.1), λ held again. absurd (new-apart sent c x t now m k r a past is h held)), λ a m r at held last. absurd (none-some last)) past

  -- ---- what is sent

  old-sent : (sent : List Sent) (m m2 k r : ℕ) (a : Asked) → Contains (sent ++ says_to m says.Hello) (attempt_of m2 k r a) → Contains sent (attempt_of m2 k r a)
  old-sent sent m m2 k r a h = by (Contains-append_cases sent (says_to m says.Hello) (attempt_of m2 k r a) h) where
    by : Contains sent (attempt_of m2 k r a) ⊎ Contains (says_to m says.Hello) (attempt_of m2 k r a) → Contains sent (attempt_of m2 k r a)
    by (inl old) = old
    by (inr new) = absurd (no-attempt m m2 k r a new)

  more-went : (sent more : List Sent) (u : ThreadNo) (w : Thread) (row : Tried) → Went sent u w row → Went (sent ++ more) u w row
  more-went sent more u w row went a m r at held last = let old = went a m r at held last in (old.0, Contains-append_left sent more (attempt_of m old.0 r a) old.1)

  pub past-hello : (sent : List Sent) (m : ℕ) (c : Client) (x : Tries) → Past sent c x → Past (sent ++ says_to m says.Hello) c x
  past-hello sent m c x past = (
    λ u. (λ n k r a is h. (past.0 u).0 n k r a is (old-sent sent m n k r a h), more-went sent (says_to m says.Hello) u (thread_at c u) (tried_at x u) (past.0 u).1),
    λ n n2 k k2 r r2 a again p q. past.1 n n2 k k2 r r2 a again (old-sent sent m n k r a p) (old-sent sent m n2 k2 r2 a q),
  )

  -- an attempt is one of before, or the new one
  sent-cases : (sent : List Sent) (m k r n k2 r2 : ℕ) (a b : Asked) → Contains (sent ++ says_to m (says.Asks k r a)) (attempt_of n k2 r2 b) → Contains sent (attempt_of n k2 r2 b) ⊎ ((k ≡ k2) × (r ≡ r2) × (a ≡ b))
  sent-cases sent m k r n k2 r2 a b h = by (Contains-push_cases sent (attempt_of m k r a) (attempt_of n k2 r2 b) h) where
    by : Contains sent (attempt_of n k2 r2 b) ⊎ (attempt_of m k r a ≡ attempt_of n k2 r2 b) → Contains sent (attempt_of n k2 r2 b) ⊎ ((k ≡ k2) × (r ≡ r2) × (a ≡ b))
    by (inl old) = inl old
    by (inr new) = inr (says-same k k2 r r2 a b (ap (λ s. s.says) new))

  past-attempt : (sent : List Sent) (c : Client) (x : Tries) (a : Asked) (m r clock : ℕ) → open_at me a.call.thread c ≡ Some a → Past sent c x → Freed sent a.call.thread (thread_at c a.call.thread)
      → Past (sent ++ says_to m (says.Asks ((tried_at x a.call.thread).attempt + 1) r a)) c
      (with_tried x a.call.thread (record { attempt = (tried_at x a.call.thread).attempt + 1; last = Some (how.Attempt m r clock); paused = None }))
  past-attempt sent c x a m r clock held past freed = (
    tried-cases (λ u v. HoldsAt (sent ++ says_to m (says.Asks ((tried_at x a.call.thread).attempt + 1) r a)) u (thread_at c u) v) x a.call.thread
        (record { attempt = (tried_at x a.call.thread).attempt + 1; last = Some (how.Attempt m r clock); paused = None }) (mine, went) others,
    apart,
  ) where
    mine : (n k r2 : ℕ) (b : Asked) → b.call.thread ≡ a.call.thread → Contains (sent ++ says_to m (says.Asks ((tried_at x a.call.thread).attempt + 1) r a)) (attempt_of n k r2 b)
        → IsPast a.call.thread (thread_at c a.call.thread) (record { attempt = (tried_at x a.call.thread).attempt + 1; last = Some (how.Attempt m r clock); paused = None }) k b
    mine n k r2 b is h = by (sent-cases sent m ((tried_at x a.call.thread).attempt + 1) r n k r2 a b h) where
      by : Contains sent (attempt_of n k r2 b) ⊎ (((tried_at x a.call.thread).attempt + 1 ≡ k) × (r ≡ r2) × (a ≡ b))
          → IsPast a.call.thread (thread_at c a.call.thread) (record { attempt = (tried_at x a.call.thread).attempt + 1; last = Some (how.Attempt m r clock); paused = None }) k b
      by (inl old) = let was = (past.0 a.call.thread).0 n k r2 b is old in (omega (arith, was.0), was.1, λ opened again. inl (freed n k r2 b is old opened again))
      by (inr is-new) = let number : a.call.number ≡ (thread_at c a.call.thread).number = ap (λ i. i.number) (open-call a.call.thread (thread_at c a.call.thread).number (thread_at c a.call.thread).pending a held) in
          let same : a.call.number ≡ b.call.number = ap (λ y. y.call.number) is-new.2 in
          let attempt = is-new.0 in (omega (arith, attempt), omega (arith, number, same), λ opened again. inr (is-new.0, refl, (m, r, clock, refl)))

    went : Went (sent ++ says_to m (says.Asks ((tried_at x a.call.thread).attempt + 1) r a)) a.call.thread (thread_at c a.call.thread) (record { attempt = (tried_at x a.call.thread).attempt + 1; last = Some (how.Attempt m r clock); paused = None })
    went b m2 r2 at opened last = (
      (tried_at x a.call.thread).attempt + 1,
      subst (λ y. Contains (sent ++ says_to m (says.Asks ((tried_at x a.call.thread).attempt + 1) r a)) y)
          (same-attempt (open-same a.call.thread (thread_at c a.call.thread) a b held opened) (some-same last)) (Contains-push sent (attempt_of m ((tried_at x a.call.thread).attempt + 1) r a)),
    ) where
      same-attempt : a ≡ b → how.Attempt m r clock ≡ how.Attempt m2 r2 at → attempt_of m ((tried_at x a.call.thread).attempt + 1) r a ≡ attempt_of m2 ((tried_at x a.call.thread).attempt + 1) r2 b
      same-attempt p q = cc

    others : (u : ThreadNo) → (a.call.thread ≡ u → ⊥) → HoldsAt (sent ++ says_to m (says.Asks ((tried_at x a.call.thread).attempt + 1) r a)) u (thread_at c u) (tried_at x u)
    others u far = (λ n k r2 b is h. by n k r2 b is (sent-cases sent m ((tried_at x a.call.thread).attempt + 1) r n k r2 a b h), more-went sent (says_to m (says.Asks ((tried_at x a.call.thread).attempt + 1) r a)) u (thread_at c u) (tried_at x u) (past.0 u).1) where
      by : (n k r2 : ℕ) (b : Asked) → b.call.thread ≡ u → Contains sent (attempt_of n k r2 b) ⊎ (((tried_at x a.call.thread).attempt + 1 ≡ k) × (r ≡ r2) × (a ≡ b)) → IsPast u (thread_at c u) (tried_at x u) k b
      by n k r2 b is (inl old) = (past.0 u).0 n k r2 b is old
      by n k r2 b is (inr is-new) = absurd (far (ap (λ y. y.call.thread) is-new.2 ∙ is))

    apart : Apart (sent ++ says_to m (says.Asks ((tried_at x a.call.thread).attempt + 1) r a))
    apart n n2 k k2 r1 r2 b again p q less = by (sent-cases sent m ((tried_at x a.call.thread).attempt + 1) r n k r1 a b p) (sent-cases sent m ((tried_at x a.call.thread).attempt + 1) r n2 k2 r2 a b q) where
      by : Contains sent (attempt_of n k r1 b) ⊎ (((tried_at x a.call.thread).attempt + 1 ≡ k) × (r ≡ r1) × (a ≡ b))
          → Contains sent (attempt_of n2 k2 r2 b) ⊎ (((tried_at x a.call.thread).attempt + 1 ≡ k2) × (r ≡ r2) × (a ≡ b)) → WasRefused events k b
      by (inl old) (inl older) = past.1 n n2 k k2 r1 r2 b again old older less
      by (inl old) (inr is-new) = freed n k r1 b (ap (λ y. y.call.thread) (sym is-new.2)) old (subst (λ y. IsOpen a.call.thread (thread_at c a.call.thread) y) is-new.2 held) again
      by (inr is-new) (inl old) = let below = ((past.0 a.call.thread).0 n2 k2 r2 b (ap (λ y. y.call.thread) (sym is-new.2)) old).0 in let at = is-new.0 in absurd (omega (arith, below, at, less))
      by (inr is-new) (inr newer) = let at = is-new.0 in let too = newer.0 in absurd (omega (arith, at, too, less))

  -- a try of an open request of which each attempt was refused, where it may not be sent again
  pub past-try : (sent : List Sent) (clock : ℕ) (c : Client) (x : Tries) (a : Asked) → open_at me a.call.thread c ≡ Some a → Past sent c x → Freed sent a.call.thread (thread_at c a.call.thread)
      → Past (sent ++ (try_request clock a x).sent) c (try_request clock a x).tries
  past-try sent clock c x a held past freed = try-cases clock a x (λ y. Past (sent ++ y.sent) c y.tries) (subst (λ all. Past all c x) (sym (append-nil sent)) past)
      (λ m. past-hello sent m c (with_tried x a.call.thread (record { attempt = (tried_at x a.call.thread).attempt; last = Some (how.Hello m clock); paused = None }))
      (past-tried sent c x a.call.thread (record { attempt = (tried_at x a.call.thread).attempt; last = Some (how.Hello m clock); paused = None })
      (λ n k r b is h. let was = (past.0 a.call.thread).0 n k r b is h in (was.0, was.1, λ opened again. inl (freed n k r b is h opened again)), λ b n r at opened last. absurd (hello-attempt m clock n r at (some-same last))) past))
      (λ m r. past-attempt sent c x a m r clock held past freed) where
        hello-attempt : (m clock n r at : ℕ) → how.Hello m clock ≡ how.Attempt n r at → ⊥
        hello-attempt m clock n r at e = cc

  -- a request that begins
  pub past-first : (sent : List Sent) (clock : ℕ) (c : Client) (x : Tries) (t : ThreadNo) (now : Pending) → Past sent c x
      → let d = with_thread c t (record { number = (thread_at c t).number + 1; pending = Some now }) in
      let a : Asked = record { group = now.group; call = record { client = me; thread = t; number = (thread_at c t).number + 1 }; op = now.op } in
      Past (sent ++ (begin_request clock a x).sent) d (begin_request clock a x).tries
  past-first sent clock c x t now past = past-try sent clock (with_thread c t (record { number = (thread_at c t).number + 1; pending = Some now })) (fresh t x)
      (record { group = now.group; call = record { client = me; thread = t; number = (thread_at c t).number + 1 }; op = now.op })
      (thread-cases (λ u w. t ≡ u → as_asked me u w.number w.pending ≡ Some (record { group = now.group; call = record { client = me; thread = u; number = (thread_at c t).number + 1 }; op = now.op })) c t
      (record { number = (thread_at c t).number + 1; pending = Some now }) (λ same. refl) (λ u apart same. absurd (apart same)) t refl)
      (past-begins sent c x t now past)
      (λ m k r a is h opened again. absurd (new-apart sent c x t now m k r a past is h
      (thread-cases (λ u w. t ≡ u → as_asked me u w.number w.pending ≡ Some a → IsOpen t (record { number = (thread_at c t).number + 1; pending = Some now }) a) c t
      (record { number = (thread_at c t).number + 1; pending = Some now }) (λ same held. held) (λ u apart same. absurd (apart same)) t refl opened)))

  -- a request that is tried again: each attempt was refused, where it may not be sent again
  pub freed-by : (e : Event) → Contains events e → (sent : List Sent) (c : Client) (x : Tries) (a : Asked) → open_at me a.call.thread c ≡ Some a → Past sent c x → IsReady e x a → Freed sent a.call.thread (thread_at c a.call.thread)
  freed-by e among sent c x a held past ready m k r b is h opened again = by ready (((past.0 a.call.thread).0 m k r b is h).2 opened again) where
    same : a ≡ b
    same = open-same a.call.thread (thread_at c a.call.thread) a b held opened

    waiting : (o : Option Try) (m at : ℕ) (p q s : ℕ) → o ≡ Some (how.Hello m at) → o ≡ Some (how.Attempt p q s) → ⊥
    waiting o m at p q s y z = cc

    pausing : (o : Option ℕ) (n : ℕ) → o ≡ Some n → o ≡ None → ⊥
    pausing o n y z = cc

    again-not : may_again a.op ≡ true → ⊥
    again-not so = by-both (may_again b.op) (subst (λ y. may_again y.op ≡ true) same so) again where
      by-both : (v : Bool) → v ≡ true → v ≡ false → ⊥
      by-both v y z = cc

    by : IsReady e x a → WasRefused events k b ⊎ Stands (tried_at x a.call.thread) k → WasRefused events k b
    by why (inl refused) = refused
    by (inl waits) (inr stands) = absurd (waiting (tried_at x a.call.thread).last waits.0 waits.1 stands.2.0 stands.2.1 stands.2.2 waits.2 stands.2.3)
    by (inr (inl so)) (inr stands) = absurd (again-not so)
    by (inr (inr (inl pauses))) (inr stands) = absurd (pausing (tried_at x a.call.thread).paused pauses.0 pauses.1 stands.1)
    by (inr (inr (inr bounced))) (inr stands) = (
      bounced.0,
      bounced.1,
      subst (λ y. Contains events y)
          (bounced.2 ∙ ap (λ n. event.Refused a.call.thread n a.group a.call.number bounced.0) stands.0 ∙ ap (λ y. event.Refused y.call.thread k y.group y.call.number bounced.0) same) among,
    )

  -- ---- a pause, a knock, what answers tell of groups

  pub past-pause : (e : Event) → Contains events e → (sent : List Sent) (c : Client) (x : Tries) (a : Asked) → open_at me a.call.thread c ≡ Some a → Bounces e x a → Past sent c x → Past sent c (pause c.clock a.call.thread x)
  past-pause e among sent c x a held bounced past = past-tried sent c x a.call.thread (record (tried_at x a.call.thread) { paused = Some c.clock }) (
    λ m k r b is h. let was = (past.0 a.call.thread).0 m k r b is h in
        (was.0, was.1, λ opened again. inl (freed-by e among sent c x a held past (inr (inr (inr bounced))) m k r b is h opened again)),
    (past.0 a.call.thread).1,
  ) past

  -- a request that was sent to the member stays so
  pub past-knock : (sent : List Sent) (c : Client) (x : Tries) (a : Asked) (m r : ℕ) → open_at me a.call.thread c ≡ Some a → WentTo x a m r → Past sent c x → Past sent c (knock c.clock a m r x).tries
  past-knock sent c x a m r held went past = past-tried sent c x a.call.thread (record (tried_at x a.call.thread) { last = Some (how.Attempt m r c.clock) })
      (λ n k r2 b is h. let was = (past.0 a.call.thread).0 n k r2 b is h in (was.0, was.1, λ opened again. keeps k b (was.2 opened again)), λ b n r2 at opened last. goes b n r2 at opened (some-same last)) past where
        keeps : (k : ℕ) (b : Asked) → WasRefused events k b ⊎ Stands (tried_at x a.call.thread) k → WasRefused events k b ⊎ Stands (record (tried_at x a.call.thread) { last = Some (how.Attempt m r c.clock) }) k
        keeps k b (inl refused) = inl refused
        keeps k b (inr stands) = inr (stands.0, stands.1, (m, r, c.clock, refl))

        goes : (b : Asked) (n r2 at : ℕ) → IsOpen a.call.thread (thread_at c a.call.thread) b → how.Attempt m r c.clock ≡ how.Attempt n r2 at → (k : ℕ) × Contains sent (attempt_of n k r2 b)
        goes b n r2 at opened same = let one : (m ≡ n) × (r ≡ r2) = (cc, cc) in
            (past.0 a.call.thread).1 b n r2 went.0 opened (went.1 ∙ ap (λ y. Some (how.Attempt y r went.0)) one.0 ∙ ap (λ y. Some (how.Attempt n y went.0)) one.1)

  past-rows : (sent : List Sent) (c : Client) (x y : Tries) → x.threads ≡ y.threads → Past sent c x → Past sent c y
  past-rows sent c x y same past = subst (λ rows. Past sent c (record y { threads = rows })) same past

  pub past-told : (sent : List Sent) (c : Client) (x : Tries) (ended : List (Invocation × Answer)) → Past sent c x → Past sent c (told_each ended x)
  past-told sent c x ended past = past-rows sent c x (told_each ended x) (sym (told-rows ended x)) past

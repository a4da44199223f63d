-- What never comes undone: closed sessions, numbers in the memory, destroyed names and count downs that are over.
use Rattle.std.proofs.Common.{◌≡◌, ℕ, ◌<◌, ◌≤◌, ◌⊎◌, inl, inr, Bool, true, false, not, List, [], ◌∷◌, Some, None, Option, refl, sym, ◌∙◌, subst, arith, le_refl, le_trans}
use Rattle.std.specs.Prelude.{◌==◌, is_some}
use Rattle.std.specs.List.{filter}
use Rattle.std.specs.Ordering.{nat_cmp}
use Rattle.std.specs.BTreeMap.{is_at}
use Rattle.cp_op_values.specs.declared.kind.Kind.{Kind}
use Rattle.cp_op_values.specs.declared.kind.Kind.TheVariants as kind
use Rattle.cp_base.specs.declared.identifier.Invocation.{Invocation}
use Rattle.cp_answers.specs.declared.answer.Answer.{Answer}
use Rattle.cp_base.specs.declared.identifier.ClientId.{ClientId}
use Rattle.cp_base.specs.declared.identifier.ThreadNo.{ThreadNo}
use Rattle.cp_base.proofs.Tests.{same_some, no_true}
use Rattle.cp_group_state.specs.Rows.{find, put, without, name_cmp, object_cmp, holder_cmp}
use Rattle.cp_group_state.specs.Waiters.{Ended}
use Rattle.cp_group_state.specs.Memory.{MemoryRow, has_memory, remember, note, note_at, note_all}
use Rattle.cp_group_state.specs.Sessions.{SessionRow, is_of, is_open_for, beaten, is_among}
use Rattle.cp_group_state.specs.Latches.{LatchRow, latch_at, is_over}
use Rattle.cp_group_state.specs.Closing.{end_sessions, forget}
use Rattle.cp_group_state.specs.GroupState.{GroupState}
use Rattle.cp_group_state.specs.Changes.{finish}
use Rattle.cp_group_state.specs.Destroying.{add_gone, drop_rows, is_gone}
use Rattle.cp_group_state.proofs.Keyed.{equal_is, is_at_apart, find-put_same, find-put_other, find-filter_kept, find-filter_gone, find-without_other, number_key, name_key, object_key, holder_key}
use Rattle.cp_group_state.proofs.Walk.{either, Closed}

-- the row of a thread has at least this number
abbrev pub Reaches : List ((ℕ × ℕ) × MemoryRow) → ℕ × ℕ → ℕ → Type 0
Reaches rows key n = (row : MemoryRow) × (find holder_cmp rows key ≡ Some row) × (n ≤ row.number)

pub remember-reaches : (rows : List ((ℕ × ℕ) × MemoryRow)) (session : ℕ) (thread : ThreadNo) (number : ℕ) (a : Option Answer) (q : ℕ × ℕ) (n : ℕ) → ((row : MemoryRow) → find holder_cmp rows (session, thread.0) ≡ Some row → row.number ≤ number) → Reaches rows q n → Reaches (remember rows session thread number a) q n
remember-reaches rows session thread number a q n most r = by (is_at (holder_cmp q) (session, thread.0)) refl where
  by : (b : Bool) → is_at (holder_cmp q) (session, thread.0) ≡ b → Reaches (remember rows session thread number a) q n
  by true e = let same : q ≡ (session, thread.0) = holder_key.same q (session, thread.0) (equal_is _ e) in (
    record { number = number; answer = a },
    subst (λ y. find holder_cmp (remember rows session thread number a) y ≡ Some (record { number = number; answer = a })) (sym same) (find-put_same holder_cmp holder_key rows (session, thread.0) (record { number = number; answer = a })),
    le_trans r.2 (most r.0 (subst (λ y. find holder_cmp rows y ≡ Some r.0) same r.1)),
  )
  by false e = (r.0, find-put_other holder_cmp holder_key rows (session, thread.0) q (record { number = number; answer = a }) e ∙ r.1, r.2)

note_at-reaches : (rows : List ((ℕ × ℕ) × MemoryRow)) (e : Ended) (o : Option MemoryRow) → find holder_cmp rows (e.waiter.session, e.waiter.call.thread.0) ≡ o → (q : ℕ × ℕ) (n : ℕ) → Reaches rows q n → Reaches (note_at rows e o) q n
note_at-reaches rows e None is q n r = r
note_at-reaches rows e (Some row) is q n r = either (λ (m : List ((ℕ × ℕ) × MemoryRow)). Reaches m q n) (row.number == e.waiter.call.number) _ _
    (remember-reaches rows e.waiter.session e.waiter.call.thread row.number (Some e.answer) q n (λ other there. let same : other ≡ row = same_some (sym there ∙ is) in rw same (le_refl row.number)) r) r

pub note_all-reaches : (rows : List ((ℕ × ℕ) × MemoryRow)) (es : List Ended) (q : ℕ × ℕ) (n : ℕ) → Reaches rows q n → Reaches (note_all rows es) q n
note_all-reaches rows [] q n r = r
note_all-reaches rows (e ∷ es) q n r = note_all-reaches (note rows e) es q n
    (either (λ (m : List ((ℕ × ℕ) × MemoryRow)). Reaches m q n) (has_memory e.waiter.kind) _ _ (note_at-reaches rows e _ refl q n r) r)

-- a count down whose round is over, or that was counted
abbrev pub Over : List (List ℕ × LatchRow) → List ℕ → Invocation → ℕ → Type 0
Over rows name call round = (round ≤ (latch_at rows name).round) × (is_over call round (latch_at rows name) ≡ true)

pub record Grows (i : ℕ) (s t : GroupState) : Type 0 where
  pub destroyed_group : (s.destroyed_group.0 == 0) ≡ false → t.destroyed_group ≡ s.destroyed_group
  pub gone : (key : List ℕ × Kind) → is_gone s key ≡ true → is_gone t key ≡ true
  pub latch : (name : List ℕ) (call : Invocation) (round : ℕ) → Over s.latches name call round → (is_gone t (name, kind.Latch) ≡ true) ⊎ Over t.latches name call round
  pub opened : (session : ℕ) (client : ClientId) → session < i → is_open_for t.sessions session client ≡ true → is_open_for s.sessions session client ≡ true
  pub memory : (session : ℕ) (client : ClientId) (thread n : ℕ) → session < i → is_open_for t.sessions session client ≡ true → Reaches s.memory (session, thread) n → Reaches t.memory (session, thread) n

pub grows_same : (i : ℕ) (s : GroupState) → Grows i s s
grows_same i s = record { destroyed_group = λ h. refl; gone = λ key h. h; latch = λ name call round h. inr h; opened = λ session client l h. h; memory = λ session client thread n l o h. h }

pub grows_on : (i : ℕ) (s t u : GroupState) → Grows i s t → Grows i t u → Grows i s u
grows_on i s t u f g = record {
  destroyed_group = λ h. let e = f.destroyed_group h in g.destroyed_group (rw e h) ∙ e;
  gone = λ key h. g.gone key (f.gone key h);
  latch = λ name call round h. on name call round (f.latch name call round h);
  opened = λ session client l h. f.opened session client l (g.opened session client l h);
  memory = λ session client thread n l o h. g.memory session client thread n l o (f.memory session client thread n l (g.opened session client l o) h);
}
  where
    on : (name : List ℕ) (call : Invocation) (round : ℕ) → (is_gone t (name, kind.Latch) ≡ true) ⊎ Over t.latches name call round → (is_gone u (name, kind.Latch) ≡ true) ⊎ Over u.latches name call round
    on name call round (inl h) = inl (g.gone (name, kind.Latch) h)
    on name call round (inr h) = g.latch name call round h

pub is_of-same : (client : ClientId) (a b : Option SessionRow) → a ≡ b → is_of client a ≡ true → is_of client b ≡ true
is_of-same client a b e h = rw (← e) h

pub opens-opened : (rows : List (ℕ × SessionRow)) (i : ℕ) (row : SessionRow) (session : ℕ) (client : ClientId) → session < i → is_open_for (put nat_cmp rows i row) session client ≡ true → is_open_for rows session client ≡ true
opens-opened rows i row session client l h = is_of-same client _ _ (find-put_other nat_cmp number_key rows i session row (is_at_apart nat_cmp number_key session i (λ e. absurd (omega (arith, e))))) h

pub beats-opened : (rows : List (ℕ × SessionRow)) (number : ℕ) (row : SessionRow) → find nat_cmp rows number ≡ Some row → (session : ℕ) (client : ClientId) → is_open_for (put nat_cmp rows number (beaten row)) session client ≡ true → is_open_for rows session client ≡ true
beats-opened rows number row is session client h = by (is_at (nat_cmp session) number) refl where
  by : (b : Bool) → is_at (nat_cmp session) number ≡ b → is_open_for rows session client ≡ true
  by true e = let same : session ≡ number = number_key.same session number (equal_is _ e) in
      let there : find nat_cmp (put nat_cmp rows number (beaten row)) session ≡ Some (beaten row) = rw same (find-put_same nat_cmp number_key rows number (beaten row)) in
      let here : find nat_cmp rows session ≡ Some row = rw same is in
      let own : is_of client (Some (beaten row)) ≡ true = is_of-same client _ _ there h in
      is_of-same client (Some row) (find nat_cmp rows session) (sym here) own
  by false e = is_of-same client _ _ (find-put_other nat_cmp number_key rows number session (beaten row) e) h

pub forget-opened : (rows : List (ℕ × SessionRow)) (sessions : List ℕ) (session : ℕ) (client : ClientId) → is_open_for (filter (λ e. not (is_among sessions e.0)) rows) session client ≡ true → (is_among sessions session ≡ false) × (is_open_for rows session client ≡ true)
forget-opened rows sessions session client h = by (is_among sessions session) refl where
  by : (b : Bool) → is_among sessions session ≡ b → (is_among sessions session ≡ false) × (is_open_for rows session client ≡ true)
  by true e = absurd (no_true (sym (is_of-same client _ None (find-filter_gone nat_cmp number_key (λ s. not (is_among sessions s)) rows session (rw e)) h)))
  by false e = (e, is_of-same client _ _ (find-filter_kept nat_cmp number_key (λ s. not (is_among sessions s)) rows session (rw e)) h)

-- names that are destroyed stay so
pub gone-put : (rows : List ((List ℕ × Kind) × Unit {0})) (key q : List ℕ × Kind) → is_some (find object_cmp rows q) ≡ true → is_some (find object_cmp (put object_cmp rows key tt) q) ≡ true
gone-put rows key q h = by (is_at (object_cmp q) key) refl where
  by : (b : Bool) → is_at (object_cmp q) key ≡ b → is_some (find object_cmp (put object_cmp rows key tt) q) ≡ true
  by true e = let same : q ≡ key = object_key.same q key (equal_is _ e) in rw (same, find-put_same object_cmp object_key rows key tt)
  by false e = rw (find-put_other object_cmp object_key rows key q tt e) h

pub gone-put_same : (rows : List ((List ℕ × Kind) × Unit {0})) (key : List ℕ × Kind) → is_some (find object_cmp (put object_cmp rows key tt) key) ≡ true
gone-put_same rows key = rw (find-put_same object_cmp object_key rows key tt)

or_new-same : (rows next : List (List ℕ × LatchRow)) (name : List ℕ) (call : Invocation) (round : ℕ) → find name_cmp next name ≡ find name_cmp rows name → Over rows name call round → Over next name call round
or_new-same rows next name call round e over = rw e over

without-latch : (rows : List (List ℕ × LatchRow)) (gone : List ((List ℕ × Kind) × Unit {0})) (name q : List ℕ) (call : Invocation) (round : ℕ) → Over rows q call round
    → (is_some (find object_cmp (put object_cmp gone (name, kind.Latch) tt) (q, kind.Latch)) ≡ true) ⊎ Over (without name_cmp rows name) q call round
without-latch rows gone name q call round over = by (is_at (name_cmp q) name) refl where
  by : (b : Bool) → is_at (name_cmp q) name ≡ b → (is_some (find object_cmp (put object_cmp gone (name, kind.Latch) tt) (q, kind.Latch)) ≡ true) ⊎ Over (without name_cmp rows name) q call round
  by true e = let same : q ≡ name = name_key.same q name (equal_is _ e) in inl (rw same (gone-put_same gone (name, kind.Latch)))
  by false e = inr (or_new-same rows (without name_cmp rows name) q call round (find-without_other name_cmp name_key rows name q e) over)

grows-drop : (i : ℕ) (name : List ℕ) (which : Kind) (s : GroupState) → Grows i s (add_gone (name, which) (drop_rows name which s))
grows-drop i name kind.Long s = record { destroyed_group = λ h. refl; gone = λ key h. gone-put s.gone (name, kind.Long) key h; latch = λ n call round h. inr h; opened = λ session client l h. h; memory = λ session client thread n l o h. h }
grows-drop i name kind.Ref s = record { destroyed_group = λ h. refl; gone = λ key h. gone-put s.gone (name, kind.Ref) key h; latch = λ n call round h. inr h; opened = λ session client l h. h; memory = λ session client thread n l o h. h }
grows-drop i name kind.Map s = record { destroyed_group = λ h. refl; gone = λ key h. gone-put s.gone (name, kind.Map) key h; latch = λ n call round h. inr h; opened = λ session client l h. h; memory = λ session client thread n l o h. h }
grows-drop i name kind.Lock s = record { destroyed_group = λ h. refl; gone = λ key h. gone-put s.gone (name, kind.Lock) key h; latch = λ n call round h. inr h; opened = λ session client l h. h; memory = λ session client thread n l o h. h }
grows-drop i name kind.Sem s = record { destroyed_group = λ h. refl; gone = λ key h. gone-put s.gone (name, kind.Sem) key h; latch = λ n call round h. inr h; opened = λ session client l h. h; memory = λ session client thread n l o h. h }
grows-drop i name kind.Jsem s = record { destroyed_group = λ h. refl; gone = λ key h. gone-put s.gone (name, kind.Jsem) key h; latch = λ n call round h. inr h; opened = λ session client l h. h; memory = λ session client thread n l o h. h }
grows-drop i name kind.Latch s = record { destroyed_group = λ h. refl; gone = λ key h. gone-put s.gone (name, kind.Latch) key h; latch = λ n call round h. without-latch s.latches s.gone name n call round h; opened = λ session client l h. h; memory = λ session client thread n l o h. h }

grows-finish : (i : ℕ) (s : GroupState) (ended : List Ended) → Grows i s (finish ended s).state
grows-finish i s ended = record {
  destroyed_group = λ h. refl;
  gone = λ key h. h;
  latch = λ name call round h. inr h;
  opened = λ session client l h. h;
  memory = λ session client thread n l o h. note_all-reaches s.memory ended (session, thread) n h;
}

grows-forget : (i : ℕ) (s : GroupState) (sessions : List ℕ) → Grows i s (forget sessions s)
grows-forget i s sessions = record {
  destroyed_group = λ h. refl;
  gone = λ key h. h;
  latch = λ name call round h. inr h;
  opened = λ session client l h. (forget-opened s.sessions sessions session client h).1;
  memory = λ session client thread n l o h. let out = (forget-opened s.sessions sessions session client o).0 in
      (h.0, find-filter_kept holder_cmp holder_key (λ key. not (is_among sessions key.0)) s.memory (session, thread) (rw out) ∙ h.1, h.2);
}

grows-open : (i : ℕ) (s : GroupState) (row : SessionRow) → Grows i s (record s { sessions = put nat_cmp s.sessions i row })
grows-open i s row = record {
  destroyed_group = λ h. refl;
  gone = λ key h. h;
  latch = λ name call round h. inr h;
  opened = λ session client l h. opens-opened s.sessions i row session client l h;
  memory = λ session client thread n l o h. h;
}

grows-beat : (i : ℕ) (s : GroupState) (number : ℕ) (row : SessionRow) → find nat_cmp s.sessions number ≡ Some row → Grows i s (record s { sessions = put nat_cmp s.sessions number (beaten row) })
grows-beat i s number row is = record {
  destroyed_group = λ h. refl;
  gone = λ key h. h;
  latch = λ name call round h. inr h;
  opened = λ session client l h. beats-opened s.sessions number row is session client h;
  memory = λ session client thread n l o h. h;
}

pub grows-same_parts : (i : ℕ) (s t : GroupState) → t.destroyed_group ≡ s.destroyed_group → t.gone ≡ s.gone → t.latches ≡ s.latches → t.sessions ≡ s.sessions → t.memory ≡ s.memory → Grows i s t
grows-same_parts i s t d g l o m = record {
  destroyed_group = λ h. d;
  gone = λ key h. rw g h;
  latch = λ name call round h. inr (rw l h);
  opened = λ session client x h. rw o at h;
  memory = λ session client thread n x y h. rw m h;
}

pub grows_closed : (i : ℕ) → Closed i (λ s c. Grows i s c.state)
grows_closed i = record {
  stays = λ s. grows_same i s;
  joins = λ s c d f g. grows_on i s c.state d.state f g;
  ends = λ s ended all. grows-finish i s ended;
  handed = λ s c name w g. grows_on i s _ c.state (grows-same_parts i s _ refl refl refl refl refl) g;
  freed = λ s c sessions g. grows_on i s _ c.state (grows-same_parts i s _ refl refl refl refl refl) g;
  serves = λ s c key row is g. grows_on i s _ c.state (grows-same_parts i s _ refl refl refl refl refl) g;
  permits = λ s c key o g. grows_on i s _ c.state (grows-same_parts i s _ refl refl refl refl refl) g;
  backs = λ s c sessions g. grows_on i s _ c.state (grows-same_parts i s _ refl refl refl refl refl) g;
  closes = λ s sessions. grows_on i s (forget sessions s) _ (grows-forget i s sessions) (grows-finish i (forget sessions s) (end_sessions sessions s).ended);
  acquires = λ s c name who limit g. grows_on i s _ c.state (grows-same_parts i s _ refl refl refl refl refl) g;
  releases = λ s c name who g. grows_on i s _ c.state (grows-same_parts i s _ refl refl refl refl refl) g;
  longs = λ s c name o g. grows_on i s _ c.state (grows-same_parts i s _ refl refl refl refl refl) g;
  refs = λ s c name o g. grows_on i s _ c.state (grows-same_parts i s _ refl refl refl refl refl) g;
  maps = λ s c name o g. grows_on i s _ c.state (grows-same_parts i s _ refl refl refl refl refl) g;
  opens = λ s c client fresh g. grows_on i s _ c.state (grows-open i s (record { client = client; version = 0 })) g;
  beats = λ s c number row is g. grows_on i s _ c.state (grows-beat i s number row is) g;
  drops = λ s c name which g. grows_on i s _ c.state (grows-drop i name which s) g;
}

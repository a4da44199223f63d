-- Rows of sessions that are closed.
use Rattle.std.proofs.Common.{◌≡◌, ℕ, Bool, true, false, not, ◌||◌, List, [], ◌∷◌, Option, Some, None, refl, sym, ap, ◌∙◌, cond, arith}
use Rattle.std.specs.Prelude.{◌==◌}
use Rattle.std.specs.List.{filter}
use Rattle.std.specs.BTreeMap.{is_at}
use Rattle.std.specs.Ordering.{is_gt, nat_cmp}
use Rattle.std.specs.Cmp.{tied_itself}
use Rattle.std.proofs.lemmas.Cmp.{nat_cmp_total}
use Rattle.std.proofs.lemmas.Bool.Decides.{nat_tests}
use Rattle.cp_base.proofs.Tests.{same_number, number_itself}
use Rattle.cp_group_state.specs.declared.rows.MemoryRow.{MemoryRow}
use Rattle.cp_group_state.specs.Rows.{find, without, holder_cmp}
use Rattle.cp_group_state.specs.Sessions.{is_among}
use Rattle.cp_remembered.specs.Forgetting.{Memories, of_others, forgotten, IsFrom, IsNoneFrom, IsFirstFrom}
use Rattle.cp_group_state.proofs.Keyed.{holder_key, equal_is}

some_none : (row : MemoryRow) → Some row ≡ None → ⊥
some_none row e = cc

-- where the session has no row, all rows are of others
pub none_of : (rows : Memories) (session : ℕ) → ((t : ℕ) → find holder_cmp rows (session, t) ≡ None) → of_others session rows ≡ rows
none_of [] session none = refl
none_of (e ∷ es) session none = by (none_of es session behind) (session == e.0.0) refl where
  behind : (t : ℕ) → find holder_cmp es (session, t) ≡ None
  behind t = at (is_at (holder_cmp (session, t)) e.0) (none t) where
    at : (b : Bool) → cond b (Some e.1) (find holder_cmp es (session, t)) ≡ None → find holder_cmp es (session, t) ≡ None
    at true h = absurd (some_none e.1 h)
    at false h = h

  here : session ≡ e.0.0 → find holder_cmp (e ∷ es) (session, e.0.1) ≡ Some e.1
  here same = rw same (rw (holder_key.here e.0) refl)

  by : of_others session es ≡ es → (b : Bool) → (session == e.0.0) ≡ b → of_others session (e ∷ es) ≡ e ∷ es
  by rest true h = absurd (some_none e.1 (sym (here (same_number session e.0.0 h)) ∙ none e.0.1))
  by rest false h = rw h (ap (λ (r : Memories). e ∷ r) rest)

-- a row of the session that is taken out is none of the others
pub one_less : (rows : Memories) (session thread : ℕ) → of_others session (without holder_cmp rows (session, thread)) ≡ of_others session rows
one_less [] session thread = refl
one_less (e ∷ es) session thread = by (one_less es session thread) (is_at (holder_cmp (session, thread)) e.0) refl where
  gone : is_at (holder_cmp (session, thread)) e.0 ≡ true → of_others session es ≡ of_others session (e ∷ es)
  gone h = let same : (session, thread) ≡ e.0 = holder_key.same (session, thread) e.0 (equal_is _ h) in
      let its : (session == e.0.0) ≡ true = ap (λ (k : ℕ × ℕ). session == k.0) (sym same) ∙ number_itself session in
      rw its refl

  by : of_others session (without holder_cmp es (session, thread)) ≡ of_others session es
      → (b : Bool) → is_at (holder_cmp (session, thread)) e.0 ≡ b → of_others session (cond b es (e ∷ without holder_cmp es (session, thread))) ≡ of_others session (e ∷ es)
  by rest true h = gone h
  by rest false h = ap (λ (r : Memories). cond (not (session == e.0.0)) (e ∷ r) r) rest

-- no session is closed
none_closed : (rows : Memories) → filter (λ e. not (is_among [] e.0.0)) rows ≡ rows
none_closed [] = refl
none_closed (e ∷ es) = ap (λ (r : Memories). e ∷ r) (none_closed es)

-- a session is closed, and then the others
one_closed : (rows : Memories) (session : ℕ) (sessions : List ℕ) → filter (λ e. not (is_among sessions e.0.0)) (of_others session rows) ≡ filter (λ e. not (is_among (session ∷ sessions) e.0.0)) rows
one_closed [] session sessions = refl
one_closed (e ∷ es) session sessions = by (one_closed es session sessions) (session == e.0.0) (is_among sessions e.0.0) refl where
  by : filter (λ x. not (is_among sessions x.0.0)) (of_others session es) ≡ filter (λ x. not (is_among (session ∷ sessions) x.0.0)) es
      → (b c : Bool) → is_among sessions e.0.0 ≡ c → filter (λ x. not (is_among sessions x.0.0)) (cond (not b) (e ∷ of_others session es) (of_others session es))
      ≡ cond (not (b || is_among sessions e.0.0)) (e ∷ filter (λ x. not (is_among (session ∷ sessions) x.0.0)) es) (filter (λ x. not (is_among (session ∷ sessions) x.0.0)) es)
  by rest true c h = rest
  by rest false true h = rw h rest
  by rest false false h = rw h (ap (λ (r : Memories). e ∷ r) rest)

-- the rows without those of one session after the other are those of sessions that aren't among them
pub forgotten_all : (sessions : List ℕ) (rows : Memories) → forgotten sessions rows ≡ filter (λ e. not (is_among sessions e.0.0)) rows
forgotten_all [] rows = sym (none_closed rows)
forgotten_all (session ∷ sessions) rows = forgotten_all sessions (of_others session rows) ∙ one_closed rows session sessions

not_above : (n : ℕ) → is_gt (nat_cmp 0 n) ≡ false
not_above n = grind (arith, nat_tests)

-- each thread of the session comes from its start on
starts : (session t : ℕ) → IsFrom (session, 0) (session, t)
starts session t = rw (tied_itself nat_cmp_total session) (not_above t)

pub none_from : (session t : ℕ) (rows : Memories) → IsNoneFrom (session, 0) rows → find holder_cmp rows (session, t) ≡ None
none_from session t rows none = none (session, t) (starts session t)

-- a key of another session that comes from the start on is behind each thread of the session
past : (session t : ℕ) (key : ℕ × ℕ) → (key.0 == session) ≡ false → IsFrom (session, 0) key → IsFrom key (session, t) → ⊥
past session t key apart from back = grind (arith, nat_tests)

pub none_past : (session t : ℕ) (key : ℕ × ℕ) (rows : Memories) → (key.0 == session) ≡ false → IsFirstFrom (session, 0) key rows → find holder_cmp rows (session, t) ≡ None
none_past session t key rows apart first = by (find holder_cmp rows (session, t)) refl where
  by : (o : Option MemoryRow) → find holder_cmp rows (session, t) ≡ o → o ≡ None
  by None h = refl
  by (Some row) h = absurd (past session t key apart first.behind (first.least (session, t) (starts session t) (rw h refl)))

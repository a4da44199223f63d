-- The numbers of sessions by client after a change.
use Rattle.std.proofs.Common.{◌≡◌, ℕ, true, List, [], Option, Some, None, refl, sym, ap, ◌∙◌, cond}
use Rattle.std.specs.declared.cmp.Ordering.{Ordering}
use Rattle.std.specs.declared.cmp.Ordering.TheVariants.{Less, Equal, Greater}
use Rattle.std.specs.Ordering.{nat_cmp, is_eq}
use Rattle.std.proofs.lemmas.Option.{none-some, same_Some}
use Rattle.cp_base.specs.declared.identifier.ClientId.{ClientId}
use Rattle.cp_base.proofs.Tests.{no_true}
use Rattle.cp_group_state.specs.declared.rows.SessionRow.{SessionRow}
use Rattle.cp_group_state.specs.Rows.{find, put}
use Rattle.cp_group_state.specs.Waiters.{same_client}
use Rattle.cp_group_state.specs.Sessions.{is_of, is_open_for}
use Rattle.cp_group_state.proofs.Keyed.{IsKey, name_key, number_key, same-client, client-itself, find-put_same, find-put_other, is_at_apart}
use Rattle.cp_session.specs.Index.{IsIndexed, Sets, client_cmp}

pub client_key : IsKey client_cmp
client_key = record { here = λ k. name_key.here k.0; same = λ k q e. let same = name_key.same k.0 q.0 e in λ j. record { 0 = same j } }

module _ {K X : Type 0} (cmp : K → K → Ordering) (key : IsKey cmp) (k : K) (row : Option X) (old new : List (K × X)) (sets : Sets cmp k row old new) where
  -- what stands under the key
  set_here : find cmp new k ≡ row
  set_here = sets k ∙ ap (λ (o : Ordering). cond (is_eq o) row (find cmp old k)) (key.here k)

  apart : (q : K) (o : Ordering) → cmp k q ≡ o → (Equal ≡ o → ⊥) → k ≡ q → ⊥
  apart q o h far same = far (sym (key.here k) ∙ ap (cmp k) same ∙ h)

  -- either the key is this one, or what stands there stays
  at_key : {P : Type 0} (q : K) → (k ≡ q → P) → ((k ≡ q → ⊥) → find cmp new q ≡ find cmp old q → P) → P
  at_key {P} q mine other = by (cmp k q) refl where
    no_less : Equal ≡ Less → ⊥
    no_less e = cc

    no_greater : Equal ≡ Greater → ⊥
    no_greater e = cc

    by : (o : Ordering) → cmp k q ≡ o → P
    by Less h = other (apart q Less h no_less) (sets q ∙ ap (λ (o : Ordering). cond (is_eq o) row (find cmp old q)) h)
    by Equal h = mine (key.same k q h)
    by Greater h = other (apart q Greater h no_greater) (sets q ∙ ap (λ (o : Ordering). cond (is_eq o) row (find cmp old q)) h)

-- a put sets the row under its key
pub put_sets : {K X : Type 0} (cmp : K → K → Ordering) → IsKey cmp → (rows : List (K × X)) (k : K) (x : X) → Sets cmp k (Some x) rows (put cmp rows k x)
put_sets {K} {X} cmp key rows k x q = by (cmp k q) refl where
  no_less : Equal ≡ Less → ⊥
  no_less e = cc

  no_greater : Equal ≡ Greater → ⊥
  no_greater e = cc

  other : (o : Ordering) → cmp k q ≡ o → (Equal ≡ o → ⊥) → find cmp (put cmp rows k x) q ≡ find cmp rows q
  other o h far = find-put_other cmp key rows k q x (is_at_apart cmp key q k (λ same. far (sym (key.here k) ∙ ap (cmp k) (sym same) ∙ h)))

  by : (o : Ordering) → cmp k q ≡ o → find cmp (put cmp rows k x) q ≡ cond (is_eq (cmp k q)) (Some x) (find cmp rows q)
  by Less h = other Less h no_less ∙ ap (λ (o : Ordering). cond (is_eq o) (Some x) (find cmp rows q)) (sym h)
  by Equal h = ap (find cmp (put cmp rows k x)) (sym (key.same k q h)) ∙ find-put_same cmp key rows k x ∙ ap (λ (o : Ordering). cond (is_eq o) (Some x) (find cmp rows q)) (sym h)
  by Greater h = other Greater h no_greater ∙ ap (λ (o : Ordering). cond (is_eq o) (Some x) (find cmp rows q)) (sym h)

-- a session is open for the client whose it is
pub open_where : (rows : List (ℕ × SessionRow)) (n : ℕ) (row : SessionRow) (client : ClientId) → find nat_cmp rows n ≡ Some row → row.client ≡ client → is_open_for rows n client ≡ true
open_where rows n row client there its = ap (is_of client) there ∙ ap (λ (c : ClientId). same_client c client) its ∙ client-itself client

-- a session that is open for a client is there, and the client's
pub row_where : (rows : List (ℕ × SessionRow)) (n : ℕ) (client : ClientId) → is_open_for rows n client ≡ true → (row : SessionRow) × (find nat_cmp rows n ≡ Some row) × (row.client ≡ client)
row_where rows n client h = by (find nat_cmp rows n) refl h where
  by : (o : Option SessionRow) → find nat_cmp rows n ≡ o → is_of client o ≡ true → (row : SessionRow) × (find nat_cmp rows n ≡ Some row) × (row.client ≡ client)
  by None there open_none = absurd (no_true (sym open_none))
  by (Some row) there its = (row, there, same-client row.client client its)

pub none_indexed : IsIndexed [] []
none_indexed = record { are_named = λ n row h. absurd (none-some row h); are_open = λ client n h. absurd (none-some n h) }

-- a new session of a client that had none, under a new number
module _ (rows rows' : List (ℕ × SessionRow)) (numbers numbers' : List (ClientId × ℕ)) (client : ClientId) (number : ℕ) (fresh : SessionRow)
    (indexed : IsIndexed rows numbers) (none : find client_cmp numbers client ≡ None) (its : fresh.client ≡ client)
    (named : Sets client_cmp client (Some number) numbers numbers') (puts : Sets nat_cmp number (Some fresh) rows rows') where
  named_here : find client_cmp numbers' client ≡ Some number
  named_here = set_here client_cmp client_key client (Some number) numbers numbers' named

  put_here : find nat_cmp rows' number ≡ Some fresh
  put_here = set_here nat_cmp number_key number (Some fresh) rows rows' puts

  -- another client than one that had a session before
  other_client : (c : ClientId) (n : ℕ) → find client_cmp numbers c ≡ Some n → client ≡ c → ⊥
  other_client c n had same = none-some n (sym none ∙ ap (find client_cmp numbers) same ∙ had)

  its_number : (n : ℕ) (row : SessionRow) → number ≡ n → find nat_cmp rows' n ≡ Some row → find client_cmp numbers' row.client ≡ Some n
  its_number n row same h =
      let row_is : fresh ≡ row = same_Some fresh row (sym put_here ∙ ap (find nat_cmp rows') same ∙ h) in
      let mine : client ≡ row.client = sym its ∙ ap (λ (r : SessionRow). r.client) row_is in
      ap (find client_cmp numbers') (sym mine) ∙ named_here ∙ ap (λ (x : ℕ). Some x) same

  its_session : (c : ClientId) (n : ℕ) → client ≡ c → find client_cmp numbers' c ≡ Some n → is_open_for rows' n c ≡ true
  its_session c n same h =
      let number_is : number ≡ n = same_Some number n (sym named_here ∙ ap (find client_cmp numbers') same ∙ h) in
      open_where rows' n fresh c (ap (find nat_cmp rows') (sym number_is) ∙ put_here) (its ∙ same)

  pub opened_new : find nat_cmp rows number ≡ None → IsIndexed rows' numbers'
  opened_new free = record {
    are_named = λ n row h. at_key nat_cmp number_key number (Some fresh) rows rows' puts n
        (λ same. its_number n row same h)
        (λ far stays. let had : find client_cmp numbers row.client ≡ Some n = indexed.are_named n row (sym stays ∙ h) in
        at_key client_cmp client_key client (Some number) numbers numbers' named row.client (λ same. absurd (other_client row.client n had same)) (λ away kept. kept ∙ had));
    are_open = λ c n h. at_key client_cmp client_key client (Some number) numbers numbers' named c
        (λ same. its_session c n same h)
        (λ away kept. let was : is_open_for rows n c ≡ true = indexed.are_open c n (sym kept ∙ h) in
        at_key nat_cmp number_key number (Some fresh) rows rows' puts n
        (λ same. let there = row_where rows n c was in absurd (none-some there.0 (sym free ∙ ap (find nat_cmp rows) same ∙ there.1)))
        (λ far stays. ap (is_of c) stays ∙ was));
  }

  -- the same where a row of another client gives way
  module _ (old : SessionRow) (was : find nat_cmp rows number ≡ Some old) (numbers'' : List (ClientId × ℕ)) (unnamed : Sets client_cmp old.client None numbers' numbers'') where
    had_old : find client_cmp numbers old.client ≡ Some number
    had_old = indexed.are_named number old was

    still_named : find client_cmp numbers'' client ≡ Some number
    still_named = at_key client_cmp client_key old.client None numbers' numbers'' unnamed client (λ same. absurd (other_client old.client number had_old (sym same))) (λ away kept. kept ∙ named_here)

    gone : find client_cmp numbers'' old.client ≡ None
    gone = set_here client_cmp client_key old.client None numbers' numbers'' unnamed

    named_over : (n : ℕ) (row : SessionRow) → find nat_cmp rows' n ≡ Some row → find client_cmp numbers'' row.client ≡ Some n
    named_over n row h = at_key nat_cmp number_key number (Some fresh) rows rows' puts n
        (λ same. let row_is : fresh ≡ row = same_Some fresh row (sym put_here ∙ ap (find nat_cmp rows') same ∙ h) in
        ap (find client_cmp numbers'') (ap (λ (r : SessionRow). r.client) (sym row_is) ∙ its) ∙ still_named ∙ ap (λ (x : ℕ). Some x) same)
        (λ far stays. let had : find client_cmp numbers row.client ≡ Some n = indexed.are_named n row (sym stays ∙ h) in
        at_key client_cmp client_key old.client None numbers' numbers'' unnamed row.client
        (λ same. absurd (far (same_Some number n (sym had_old ∙ ap (find client_cmp numbers) same ∙ had))))
        (λ away kept. at_key client_cmp client_key client (Some number) numbers numbers' named row.client
        (λ same. absurd (other_client row.client n had same))
        (λ away' kept'. kept ∙ kept' ∙ had)))

    open_over : (c : ClientId) (n : ℕ) → find client_cmp numbers'' c ≡ Some n → is_open_for rows' n c ≡ true
    open_over c n h = at_key client_cmp client_key old.client None numbers' numbers'' unnamed c
        (λ same. absurd (none-some n (sym gone ∙ ap (find client_cmp numbers'') same ∙ h)))
        (λ away kept. at_key client_cmp client_key client (Some number) numbers numbers' named c
        (λ same. its_session c n same (sym kept ∙ h))
        (λ away' kept'. let before : is_open_for rows n c ≡ true = indexed.are_open c n (sym kept' ∙ sym kept ∙ h) in
        at_key nat_cmp number_key number (Some fresh) rows rows' puts n
        (λ same. let there = row_where rows n c before in
        let old_is : old ≡ there.0 = same_Some old there.0 (sym was ∙ ap (find nat_cmp rows) same ∙ there.1) in
        absurd (away (ap (λ (r : SessionRow). r.client) old_is ∙ there.2)))
        (λ far stays. ap (is_of c) stays ∙ before)))

    pub opened_over : IsIndexed rows' numbers''
    opened_over = record { are_named = named_over; are_open = open_over }

-- the numbers are as before where the new one was taken back
pub taken_back : (rows : List (ℕ × SessionRow)) (numbers numbers' numbers'' : List (ClientId × ℕ)) (client : ClientId) (number : ℕ) → IsIndexed rows numbers → find client_cmp numbers client ≡ None
    → Sets client_cmp client (Some number) numbers numbers' → Sets client_cmp client None numbers' numbers'' → IsIndexed rows numbers''
taken_back rows numbers numbers' numbers'' client number indexed none named unnamed = record {
  are_named = λ n row h. as_before row.client ∙ indexed.are_named n row h;
  are_open = λ c n h. indexed.are_open c n (sym (as_before c) ∙ h);
} where
  as_before : (c : ClientId) → find client_cmp numbers'' c ≡ find client_cmp numbers c
  as_before c = at_key client_cmp client_key client None numbers' numbers'' unnamed c
      (λ same. ap (find client_cmp numbers'') (sym same) ∙ set_here client_cmp client_key client None numbers' numbers'' unnamed ∙ sym none ∙ ap (find client_cmp numbers) same)
      (λ away kept. kept ∙ at_key client_cmp client_key client (Some number) numbers numbers' named c (λ same. absurd (away same)) (λ away' kept'. kept'))

-- a session that is closed, with its client's number
pub closed_some : (rows rows' : List (ℕ × SessionRow)) (numbers numbers' : List (ClientId × ℕ)) (session : ℕ) (row : SessionRow) → IsIndexed rows numbers → find nat_cmp rows session ≡ Some row
    → Sets nat_cmp session None rows rows' → Sets client_cmp row.client None numbers numbers' → IsIndexed rows' numbers'
closed_some rows rows' numbers numbers' session row indexed there goes unnamed = record {
  are_named = λ n other h. at_key nat_cmp number_key session None rows rows' goes n
      (λ same. absurd (none-some other (sym (set_here nat_cmp number_key session None rows rows' goes) ∙ ap (find nat_cmp rows') same ∙ h)))
      (λ far stays. let had : find client_cmp numbers other.client ≡ Some n = indexed.are_named n other (sym stays ∙ h) in
      at_key client_cmp client_key row.client None numbers numbers' unnamed other.client
      (λ same. absurd (far (same_Some session n (sym (indexed.are_named session row there) ∙ ap (find client_cmp numbers) same ∙ had))))
      (λ away kept. kept ∙ had));
  are_open = λ c n h. at_key client_cmp client_key row.client None numbers numbers' unnamed c
      (λ same. absurd (none-some n (sym (set_here client_cmp client_key row.client None numbers numbers' unnamed) ∙ ap (find client_cmp numbers') same ∙ h)))
      (λ away kept. let was : is_open_for rows n c ≡ true = indexed.are_open c n (sym kept ∙ h) in
      at_key nat_cmp number_key session None rows rows' goes n
      (λ same. let its = row_where rows n c was in
      let row_is : row ≡ its.0 = same_Some row its.0 (sym there ∙ ap (find nat_cmp rows) same ∙ its.1) in
      absurd (away (ap (λ (r : SessionRow). r.client) row_is ∙ its.2)))
      (λ far stays. ap (is_of c) stays ∙ was));
}

-- a session that wasn't open
pub closed_none : (rows rows' : List (ℕ × SessionRow)) (numbers : List (ClientId × ℕ)) (session : ℕ) → IsIndexed rows numbers → find nat_cmp rows session ≡ None → Sets nat_cmp session None rows rows' → IsIndexed rows' numbers
closed_none rows rows' numbers session indexed none goes = record {
  are_named = λ n row h. indexed.are_named n row (sym (as_before n) ∙ h);
  are_open = λ c n h. ap (is_of c) (as_before n) ∙ indexed.are_open c n h;
} where
  as_before : (n : ℕ) → find nat_cmp rows' n ≡ find nat_cmp rows n
  as_before n = at_key nat_cmp number_key session None rows rows' goes n
      (λ same. ap (find nat_cmp rows') (sym same) ∙ set_here nat_cmp number_key session None rows rows' goes ∙ sym none ∙ ap (find nat_cmp rows) same)
      (λ far stays. stays)

-- a session whose row changes, but not its client
pub kept_client : (rows rows' : List (ℕ × SessionRow)) (numbers : List (ClientId × ℕ)) (session : ℕ) (row next : SessionRow) → IsIndexed rows numbers → find nat_cmp rows session ≡ Some row → next.client ≡ row.client
    → Sets nat_cmp session (Some next) rows rows' → IsIndexed rows' numbers
kept_client rows rows' numbers session row next indexed there its puts = record {
  are_named = λ n other h. at_key nat_cmp number_key session (Some next) rows rows' puts n
      (λ same. let next_is : next ≡ other = same_Some next other (sym here ∙ ap (find nat_cmp rows') same ∙ h) in
      ap (find client_cmp numbers) (ap (λ (r : SessionRow). r.client) (sym next_is) ∙ its) ∙ indexed.are_named session row there ∙ ap (λ (x : ℕ). Some x) same)
      (λ far stays. indexed.are_named n other (sym stays ∙ h));
  are_open = λ c n h. let was : is_open_for rows n c ≡ true = indexed.are_open c n h in
      at_key nat_cmp number_key session (Some next) rows rows' puts n
      (λ same. let owner = row_where rows n c was in
      let row_is : row ≡ owner.0 = same_Some row owner.0 (sym there ∙ ap (find nat_cmp rows) same ∙ owner.1) in
      open_where rows' n next c (ap (find nat_cmp rows') (sym same) ∙ here) (its ∙ ap (λ (r : SessionRow). r.client) row_is ∙ owner.2))
      (λ far stays. ap (is_of c) stays ∙ was);
} where
  here : find nat_cmp rows' session ≡ Some next
  here = set_here nat_cmp number_key session (Some next) rows rows' puts

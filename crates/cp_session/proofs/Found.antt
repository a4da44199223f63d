-- The session that stands under a client's number is the client's session.
use Rattle.std.proofs.Common.{◌≡◌, ℕ, Bool, true, false, List, [], ◌∷◌, Option, Some, None, refl, sym, ap, ◌∙◌, subst, cond}
use Rattle.std.specs.Ordering.{nat_cmp}
use Rattle.std.specs.BTreeMap.{is_at}
use Rattle.std.specs.List.{filter, AllByRecursion}
use Rattle.std.specs.List.Sorted.{IsStrictlySortedBy}
use Rattle.std.specs.Map.{keys_of}
use Rattle.std.specs.declared.cmp.Ordering.TheVariants.{Less}
use Rattle.std.proofs.lemmas.Cmp.{nat_cmp_total}
use Rattle.std.proofs.lemmas.Option.{none-some, same_Some}
use Rattle.cp_base.specs.declared.identifier.ClientId.{ClientId}
use Rattle.cp_base.proofs.Tests.{no_true}
use Rattle.cp_group_state.specs.declared.rows.SessionRow.{SessionRow}
use Rattle.cp_group_state.specs.Rows.{find}
use Rattle.cp_group_state.specs.Waiters.{first, same_client}
use Rattle.cp_group_state.specs.Sessions.{is_of, is_open_for, session_of}
use Rattle.cp_group_state.specs.Invariants.{IsRising}
use Rattle.cp_group_state.proofs.Keyed.{number_key, same-client, equal_is}
use Rattle.cp_group_state.proofs.Rising.{less-none}
use Rattle.cp_session.specs.Index.{IsIndexed, client_cmp}
use Rattle.cp_session.specs.Creation.{created, created_from}

-- whether the row stands, and is the client's
abbrev Stands : List (ℕ × SessionRow) → ClientId → ℕ × SessionRow → Type 0
Stands rows client e = (find nat_cmp rows e.0 ≡ Some e.1) × (e.1.client ≡ client)

first_stands : (f : ℕ × SessionRow) (fs : List (ℕ × SessionRow)) (client : ClientId) → same_client f.1.client client ≡ true → Stands (f ∷ fs) client f
first_stands f fs client its = (rw (number_key.here f.0) refl, same-client f.1.client client its)

later_stands : (f : ℕ × SessionRow) (fs : List (ℕ × SessionRow)) (client : ClientId) (e : ℕ × SessionRow) → AllByRecursion (λ y. nat_cmp f.0 y ≡ Less) (keys_of fs) → Stands fs client e → Stands (f ∷ fs) client e
later_stands f fs client e above stands = (by (is_at (nat_cmp e.0) f.0) refl, stands.1) where
  by : (b : Bool) → is_at (nat_cmp e.0) f.0 ≡ b → cond b (Some f.1) (find nat_cmp fs e.0) ≡ Some e.1
  by true h = let same : e.0 ≡ f.0 = number_key.same e.0 f.0 (equal_is _ h) in
      absurd (none-some e.1 (sym (less-none nat_cmp number_key nat_cmp_total f.0 fs above) ∙ ap (find nat_cmp fs) (sym same) ∙ stands.0))
  by false h = stands.0

session_stands : (rows : List (ℕ × SessionRow)) (client : ClientId) (e : ℕ × SessionRow) → IsRising nat_cmp rows → session_of rows client ≡ Some e → Stands rows client e
unfolding IsStrictlySortedBy
session_stands [] client e rising h = absurd (none-some e h)
session_stands (f ∷ fs) client e rising h = by (same_client f.1.client client) refl h (session_stands fs client e rising.1) where
  by : (b : Bool) → same_client f.1.client client ≡ b → first (cond b (f ∷ filter (λ x. same_client x.1.client client) fs) (filter (λ x. same_client x.1.client client) fs)) ≡ Some e
      → (session_of fs client ≡ Some e → Stands fs client e) → Stands (f ∷ fs) client e
  by true its h rest = subst (λ x. Stands (f ∷ fs) client x) (same_Some f e h) (first_stands f fs client its)
  by false its h rest = later_stands f fs client e rising.0 (rest h)

none_open : (rows : List (ℕ × SessionRow)) (n : ℕ) (client : ClientId) → session_of rows client ≡ None → is_open_for rows n client ≡ false
none_open [] n client h = refl
none_open (e ∷ es) n client h = at (same_client e.1.client client) refl h (none_open es n client) where
  at : (b : Bool) → same_client e.1.client client ≡ b → first (cond b (e ∷ filter (λ x. same_client x.1.client client) es) (filter (λ x. same_client x.1.client client) es)) ≡ None
      → (session_of es client ≡ None → is_open_for es n client ≡ false) → is_open_for (e ∷ es) n client ≡ false
  at true x h rest = absurd (none-some e (sym h))
  at false x h rest = by (is_at (nat_cmp n) e.0) where
    by : (d : Bool) → is_of client (cond d (Some e.1) (find nat_cmp es n)) ≡ false
    by true = x
    by false = rest h

module _ (rows : List (ℕ × SessionRow)) (numbers : List (ClientId × ℕ)) (client : ClientId) (indexed : IsIndexed rows numbers) (rising : IsRising nat_cmp rows) where
  named : (e : ℕ × SessionRow) → session_of rows client ≡ Some e → find client_cmp numbers client ≡ Some e.0
  named e h = let stands = session_stands rows client e rising h in
      ap (find client_cmp numbers) (sym stands.1) ∙ indexed.are_named e.0 e.1 stands.0

  -- a client with a number has that session
  pub created_again : (index n : ℕ) → find client_cmp numbers client ≡ Some n → created rows index client ≡ record { rows = rows; number = Some n }
  created_again index n h = by (session_of rows client) refl where
    by : (o : Option (ℕ × SessionRow)) → session_of rows client ≡ o → created_from rows index client o ≡ record { rows = rows; number = Some n }
    by None none = absurd (no_true (sym (indexed.are_open client n h) ∙ none_open rows n client none))
    by (Some e) there = ap (λ (m : ℕ). record { rows = rows; number = Some m }) (same_Some e.0 n (sym (named e there) ∙ h))

  -- one without has none
  pub session_none : find client_cmp numbers client ≡ None → session_of rows client ≡ None
  session_none h = by (session_of rows client) refl where
    by : (o : Option (ℕ × SessionRow)) → session_of rows client ≡ o → session_of rows client ≡ None
    by None none = none
    by (Some e) there = absurd (none-some e.0 (sym h ∙ named e there))

  pub created_anew : (index : ℕ) → find client_cmp numbers client ≡ None → created rows index client ≡ created_from rows index client None
  created_anew index h = ap (created_from rows index client) (session_none h)

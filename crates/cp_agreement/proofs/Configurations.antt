-- The configuration in force at the end of a log.
use Rattle.cp_parts.specs.declared.log_entry.LogEntry.{LogEntry}
use Rattle.cp_agreement_facts.specs.Entries.{members_in}
use Rattle.cp_agreement_facts.specs.Configurations.{configuration_after, members_or}
use Rattle.std.proofs.Common.{◌≡◌, ℕ, zero, suc, ◌≤◌, ◌⊎◌, inl, inr, List, [], ◌∷◌, refl, ap, sym, ◌∙◌, arith, Some, None, Option, slice_get}
use Rattle.std.proofs.lemmas.Option.{same_Some}
use Rattle.cp_agreement.proofs.Logs.{Share}

-- no members entry from place n on
abbrev pub QuietFrom : List LogEntry → ℕ → Type 0
QuietFrom log n = (k : ℕ) (e : LogEntry) → n ≤ k → slice_get log k ≡ Some e → (members_in e.bytes) ≡ None

-- A log without members entries leaves the first members.
pub no_change : (first : List ℕ) (log : List LogEntry) → QuietFrom log 0 → configuration_after first log ≡ first
no_change first [] quiet = refl
no_change first (e ∷ log) quiet = ap (λ m. configuration_after (members_or m first) log) (quiet zero e (omega arith) refl) ∙ no_change first log (λ k f le is. quiet (suc k) f (omega arith) is)

-- Logs that share n entries, and have no members entry after these, have one configuration.
pub same_configuration : (n : ℕ) (first : List ℕ) (a b : List LogEntry) → Share n a b → QuietFrom a n → QuietFrom b n → configuration_after first a ≡ configuration_after first b
same_configuration zero first a b both = λ ea eb. no_change first a ea ∙ sym (no_change first b eb)
same_configuration (suc n) first [] b both = λ ea eb. absurd (let x = both zero (omega arith) in let y = x.1 in cc)
same_configuration (suc n) first (e ∷ a) [] both = λ ea eb. absurd (let x = both zero (omega arith) in let y = x.2 in cc)
same_configuration (suc n) first (e ∷ a) (f ∷ b) both = λ ea eb.
    let x = both zero (omega arith) in
    let same : e ≡ f = same_Some e f (x.1 ∙ sym x.2) in
    ap (λ z. configuration_after (members_or (members_in z.bytes) first) a) same ∙ same_configuration n (members_or (members_in f.bytes) first) a b (λ k less. both (suc k) (omega arith)) (λ k z le is. ea (suc k) z (omega arith) is) (λ k z le is. eb (suc k) z (omega arith) is)

ends_cons : (e : LogEntry) (log : List LogEntry) (n : ℕ) → QuietFrom log n → QuietFrom (e ∷ log) (suc n)
ends_cons e log n ends zero f le is = absurd (omega arith)
ends_cons e log n ends (suc k) f le is = ends k f (omega arith) is

ends_whole : (e : LogEntry) (log : List LogEntry) → (members_in e.bytes) ≡ None → QuietFrom log 0 → QuietFrom (e ∷ log) 0
ends_whole e log none ends zero f le is = ap (λ z. members_in z.bytes) (same_Some f e (sym is)) ∙ none
ends_whole e log none ends (suc k) f le is = ends k f (omega arith) is

-- the last members entry of a log
pub record LastChange (first : List ℕ) (log : List LogEntry) : Type 0 where
  pub place : ℕ
  pub entry : LogEntry
  pub there : slice_get log place ≡ Some entry
  pub members : List ℕ
  pub is : (members_in entry.bytes) ≡ Some members
  pub ends : QuietFrom log (suc place)
  pub members_are : configuration_after first log ≡ members

-- A log has no members entry, or a last one, which is its configuration.
pub last_change : (first : List ℕ) (log : List LogEntry) → QuietFrom log 0 ⊎ LastChange first log
last_change first [] = inl (λ k e le is. absurd (cc))
last_change first (e ∷ log) = later (last_change (members_or (members_in e.bytes) first) log)
  where
    here : QuietFrom log 0 → (m : Option (List ℕ)) → (members_in e.bytes) ≡ m → QuietFrom (e ∷ log) 0 ⊎ LastChange first (e ∷ log)
    here quiet None is = inl (ends_whole e log is quiet)
    here quiet (Some members) is = inr (record { place = 0; entry = e; there = refl; members = members; is = is; ends = ends_cons e log 0 quiet; members_are = no_change (members_or (members_in e.bytes) first) log quiet ∙ ap (λ m. members_or m first) is })

    later : QuietFrom log 0 ⊎ LastChange (members_or (members_in e.bytes) first) log → QuietFrom (e ∷ log) 0 ⊎ LastChange first (e ∷ log)
    later (inl quiet) = here quiet (members_in e.bytes) refl
    later (inr l) = inr (record { place = suc l.place; entry = l.entry; there = l.there; members = l.members; is = l.is; ends = ends_cons e log (suc l.place) l.ends; members_are = l.members_are })

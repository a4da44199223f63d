-- Lists in range, and the ranges of what a member has stored.
use Rattle.std.proofs.Common.{◌&&◌, ◌==◌, ◌≡◌, ℕ, zero, suc, ◌+◌, ◌-◌, ◌<◌, ◌≤◌, not, Bool, List, [], ◌∷◌, ◌++◌, length, take, drop, map, filter, refl, subst, arith, Option, Some, None, nat_lt, nat_le, slice_get, unwrap_or, option_map, ltb-true, length-take, length-drop}
use Rattle.std.specs.List.{AllByRecursion}
use Rattle.std.proofs.lemmas.Bool.{and_parts, leb-false}
use Rattle.std.proofs.lemmas.Option.{same_Some}
use Rattle.cp_parts.specs.declared.log_entry.LogEntry.{LogEntry}
use Rattle.cp_log_rules.specs.Persistent.{PersistentState, last, entry_at}
use Rattle.cp_rules.specs.Limits.{most_index, batch_entries, batch_bytes, chunk_bytes}
use Rattle.cp_rules.specs.Persistent.{known_term, members, others, ballot}
use Rattle.cp_rules.specs.Volatile.{VolatileState, peer}
use Rattle.cp_rules.specs.Local.{Body, send, is_leader}
use Rattle.cp_rules.specs.Terms.{adopted}
use Rattle.cp_rules.specs.Sending.{within, batch, chunk_from, entries_from, append_to, appends}
use Rattle.cp_rules_facts.specs.Soundness.{IsSound, IsPlaced}
use Rattle.cp_rules_facts.proofs.Basics.{either, leader_is}
use Rattle.cp_rules_ranges.specs.Ranges.{IsMember, EntryIsInRange, AreInRange, StoredIsInRange, BodyIsInRange, SentIsInRange, BallotIsInRange}
use Rattle.cp_rules_ranges.proofs.Members.{after_fits, all_members}

-- ---- lists

module _ {A : Type 0} (P : A → Type 0) where
  pub all_get : (xs : List A) (k : ℕ) (x : A) → AllByRecursion P xs → slice_get xs k ≡ Some x → P x
  all_get [] k x all is = absurd (cc)
  all_get (y ∷ xs) zero x all is = subst P (same_Some y x is) all.0
  all_get (y ∷ xs) (suc k) x all is = all_get xs k x all.1 is

  pub all_both : (xs ys : List A) → AllByRecursion P xs → AllByRecursion P ys → AllByRecursion P (xs ++ ys)
  all_both [] ys a b = b
  all_both (x ∷ xs) ys a b = (a.0, all_both xs ys a.1 b)

  pub all_take : (n : ℕ) (xs : List A) → AllByRecursion P xs → AllByRecursion P (take n xs)
  all_take zero xs all = tt
  all_take (suc n) [] all = tt
  all_take (suc n) (x ∷ xs) all = (all.0, all_take n xs all.1)

  pub all_drop : (n : ℕ) (xs : List A) → AllByRecursion P xs → AllByRecursion P (drop n xs)
  all_drop zero xs all = all
  all_drop (suc n) [] all = tt
  all_drop (suc n) (x ∷ xs) all = all_drop n xs all.1

  pub all_filter : (f : A → Bool) (xs : List A) → AllByRecursion P xs → AllByRecursion P (filter f xs)
  all_filter f [] all = tt
  all_filter f (x ∷ xs) all = either (AllByRecursion P) (f x) (x ∷ filter f xs) (filter f xs) (λ h. (all.0, all_filter f xs all.1)) (λ h. all_filter f xs all.1)

  pub all_of : {B : Type 0} (Q : B → Type 0) (g : A → B) (xs : List A) → ((x : A) → P x → Q (g x)) → AllByRecursion P xs → AllByRecursion Q (map g xs)
  all_of Q g [] each all = tt
  all_of Q g (x ∷ xs) each all = (each x all.0, all_of Q g xs each all.1)

-- ---- what is stored

-- a term that is known
pub known_in_range : (p : PersistentState) (i : ℕ) → StoredIsInRange p → known_term p i ≤ most_index
known_in_range p i r = either (λ (o : Option ℕ). unwrap_or o 0 ≤ most_index) (i == p.base) (Some p.base_term) (option_map (λ (x : LogEntry). x.term) (entry_at p i))
    (λ h. r.base_term)
    (λ h. either (λ (o : Option LogEntry). unwrap_or (option_map (λ (x : LogEntry). x.term) o) 0 ≤ most_index) (nat_lt p.base i) (slice_get p.log (i - p.base - 1)) None
    (λ k. look (slice_get p.log (i - p.base - 1)) refl)
    (λ k. omega arith))
  where
    look : (o : Option LogEntry) → slice_get p.log (i - p.base - 1) ≡ o → unwrap_or (option_map (λ x. x.term) o) 0 ≤ most_index
    look None is = omega arith
    look (Some e) is = (all_get EntryIsInRange p.log (i - p.base - 1) e r.entries is).term

pub own_ballot : (p : PersistentState) → StoredIsInRange p → BallotIsInRange p (ballot p)
own_ballot p r = record { up = omega arith; term = r.term; vote = r.vote }

pub adopted_ballot : (term : ℕ) (p : PersistentState) → term ≤ most_index → StoredIsInRange p → BallotIsInRange p (adopted term (ballot p))
adopted_ballot term p most r = either (BallotIsInRange p) (nat_lt p.term term) (record { term = term; vote = 0 }) (ballot p)
    (λ h. let low = ltb-true p.term term h in record { up = omega (arith, low); term = most; vote = omega arith })
    (λ h. own_ballot p r)

-- the others of the configuration
pub others_are : (me : ℕ) (p : PersistentState) → StoredIsInRange p → AllByRecursion IsMember (others me (members p))
others_are me p r = all_filter IsMember (λ m. not (m == me)) (members p) (all_members (members p) (after_fits p.base_config p.base p.log r.members))

-- ---- what a leader sends

-- what fits into one message
pub record Few (count : ℕ) (all some : List LogEntry) : Type 0 where
  pub count_is : length some ≤ count
  pub shorter : length some ≤ length all
  pub range : AreInRange all → AreInRange some

within_few : (es : List LogEntry) (count bytes : ℕ) → Few count es (within es count bytes)
within_few [] count bytes = record { count_is = omega arith; shorter = omega arith; range = λ r. r }
within_few (e ∷ es) count bytes = either (Few count (e ∷ es)) (nat_lt 0 count && nat_le (length e.bytes) bytes) (e ∷ within es (count - 1) (bytes - length e.bytes)) []
    (λ h.
    let x = within_few es (count - 1) (bytes - length e.bytes) in
    let a = x.count_is in
    let b = x.shorter in
    let some : 0 < count = ltb-true 0 count (and_parts (nat_lt 0 count) (nat_le (length e.bytes) bytes) h).0 in
    record { count_is = omega (arith, a, some); shorter = omega (arith, b); range = λ r. (r.0, x.range r.1) })
    (λ h. record { count_is = omega arith; shorter = omega arith; range = λ r. tt })

pub batch_few : (es : List LogEntry) → Few batch_entries es (batch es)
batch_few [] = record { count_is = omega arith; shorter = omega arith; range = λ r. r }
batch_few (e ∷ es) =
    let x = within_few es (batch_entries - 1) (batch_bytes - length e.bytes) in
    let a = x.count_is in
    let b = x.shorter in
    record { count_is = omega (arith, a); shorter = omega (arith, b); range = λ r. (r.0, x.range r.1) }

pub chunk_in_range : (p : PersistentState) (offset : ℕ) → StoredIsInRange p → offset ≤ length p.snapshot → BodyIsInRange (chunk_from p offset)
chunk_in_range p offset r fits =
    let a = r.last_index in
    let b = r.snapshot in
    record { own = r.term; at = omega (arith, a); start = omega (arith, b, fits); short = omega (arith, length-take chunk_bytes (drop offset p.snapshot)) }

entries_in_range : (p : PersistentState) (v : VolatileState) (next : ℕ) → StoredIsInRange p → v.commit ≤ last p → p.base < next → next ≤ suc (last p) → BodyIsInRange (entries_from p v next)
entries_in_range p v next r commit above placed =
    let rest = drop (next - 1 - p.base) p.log in
    let x = batch_few rest in
    let a = r.last_index in
    let b = x.shorter in
    let c : length rest ≡ length p.log - (next - 1 - p.base) = length-drop (next - 1 - p.base) p.log in
    record {
      own = r.term;
      before = known_in_range p (next - 1) r;
      committed = omega (arith, a, commit);
      few = x.count_is;
      end = omega (arith, a, b, c, above, placed);
      all = x.range (all_drop EntryIsInRange (next - 1 - p.base) p.log r.entries);
    }

pub append_in_range : (p : PersistentState) (v : VolatileState) (f : ℕ) → StoredIsInRange p → v.commit ≤ last p → IsPlaced (last p) (length p.snapshot) (peer v.peers f) → BodyIsInRange (append_to p v f).body
append_in_range p v f r commit placed =
    let next = (peer v.peers f).next in
    either BodyIsInRange (nat_le next p.base) (chunk_from p (peer v.peers f).offset) (entries_from p v next)
    (λ h. chunk_in_range p (peer v.peers f).offset r placed.offset)
    (λ h. entries_in_range p v next r commit (leb-false next p.base h) placed.next)

pub appends_in_range : (me : ℕ) (p : PersistentState) (v : VolatileState) → StoredIsInRange p → IsSound me p v → AllByRecursion SentIsInRange (appends me p v)
appends_in_range me p v r sound = either (AllByRecursion SentIsInRange) (is_leader v.role) (map (append_to p v) (others me (members p))) []
    (λ h. all_of IsMember SentIsInRange (append_to p v) (others me (members p))
    (λ f m. record { to = m; body = append_in_range p v f r sound.within (sound.peers (leader_is v.role h) f) })
    (others_are me p r))
    (λ h. tt)

-- the same body to all others
pub all_told : (me : ℕ) (p : PersistentState) (body : Body) → StoredIsInRange p → BodyIsInRange body → AllByRecursion SentIsInRange (map (λ f. send f body) (others me (members p)))
all_told me p body r b = all_of IsMember SentIsInRange (λ f. send f body) (others me (members p)) (λ f m. record { to = m; body = b }) (others_are me p r)

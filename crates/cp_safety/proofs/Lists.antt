-- Small facts of lists.
use Rattle.std.proofs.Common.{◌≡◌, ℕ, zero, suc, ◌+◌, ◌≤◌, List, [], ◌∷◌, ◌++◌, length, take, drop, map, refl, ap, sym, ◌∙◌, arith, Contains, suc-add, zero-add}
use Rattle.std.proofs.lemmas.Option.{slice_get_within, same_Some}
use Rattle.cp_parts.specs.declared.log_entry.LogEntry.{LogEntry}
use Rattle.cp_agreement_facts.specs.Entries.{members_in}
use Rattle.cp_agreement_facts.specs.Configurations.{configuration_after, members_or}
use Rattle.cp_agreement_facts.specs.Logs.{HasTerm}
use Rattle.cp_agreement.proofs.Logs.{Share, share_at}

pub drop-append_left : {X : Type 0} (m : ℕ) (a b : List X) → m ≤ length a → drop m (a ++ b) ≡ drop m a ++ b
drop-append_left zero a b le = refl
drop-append_left (suc m) [] b le = absurd (omega arith)
drop-append_left (suc m) (x ∷ a) b le = drop-append_left m a b (omega arith)

pub drop-take_add : {X : Type 0} (m n : ℕ) (l : List X) → drop m (take (m + n) l) ≡ take n (drop m l)
drop-take_add zero n l = ap (λ k. take k l) (zero-add n)
drop-take_add {X} (suc m) zero [] = rw suc-add refl
drop-take_add (suc m) (suc n) [] = rw suc-add refl
drop-take_add (suc m) n (x ∷ l) = rw suc-add (drop-take_add m n l)

pub drop-drop_add : {X : Type 0} (m n : ℕ) (l : List X) → drop n (drop m l) ≡ drop (m + n) l
drop-drop_add zero n l = ap (λ k. drop k l) (sym (zero-add n))
drop-drop_add (suc m) zero [] = rw suc-add refl
drop-drop_add (suc m) (suc n) [] = rw suc-add refl
drop-drop_add (suc m) n (x ∷ l) = rw suc-add (drop-drop_add m n l)

pub take-add_drop : {X : Type 0} (m n : ℕ) (l : List X) → take (m + n) l ≡ take m l ++ take n (drop m l)
take-add_drop zero n l = ap (λ k. take k l) (zero-add n)
take-add_drop (suc m) zero [] = rw suc-add refl
take-add_drop (suc m) (suc n) [] = rw suc-add refl
take-add_drop (suc m) n (x ∷ l) = rw suc-add (ap (λ r. x ∷ r) (take-add_drop m n l))

pub drop_all : {X : Type 0} (n : ℕ) (l : List X) → length l ≤ n → drop n l ≡ []
drop_all zero [] le = refl
drop_all zero (x ∷ l) le = absurd (omega arith)
drop_all (suc n) [] le = refl
drop_all (suc n) (x ∷ l) le = drop_all n l (omega arith)

-- The configuration after two logs in a row.
pub configuration_after-append : (first : List ℕ) (a b : List LogEntry) → configuration_after first (a ++ b) ≡ configuration_after (configuration_after first a) b
configuration_after-append first [] b = refl
configuration_after-append first (e ∷ a) b = configuration_after-append (members_or (members_in e.bytes) first) a b

pub contains_map : {X Y : Type 0} (f : X → Y) (xs : List X) (x : X) → Contains xs x → Contains (map f xs) (f x)
contains_map f [] x (k, h, e) = absurd (omega arith)
contains_map f (y ∷ xs) x (zero, h, e) = (zero, omega arith, ap f e)
contains_map f (y ∷ xs) x (suc k, h, e) = let r = contains_map f xs x (k, omega arith, e) in (suc r.0, omega (arith, r.1), r.2)

pub contains_unmap : {X Y : Type 0} (f : X → Y) (xs : List X) (y : Y) → Contains (map f xs) y → (x : X) × Contains xs x × (f x ≡ y)
contains_unmap f [] y (k, h, e) = absurd (omega arith)
contains_unmap f (x ∷ xs) y (zero, h, e) = (x, (zero, omega arith, refl), e)
contains_unmap f (x ∷ xs) y (suc k, h, e) = let r = contains_unmap f xs y (k, omega arith, e) in (r.0, (suc r.1.0, omega (arith, r.1.1), r.1.2), r.2)

pub has_term_same : (l : List LogEntry) (i t u : ℕ) → HasTerm l i t → HasTerm l i u → t ≡ u
has_term_same l zero t u ht hu = ht ∙ sym hu
has_term_same l (suc i) t u ht hu = sym ht.2 ∙ ap (λ e. e.term) (same_Some ht.0 hu.0 (sym ht.1 ∙ hu.1)) ∙ hu.2

pub has_term_within : (l : List LogEntry) (i t : ℕ) → HasTerm l i t → i ≤ length l
has_term_within l zero t h = omega arith
has_term_within l (suc i) t h = slice_get_within l i h.0 h.1

pub has_term_shared : (a b : List LogEntry) (n i t : ℕ) → Share n a b → i ≤ n → HasTerm a i t → HasTerm b i t
has_term_shared a b n zero t both le h = h
has_term_shared a b n (suc i) t both le h = (h.0, share_at a b n i h.0 both le h.1, h.2)

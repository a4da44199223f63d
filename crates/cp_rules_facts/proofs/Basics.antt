-- Small lemmas: ifs, roles, places of lists.
use Rattle.std.proofs.Common.{◌≡◌, ◌≢◌, ℕ, zero, suc, ◌⊎◌, inl, inr, ⊎_elim, Bool, true, false, List, [], ◌∷◌, map, refl, ap, sym, ◌∙◌, Option, Some, None, is_none, All, true≢false, if◌then◌else◌, slice_set, slice_index_or}
use Rattle.std.proofs.lemmas.Bool.{cases_Bool}
use Rattle.std.proofs.lemmas.List.Elements.{All-nil, All-cons, All-head, All-tail}
use Rattle.cp_safety.specs.Tracking as tracking
use Rattle.cp_rules.specs.declared.role.Role.{Role}
use Rattle.cp_rules.specs.declared.role.Role.TheVariants.{Follower, PreCandidate, Candidate, Leader}
use Rattle.cp_rules.specs.Volatile.{everywhere}
use Rattle.cp_rules.specs.Local.{is_leader, is_candidate, is_pre_candidate}
use Rattle.cp_rules_facts.specs.Seen.{seen_role}

-- an if, one side after the other
pub either : {A : Type 0} (P : A → Type 0) (c : Bool) (a b : A) → (c ≡ true → P a) → (c ≡ false → P b) → P (if c then a else b)
either P c a b first second = ⊎_elim
    (λ (e : c ≡ true). rw e (first e))
    (λ (e : c ≡ false). rw e (second e))
    (cases_Bool c)

pub none_is : {A : Type 0} (x : Option A) → is_none x ≡ true → x ≡ None
none_is None h = refl
none_is (Some y) h = absurd (true≢false (sym h))

-- ---- roles

pub leader_is : (r : Role) → is_leader r ≡ true → r ≡ Leader
leader_is Follower h = absurd (true≢false (sym h))
leader_is PreCandidate h = absurd (true≢false (sym h))
leader_is Candidate h = absurd (true≢false (sym h))
leader_is Leader h = refl

pub candidate_is : (r : Role) → is_candidate r ≡ true → r ≡ Candidate
candidate_is Follower h = absurd (true≢false (sym h))
candidate_is PreCandidate h = absurd (true≢false (sym h))
candidate_is Candidate h = refl
candidate_is Leader h = absurd (true≢false (sym h))

pub pre_candidate_is : (r : Role) → is_pre_candidate r ≡ true → r ≡ PreCandidate
pre_candidate_is Follower h = absurd (true≢false (sym h))
pre_candidate_is PreCandidate h = refl
pre_candidate_is Candidate h = absurd (true≢false (sym h))
pre_candidate_is Leader h = absurd (true≢false (sym h))

pub not_leader : (r : Role) → r ≢ Leader → is_leader r ≡ false
not_leader Follower n = refl
not_leader PreCandidate n = refl
not_leader Candidate n = refl
not_leader Leader n = absurd (n refl)

pub seen_leader : (r : Role) → seen_role r ≡ tracking.Leader → r ≡ Leader
seen_leader Follower h = absurd (cc)
seen_leader PreCandidate h = absurd (cc)
seen_leader Candidate h = absurd (cc)
seen_leader Leader h = refl

pub seen_candidate : (r : Role) → seen_role r ≡ tracking.Candidate → r ≡ Candidate
seen_candidate Follower h = absurd (cc)
seen_candidate PreCandidate h = absurd (cc)
seen_candidate Candidate h = refl
seen_candidate Leader h = absurd (cc)

pub leads_as_seen : (r : Role) → seen_role r ≡ tracking.Leader → is_leader r ≡ true
leads_as_seen r h = ap is_leader (seen_leader r h)

pub leader_or_candidate : (r : Role) → r ≡ Leader → r ≢ Candidate
leader_or_candidate r e h = let z : Leader ≡ Candidate = sym e ∙ h in cc

pub follower_or_candidate : (r : Role) → r ≡ Follower → r ≢ Candidate
follower_or_candidate r e h = let z : Follower ≡ Candidate = sym e ∙ h in cc

pub follower_or_leader : (r : Role) → r ≡ Follower → r ≢ Leader
follower_or_leader r e h = let z : Follower ≡ Leader = sym e ∙ h in cc

-- ---- places

-- a list with one place set
pub set_place : {A : Type 0} (P : A → Type 0) (l : List A) (k : ℕ) (x d : A) → P x → ((j : ℕ) → P (slice_index_or l j d)) → (j : ℕ) → P (slice_index_or (slice_set l k x) j d)
set_place P [] k x d px each j = each j
set_place P (y ∷ ys) zero x d px each zero = px
set_place P (y ∷ ys) zero x d px each (suc j) = each (suc j)
set_place P (y ∷ ys) (suc k) x d px each zero = each zero
set_place P (y ∷ ys) (suc k) x d px each (suc j) = set_place P ys k x d px (λ i. each (suc i)) j

-- where a place is set, it has the new value, and each other its old one
pub set_index : {A : Type 0} (l : List A) (k j : ℕ) (x d : A) → (slice_index_or (slice_set l k x) j d ≡ slice_index_or l j d) ⊎ ((j ≡ k) × (slice_index_or (slice_set l k x) j d ≡ x))
set_index [] k j x d = inl refl
set_index (y ∷ ys) zero zero x d = inr (refl, refl)
set_index (y ∷ ys) zero (suc j) x d = inl refl
set_index (y ∷ ys) (suc k) zero x d = inl refl
set_index (y ∷ ys) (suc k) (suc j) x d = ⊎_elim (λ e. inl e) (λ e. inr (ap suc e.0, e.1)) (set_index ys k j x d)

pub every_place : {A : Type 0} (P : A → Type 0) (d : A) (l : List A) → P d → All P l → (j : ℕ) → P (slice_index_or l j d)
every_place P d [] pd all j = pd
every_place P d (x ∷ l) pd all zero = All-head P x l all
every_place P d (x ∷ l) pd all (suc j) = every_place P d l pd (All-tail P x l all) j

pub same_everywhere : {A : Type 0} (P : A → Type 0) (d x : A) → P d → P x → (j : ℕ) → P (slice_index_or (everywhere x) j d)
same_everywhere P d x pd px j = every_place P d (everywhere x) pd (ten P x px) j
  where
    ten : {A : Type 0} (P : A → Type 0) (x : A) → P x → All P (everywhere x)
    ten {A = A} P x p = let c : (l : List A) → All P l → All P (x ∷ l) = (λ l all. All-cons P x l p all) in
        c (x ∷ x ∷ x ∷ x ∷ x ∷ x ∷ x ∷ x ∷ x ∷ []) (c (x ∷ x ∷ x ∷ x ∷ x ∷ x ∷ x ∷ x ∷ []) (c (x ∷ x ∷ x ∷ x ∷ x ∷ x ∷ x ∷ []) (c (x ∷ x ∷ x ∷ x ∷ x ∷ x ∷ []) (c (x ∷ x ∷ x ∷ x ∷ x ∷ []) (c (x ∷ x ∷ x ∷ x ∷ []) (c (x ∷ x ∷ x ∷ []) (c (x ∷ x ∷ []) (c (x ∷ []) (c [] (All-nil P))))))))))

-- a list that is changed everywhere
pub mapped_place : {A : Type 0} (f : A → A) (l : List A) (d : A) → f d ≡ d → (j : ℕ) → slice_index_or (map f l) j d ≡ f (slice_index_or l j d)
mapped_place f [] d e j = sym e
mapped_place f (x ∷ l) d e zero = refl
mapped_place f (x ∷ l) d e (suc j) = mapped_place f l d e j

pub all_mapped : {A B : Type 0} (P : B → Type 0) (g : A → B) (xs : List A) → ((x : A) → P (g x)) → All P (map g xs)
all_mapped P g [] each = All-nil P
all_mapped P g (x ∷ xs) each = All-cons P (g x) (map g xs) (each x) (all_mapped P g xs each)

pub one : {A : Type 0} (P : A → Type 0) (x : A) → P x → All P (x ∷ [])
one P x p = All-cons P x [] p (All-nil P)

-- Quorums of one configuration, or of adjacent ones, have a common member.
use Rattle.std.proofs.Common.{◌≡◌, ℕ, suc, ◌+◌, ◌*◌, ◌<◌, ◌≤◌, inl, inr, Bool, true, false, List, [], ◌∷◌, ◌++◌, length, count_by, cond, refl, ap, arith}
use Rattle.cp_agreement_facts.specs.Configurations.{AreAdjacent, HasOneMore, HasQuorum}
use Rattle.std.proofs.lemmas.Grind.{common_steps}
use Rattle.std.proofs.lemmas.List.Sums.{sum_by-append}

-- how a count goes along a list
count_yes : (p : ℕ → Bool) (x : ℕ) (xs : List ℕ) → p x ≡ true → count_by p (x ∷ xs) ≡ suc (count_by p xs)
count_yes p x xs e = grind (arith, common_steps)

count_no : (p : ℕ → Bool) (x : ℕ) (xs : List ℕ) → p x ≡ false → count_by p (x ∷ xs) ≡ count_by p xs
count_no p x xs e = grind (arith, common_steps)

count_most : (p : ℕ → Bool) (x : ℕ) (xs : List ℕ) → count_by p (x ∷ xs) ≤ suc (count_by p xs)
count_most p x xs = grind (arith, common_steps)

-- Two choices of more than all members together have a common one.
pub two_meet : (members : List ℕ) (p q : ℕ → Bool) → length members < count_by p members + count_by q members → (m : ℕ) × (p m ≡ true) × (q m ≡ true)
two_meet [] p q h = absurd (omega arith)
two_meet (x ∷ xs) p q h = at_head (p x) refl (q x) refl (two_meet xs p q)
  where
    at_head : (a : Bool) → p x ≡ a → (b : Bool) → q x ≡ b → (length xs < count_by p xs + count_by q xs → (m : ℕ) × (p m ≡ true) × (q m ≡ true)) → (m : ℕ) × (p m ≡ true) × (q m ≡ true)
    at_head true e true f rest = (x, e, f)
    at_head true e false f rest = rest (omega (arith, count_yes p x xs e, count_no q x xs f))
    at_head false e true f rest = rest (omega (arith, count_no p x xs e, count_yes q x xs f))
    at_head false e false f rest = rest (omega (arith, count_no p x xs e, count_no q x xs f))

count_append : (p : ℕ → Bool) (xs ys : List ℕ) → count_by p (xs ++ ys) ≡ count_by p xs + count_by p ys
count_append p xs ys = sum_by-append (λ x. cond (p x) 1 0) xs ys

-- One member more in the list is at most one more in a count.
count_between : (p : ℕ → Bool) (front back : List ℕ) (x : ℕ) → count_by p (front ++ (x ∷ back)) ≤ suc (count_by p (front ++ back))
count_between p front back x = rw (count_append p front (x ∷ back), count_append p front back) (omega (arith, count_most p x back))

length_between : (front back : List ℕ) (x : ℕ) → length (front ++ (x ∷ back)) ≡ suc (length (front ++ back))
length_between front back x = grind (arith, common_steps)

meet_more : (small large : List ℕ) (p q : ℕ → Bool) → HasOneMore small large → length small < 2 * count_by p small → length large < 2 * count_by q large → (m : ℕ) × (p m ≡ true) × (q m ≡ true)
meet_more small large p q (front, back, x, es, el) hp hq = two_meet small p q (omega (arith, count_between q front back x, length_between front back x, ap (count_by q) es, ap (count_by q) el, ap length es, ap length el))

-- Quorums of adjacent configurations have a common member.
pub quorums_meet : (a b : List ℕ) (p q : ℕ → Bool) → AreAdjacent a b → length a < 2 * count_by p a → length b < 2 * count_by q b → (m : ℕ) × (p m ≡ true) × (q m ≡ true)
quorums_meet a b p q (inl e) hp hq = two_meet a p q (omega (arith, ap length e, ap (count_by q) e))
quorums_meet a b p q (inr (inl more)) hp hq = meet_more a b p q more hp hq
quorums_meet a b p q (inr (inr more)) hp hq = let r = meet_more b a q p more hq hp in (r.0, r.2, r.1)

-- The same for what quorums are known to have.
pub quorum_members_meet : (a b : List ℕ) (P Q : ℕ → Type 0) → AreAdjacent a b → HasQuorum a P → HasQuorum b Q → (m : ℕ) × P m × Q m
quorum_members_meet a b P Q near (p, hp, ip) (q, hq, iq) = let r = quorums_meet a b p q near hp hq in (r.0, ip r.0 r.1, iq r.0 r.2)

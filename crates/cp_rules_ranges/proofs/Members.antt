-- The members of configurations that bytes spell: they rise from 1 to 9.
use Rattle.std.proofs.Common.{◌≡◌, ◌≤◌, ◌<◌, ◌+◌, ◌-◌, ◌^◌, ℕ, zero, suc, ltb, leb, Bool, true, cond, List, [], ◌∷◌, ◌++◌, length, refl, ap, sym, subst, ◌∙◌, arith, Ok, Err, ltb-true, ltb-false}
use Rattle.std.specs.Prelude.{Option, Some, None, slice_get, nat_lt, ◌==◌}
use Rattle.std.specs.Option.{option_map}
use Rattle.std.specs.Int.{Width, w32, w64, byte_len, from_be_bytes}
use Rattle.std.specs.List.{AllByRecursion}
use Rattle.std.proofs.Common.{take, drop}
use Rattle.std.proofs.lemmas.List.{length-append}
use Rattle.std.proofs.lemmas.Option.{same_Some}
use Rattle.cp_grammar.specs.Grammar.{Read, ◌>>=◌, Grammar, ◌then◌}
use Rattle.cp_grammar.specs.Fields.{byte, mark_reading, number, number_reading, optional, at_least}
use Rattle.cp_grammar.specs.Lists.{items_reading, ItemsFit}
use Rattle.cp_grammar.specs.Laws.{bind_ok, ok_is, guard_ok, guard_rest, test_ok}
use Rattle.cp_grammar.specs.Common.{index, invocation, members, member_after, last_number, or_zero}
use Rattle.cp_parts.specs.declared.config.Config.{Config}
use Rattle.cp_parts.specs.declared.log_entry.LogEntry.{LogEntry}
use Rattle.cp_parts.specs.declared.snapshot_head.SnapshotHead.{SnapshotHead}
use Rattle.cp_parts.specs.Configs as configs
use Rattle.cp_parts.specs.Configs.{plan_number, config_grammar, config_in}
use Rattle.cp_parts.specs.Heads.{head_grammar, head_of, front_of}
use Rattle.cp_agreement_facts.specs.Entries.{members_in}
use Rattle.cp_log_rules.specs.Configurations.{config_or, config_after}
use Rattle.cp_rules.specs.Limits.{most_index}
use Rattle.cp_rules.specs.Changes.{with_member, without_member}
use Rattle.cp_rules.proofs.SpellingLaws.{Entry, entry_read, whole_read, config_members}
use Rattle.cp_rules_facts.proofs.Basics.{either}
use Rattle.cp_rules_ranges.specs.Ranges.{IsMember}

-- ---- what is read fits

item_fits : (before ts : List ℕ) (x : ℕ) (left : List ℕ) → (member_after before).reading ts ≡ Ok (x, left) → (member_after before).Fits x
unfolding member_after
item_fits before [] x left e = absurd cc
item_fits before (b ∷ ts) x left e =
    let rule : ℕ → Bool = (λ n. ltb (last_number before) n) in
    let a = bind_ok ((byte 9).reading (b ∷ ts)) (λ (z : ℕ × List ℕ). cond (rule z.0) (Ok z) (Err (length (b ∷ ts)))) (x, left) e in
    let g = guard_ok {A = ℕ × List ℕ} (ltb 9 b) (length (b ∷ ts)) (b, ts) a.0 a.1 in
    let t = test_ok (rule a.0.0) (length (b ∷ ts)) a.0 (x, left) a.2 in
    let same : b ≡ x = ap (λ (p : ℕ × List ℕ). p.0) (g.1 ∙ t.1) in
    (subst (λ n. n ≤ 9) same (ltb-false 9 b g.0), subst (λ (p : ℕ × List ℕ). rule p.0 ≡ true) t.1 t.0)

items_fit : (n : ℕ) (before ts ns left : List ℕ) → items_reading member_after before n ts ≡ Ok (ns, left) → (length ns ≡ n) × ItemsFit member_after before ns
unfolding items_reading ItemsFit
items_fit zero before ts ns left e =
    subst (λ (p : List ℕ × List ℕ). (length p.0 ≡ 0) × ItemsFit member_after before p.0) (ok_is {A = List ℕ × List ℕ} ([], ts) (ns, left) e) (refl, tt)
items_fit (suc n) before ts ns left e =
    let a = bind_ok ((member_after before).reading ts) (λ (x : ℕ × List ℕ). items_reading member_after (before ++ x.0 ∷ []) n x.1 >>= λ ys. Ok (x.0 ∷ ys.0, ys.1)) (ns, left) e in
    let b = bind_ok (items_reading member_after (before ++ a.0.0 ∷ []) n a.0.1) (λ (ys : List ℕ × List ℕ). Ok (a.0.0 ∷ ys.0, ys.1)) (ns, left) a.2 in
    let rest = items_fit n (before ++ a.0.0 ∷ []) a.0.1 b.0.0 b.0.1 b.1 in
    subst (λ (p : List ℕ × List ℕ). (length p.0 ≡ suc n) × ItemsFit member_after before p.0) (ok_is {A = List ℕ × List ℕ} (a.0.0 ∷ b.0.0, b.0.1) (ns, left) b.2)
    (ap suc rest.0, (item_fits before ts a.0.0 a.0.1 a.1, rest.1))

number_fits : (w : Width) (most : ℕ) (ts : List ℕ) (n : ℕ) (left : List ℕ) → number_reading w most ts ≡ Ok (n, left) → n ≤ most
unfolding number_reading
number_fits w most ts n left e =
    let front = take (byte_len w) ts in
    let g = guard_rest {A = ℕ × List ℕ} (ltb (length ts) (byte_len w)) (length ts) (cond (ltb most (from_be_bytes w front)) (Err (length ts)) (Ok (from_be_bytes w front, drop (byte_len w) ts))) (n, left) e in
    let h = guard_ok {A = ℕ × List ℕ} (ltb most (from_be_bytes w front)) (length ts) (from_be_bytes w front, drop (byte_len w) ts) (n, left) g.1 in
    subst (λ (p : ℕ × List ℕ). p.0 ≤ most) h.1 (ltb-false most (from_be_bytes w front) h.0)

pub members_fit : (ts ns left : List ℕ) → members.reading ts ≡ Ok (ns, left) → members.Fits ns
unfolding members
members_fit ts ns left e =
    let count : Grammar ℕ ℕ = at_least 1 (number w32 (2 ^ 32 - 1)) in
    let a = bind_ok (count.reading ts) (λ (k : ℕ × List ℕ). items_reading member_after [] k.0 k.1) (ns, left) e in
    let c = bind_ok ((number w32 (2 ^ 32 - 1)).reading ts) (λ (z : ℕ × List ℕ). cond (leb 1 z.0) (Ok z) (Err (length ts))) a.0 a.1 in
    let t = test_ok {A = ℕ × List ℕ} (leb 1 c.0.0) (length ts) c.0 a.0 c.2 in
    let all = items_fit a.0.0 [] a.0.1 ns left a.2 in
    let most : a.0.0 ≤ 2 ^ 32 - 1 = subst (λ (p : ℕ × List ℕ). p.0 ≤ 2 ^ 32 - 1) t.1 (number_fits w32 (2 ^ 32 - 1) ts c.0.0 c.0.1 c.1) in
    let least : leb 1 a.0.0 ≡ true = subst (λ (p : ℕ × List ℕ). leb 1 p.0 ≡ true) t.1 t.0 in
    ((subst (λ n. n ≤ 2 ^ 32 - 1) (sym all.0) most, subst (λ n. leb 1 n ≡ true) (sym all.0) least), (refl, all.1))

-- the second of two
second_read : {A B : Type 0} (g : Grammar ℕ A) (h : Grammar ℕ B) (ts : List ℕ) (y : A × B) (left : List ℕ) → (g then h).reading ts ≡ Ok (y, left)
    → (middle : List ℕ) × (g.reading ts ≡ Ok (y.0, middle)) × (h.reading middle ≡ Ok (y.1, left))
second_read {A} {B} g h ts y left e =
    let a = bind_ok (g.reading ts) (λ (z : A × List ℕ). h.reading z.1 >>= λ w. Ok ((z.0, w.0), w.1)) (y, left) e in
    let b = bind_ok (h.reading a.0.1) (λ (w : B × List ℕ). Ok ((a.0.0, w.0), w.1)) (y, left) a.2 in
    let made : (A × B) × List ℕ = ((a.0.0, b.0.0), b.0.1) in
    let same = ok_is made (y, left) b.2 in (
      a.0.1,
      a.1 ∙ ap (λ (p : (A × B) × List ℕ). Ok (p.0.0, a.0.1)) same,
      b.1 ∙ ap (λ (p : (A × B) × List ℕ). Ok (p.0.1, p.1)) same,
    )

-- ---- the members that an entry sets

pub entry_fits : (bytes ms : List ℕ) → members_in bytes ≡ Some ms → members.Fits ms
unfolding configs.members_entry
entry_fits bytes ms is =
    let x = entry_read bytes ms is in
    let r = whole_read bytes x.0 x.1 in
    let m = bind_ok {B = Entry × List ℕ} (mark_reading 4 bytes) (λ (rest : List ℕ). (optional invocation then plan_number then members).reading rest) (x.0, []) r in
    let a = second_read (optional invocation) (plan_number then members) m.0 x.0 [] m.2 in
    let b = second_read plan_number members a.0 x.0.1 [] a.2 in
    subst members.Fits x.2 (members_fit b.0 x.0.1.1 [] b.2)

set_fits : (at : ℕ) (bytes : List ℕ) (before : Config) → members.Fits before.members → members.Fits (config_or (config_in at bytes) before).members
set_fits at bytes before fits = look (config_in at bytes) (config_members at bytes)
  where
    look : (o : Option Config) → option_map (λ (c : Config). c.members) o ≡ members_in bytes → members.Fits (config_or o before).members
    look None is = fits
    look (Some c) is = entry_fits bytes c.members (sym is)

pub after_fits : (before : Config) (at : ℕ) (log : List LogEntry) → members.Fits before.members → members.Fits (config_after before at log).members
unfolding config_after
after_fits before at [] fits = fits
after_fits before at (e ∷ log) fits = after_fits (config_or (config_in (at + 1) e.bytes) before) (at + 1) log (set_fits (at + 1) e.bytes before fits)

-- ---- the head of a snapshot

pub record HeadIsInRange (head : SnapshotHead) : Type 0 where
  pub term : head.term ≤ most_index
  pub members : members.Fits head.config.members

config_fits : (ts : List ℕ) (c : Config) (left : List ℕ) → config_grammar.reading ts ≡ Ok (c, left) → members.Fits c.members
unfolding config_grammar
config_fits ts c left e =
    let made : ℕ × (ℕ × List ℕ) → Config = (λ p. record { index = p.0; plan = p.1.0; members = p.1.1 }) in
    let a = bind_ok ((index then plan_number then members).reading ts) (λ (p : (ℕ × (ℕ × List ℕ)) × List ℕ). Ok (made p.0, p.1)) (c, left) e in
    let b = second_read index (plan_number then members) ts a.0.0 a.0.1 a.1 in
    let d = second_read plan_number members b.0 a.0.0.1 a.0.1 b.2 in
    let same : made a.0.0 ≡ c = ap (λ (p : Config × List ℕ). p.0) (ok_is {A = Config × List ℕ} (made a.0.0, a.0.1) (c, left) a.2) in
    subst (λ (z : Config). members.Fits z.members) same (members_fit d.0 a.0.0.1.1 a.0.1 d.2)

head_read : (ts : List ℕ) (head : SnapshotHead) (left : List ℕ) → head_grammar.reading ts ≡ Ok (head, left) → HeadIsInRange head
unfolding head_grammar index
head_read ts head left e =
    let made : ℕ × Config → SnapshotHead = (λ p. record { term = p.0; config = p.1 }) in
    let a = bind_ok ((index then config_grammar).reading ts) (λ (p : (ℕ × Config) × List ℕ). Ok (made p.0, p.1)) (head, left) e in
    let b = second_read index config_grammar ts a.0.0 a.0.1 a.1 in
    let same : made a.0.0 ≡ head = ap (λ (p : SnapshotHead × List ℕ). p.0) (ok_is {A = SnapshotHead × List ℕ} (made a.0.0, a.0.1) (head, left) a.2) in
    subst HeadIsInRange same (record { term = number_fits w64 (2 ^ 62) ts a.0.0.0 b.0 b.1; members = config_fits b.0 a.0.0.1 a.0.1 b.2 })

pub head_in_range : (bytes : List ℕ) (head : SnapshotHead) → head_of bytes ≡ Some head → HeadIsInRange head
unfolding head_of
head_in_range bytes head is = look (head_grammar.reading bytes) refl is
  where
    look : (r : Read ℕ SnapshotHead) → head_grammar.reading bytes ≡ r → front_of r ≡ Some head → HeadIsInRange head
    look (Err left) was is = absurd cc
    look (Ok x) was is = subst HeadIsInRange (same_Some x.0 head is) (head_read bytes x.0 x.1 was)

-- ---- each is a member, and there are at most nine

get_last : (xs : List ℕ) (x : ℕ) → slice_get (xs ++ x ∷ []) (length xs) ≡ Some x
get_last [] x = refl
get_last (y ∷ xs) x = get_last xs x

last_pushed : (before : List ℕ) (m : ℕ) → last_number (before ++ m ∷ []) ≡ m
last_pushed before m =
    let len : length (before ++ m ∷ []) - 1 ≡ length before = omega (arith, length-append before (m ∷ [])) in
    ap or_zero (ap (λ place. slice_get (before ++ m ∷ []) place) len ∙ get_last before m)

few_items : (before ms : List ℕ) → last_number before ≤ 9 → ItemsFit member_after before ms → (length ms + last_number before ≤ 9) × AllByRecursion IsMember ms
unfolding member_after ItemsFit
few_items before [] small fits = (omega (arith, small), tt)
few_items before (m ∷ ms) small fits =
    let rest = few_items (before ++ m ∷ []) ms (omega (arith, last_pushed before m, fits.0.0)) fits.1 in
    let above : last_number before < m = ltb-true (last_number before) m fits.0.1 in
    let few = rest.0 in
    let high = fits.0.0 in
    (omega (arith, few, last_pushed before m, above), (record { first = omega (arith, above); last = high }, rest.1))

pub few_members : (ms : List ℕ) → members.Fits ms → length ms ≤ 9
unfolding members
few_members ms fits = let few = (few_items [] ms (omega arith) fits.1.1).0 in omega (arith, few)

pub all_members : (ms : List ℕ) → members.Fits ms → AllByRecursion IsMember ms
unfolding members
all_members ms fits = (few_items [] ms (omega arith) fits.1.1).1

-- ---- a member more or less

pub one_more : (x : ℕ) (ms : List ℕ) → length (with_member x ms) ≡ suc (length ms)
one_more x [] = refl
one_more x (m ∷ ms) = either (λ (l : List ℕ). length l ≡ suc (suc (length ms))) (nat_lt x m) (x ∷ m ∷ ms) (m ∷ with_member x ms) (λ h. refl) (λ h. ap suc (one_more x ms))

pub no_more : (x : ℕ) (ms : List ℕ) → length (without_member x ms) ≤ length ms
no_more x [] = omega arith
no_more x (m ∷ ms) = either (λ (l : List ℕ). length l ≤ suc (length ms)) (m == x) ms (m ∷ without_member x ms) (λ h. omega arith) (λ h. let rest = no_more x ms in omega (arith, rest))

-- What a snapshot that can be read begins with has a spelling.
use Rattle.std.proofs.Common.{◌≡◌, ◌≤◌, ◌^◌, ◌-◌, ltb, ℕ, cond, List, length, take, drop, refl, ap, subst, ◌∙◌, Ok, Err, ltb-false}
use Rattle.std.specs.Prelude.{Some}
use Rattle.std.specs.Int.{Width, w64, byte_len, from_be_bytes}
use Rattle.std.proofs.lemmas.Option.{same_Some}
use Rattle.cp_grammar.specs.Grammar.{Read, ◌>>=◌, Grammar, ◌then◌}
use Rattle.cp_grammar.specs.Fields.{number_reading}
use Rattle.cp_grammar.specs.Laws.{bind_ok, ok_is, guard_ok, guard_rest}
use Rattle.cp_grammar.specs.Common.{index, members}
use Rattle.cp_parts.specs.declared.config.Config.{Config}
use Rattle.cp_parts.specs.declared.snapshot_head.SnapshotHead.{SnapshotHead}
use Rattle.cp_parts.specs.Configs.{plan_number, config_grammar}
use Rattle.cp_parts.specs.Heads.{head_grammar, head_of, front_of}
use Rattle.cp_rules_ranges.proofs.Members.{members_fit}

number_fits : (w : Width) (most : ℕ) (ts : List ℕ) (n : ℕ) (left : List ℕ) → number_reading w most ts ≡ Ok (n, left) → n ≤ most
unfolding number_reading
number_fits w most ts n left e =
    let front = take (byte_len w) ts in
    let g = guard_rest {A = ℕ × List ℕ} (ltb (length ts) (byte_len w)) (length ts) (cond (ltb most (from_be_bytes w front)) (Err (length ts)) (Ok (from_be_bytes w front, drop (byte_len w) ts))) (n, left) e in
    let h = guard_ok {A = ℕ × List ℕ} (ltb most (from_be_bytes w front)) (length ts) (from_be_bytes w front, drop (byte_len w) ts) (n, left) g.1 in
    subst (λ (p : ℕ × List ℕ). p.0 ≤ most) h.1 (ltb-false most (from_be_bytes w front) h.0)

-- each of two, one after the other
both_read : {A B : Type 0} (g : Grammar ℕ A) (h : Grammar ℕ B) (ts : List ℕ) (y : A × B) (left : List ℕ) → (g then h).reading ts ≡ Ok (y, left)
    → (middle : List ℕ) × (g.reading ts ≡ Ok (y.0, middle)) × (h.reading middle ≡ Ok (y.1, left))
both_read {A} {B} g h ts y left e =
    let a = bind_ok (g.reading ts) (λ (z : A × List ℕ). h.reading z.1 >>= λ w. Ok ((z.0, w.0), w.1)) (y, left) e in
    let b = bind_ok (h.reading a.0.1) (λ (w : B × List ℕ). Ok ((a.0.0, w.0), w.1)) (y, left) a.2 in
    let made : (A × B) × List ℕ = ((a.0.0, b.0.0), b.0.1) in
    let same = ok_is made (y, left) b.2 in (
      a.0.1,
      a.1 ∙ ap (λ (p : (A × B) × List ℕ). Ok (p.0.0, a.0.1)) same,
      b.1 ∙ ap (λ (p : (A × B) × List ℕ). Ok (p.0.1, p.1)) same,
    )

config_fits : (ts : List ℕ) (c : Config) (left : List ℕ) → config_grammar.reading ts ≡ Ok (c, left) → config_grammar.Fits c
unfolding config_grammar index
config_fits ts c left e =
    let made : ℕ × (ℕ × List ℕ) → Config = (λ p. record { index = p.0; plan = p.1.0; members = p.1.1 }) in
    let a = bind_ok ((index then plan_number then members).reading ts) (λ (p : (ℕ × (ℕ × List ℕ)) × List ℕ). Ok (made p.0, p.1)) (c, left) e in
    let b = both_read index (plan_number then members) ts a.0.0 a.0.1 a.1 in
    let d = both_read plan_number members b.0 a.0.0.1 a.0.1 b.2 in
    let same : made a.0.0 ≡ c = ap (λ (p : Config × List ℕ). p.0) (ok_is {A = Config × List ℕ} (made a.0.0, a.0.1) (c, left) a.2) in
    subst config_grammar.Fits same ((number_fits w64 (2 ^ 62) ts a.0.0.0 b.0 b.1, (number_fits w64 (2 ^ 64 - 1) b.0 a.0.0.1.0 d.0 d.1, members_fit d.0 a.0.0.1.1 a.0.1 d.2)), refl)

head_read : (ts : List ℕ) (head : SnapshotHead) (left : List ℕ) → head_grammar.reading ts ≡ Ok (head, left) → head_grammar.Fits head
unfolding head_grammar index
head_read ts head left e =
    let made : ℕ × Config → SnapshotHead = (λ p. record { term = p.0; config = p.1 }) in
    let a = bind_ok ((index then config_grammar).reading ts) (λ (p : (ℕ × Config) × List ℕ). Ok (made p.0, p.1)) (head, left) e in
    let b = both_read index config_grammar ts a.0.0 a.0.1 a.1 in
    let same : made a.0.0 ≡ head = ap (λ (p : SnapshotHead × List ℕ). p.0) (ok_is {A = SnapshotHead × List ℕ} (made a.0.0, a.0.1) (head, left) a.2) in
    subst head_grammar.Fits same ((number_fits w64 (2 ^ 62) ts a.0.0.0 b.0 b.1, config_fits b.0 a.0.0.1 a.0.1 b.2), refl)

pub head_fits : (bytes : List ℕ) (head : SnapshotHead) → head_of bytes ≡ Some head → head_grammar.Fits head
unfolding head_of
head_fits bytes head is = look (head_grammar.reading bytes) refl is
  where
    look : (r : Read ℕ SnapshotHead) → head_grammar.reading bytes ≡ r → front_of r ≡ Some head → head_grammar.Fits head
    look (Err left) was is = absurd cc
    look (Ok x) was is = subst head_grammar.Fits (same_Some x.0 head is) (head_read bytes x.0 x.1 was)

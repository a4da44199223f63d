-- A members entry spells the members that it sets, and a snapshot's head is read from its bytes.
use Rattle.std.proofs.Common.{◌≡◌, ℕ, zero, suc, ◌-◌, ◌^◌, ltb, leb, eqb, Bool, cond, List, [], ◌∷◌, ◌++◌, length, take, drop, refl, ap, sym, ◌∙◌, Ok, Err, append_assoc}
use Rattle.std.specs.Prelude.{Option, Some, None, Result}
use Rattle.std.specs.Option.{option_map}
use Rattle.std.specs.Int.{Width, w32, w64, byte_len, from_be_bytes}
use Rattle.std.proofs.lemmas.List.{drop_at, append-nil, nil_from_length}
use Rattle.std.proofs.lemmas.Bool.{eqb-true}
use Rattle.std.proofs.lemmas.Option.{same_Some}
use Rattle.cp_base.specs.declared.identifier.Invocation.{Invocation}
use Rattle.cp_codec.specs.Fields.{big_endian}
use Rattle.cp_codec.proofs.Wide.{IsWide, wide32, wide64}
use Rattle.cp_grammar.specs.Grammar.{Read, ◌>>=◌, Grammar, tokens, checked, ◌then◌, mapped, placed, whole}
use Rattle.cp_grammar.specs.Fields.{byte, number, number_reading, mark_reading, optional}
use Rattle.cp_grammar.specs.Lists.{items_reading, items_spelling}
use Rattle.cp_grammar.specs.Laws.{bind_ok, ok_is, guard_ok, guard_rest, test_ok}
use Rattle.cp_grammar.specs.Common.{index, client_id, thread_no, invocation, members, member_after, last_number}
use Rattle.cp_parts.specs.declared.config.Config.{Config}
use Rattle.cp_parts.specs.Configs as configs
use Rattle.cp_parts.specs.Configs.{plan_number, brought_at, config_in}
use Rattle.cp_parts.specs.Heads.{head_of, front_of}
use Rattle.cp_parts.specs.Laws.{head_lawful}
use Rattle.cp_agreement_facts.specs.Entries.{members_in}
use Rattle.cp_rules.specs.Spelling.{empty_entry, members_entry, ChangesAreSpelled, SnapshotsReadBack}

pub snapshots_read_back : SnapshotsReadBack
unfolding head_of
snapshots_read_back head machine fits = ap front_of (head_lawful.again head machine fits)

-- ---- what is read where a value was spelled leaves what follows

abbrev pub Entry : Type 0
Entry = Option Invocation × (ℕ × List ℕ)

abbrev Leaves : {A : Type 0} → Grammar ℕ A → A → Type 0
Leaves {A} g x = (rest : List ℕ) (y : A) (left : List ℕ) → g.reading (g.spelling x ++ rest) ≡ Ok (y, left) → left ≡ rest

second : {A : Type 0} (x y : A) (a b : List ℕ) → ◌≡◌ {A = Result (A × List ℕ) ℕ} (Ok (x, a)) (Ok (y, b)) → a ≡ b
second {A} x y a b e = ap (λ (p : A × List ℕ). p.1) (ok_is (x, a) (y, b) e)

mapped_leaves : {A B : Type 0} (make : A → B) (parts : B → A) (g : Grammar ℕ A) (x : B) → Leaves g (parts x) → Leaves (mapped make parts g) x
mapped_leaves {A} {B} make parts g x leaves rest y left e =
    let a = bind_ok (g.reading (g.spelling (parts x) ++ rest)) (λ (z : A × List ℕ). Ok (make z.0, z.1)) (y, left) e in
    sym (second {A = B} (make a.0.0) y a.0.1 left a.2) ∙ leaves rest a.0.0 a.0.1 a.1

checked_leaves : {A : Type 0} (g : Grammar ℕ A) (rule : A → Bool) (x : A) → Leaves g x → Leaves (checked g rule) x
checked_leaves {A} g rule x leaves rest y left e =
    let ts = g.spelling x ++ rest in
    let a = bind_ok (g.reading ts) (λ (z : A × List ℕ). cond (rule z.0) (Ok z) (Err (length ts))) (y, left) e in
    let t = test_ok (rule a.0.0) (length ts) a.0 (y, left) a.2 in
    sym (ap (λ (p : A × List ℕ). p.1) t.1) ∙ leaves rest a.0.0 a.0.1 a.1

tokens_leave : (n : ℕ) (xs : List ℕ) → length xs ≡ n → Leaves (tokens n) xs
tokens_leave n xs long rest y left e =
    let ts = xs ++ rest in
    let g = guard_ok {A = List ℕ × List ℕ} (ltb (length ts) n) (length ts) (take n ts, drop n ts) (y, left) e in
    sym (ap (λ (p : List ℕ × List ℕ). p.1) g.1) ∙ drop_at xs rest n long

byte_leaves : (most n : ℕ) → Leaves (byte most) n
byte_leaves most n rest y left e = sym (ap (λ (p : ℕ × List ℕ). p.1) (guard_ok {A = ℕ × List ℕ} (ltb most n) (length (n ∷ rest)) (n, rest) (y, left) e).1)

number_leaves : (w : Width) (limit most n : ℕ) → IsWide w limit → Leaves (number w most) n
unfolding big_endian number_reading
number_leaves w limit most n wide rest y left e =
    let ts = big_endian w n ++ rest in
    let front = take (byte_len w) ts in
    let g = guard_rest {A = ℕ × List ℕ} (ltb (length ts) (byte_len w)) (length ts) (cond (ltb most (from_be_bytes w front)) (Err (length ts)) (Ok (from_be_bytes w front, drop (byte_len w) ts))) (y, left) e in
    let h = guard_ok {A = ℕ × List ℕ} (ltb most (from_be_bytes w front)) (length ts) (from_be_bytes w front, drop (byte_len w) ts) (y, left) g.1 in
    sym (ap (λ (p : ℕ × List ℕ). p.1) h.1) ∙ drop_at (big_endian w n) rest (byte_len w) (wide.len n)

-- the second of two
behind : {A B : Type 0} (g : Grammar ℕ A) (h : Grammar ℕ B) (x : A) (more : List ℕ) (y : A × B) (left : List ℕ) → Leaves g x → (g then h).reading (g.spelling x ++ more) ≡ Ok (y, left) → h.reading more ≡ Ok (y.1, left)
behind {A} {B} g h x more y left leaves e =
    let a = bind_ok (g.reading (g.spelling x ++ more)) (λ (z : A × List ℕ). h.reading z.1 >>= λ w. Ok ((z.0, w.0), w.1)) (y, left) e in
    let b = bind_ok (h.reading a.0.1) (λ (w : B × List ℕ). Ok ((a.0.0, w.0), w.1)) (y, left) a.2 in
    let made : (A × B) × List ℕ = ((a.0.0, b.0.0), b.0.1) in
    let same = ok_is made (y, left) b.2 in
    ap h.reading (sym (leaves more a.0.0 a.0.1 a.1)) ∙ b.1 ∙ ap (λ (p : (A × B) × List ℕ). Ok (p.0.1, p.1)) same

then_leaves : {A B : Type 0} (g : Grammar ℕ A) (h : Grammar ℕ B) (x : A × B) → Leaves g x.0 → Leaves h x.1 → Leaves (g then h) x
then_leaves {A} {B} g h x first rest_leaves rest y left e =
    let regrouped : (g then h).reading (g.spelling x.0 ++ (h.spelling x.1 ++ rest)) ≡ Ok (y, left) = ap (g then h).reading (sym (append_assoc (g.spelling x.0) (h.spelling x.1) rest)) ∙ e in
    rest_leaves rest y.1 left (behind g h x.0 (h.spelling x.1 ++ rest) y left first regrouped)

invocation_leaves : (call : Invocation) → length call.client.0 ≡ 16 → Leaves invocation call
unfolding invocation client_id thread_no index
invocation_leaves call long = mapped_leaves (λ p. record { client = p.0; thread = p.1.0; number = p.1.1 }) (λ i. (i.client, (i.thread, i.number))) (client_id then thread_no then index) call
    (then_leaves client_id (thread_no then index) (call.client, (call.thread, call.number))
    (mapped_leaves (λ b. record { 0 = b }) (λ c. c.0) (tokens 16) call.client (tokens_leave 16 call.client.0 long))
    (then_leaves thread_no index (call.thread, call.number)
    (mapped_leaves (λ n. record { 0 = n }) (λ t. t.0) (byte 8) call.thread (byte_leaves 8 call.thread.0))
    (number_leaves w64 (2 ^ 64) (2 ^ 62) call.number wide64)))

caller_leaves : (call : Option Invocation) → ((c : Invocation) → call ≡ Some c → length c.client.0 ≡ 16) → Leaves (optional invocation) call
caller_leaves None named rest y left e = sym (second {A = Option Invocation} None y rest left e)
caller_leaves (Some call) named rest y left e =
    let a = bind_ok (invocation.reading (invocation.spelling call ++ rest)) (λ (z : Invocation × List ℕ). Ok (Some z.0, z.1)) (y, left) e in
    sym (second {A = Option Invocation} (Some a.0.0) y a.0.1 left a.2) ∙ invocation_leaves call (named call refl) rest a.0.0 a.0.1 a.1

-- ---- members are their own bytes

spelled_members : (before ms : List ℕ) → items_spelling member_after before ms ≡ ms
unfolding items_spelling member_after
spelled_members before [] = refl
spelled_members before (m ∷ ms) = ap (λ l. m ∷ l) (spelled_members (before ++ m ∷ []) ms)

item_read : (before ts : List ℕ) (x : ℕ) (left : List ℕ) → (member_after before).reading ts ≡ Ok (x, left) → ts ≡ x ∷ left
unfolding member_after
item_read before [] x left e = absurd cc
item_read before (b ∷ ts) x left e =
    let rule : ℕ → Bool = (λ n. ltb (last_number before) n) in
    let a = bind_ok ((byte 9).reading (b ∷ ts)) (λ (z : ℕ × List ℕ). cond (rule z.0) (Ok z) (Err (length (b ∷ ts)))) (x, left) e in
    let g = guard_ok {A = ℕ × List ℕ} (ltb 9 b) (length (b ∷ ts)) (b, ts) a.0 a.1 in
    let t = test_ok (rule a.0.0) (length (b ∷ ts)) a.0 (x, left) a.2 in
    ap (λ (p : ℕ × List ℕ). p.0 ∷ p.1) (g.1 ∙ t.1)

items_read : (n : ℕ) (before ts ns left : List ℕ) → items_reading member_after before n ts ≡ Ok (ns, left) → ts ≡ ns ++ left
unfolding items_reading
items_read zero before ts ns left e = ap (λ (p : List ℕ × List ℕ). p.0 ++ p.1) (ok_is {A = List ℕ × List ℕ} ([], ts) (ns, left) e)
items_read (suc n) before ts ns left e =
    let a = bind_ok ((member_after before).reading ts) (λ (x : ℕ × List ℕ). items_reading member_after (before ++ x.0 ∷ []) n x.1 >>= λ ys. Ok (x.0 ∷ ys.0, ys.1)) (ns, left) e in
    let b = bind_ok (items_reading member_after (before ++ a.0.0 ∷ []) n a.0.1) (λ (ys : List ℕ × List ℕ). Ok (a.0.0 ∷ ys.0, ys.1)) (ns, left) a.2 in
    let same = ok_is {A = List ℕ × List ℕ} (a.0.0 ∷ b.0.0, b.0.1) (ns, left) b.2 in
    item_read before ts a.0.0 a.0.1 a.1 ∙ ap (λ l. a.0.0 ∷ l) (items_read n (before ++ a.0.0 ∷ []) a.0.1 b.0.0 b.0.1 b.1) ∙ ap (λ (p : List ℕ × List ℕ). p.0 ++ p.1) same

members_read : (ms ns : List ℕ) → members.reading (members.spelling ms) ≡ Ok (ns, []) → ns ≡ ms
unfolding members
members_read ms ns e =
    let count : Grammar ℕ ℕ = checked (number w32 (2 ^ 32 - 1)) (λ n. leb 1 n) in
    let listed = items_spelling member_after [] ms in
    let a = bind_ok (count.reading (count.spelling (length ms) ++ listed)) (λ (k : ℕ × List ℕ). items_reading member_after [] k.0 k.1) (ns, []) e in
    let rest = checked_leaves (number w32 (2 ^ 32 - 1)) (λ n. leb 1 n) (length ms) (number_leaves w32 (2 ^ 32) (2 ^ 32 - 1) (length ms) wide32) listed a.0.0 a.0.1 a.1 in
    sym (append-nil ns) ∙ sym (items_read a.0.0 [] a.0.1 ns [] a.2) ∙ rest ∙ spelled_members [] ms

-- ---- the whole entry

pub whole_read : (bytes : List ℕ) (e : Entry) → whole configs.members_entry bytes ≡ Ok e → configs.members_entry.reading bytes ≡ Ok (e, [])
unfolding whole
whole_read bytes e is = go (configs.members_entry.reading bytes) is
  where
    go : (r : Read ℕ Entry) → placed (length bytes) r ≡ Ok e → r ≡ Ok (e, [])
    go (Ok x) is =
        let t = test_ok {A = Entry} (eqb (length x.1) 0) (length bytes - length x.1) x.0 e is in
        let none : x.1 ≡ [] = nil_from_length x.1 (eqb-true _ _ t.0) in
        ap (λ (l : List ℕ). Ok (x.0, l)) none ∙ ap (λ (y : Entry). Ok (y, [])) t.1
    go (Err place) is = absurd cc

-- where bytes are read as a members entry, they set its members
abbrev pub MembersOf : Result Entry ℕ → List ℕ → Type 0
MembersOf r ms = (e : Entry) × (r ≡ Ok e) × (e.1.1 ≡ ms)

pub entry_read : (bytes ms : List ℕ) → members_in bytes ≡ Some ms → MembersOf (whole configs.members_entry bytes) ms
unfolding members_in config_in
entry_read bytes ms is = go (whole configs.members_entry bytes) is
  where
    go : (r : Result Entry ℕ) → option_map (λ (c : Config). c.members) (brought_at 0 r) ≡ Some ms → MembersOf r ms
    go (Ok e) is = (e, refl, same_Some e.1.1 ms is)
    go (Err place) is = absurd cc

pub entry_members : ChangesAreSpelled
unfolding configs.members_entry mark_reading
entry_members call plan ms ns named h =
    let x = entry_read (members_entry call plan ms) ns h in
    let r = whole_read (members_entry call plan ms) x.0 x.1 in
    let caller = (optional invocation).spelling call in
    let numbers = big_endian w64 plan ++ members.spelling ms in
    let a : (optional invocation then plan_number then members).reading (caller ++ numbers) ≡ Ok (x.0, []) = r in
    let b = behind (optional invocation) (plan_number then members) call numbers x.0 [] (caller_leaves call named) a in
    let c = behind plan_number members plan (members.spelling ms) x.0.1 [] (number_leaves w64 (2 ^ 64) (2 ^ 64 - 1) plan wide64) b in
    sym x.2 ∙ members_read ms x.0.1.1 c

-- ---- entries of other kinds, and entries at an index

pub empty_sets_none : members_in empty_entry ≡ None
unfolding members_in config_in configs.members_entry whole mark_reading
empty_sets_none = refl

-- wherever an entry stands, its configuration has the members that it sets
pub config_members : (at : ℕ) (bytes : List ℕ) → option_map (λ (c : Config). c.members) (config_in at bytes) ≡ members_in bytes
unfolding members_in config_in
config_members at bytes = go (whole configs.members_entry bytes)
  where
    go : (r : Result Entry ℕ) → option_map (λ (c : Config). c.members) (brought_at at r) ≡ option_map (λ (c : Config). c.members) (brought_at 0 r)
    go (Ok e) = refl
    go (Err place) = refl

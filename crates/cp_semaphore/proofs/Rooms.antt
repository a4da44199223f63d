-- What goes back fits.
use Rattle.std.proofs.Common.{◌≡◌, ◌+◌, ◌^◌, ◌<◌, ◌≤◌, ℕ, Bool, true, false, List, [], ◌∷◌, Option, Some, None, refl, ap, sym, ◌∙◌, subst, arith}
use Rattle.std.specs.Prelude.{ℤ, pos, neg_ℤ, ◌+ℤ◌, ◌≤ℤ◌, ◌<ℤ◌, bytes_eq, unwrap_or, if◌then◌else◌}
use Rattle.std.specs.BTreeMap.{BTreeMap, is_at}
use Rattle.std.specs.Ordering.{nat_cmp}
use Rattle.std.proofs.lemmas.Int.{ints}
use Rattle.cp_base.proofs.Tests.{bytes_itself}
use Rattle.cp_op_values.specs.declared.kind.Kind.TheVariants as kind
use Rattle.cp_group_state.specs.Rows.{Object, find, put, object_cmp}
use Rattle.cp_group_state.specs.Semaphores.{held, with_back}
use Rattle.cp_group_state.specs.Invariants.{held_by_all}
use Rattle.cp_group_state.specs.declared.rows.SemaphoreRow.{SemaphoreRow}
use Rattle.cp_group_state.proofs.Keyed.{equal_is, object_key, find-put_same, find-put_other}
use Rattle.cp_semaphore.specs.Nested.{flat, found, found_in}
use Rattle.cp_semaphore.specs.Tables.{seen, IsTable, IsMet}
use Rattle.cp_semaphore.specs.Backs.{back_at, back_one, amount, HasRoom, CanBack}
use Rattle.cp_semaphore.specs.declared.tables.Tables.{Tables}
use Rattle.cp_semaphore.proofs.Flattening.{held-flat}
use Rattle.cp_semaphore.proofs.Soundness.{balance-at, one-of-all}
use Rattle.cp_semaphore.proofs.Together.{amount-found}

room-high : (a t : ℤ) (n h : ℕ) → a ≤ℤ t → t <ℤ pos (2 ^ 32) → n ≤ h → h < 2 ^ 33 → (a +ℤ pos n) <ℤ pos (2 ^ 34)
room-high a t n h between high few fits = omega (arith, ints)

-- what a session holds of a semaphore that a call meets
pub room-met : (t : Tables) (key : Object) (row : SemaphoreRow) (session n : ℕ) → IsMet t key row → n ≤ held (flat t.holdings.entries) session key.0 → HasRoom row n
room-met t key row session n met few = record {
  low = met.range.low;
  high = room-high row.available row.total n (held (flat t.holdings.entries) session key.0) met.range.between met.range.high few (met.fits session);
}

-- all that stands under names
abbrev pub Rooms : List (List ℕ × ℕ) → List (Object × SemaphoreRow) → Type 0
Rooms es rows = (name : List ℕ) (row : SemaphoreRow) → find object_cmp rows (name, kind.Sem) ≡ Some row → HasRoom row (amount es name)

room-less : (a : ℤ) (n m k : ℕ) → k ≡ n + m → (a +ℤ pos k) <ℤ pos (2 ^ 34) → (a +ℤ pos n) <ℤ pos (2 ^ 34)
room-less a n m k is h = omega (arith, ints)

room-after : (a : ℤ) (n m k : ℕ) → k ≡ n + m → (a +ℤ pos k) <ℤ pos (2 ^ 34) → ((a +ℤ pos n) +ℤ pos m) <ℤ pos (2 ^ 34)
room-after a n m k is h = omega (arith, ints)

low-after : (a : ℤ) (n : ℕ) → neg_ℤ (pos (2 ^ 31)) ≤ℤ a → neg_ℤ (pos (2 ^ 31)) ≤ℤ (a +ℤ pos n)
low-after a n h = omega (arith, ints)

some_is : (a b : SemaphoreRow) → Some a ≡ Some b → a ≡ b
some_is a b e = cc

amount-here : (e : List ℕ × ℕ) (es : List (List ℕ × ℕ)) → amount (e ∷ es) e.0 ≡ e.1 + amount es e.0
amount-here e es = rw (bytes_itself e.0) refl

rooms-one : (e : List ℕ × ℕ) (es : List (List ℕ × ℕ)) (rows : List (Object × SemaphoreRow)) → Rooms (e ∷ es) rows → Rooms es (back_one rows (e.0, kind.Sem) e.1)
rooms-one e es rows rooms name row = at (find object_cmp rows (e.0, kind.Sem)) refl
  where
    -- with as much under its name or more
    less : (row : SemaphoreRow) → HasRoom row (amount (e ∷ es) name) → HasRoom row (amount es name)
    less row room = record { low = room.low; high = room-less row.available (amount es name) (if bytes_eq name e.0 then e.1 else 0) (amount (e ∷ es) name) sums room.high }
      where
        sums : amount (e ∷ es) name ≡ amount es name + (if bytes_eq name e.0 then e.1 else 0)
        sums = omega arith

    here : (old : SemaphoreRow) → find object_cmp rows (e.0, kind.Sem) ≡ Some old → HasRoom (with_back e.1 old) (amount es e.0)
    here old there = let room = rooms e.0 old there in record { low = low-after old.available e.1 room.low; high = room-after old.available e.1 (amount es e.0) (amount (e ∷ es) e.0) (amount-here e es) room.high }

    no_some : (row : SemaphoreRow) → None ≡ Some row → ⊥
    no_some row e = cc

    at : (o : Option SemaphoreRow) → find object_cmp rows (e.0, kind.Sem) ≡ o → find object_cmp (back_at rows (e.0, kind.Sem) e.1 o) (name, kind.Sem) ≡ Some row → HasRoom row (amount es name)
    at None is there = less row (rooms name row there)
    at (Some old) is there = by (is_at (object_cmp (name, kind.Sem)) (e.0, kind.Sem)) refl
      where
        by : (b : Bool) → is_at (object_cmp (name, kind.Sem)) (e.0, kind.Sem) ≡ b → HasRoom row (amount es name)
        by false far = less row (rooms name row (sym (find-put_other object_cmp object_key rows (e.0, kind.Sem) (name, kind.Sem) (with_back e.1 old) far) ∙ there))
        by true near = let key : (name, kind.Sem) ≡ (e.0, kind.Sem) = object_key.same (name, kind.Sem) (e.0, kind.Sem) (equal_is _ near) in
            let same : name ≡ e.0 = ap (λ (k : Object). k.0) key in
            let put_is : find object_cmp (put object_cmp rows (e.0, kind.Sem) (with_back e.1 old)) (name, kind.Sem) ≡ Some (with_back e.1 old) =
            ap (λ (k : Object). find object_cmp (put object_cmp rows (e.0, kind.Sem) (with_back e.1 old)) k) key ∙ find-put_same object_cmp object_key rows (e.0, kind.Sem) (with_back e.1 old) in
            subst (λ (r : SemaphoreRow). HasRoom r (amount es name)) (some_is (with_back e.1 old) row (sym put_is ∙ there))
            (subst (λ (n : List ℕ). HasRoom (with_back e.1 old) (amount es n)) (sym same) (here old is))

can-rooms : (es : List (List ℕ × ℕ)) (rows : List (Object × SemaphoreRow)) → Rooms es rows → CanBack es rows
can-rooms [] rows rooms = tt
can-rooms (e ∷ es) rows rooms = (λ row there. first row (rooms e.0 row there), can-rooms es (back_one rows (e.0, kind.Sem) e.1) (rooms-one e es rows rooms))
  where
    first : (row : SemaphoreRow) → HasRoom row (amount (e ∷ es) e.0) → HasRoom row e.1
    first row room = record { low = room.low; high = room-less row.available e.1 (amount es e.0) (amount (e ∷ es) e.0) (amount-here e es) room.high }

room-sound : (t a : ℤ) (n h : ℕ) → t ≡ a +ℤ pos h → n ≤ h → t <ℤ pos (2 ^ 32) → (a +ℤ pos n) <ℤ pos (2 ^ 34)
room-sound t a n h is few high = omega (arith, ints)

-- what a session holds under names is what the list says
pub held-amount : (t : Tables) (session : ℕ) (inner : BTreeMap (List ℕ) ℕ) (name : List ℕ) → IsTable t → find nat_cmp t.holdings.entries session ≡ Some inner → amount inner.entries name ≡ held (flat t.holdings.entries) session name
held-amount t session inner name is there = amount-found name inner.entries (is.nested.names session inner there)
    ∙ ap (λ (o : Option ℕ). unwrap_or o 0) (ap (λ (o : Option (BTreeMap (List ℕ) ℕ)). found_in o name) (sym there))
    ∙ held-flat t.holdings.entries session name is.nested

pub can-back : (t : Tables) (session : ℕ) (inner : BTreeMap (List ℕ) ℕ) → IsTable t → find nat_cmp t.holdings.entries session ≡ Some inner → CanBack inner.entries t.rows.entries
can-back t session inner is there = can-rooms inner.entries t.rows.entries rooms
  where
    rooms : Rooms inner.entries t.rows.entries
    rooms name row found = record {
      low = (is.sound.within (name, kind.Sem) row found).low;
      high = room-sound row.total row.available (amount inner.entries name) (held_by_all name (flat t.holdings.entries)) (balance-at (seen t) (name, kind.Sem) row is.sound.balanced found) few (is.sound.within (name, kind.Sem) row found).high;
    }
      where
        few : amount inner.entries name ≤ held_by_all name (flat t.holdings.entries)
        few = let same = held-amount t session inner name is there in let one = one-of-all session name (flat t.holdings.entries) in omega arith

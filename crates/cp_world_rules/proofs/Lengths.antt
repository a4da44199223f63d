-- Lengths and events of rows: entries stand in the order of their events, and each row has the length of its moment.
use Rattle.std.proofs.Common.{◌≡◌, ℕ, ◌+◌, ◌<◌, ◌≤◌, ◌⊎◌, inl, inr, List, [], ◌∷◌, ◌++◌, Some, refl, sym, subst, ap, arith, length, map, le_refl, le_trans}
use Rattle.std.specs.Prelude.{Contains, slice_get}
use Rattle.std.proofs.lemmas.List.{length_push}
use Rattle.std.proofs.lemmas.List.Elements.{Contains-append_cases}
use Rattle.cp_base.specs.declared.identifier.ClientNo.{ClientNo}
use Rattle.cp_base.specs.declared.identifier.GroupId.{GroupId}
use Rattle.cp_base.proofs.Tests.{none_some}
use Rattle.cp_ops.specs.declared.entry.Entry.TheVariants as entry
use Rattle.cp_group_causes.proofs.Lists.{get-contains, get-in, mapped, no-element}
use Rattle.cp_client_rules.specs.Asking.{default_group}
use Rattle.cp_client_rules.specs.Clients.{Asked, Did}
use Rattle.cp_world_rules.specs.Rows.{Committed, End, Request}
use Rattle.cp_world_rules.specs.World.{World, begins_now, commit, ends_now, note}
use Rattle.cp_world_rules.specs.Entries.{EventsRise, IsLengthAt}
use Rattle.cp_world_rules.proofs.Lists.{get-append, one-there}
use Rattle.cp_world_rules.proofs.Walking.{IsKeptBetween}

-- a row's place in time
pub record IsPlaced (history : List Committed) (now : ℕ) (group : GroupId) (event len : ℕ) : Type 0 where
  pub in_group : group ≡ default_group
  pub length_is : IsLengthAt history event len
  pub by_now : event ≤ now

-- events and lengths never fall
abbrev pub InOrder : {X : Type 0} → (X → ℕ) → (X → ℕ) → List X → Type 0
InOrder {X} event len rows = (j k : ℕ) (a b : X) → j ≤ k → slice_get rows j ≡ Some a → slice_get rows k ≡ Some b → (event a ≤ event b) × (len a ≤ len b)

-- rows of now, behind rows that are not later
order-more : {X : Type 0} (event len : X → ℕ) (rows more : List X) (now size : ℕ) → ((a : X) → Contains rows a → (event a ≤ now) × (len a ≤ size)) → ((b : X) → Contains more b → (event b ≡ now) × (len b ≡ size)) → InOrder event len rows → InOrder event len (rows ++ more)
order-more {X} event len rows more now size old new h j k a b l at_j at_k = by (get-append rows more j a at_j) (get-append rows more k b at_k) where
  by : ((slice_get rows j ≡ Some a) × (j < length rows)) ⊎ ((i : ℕ) × (j ≡ length rows + i) × (slice_get more i ≡ Some a)) → ((slice_get rows k ≡ Some b) × (k < length rows)) ⊎ ((i : ℕ) × (k ≡ length rows + i) × (slice_get more i ≡ Some b)) → (event a ≤ event b) × (len a ≤ len b)
  by (inl x) (inl y) = h j k a b l x.0 y.0
  by (inl x) (inr y) = let p = old a (get-contains rows j a x.0) in let q = new b (get-contains more y.0 b y.2) in let p0 = p.0 in let p1 = p.1 in let q0 = q.0 in let q1 = q.1 in (omega (arith, p0, q0), omega (arith, p1, q1))
  by (inr x) (inl y) = let e = x.1 in let f = y.1 in absurd (omega (arith, e, f, l))
  by (inr x) (inr y) = let p = new a (get-contains more x.0 a x.2) in let q = new b (get-contains more y.0 b y.2) in let p0 = p.0 in let p1 = p.1 in let q0 = q.0 in let q1 = q.1 in (omega (arith, p0, q0), omega (arith, p1, q1))

pub record Measured (w : World) : Type 0 where
  pub rises : EventsRise w.history
  pub by_now : (place : ℕ) (c : Committed) → slice_get w.history place ≡ Some c → c.event ≤ w.shown.number
  pub requests : (r : Request) → Contains w.requests r → IsPlaced w.history w.shown.number r.group r.event r.length
  pub ends : (e : End) → Contains w.ends e → IsPlaced w.history w.shown.number e.group e.event e.length
  pub requests_order : InOrder (λ (r : Request). r.event) (λ (r : Request). r.length) w.requests
  pub ends_order : InOrder (λ (e : End). e.event) (λ (e : End). e.length) w.ends

-- a row that is made now
placed-now : (w : World) → Measured w → IsPlaced w.history w.shown.number default_group w.shown.number (length w.history)
placed-now w m = record {
  in_group = refl;
  length_is = record { within = le_refl (length w.history); before = λ place c at l. m.by_now place c at; behind = λ place c at l. let k = get-in w.history place c at in absurd (omega (arith, l, k)) };
  by_now = le_refl w.shown.number;
}

placed-later : (history : List Committed) (now later : ℕ) (group : GroupId) (event len : ℕ) → now ≤ later → IsPlaced history now group event len → IsPlaced history later group event len
placed-later history now later group event len l p = record { in_group = p.in_group; length_is = p.length_is; by_now = le_trans p.by_now l }

-- an entry more
placed-longer : (history : List Committed) (c : Committed) (now : ℕ) (group : GroupId) (event len : ℕ) → c.event ≡ now → IsPlaced history now group event len → IsPlaced (history ++ c ∷ []) now group event len
placed-longer history c now group event len is p = record {
  in_group = p.in_group;
  length_is = record { within = (let l = p.length_is.within in let n = length_push history c in omega (arith, l, n)); before = λ place d at l. before place d (get-append history (c ∷ []) place d at) l; behind = λ place d at l. behind place d (get-append history (c ∷ []) place d at) l };
  by_now = p.by_now;
}
  where
    before : (place : ℕ) (d : Committed) → ((slice_get history place ≡ Some d) × (place < length history)) ⊎ ((k : ℕ) × (place ≡ length history + k) × (slice_get (c ∷ []) k ≡ Some d)) → place < len → d.event ≤ event
    before place d (inl h) l = p.length_is.before place d h.0 l
    before place d (inr h) l = let e = h.1 in let k = p.length_is.within in absurd (omega (arith, e, k, l))

    behind : (place : ℕ) (d : Committed) → ((slice_get history place ≡ Some d) × (place < length history)) ⊎ ((k : ℕ) × (place ≡ length history + k) × (slice_get (c ∷ []) k ≡ Some d)) → len ≤ place → event ≤ d.event
    behind place d (inl h) l = p.length_is.behind place d h.0 l
    behind place d (inr h) l = let e = ap (λ (x : Committed). x.event) (one-there c h.0 d h.2).1 in let k = p.by_now in omega (arith, e, is, k)

module _ (a : Asked) (w : World) (m : Measured w) where
  abbrev here : Committed
  here = record { event = w.shown.number; entry = entry.Call a.call a.op }

  rises-here : EventsRise (w.history ++ here ∷ [])
  rises-here j k b c l at_j at_k = by (get-append w.history (here ∷ []) j b at_j) (get-append w.history (here ∷ []) k c at_k) where
    by : ((slice_get w.history j ≡ Some b) × (j < length w.history)) ⊎ ((i : ℕ) × (j ≡ length w.history + i) × (slice_get (here ∷ []) i ≡ Some b))
        → ((slice_get w.history k ≡ Some c) × (k < length w.history)) ⊎ ((i : ℕ) × (k ≡ length w.history + i) × (slice_get (here ∷ []) i ≡ Some c)) → b.event ≤ c.event
    by (inl x) (inl y) = m.rises j k b c l x.0 y.0
    by (inl x) (inr y) = let e = ap (λ (z : Committed). z.event) (one-there here y.0 c y.2).1 in let n = m.by_now j b x.0 in omega (arith, e, n)
    by (inr x) (inl y) = let e = x.1 in let f = y.1 in absurd (omega (arith, e, f, l))
    by (inr x) (inr y) = let e = ap (λ (z : Committed). z.event) (one-there here y.0 c y.2).1 in let f = ap (λ (z : Committed). z.event) (one-there here x.0 b x.2).1 in omega (arith, e, f)

  by-now-here : (place : ℕ) (c : Committed) → slice_get (w.history ++ here ∷ []) place ≡ Some c → c.event ≤ w.shown.number
  by-now-here place c at = by (get-append w.history (here ∷ []) place c at) where
    by : ((slice_get w.history place ≡ Some c) × (place < length w.history)) ⊎ ((i : ℕ) × (place ≡ length w.history + i) × (slice_get (here ∷ []) i ≡ Some c)) → c.event ≤ w.shown.number
    by (inl x) = m.by_now place c x.0
    by (inr x) = let e = ap (λ (z : Committed). z.event) (one-there here x.0 c x.2).1 in omega (arith, e)

  commit-measured : Measured (commit a w)
  commit-measured = record {
    rises = rises-here;
    by_now = by-now-here;
    requests = λ r h. placed-longer w.history here w.shown.number r.group r.event r.length refl (m.requests r h);
    ends = λ e h. placed-longer w.history here w.shown.number e.group e.event e.length refl (m.ends e h);
    requests_order = m.requests_order;
    ends_order = m.ends_order;
  }

module _ (me : ClientNo) (d : Did) (w : World) (m : Measured w) where
  new-request : (r : Request) → Contains w.requests r ⊎ Contains (map (begins_now w) d.asked) r → IsPlaced w.history w.shown.number r.group r.event r.length
  new-request r (inl h) = m.requests r h
  new-request r (inr h) = let x = mapped (begins_now w) d.asked r h in subst (λ (q : Request). IsPlaced w.history w.shown.number q.group q.event q.length) (sym x.2) (placed-now w m)

  new-end : (e : End) → Contains w.ends e ⊎ Contains (map (ends_now w) d.ended) e → IsPlaced w.history w.shown.number e.group e.event e.length
  new-end e (inl h) = m.ends e h
  new-end e (inr h) = let x = mapped (ends_now w) d.ended e h in subst (λ (y : End). IsPlaced w.history w.shown.number y.group y.event y.length) (sym x.2) (placed-now w m)

  note-measured : Measured (note me d w)
  note-measured = record {
    rises = m.rises;
    by_now = m.by_now;
    requests = λ r h. new-request r (Contains-append_cases w.requests (map (begins_now w) d.asked) r h);
    ends = λ e h. new-end e (Contains-append_cases w.ends (map (ends_now w) d.ended) e h);
    requests_order = order-more (λ (r : Request). r.event) (λ (r : Request). r.length) w.requests (map (begins_now w) d.asked) w.shown.number (length w.history) (λ r h. ((m.requests r h).by_now, (m.requests r h).length_is.within))
        (λ r h. let x = mapped (begins_now w) d.asked r h in (ap (λ (q : Request). q.event) x.2, ap (λ (q : Request). q.length) x.2)) m.requests_order;
    ends_order = order-more (λ (e : End). e.event) (λ (e : End). e.length) w.ends (map (ends_now w) d.ended) w.shown.number (length w.history) (λ e h. ((m.ends e h).by_now, (m.ends e h).length_is.within))
        (λ e h. let x = mapped (ends_now w) d.ended e h in (ap (λ (y : End). y.event) x.2, ap (λ (y : End). y.length) x.2)) m.ends_order;
  }

pub measured-kept : IsKeptBetween Measured
measured-kept = record {
  within = record {
    ignores = λ cause w m. record { rises = m.rises; by_now = m.by_now; requests = m.requests; ends = m.ends; requests_order = m.requests_order; ends_order = m.ends_order };
    calls = λ c w m. record { rises = m.rises; by_now = m.by_now; requests = m.requests; ends = m.ends; requests_order = m.requests_order; ends_order = m.ends_order };
    moves = λ c w m. record { rises = m.rises; by_now = m.by_now; requests = m.requests; ends = m.ends; requests_order = m.requests_order; ends_order = m.ends_order };
    steps = record { notes = note-measured; commits = commit-measured; empties = λ w m. record { rises = m.rises; by_now = m.by_now; requests = m.requests; ends = m.ends; requests_order = m.requests_order; ends_order = m.ends_order } };
  };
  starts = λ e w b m. let l : w.shown.number ≤ length w.effects = omega (arith, b) in record {
    rises = m.rises;
    by_now = λ place c at. le_trans (m.by_now place c at) l;
    requests = λ r h. placed-later w.history w.shown.number (length w.effects) r.group r.event r.length l (m.requests r h);
    ends = λ x h. placed-later w.history w.shown.number (length w.effects) x.group x.event x.length l (m.ends x h);
    requests_order = m.requests_order;
    ends_order = m.ends_order;
  };
  closes = λ w m. record { rises = m.rises; by_now = m.by_now; requests = m.requests; ends = m.ends; requests_order = m.requests_order; ends_order = m.ends_order };
}

pub measured-first : (w : World) → w.history ≡ [] → w.requests ≡ [] → w.ends ≡ [] → Measured w
measured-first w none_h none_r none_e = record {
  rises = λ j k a b l at. absurd (none_some (subst (λ rows. slice_get rows j ≡ Some a) none_h at));
  by_now = λ place c at. absurd (none_some (subst (λ rows. slice_get rows place ≡ Some c) none_h at));
  requests = λ r h. absurd (no-element r (subst (λ rows. Contains rows r) none_r h));
  ends = λ e h. absurd (no-element e (subst (λ rows. Contains rows e) none_e h));
  requests_order = λ j k a b l at. absurd (none_some (subst (λ rows. slice_get rows j ≡ Some a) none_r at));
  ends_order = λ j k a b l at. absurd (none_some (subst (λ rows. slice_get rows j ≡ Some a) none_e at));
}

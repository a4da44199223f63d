-- Entries that a leader is asked for, and changes of members.
use Rattle.std.proofs.Common.{◌&&◌, ◌==◌, ◌≡◌, ℕ, zero, suc, ◌+◌, ◌<◌, ◌≤◌, ◌⊎◌, inl, inr, ⊎_elim, not, Bool, true, false, List, [], ◌∷◌, length, refl, ap, sym, ◌∙◌, arith, subst, Option, Some, None, option_map, slice_get, nat_lt, le_refl, le_of_eq, true≢false, ltb-false, if◌then◌else◌}
use Rattle.std.proofs.lemmas.Bool.{cases_Bool, eqb-true, not-false}
use Rattle.std.proofs.lemmas.Option.{same_Some}
use Rattle.cp_base.specs.declared.identifier.Invocation.{Invocation}
use Rattle.cp_answers.specs.declared.refusal.Refusal.{Refusal}
use Rattle.cp_answers.specs.declared.refusal.Refusal.TheVariants.{NotLeader, WrongMembers, ChangePending, NoOwnTermCommit, AlreadyThere, NotThere, LastMember}
use Rattle.cp_parts.specs.declared.log_entry.LogEntry.{LogEntry}
use Rattle.cp_agreement_facts.specs.Entries.{members_in}
use Rattle.cp_agreement_facts.specs.Configurations.{HasOneMore, AreOneApart}
use Rattle.cp_agreement_facts.specs.Facts.{KnowsTerm, ChangesAreSingle, configuration_of}
use Rattle.cp_safety.specs.Tracking.{untracked, untracked_cluster, uncut_step}
use Rattle.cp_rules.specs.declared.change.Change.{Change}
use Rattle.cp_rules.specs.declared.peer.Peer.{Peer}
use Rattle.cp_rules.specs.declared.role.Role.TheVariants.{Leader}
use Rattle.cp_parts.specs.declared.config.Config.{Config}
use Rattle.cp_parts.specs.Configs.{config_in}
use Rattle.cp_rules.specs.Spelling.{members_entry}
use Rattle.cp_log_rules.specs.Persistent.{last}
use Rattle.cp_log_rules.specs.Configurations.{config_or, config_after}
use Rattle.cp_rules.specs.Persistent.{ballot, known_term, configuration, members, is_member}
use Rattle.cp_rules.specs.Volatile.{VolatileState, peer, new_peer, with_peer}
use Rattle.cp_rules.specs.Local.{LocalStep, is_leader}
use Rattle.cp_rules.specs.Requests.{refuses_entry, unless_refused, proposes, on_propose}
use Rattle.cp_rules.specs.Changes.{refuses_change, with_member, without_member, changed, with_added, changes, on_change}
use Rattle.cp_log_rules.proofs.InForce.{config_index}
use Rattle.cp_rules.proofs.SpellingLaws.{entry_members, config_members}
use Rattle.cp_rules_facts.specs.Seen.{seen_role, tracked_member}
use Rattle.cp_rules_facts.specs.Soundness.{IsPlaced}
use Rattle.cp_rules_facts.proofs.Basics.{either, leader_is, set_index}
use Rattle.cp_rules_facts.proofs.Knowing.{knows_at, members_are}
use Rattle.cp_rules_facts.proofs.Turns.{Turn, here, core, Good}
use Rattle.cp_rules_facts.proofs.Quiet.{silent}
use Rattle.cp_rules_facts.proofs.Commits.{created, Creates, creates_good}

-- ---- entries

pub leads_if : (t : Turn) → refuses_entry t.p t.v ≡ None → t.v.role ≡ Leader
leads_if t h = ⊎_elim
    (λ (z : is_leader t.v.role ≡ true). leader_is t.v.role z)
    (λ (z : is_leader t.v.role ≡ false). let x : Some (NotLeader t.v.leader) ≡ None = rw z at h in absurd (cc))
    (cases_Bool (is_leader t.v.role))

pub or_refused : (t : Turn) (o : Option Refusal) (s : LocalStep) → (o ≡ None → Good t s) → Good t (unless_refused o t.v s)
or_refused t None s goes = goes refl
or_refused t (Some refusal) s goes = silent t

further : (n s : ℕ) (x : Peer) → IsPlaced n s x → IsPlaced (suc n) s x
further n s x h = let a = h.next in let b = h.matched in record { first = h.first; next = omega (arith, a); matched = omega (arith, b); offset = h.offset }

-- A leader's entry: its state is as before, but that one peer may begin anew.
pub own_entry : (t : Turn) (w : VolatileState) (entry : List ℕ) → t.v.role ≡ Leader → w.role ≡ t.v.role → w.commit ≡ t.v.commit → w.received ≡ t.v.received
    → ((f : ℕ) → (peer w.peers f ≡ peer t.v.peers f) ⊎ (peer w.peers f ≡ new_peer (suc (last t.p))))
    → ((v' : VolatileState) (ms : List ℕ) → members_in entry ≡ Some ms → ChangesAreSingle (untracked_cluster (here t)) (uncut_step (core t true (created t.p (ballot t.p) entry) v')) ms)
    → Creates t w (ballot t.p) entry
own_entry t w entry leader role commit received peers change = record {
  role = role ∙ leader;
  commit = commit;
  received = received;
  positive = t.sound.leads leader;
  up = le_refl t.p.term;
  keeps = λ e ne. refl;
  elected = λ v'. inl (ap seen_role leader, refl);
  matched = λ v' f. ⊎_elim (λ z. inr (inl (ap seen_role leader, refl, le_of_eq (ap (λ x. x.matched) z)))) (λ z. inl (ap (λ x. x.matched) z)) (peers f);
  placed = λ f. ⊎_elim
      (λ z. subst (IsPlaced (suc (last t.p)) (length t.p.snapshot)) (sym z) (further (last t.p) (length t.p.snapshot) (peer t.v.peers f) (t.sound.peers leader f)))
      (λ z. subst (IsPlaced (suc (last t.p)) (length t.p.snapshot)) (sym z) (record { first = omega arith; next = omega arith; matched = omega arith; offset = omega arith }))
      (peers f);
  change = change;
}

-- an entry that is no members entry
pub plain_entry : (t : Turn) (w : VolatileState) (entry : List ℕ) → members_in entry ≡ None → t.v.role ≡ Leader → w.role ≡ t.v.role → w.commit ≡ t.v.commit → w.received ≡ t.v.received → w.peers ≡ t.v.peers → Creates t w (ballot t.p) entry
plain_entry t w entry no_members leader role commit received peers =
    own_entry t w entry leader role commit received (λ f. inl (ap (λ l. peer l f) peers)) (λ v' ms h. absurd (let z : None ≡ Some ms = sym no_members ∙ h in cc))

pub propose_good : (t : Turn) (entry : List ℕ) → members_in entry ≡ None → Good t (on_propose t.me t.p t.v entry)
propose_good t entry no_members = or_refused t (refuses_entry t.p t.v) (proposes t.me t.p t.v entry)
    (λ free. let g = creates_good t t.v (ballot t.p) entry (plain_entry t t.v entry no_members (leads_if t free) refl refl refl refl) in g)

-- ---- one member more, one member less

add_one : (x : ℕ) (ms : List ℕ) → HasOneMore ms (with_member x ms)
add_one x [] = ([], [], x, refl, refl)
add_one x (m ∷ ms) = either (λ l. HasOneMore (m ∷ ms) l) (nat_lt x m) (x ∷ m ∷ ms) (m ∷ with_member x ms)
    (λ h. ([], m ∷ ms, x, refl, refl))
    (λ h. let z = add_one x ms in (m ∷ z.0, z.1, z.2, ap (λ l. m ∷ l) z.3, ap (λ l. m ∷ l) z.4))

take_one : (x : ℕ) (ms : List ℕ) → is_member x ms ≡ true → HasOneMore (without_member x ms) ms
take_one x [] h = absurd (true≢false (sym h))
take_one x (m ∷ ms) h = ⊎_elim
    (λ (e : (m == x) ≡ true). rw e ([], ms, m, refl, refl))
    (λ (e : (m == x) ≡ false). let z = take_one x ms (rw e at h) in rw e (m ∷ z.0, z.1, z.2, ap (λ l. m ∷ l) z.3, ap (λ l. m ∷ l) z.4))
    (cases_Bool (m == x))

-- ---- the index of the configuration is that of the last members entry

index_once : (c : Config) (at : ℕ) (bytes : List ℕ) → c.index ≤ at → (c.index ≤ (config_or (config_in (at + 1) bytes) c).index) × ((config_or (config_in (at + 1) bytes) c).index ≤ at + 1)
index_once c at bytes h = look (config_in (at + 1) bytes) (λ d is. config_index (at + 1) bytes d is)
  where
    look : (o : Option Config) → ((d : Config) → o ≡ Some d → d.index ≡ at + 1) → (c.index ≤ (config_or o c).index) × ((config_or o c).index ≤ at + 1)
    look None is = (le_refl c.index, omega (arith, h))
    look (Some d) is = let e = is d refl in (omega (arith, h, e), omega (arith, e))

index_up : (c : Config) (at : ℕ) (log : List LogEntry) → c.index ≤ at → c.index ≤ (config_after c at log).index
unfolding config_after
index_up c at [] h = le_refl c.index
index_up c at (e ∷ log) h =
    let x = index_once c at e.bytes h in
    let z = index_up (config_or (config_in (at + 1) e.bytes) c) (at + 1) log x.1 in
    let low = x.0 in omega (arith, low, z)

-- an entry that sets members brings a configuration
brings : (at : ℕ) (bytes ms : List ℕ) → members_in bytes ≡ Some ms → (d : Config) × (config_in at bytes ≡ Some d)
brings at bytes ms has = look (config_in at bytes) refl (config_members at bytes ∙ has)
  where
    look : (o : Option Config) → config_in at bytes ≡ o → option_map (λ (c : Config). c.members) o ≡ Some ms → (d : Config) × (config_in at bytes ≡ Some d)
    look None is h = absurd (cc)
    look (Some d) is h = (d, is)

reaches_index : (c : Config) (at : ℕ) (log : List LogEntry) (k : ℕ) (e : LogEntry) (ms : List ℕ) → slice_get log k ≡ Some e → members_in e.bytes ≡ Some ms → suc (at + k) ≤ (config_after c at log).index
unfolding config_after
reaches_index c at [] k e ms is has = absurd (cc)
reaches_index c at (x ∷ log) zero e ms is has =
    let there : members_in x.bytes ≡ Some ms = ap (λ y. members_in y.bytes) (same_Some x e is) ∙ has in
    let d = brings (at + 1) x.bytes ms there in
    let index_is = config_index (at + 1) x.bytes d.0 d.1 in
    let z = index_up d.0 (at + 1) log (le_of_eq index_is) in
    let here_is : config_or (config_in (at + 1) x.bytes) c ≡ d.0 = ap (λ (o : Option Config). config_or o c) d.1 in
    subst (λ (b : Config). suc (at + 0) ≤ (config_after b (at + 1) log).index) (sym here_is) (omega (arith, z, index_is))
reaches_index c at (x ∷ log) (suc k) e ms is has = let z = reaches_index (config_or (config_in (at + 1) x.bytes) c) (at + 1) log k e ms is has in omega (arith, z)

-- ---- what the refusals leave

module _ (t : Turn) (change : Change) (plan : ℕ) (call : Option Invocation) (leader : t.v.role ≡ Leader) (free : refuses_change t.p t.v change ≡ None) where
  abbrev index : ℕ
  index = (configuration t.p).index

  abbrev add : Bool
  add = change.add

  abbrev inside : Bool
  inside = is_member change.member.0 (members t.p)

  -- one refusal after the other does not hold
  if_none : (c : Bool) (x : Refusal) (o : Option Refusal) → (if c then Some x else o) ≡ None → (c ≡ false) × (o ≡ None)
  if_none true x o h = absurd (let z : Some x ≡ None = h in cc)
  if_none false x o h = (refl, h)

  abbrev after_there : Option Refusal
  after_there = if not add && (length (members t.p) == 1) then Some LastMember else None

  abbrev after_already : Option Refusal
  after_already = if not add && not inside then Some NotThere else after_there

  abbrev after_own_term : Option Refusal
  after_own_term = if add && inside then Some AlreadyThere else after_already

  abbrev after_pending : Option Refusal
  after_pending = if not (known_term t.p t.v.commit == t.p.term) then Some (NoOwnTermCommit t.p.term) else after_own_term

  abbrev after_expected : Option Refusal
  after_expected = if nat_lt t.v.commit index then Some (ChangePending index) else after_pending

  pub record Allowed : Type 0 where
    pub settled : index ≤ t.v.commit
    pub own_term : known_term t.p t.v.commit ≡ t.p.term
    pub kind : (add ≡ true) ⊎ ((add ≡ false) × (inside ≡ true))

  allowed : Allowed
  allowed =
      let h1 = if_none (not (change.expected == index)) (WrongMembers index) after_expected free in
      let h2 = if_none (nat_lt t.v.commit index) (ChangePending index) after_pending h1.1 in
      let h3 = if_none (not (known_term t.p t.v.commit == t.p.term)) (NoOwnTermCommit t.p.term) after_own_term h2.1 in
      let h4 = if_none (add && inside) AlreadyThere after_already h3.1 in
      let h5 = if_none (not add && not inside) NotThere after_there h4.1 in
      record {
        settled = ltb-false t.v.commit index h2.0;
        own_term = eqb-true (known_term t.p t.v.commit) t.p.term (not-false (known_term t.p t.v.commit == t.p.term) h3.0);
        kind = kind_of add inside h5.0;
      }
    where
      kind_of : (a b : Bool) → (not a && not b) ≡ false → (a ≡ true) ⊎ ((a ≡ false) × (b ≡ true))
      kind_of true b h = inl refl
      kind_of false true h = inr (refl, refl)
      kind_of false false h = absurd (true≢false h)

  -- the entry of the commit is of the own term, so there is one
  above_zero : (c : ℕ) → t.v.commit ≡ c → 0 < c
  above_zero zero e = absurd (
      let low = t.sound.above_base in
      let base : t.p.base ≡ 0 = omega (arith, low, e) in
      let up = t.sound.leads leader in
      let zt = t.sound.no_base base in
      let ct : known_term t.p 0 ≡ t.p.term = ap (known_term t.p) (sym e) ∙ allowed.own_term in
      ⊎_elim
      (λ (z : (0 ≡ t.p.base) × (known_term t.p 0 ≡ t.p.base_term)). let a = z.1 in omega (arith, a, zt, ct, up))
      (λ (z : (k : ℕ) × (0 ≡ suc (t.p.base + k)) × ((x : LogEntry) × (slice_get t.p.log k ≡ Some x) × (x.term ≡ known_term t.p 0))). let a = z.1 in omega (arith, a))
      (knows_at t.p t.v 0 (omega (arith, base)) (omega arith)))
  above_zero (suc c) e = omega arith

  single : (v' : VolatileState) (entry : List ℕ) → AreOneApart (members t.p) (changed change (members t.p)) → (ms : List ℕ) → ms ≡ changed change (members t.p)
      → ChangesAreSingle (untracked_cluster (here t)) (uncut_step (core t true (created t.p (ballot t.p) entry) v')) ms
  single v' entry apart ms is = let settled = allowed.settled in record {
    one_apart = subst (λ l. AreOneApart (configuration_of (untracked (tracked_member t.p t.v))) l) (sym is) (subst (λ l. AreOneApart l (changed change (members t.p))) (members_are t.p t.v) apart);
    settled = λ k e le there. no_change k e le there (members_in e.bytes) refl;
    own = (t.v.commit, above_zero t.v.commit refl, le_refl t.v.commit, subst (λ u. KnowsTerm (untracked (tracked_member t.p t.v)) t.v.commit u) allowed.own_term (knows_at t.p t.v t.v.commit t.sound.above_base t.sound.within));
  }
    where
      no_change : (k : ℕ) (e : LogEntry) → t.v.commit ≤ t.p.base + k → slice_get t.p.log k ≡ Some e → (o : Option (List ℕ)) → members_in e.bytes ≡ o → members_in e.bytes ≡ None
      no_change k e le there None z = z
      no_change k e le there (Some ms) z = absurd (let n = reaches_index t.p.base_config t.p.base t.p.log k e ms there z in let s = allowed.settled in omega (arith, n, le, s))

  changes_good : ((c : Invocation) → call ≡ Some c → length c.client.0 ≡ 16) → Good t (changes t.me t.p t.v change plan call)
  changes_good named =
      let ms = changed change (members t.p) in
      let w = with_added t.p t.v change in
      let x = new_peer (suc (last t.p)) in
      let added = with_peer change.member.0 x t.v in
      let entry = members_entry call plan ms in
      let apart : AreOneApart (members t.p) ms = either (λ l. AreOneApart (members t.p) l) add (with_member change.member.0 (members t.p)) (without_member change.member.0 (members t.p))
      (λ a. inl (add_one change.member.0 (members t.p)))
      (λ a. inr (take_one change.member.0 (members t.p) (⊎_elim (λ z. absurd (true≢false (sym z ∙ a))) (λ z. z.1) allowed.kind))) in
      creates_good t w (ballot t.p) entry (own_entry t w entry leader
      (either (λ (z : VolatileState). z.role ≡ t.v.role) add added t.v (λ h. refl) (λ h. refl))
      (either (λ (z : VolatileState). z.commit ≡ t.v.commit) add added t.v (λ h. refl) (λ h. refl))
      (either (λ (z : VolatileState). z.received ≡ t.v.received) add added t.v (λ h. refl) (λ h. refl))
      (λ f. either (λ (z : VolatileState). (peer z.peers f ≡ peer t.v.peers f) ⊎ (peer z.peers f ≡ x)) add added t.v
      (λ h. ⊎_elim (λ z. inl z) (λ z. inr z.1) (set_index t.v.peers change.member.0 f x (new_peer 1)))
      (λ h. inl refl))
      (λ v' ns h. single v' entry apart ns (entry_members call plan ms ns named h)))

pub change_good : (t : Turn) (change : Change) (plan : ℕ) (call : Option Invocation) → ((c : Invocation) → call ≡ Some c → length c.client.0 ≡ 16) → Good t (on_change t.me t.p t.v change plan call)
change_good t change plan call named =
    or_refused t (refuses_entry t.p t.v) (unless_refused (refuses_change t.p t.v change) t.v (changes t.me t.p t.v change plan call)) (λ free.
    or_refused t (refuses_change t.p t.v change) (changes t.me t.p t.v change plan call) (λ allowed_. changes_good t change plan call (leads_if t free) allowed_ named))

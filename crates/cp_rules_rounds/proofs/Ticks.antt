-- What requests and a tick do to rounds.
use Rattle.std.proofs.Common.{◌||◌, ◌&&◌, ◌==◌, ◌≡◌, ◌≢◌, ℕ, suc, ◌-◌, inl, inr, ⊎_elim, All, not, Bool, true, List, [], ◌∷◌, ◌++◌, length, map, refl, ap, sym, ◌∙◌, subst, arith, Option, Some, None, is_none, nat_lt, nat_le, if◌then◌else◌, le_refl, true≢false, Contains}
use Rattle.std.proofs.lemmas.Bool.{and_parts, not-false}
use Rattle.std.proofs.lemmas.List.Elements.{All-nil, All-append, All-contains, Contains-append_left, Contains-append_cases}
use Rattle.cp_base.specs.declared.identifier.Invocation.{Invocation}
use Rattle.cp_answers.specs.declared.refusal.Refusal.{Refusal}
use Rattle.cp_answers.specs.declared.refusal.Refusal.TheVariants.{NotLeader, Overloaded}
use Rattle.cp_parts.specs.Heads.{head_of}
use Rattle.cp_log_rules.specs.Persistent.{PersistentState, last}
use Rattle.cp_rules.specs.declared.ballot.Ballot.{Ballot}
use Rattle.cp_rules.specs.declared.change.Change.{Change}
use Rattle.cp_rules.specs.declared.outcome.Outcome.TheVariants.{Refused}
use Rattle.cp_rules.specs.declared.role.Role.{Role}
use Rattle.cp_rules.specs.declared.role.Role.TheVariants.{PreCandidate, Candidate, Leader}
use Rattle.cp_rules.specs.Limits.{beat_period, most_snapshot, most_looks}
use Rattle.cp_rules.specs.Spelling.{empty_entry, members_entry, snapshot_bytes}
use Rattle.cp_rules.specs.Persistent.{Part, SnapshotPart, ballot, log_end, members, others, with_part, after_part}
use Rattle.cp_rules.specs.Volatile.{Look, VolatileState, no_votes, silence, new_peer, with_peer}
use Rattle.cp_rules.specs.Local.{PreVote, Confirm, Event, Tick, Read, Sent, LocalStep, does, send, is_leader}
use Rattle.cp_rules.specs.Sending.{appends}
use Rattle.cp_rules.specs.Leadership.{created_part, takes_leadership}
use Rattle.cp_rules.specs.PreVotes.{may_stand, stands, times_out}
use Rattle.cp_rules.specs.Requests.{refuses_entry, unless_refused, proposes, on_propose}
use Rattle.cp_rules.specs.Changes.{refuses_change, changed, with_added, changes, on_change}
use Rattle.cp_rules.specs.Snapshots.{own_head, from_start, writes_snapshot, own_snapshot}
use Rattle.cp_rules.specs.Confirming.{round_of, confirms, waits, begins_round, on_read}
use Rattle.cp_rules.specs.Ticks.{expires, is_proposed, confirms_again, beats, on_tick}
use Rattle.cp_rules_facts.proofs.Basics.{either, leader_is, all_mapped, one}
use Rattle.cp_rules_facts.proofs.Ticks.{wrote}
use Rattle.cp_rules_rounds.specs.Confirming.{TakesLook, LeadsOn}
use Rattle.cp_rules_rounds.proofs.Quiet.{At, Says, Turns, Goes, kept, low, still, made, takes, appends_say}
use Rattle.cp_rules_rounds.proofs.Following.{head_same}

or_refused : (h : At) (event : Event) (o : Option Refusal) (s : LocalStep) → Goes h event s → Goes h event (unless_refused o h.v s)
or_refused h event None s goes = goes
or_refused h event (Some refusal) s goes = still h event

pub propose_rounds : (h : At) (event : Event) (entry : List ℕ) → Goes h event (on_propose h.me h.p h.v entry)
propose_rounds h event entry = or_refused h event (refuses_entry h.p h.v) (proposes h.me h.p h.v entry) (made h event h.v (ballot h.p) entry refl refl refl)

pub change_rounds : (h : At) (event : Event) (change : Change) (plan : ℕ) (call : Option Invocation) → Goes h event (on_change h.me h.p h.v change plan call)
change_rounds h event change plan call =
    let w = with_added h.p h.v change in
    let x = with_peer change.member.0 (new_peer (suc (last h.p))) h.v in
    let role : w.role ≡ h.v.role = either (λ (z : VolatileState). z.role ≡ h.v.role) change.add x h.v (λ e. refl) (λ e. refl) in
    let reads : w.reads ≡ h.v.reads = either (λ (z : VolatileState). z.reads ≡ h.v.reads) change.add x h.v (λ e. refl) (λ e. refl) in
    or_refused h event (refuses_entry h.p h.v) (unless_refused (refuses_change h.p h.v change) h.v (changes h.me h.p h.v change plan call))
    (or_refused h event (refuses_change h.p h.v change) (changes h.me h.p h.v change plan call)
    (made h event w (ballot h.p) (members_entry call plan (changed change (members h.p))) refl role reads))

confirms_say : (h : At) (event : Event) (q : PersistentState) (w : VolatileState) (me : ℕ) → w.role ≡ Leader → All (Says h event q w) (confirms me q w.reads)
confirms_say h event q w me role = all_mapped (Says h event q w) (λ f. send f (Confirm q.term w.reads.round)) (others me (members q)) (λ f. (role, refl, refl))

the_one : {X : Type 0} (x y : X) → Contains (x ∷ []) y → y ≡ x
the_one x y has = All-contains (λ z. z ≡ x) (x ∷ []) y (one (λ z. z ≡ x) x refl) has

pub read_rounds : (h : At) (call : Invocation) (attempt : ℕ) (op : List ℕ) → Goes h (Read call attempt op) (on_read h.me h.p h.v call attempt op)
read_rounds h call attempt op =
    let event = Read call attempt op in
    let reads = waits h.p h.v.reads call attempt op in
    let w : VolatileState = record h.v { reads = reads } in
    let new : Look = record { call = call; attempt = attempt; index = last h.p; round = suc h.v.reads.round; op = op } in
    either (Goes h event) (not (is_leader h.v.role)) (record (does None h.v []) { outcome = Refused (NotLeader h.v.leader) }) (if nat_le most_looks (length h.v.reads.looks) then record (does None h.v []) { outcome = Refused (Overloaded most_looks) } else begins_round h.me h.p h.v reads)
    (λ l. still h event)
    (λ l. let role = leader_is h.v.role (not-false (is_leader h.v.role) l) in
    either (Goes h event) (nat_le most_looks (length h.v.reads.looks)) (record (does None h.v []) { outcome = Refused (Overloaded most_looks) }) (begins_round h.me h.p h.v reads)
    (λ z. still h event)
    (λ z. (
      (refl, refl),
      record {
        term = le_refl h.p.term;
        says = confirms_say h event h.p w h.me role;
        leads = λ k. inl (record {
          role = role;
          in_term = refl;
          round = omega arith;
          by_one = le_refl (suc h.v.reads.round);
          confirmed = λ f. inl (le_refl (round_of h.v.reads f));
          looks = λ look has. ⊎_elim inl
              (λ (x : Contains (new ∷ []) look). inr (subst (λ (y : Look). TakesLook h.p h.v event y) (sym (the_one new look x)) (record { event_is = refl; role = role; index = refl; round = refl })))
              (Contains-append_cases h.v.reads.looks (new ∷ []) look has);
        });
        stands = λ k. inl (k, refl);
        keeps = λ k m look has. Contains-append_left h.v.reads.looks (new ∷ []) look has;
      },
    )))

-- ---- the tick

module _ (h : At) (event : Event) where
  beats_rounds : (s : LocalStep) → Goes h event s → Goes h event (beats h.me h.p s)
  beats_rounds s goes =
      let now = after_part s.part h.p in
      let state : VolatileState = record s.state { beat = s.state.clock } in
      let appended = is_proposed s.outcome in
      let leading = is_leader s.state.role in
      let due = appended || nat_le beat_period (s.state.clock - s.state.beat) in
      let first = if appended then s.sends else appends h.me now state in
      let again = confirms_again h.me now state.reads in
      let P = Says h event now state in
      let t = goes.1 in
      either (Goes h event) (leading && due) (record s { state = state; sends = first ++ again }) s
      (λ l. (
        goes.0,
        record {
          term = t.term;
          says = All-append P first again
              (either (All P) appended s.sends (appends h.me now state) (λ e. t.says) (λ e. appends_say h event now state h.me now state))
              (either (All P) (length state.reads.looks == 0) [] (confirms h.me now state.reads) (λ e. All-nil P)
              (λ e. confirms_say h event now state h.me (leader_is s.state.role (and_parts leading due l).0)));
          leads = λ k. ⊎_elim
              (λ (x : LeadsOn h.p h.v event now s.state). inl (record { role = x.role; in_term = x.in_term; round = x.round; by_one = x.by_one; confirmed = x.confirmed; looks = x.looks }))
              (λ x. inr x)
              (t.leads k);
          stands = t.stands;
          keeps = t.keeps;
        },
      ))
      (λ l. goes)

module _ (h : At) (clock : ℕ) (may_write : Bool) (expiry machine : Option (List ℕ)) where
  abbrev tick : Event
  tick = Tick clock may_write expiry machine

  abbrev ticked : VolatileState
  ticked = record h.v { clock = clock }

  abbrev Ends : LocalStep → Type 0
  Ends s = Goes h tick (beats h.me h.p (own_snapshot h.p s may_write machine))

  ends : (s : LocalStep) (part : Part) → s.part ≡ Some part → Goes h tick s → Ends s
  ends s part is goes = subst (λ (z : LocalStep). Goes h tick (beats h.me h.p z)) (sym (wrote h.p s part may_write machine is)) (beats_rounds h tick s goes)

  module _ (role : Role) (leader heard : ℕ) (votes : List Bool) (sends : List Sent) where
    abbrev idle : VolatileState
    idle = record h.v { role = role; leader = leader; clock = clock; heard = heard; votes = votes }

    abbrev Idle : PersistentState → VolatileState → Type 0
    Idle q w = Turns h tick q w sends

    -- a snapshot or none, and then the beat
    idles : Turns h tick h.p idle sends → ((q : PersistentState) (w : VolatileState) → q.term ≡ h.p.term → w.role ≡ role → w.reads ≡ h.v.reads → Idle q w) → (o : Option (List ℕ)) → Goes h tick (beats h.me h.p (own_snapshot h.p (does None idle sends) may_write o))
    idles t each None = beats_rounds h tick (does None idle sends) ((refl, refl), t)
    idles t each (Some bytes) =
        let s = does None idle sends in
        let whole = snapshot_bytes (own_head h.p h.v.commit) bytes in
        let w : VolatileState = record idle { peers = map from_start h.v.peers } in
        let part = SnapshotPart (ballot h.p) h.v.commit whole in
        let taken = does (Some part) w sends in
        let rest = beats_rounds h tick s ((refl, refl), t) in
        either (λ z. Goes h tick (beats h.me h.p z)) (may_write && true) (writes_snapshot h.p s whole) s
        (λ y. either (λ z. Goes h tick (beats h.me h.p z)) (nat_lt most_snapshot (length whole)) s taken
        (λ l. rest)
        (λ l. beats_rounds h tick taken ((refl, refl), each (with_part part h.p) w (snapshot_same h.p h.v.commit whole) refl refl)))
        (λ y. rest)
      where
        snapshot_same : (p : PersistentState) (index : ℕ) (all : List ℕ) → (with_part (SnapshotPart (ballot p) index all) p).term ≡ p.term
        snapshot_same p index all = head_same p index all (head_of all)

  nothing_due : Ends (does None ticked [])
  nothing_due = idles h.v.role h.v.leader h.v.heard h.v.votes [] (each h.p ticked refl refl refl) each machine
    where
      each : (q : PersistentState) (w : VolatileState) → q.term ≡ h.p.term → w.role ≡ h.v.role → w.reads ≡ h.v.reads → Turns h tick q w []
      each q w term role reads = kept h tick q w [] term (λ l. sym role ∙ l) (λ c. sym role ∙ c) reads (All-nil (Says h tick q w))

  expires_rounds : (o : Option (List ℕ)) → Ends (expires h.me h.p ticked may_write o)
  expires_rounds None = nothing_due
  expires_rounds (Some entry) = either Ends (may_write && is_none (refuses_entry h.p ticked)) (proposes h.me h.p ticked entry) (does None ticked [])
      (λ e. ends (proposes h.me h.p ticked entry) (created_part h.p (ballot h.p) entry) refl (made h tick ticked (ballot h.p) entry refl refl refl))
      (λ e. nothing_due)

  stands_rounds : Ends (stands h.me h.p ticked)
  stands_rounds = idles PreCandidate 0 clock no_votes asks (each h.p (idle PreCandidate 0 clock no_votes asks) refl refl refl) each machine
    where
      asks : List Sent
      asks = map (λ f. send f (PreVote (suc h.p.term) (log_end h.p))) (others h.me (members h.p))

      each : (q : PersistentState) (w : VolatileState) → q.term ≡ h.p.term → w.role ≡ PreCandidate → w.reads ≡ h.v.reads → Turns h tick q w asks
      each q w term role reads = low h tick q w asks (omega (arith, term)) (λ l. let z : PreCandidate ≡ Leader = sym role ∙ l in cc) (λ l. let z : PreCandidate ≡ Candidate = sym role ∙ l in cc)
          (all_mapped (Says h tick q w) (λ f. send f (PreVote (suc h.p.term) (log_end h.p))) (others h.me (members h.p)) (λ f. tt))

  times_out_rounds : h.v.role ≢ Leader → Ends (times_out h.me h.p ticked may_write)
  times_out_rounds new =
      let may = may_stand h.me (members h.p) h.p.term (last h.p) (silence ticked) in
      let w : VolatileState = record ticked { heard = clock } in
      let taking = takes_leadership h.me h.p w (suc h.p.term) in
      let b : Ballot = record { term = suc h.p.term; vote = h.me } in
      either Ends (not may) (does None ticked []) (if length (members h.p) == 1 then (if may_write then taking else does None ticked []) else stands h.me h.p ticked)
      (λ n. nothing_due)
      (λ n. either Ends (length (members h.p) == 1) (if may_write then taking else does None ticked []) (stands h.me h.p ticked)
      (λ one. either Ends may_write taking (does None ticked [])
      (λ x. ends taking (created_part h.p b empty_entry) refl (takes h tick w (suc h.p.term) new (inr (omega arith))))
      (λ x. nothing_due))
      (λ more. stands_rounds))

  pub tick_rounds : Goes h tick (on_tick h.me h.p h.v clock may_write expiry machine)
  tick_rounds = either Ends (is_leader h.v.role) (expires h.me h.p ticked may_write expiry) (times_out h.me h.p ticked may_write)
      (λ l. expires_rounds expiry)
      (λ l. times_out_rounds (λ k. absurd (true≢false (sym (ap is_leader k) ∙ l))))

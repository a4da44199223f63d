-- A tick, by its parts.
use Rattle.std.proofs.Common.{◌||◌, ◌&&◌, ◌==◌, ◌≡◌, ℕ, suc, ◌+◌, ◌-◌, ⊎_elim, not, Bool, true, false, List, [], length, map, refl, ap, arith, ◌∙◌, Option, Some, None, nat_lt, nat_le, if◌then◌else◌}
use Rattle.std.proofs.lemmas.Bool.{cases_Bool}
use Rattle.std.proofs.lemmas.Bool.Decides.{nat_tests}
use Rattle.cp_parts.specs.declared.config.Config.{Config}
use Rattle.cp_parts.specs.Configs.{config_in, members_entry, brought_at}
use Rattle.cp_grammar.specs.Grammar.{whole}
use Rattle.cp_base.specs.declared.identifier.Invocation.{Invocation}
use Rattle.std.specs.Prelude.{Result, Ok, Err}
use Rattle.std.specs.Option.{option_map}
use Rattle.cp_agreement_facts.specs.Entries.{members_in}
use Rattle.cp_log_rules.specs.Persistent.{PersistentState, last}
use Rattle.cp_log_rules.specs.Configurations.{config_at, config_or}
use Rattle.cp_rules.specs.declared.ballot.Ballot.{Ballot}
use Rattle.cp_rules.specs.Limits.{beat_period, most_snapshot}
use Rattle.cp_rules.specs.Spelling.{empty_entry, snapshot_bytes}
use Rattle.cp_rules.specs.Persistent.{Part, ballot, configuration, members, is_member, others, with_part, after_part}
use Rattle.cp_rules.specs.Volatile.{Reads, VolatileState, silence}
use Rattle.cp_rules.specs.Local.{Confirm, Sent, LocalStep, does, send, is_leader}
use Rattle.cp_rules.specs.Terms.{steps_down}
use Rattle.cp_rules.specs.Commit.{commit_found, commits}
use Rattle.cp_rules.specs.Leadership.{created_part, leading, takes_leadership}
use Rattle.cp_rules.specs.PreVotes.{may_stand, stands, times_out}
use Rattle.cp_rules.specs.Snapshots.{own_head, own_snapshot}
use Rattle.cp_rules.specs.Ticks.{confirms_again, beats}
use Rattle.cp_rules_facts.proofs.Basics.{either}
use Rattle.cp_rules_facts.proofs.Ticks.{wrote}
use Rattle.cp_raft_state.proofs.OneMore.{more, config_more}
use Rattle.cp_raft.specs.Ticking.{own_bytes, own_part, from_new, is_due, beaten, beat_sends}

-- ---- the member's own snapshot

pub own_snapshot_is : (p : PersistentState) (w : VolatileState) (sends : List Sent) (may_write : Bool) (machine : Option (List ℕ))
    → own_snapshot p (does None w sends) may_write machine ≡ does (own_part p w.commit (own_bytes p w.commit may_write machine)) (from_new (own_bytes p w.commit may_write machine) w) sends
own_snapshot_is p w sends may_write None = refl
own_snapshot_is p w sends false (Some machine) = refl
own_snapshot_is p w sends true (Some machine) = ⊎_elim
    (λ (e : nat_lt most_snapshot (length (snapshot_bytes (own_head p w.commit) machine)) ≡ true).
    let short : nat_le (length (snapshot_bytes (own_head p w.commit) machine)) most_snapshot ≡ false = grind (arith, nat_tests) in rw (e, short) refl)
    (λ (e : nat_lt most_snapshot (length (snapshot_bytes (own_head p w.commit) machine)) ≡ false).
    let short : nat_le (length (snapshot_bytes (own_head p w.commit) machine)) most_snapshot ≡ true = grind (arith, nat_tests) in rw (e, short) refl)
    (cases_Bool (nat_lt most_snapshot (length (snapshot_bytes (own_head p w.commit) machine))))

pub same_role : (o : Option (List ℕ)) (w : VolatileState) → (from_new o w).role ≡ w.role
same_role None w = refl
same_role (Some bytes) w = refl

-- ---- beats

pub no_beat : (me : ℕ) (p : PersistentState) (s : LocalStep) → is_leader s.state.role ≡ false → beats me p s ≡ s
no_beat me p s follows = rw follows refl

pub beats_idle : (me : ℕ) (p : PersistentState) (x : Option Part) (w : VolatileState) → is_leader w.role ≡ true → beats me p (does x w []) ≡ does x (beaten w) (beat_sends me (after_part x p) w)
beats_idle me p x w leads = ⊎_elim
    (λ (e : is_due w ≡ true). rw (e, leads) refl)
    (λ (e : is_due w ≡ false). rw (e, leads) refl)
    (cases_Bool (is_due w))

-- a leader that has written nothing
pub idles_is : (me : ℕ) (p : PersistentState) (w : VolatileState) (may_write : Bool) (machine : Option (List ℕ)) (o : Option (List ℕ)) → is_leader w.role ≡ true → own_bytes p w.commit may_write machine ≡ o
    → beats me p (own_snapshot p (does None w []) may_write machine) ≡ does (own_part p w.commit o) (beaten (from_new o w)) (beat_sends me (after_part (own_part p w.commit o) p) (from_new o w))
idles_is me p w may_write machine o leads is =
    ap (beats me p) (own_snapshot_is p w [] may_write machine ∙ ap (λ (b : Option (List ℕ)). does (own_part p w.commit b) (from_new b w) []) is)
    ∙ beats_idle me p (own_part p w.commit o) (from_new o w) (ap is_leader (same_role o w) ∙ leads)

-- ---- an expiry

none_anywhere : (i j : ℕ) (read : Result (Option Invocation × (ℕ × List ℕ)) ℕ) → option_map (λ (c : Config). c.members) (brought_at i read) ≡ None → brought_at j read ≡ None
none_anywhere i j (Ok entry) e = absurd (cc)
none_anywhere i j (Err place) e = refl

-- an entry that sets no members brings no configuration
pub brings_none : (entry : List ℕ) (i : ℕ) → members_in entry ≡ None → config_in i entry ≡ None
unfolding config_in members_in
brings_none entry i plain = none_anywhere 0 i (whole members_entry entry) plain

pub config_stays : (p : PersistentState) (b : Ballot) (entry : List ℕ) → members_in entry ≡ None → configuration (more p b entry) ≡ configuration p
config_stays p b entry plain = config_more p b entry ∙ ap (λ (o : Option Config). config_or o (configuration p)) (brings_none entry (last p + 1) plain)

-- the round is confirmed by the same members, whether the expiry is written or not
pub confirms_stay : (me : ℕ) (p : PersistentState) (entry : List ℕ) (reads : Reads) → members_in entry ≡ None → confirms_again me (more p (ballot p) entry) reads ≡ confirms_again me p reads
confirms_stay me p entry reads plain =
    ap (λ (c : Config). if length reads.looks == 0 then [] else map (λ (f : ℕ). send f (Confirm p.term reads.round)) (others me c.members)) (config_stays p (ballot p) entry plain)

-- ---- a tick at one that does not lead

commits_clock : (me : ℕ) (p : PersistentState) (v : VolatileState) → (commits me p v).clock ≡ v.clock
commits_clock me p v = let i = commit_found me p v in
    either (λ (z : VolatileState). z.clock ≡ v.clock) (i == v.commit) v (if is_member me (config_at p i).members then record v { commit = i } else steps_down (record v { commit = i }))
    (λ h. refl)
    (λ h. either (λ (z : VolatileState). z.clock ≡ v.clock) (is_member me (config_at p i).members) (record v { commit = i }) (steps_down (record v { commit = i })) (λ k. refl) (λ k. refl))

commits_beat : (me : ℕ) (p : PersistentState) (v : VolatileState) → (commits me p v).beat ≡ v.beat
commits_beat me p v = let i = commit_found me p v in
    either (λ (z : VolatileState). z.beat ≡ v.beat) (i == v.commit) v (if is_member me (config_at p i).members then record v { commit = i } else steps_down (record v { commit = i }))
    (λ h. refl)
    (λ h. either (λ (z : VolatileState). z.beat ≡ v.beat) (is_member me (config_at p i).members) (record v { commit = i }) (steps_down (record v { commit = i })) (λ k. refl) (λ k. refl))

no_false : (b : Bool) → (b && (false || false)) ≡ false
no_false true = refl
no_false false = refl

-- who takes leadership has just beaten
leader_rests : (me : ℕ) (p : PersistentState) (w : VolatileState) (term : ℕ) → beats me p (takes_leadership me p w term) ≡ takes_leadership me p w term
leader_rests me p w term =
    let s = takes_leadership me p w term in
    let q = with_part (created_part p (record { term = term; vote = me }) empty_entry) p in
    let clock : s.state.clock ≡ w.clock = commits_clock me q (leading me p w) in
    let beat : s.state.beat ≡ w.clock = commits_beat me q (leading me p w) in
    let early : nat_le beat_period (s.state.clock - s.state.beat) ≡ false = grind (arith, nat_tests, clock, beat) in
    let idle : (is_leader s.state.role && (false || nat_le beat_period (s.state.clock - s.state.beat))) ≡ false = ap (λ (b : Bool). is_leader s.state.role && (false || b)) early ∙ no_false (is_leader s.state.role) in
    rw idle refl

-- What one that does not lead does in a tick, with a snapshot where it wrote nothing.
pub record Waited (me : ℕ) (p : PersistentState) (may_write : Bool) (machine : Option (List ℕ)) (s : LocalStep) : Type 0 where
  pub idle : s.part ≡ None → beats me p (own_snapshot p s may_write machine)
      ≡ does (own_part p s.state.commit (own_bytes p s.state.commit may_write machine)) (from_new (own_bytes p s.state.commit may_write machine) s.state) s.sends
  pub wrote : (part : Part) → s.part ≡ Some part → beats me p (own_snapshot p s may_write machine) ≡ s

module _ (me : ℕ) (p : PersistentState) (v : VolatileState) (may_write : Bool) (machine : Option (List ℕ)) where
  quietly : (w : VolatileState) (sends : List Sent) → is_leader w.role ≡ false → Waited me p may_write machine (does None w sends)
  quietly w sends follows = record {
    idle = λ e. let o = own_bytes p w.commit may_write machine in
        ap (beats me p) (own_snapshot_is p w sends may_write machine)
        ∙ no_beat me p (does (own_part p w.commit o) (from_new o w) sends) (ap is_leader (same_role o w) ∙ follows);
    wrote = λ part e. absurd (cc);
  }

  alone : Waited me p may_write machine (takes_leadership me p (record v { heard = v.clock }) (suc p.term))
  alone = let s = takes_leadership me p (record v { heard = v.clock }) (suc p.term) in record {
    idle = λ e. absurd (cc);
    wrote = λ part e. ap (beats me p) (wrote p s part may_write machine e) ∙ leader_rests me p (record v { heard = v.clock }) (suc p.term);
  }

  pub waited : is_leader v.role ≡ false → Waited me p may_write machine (times_out me p v may_write)
  waited follows =
      let taking = takes_leadership me p (record v { heard = v.clock }) (suc p.term) in
      either (Waited me p may_write machine) (not (may_stand me (members p) p.term (last p) (silence v))) (does None v []) (if length (members p) == 1 then (if may_write then taking else does None v []) else stands me p v)
      (λ h. quietly v [] follows)
      (λ h. either (Waited me p may_write machine) (length (members p) == 1) (if may_write then taking else does None v []) (stands me p v)
      (λ k. either (Waited me p may_write machine) may_write taking (does None v []) (λ w. alone) (λ w. quietly v [] follows))
      (λ k. quietly (stands me p v).state (stands me p v).sends refl))

-- From an earlier moment of an execution of local steps to a later one.
use Rattle.std.proofs.Common.{◌≡◌, ℕ, ◌<◌, ◌≤◌, inl, inr, ⊎_elim, true, List, [], ◌∷◌, ◌++◌, refl, ap, sym, ◌∙◌, subst, arith, Contains, le_refl}
use Rattle.cp_parts.specs.declared.config.Config.{Config}
use Rattle.cp_agreement_facts.specs.Clusters.{Member, Step, cluster_after}
use Rattle.cp_agreement.specs.WholeLogs as whole
use Rattle.cp_safety.specs.Standing.{StandsFor, StandsThrough}
use Rattle.cp_safety.specs.Tracking.{untracked}
use Rattle.cp_safety.specs.Chunks.{ChunkedMember, MembersThrough}
use Rattle.cp_safety.proofs.Chunks.{chunked_executions}
use Rattle.cp_safety.proofs.Executions.{whole_logs}
use Rattle.cp_rules.specs.Volatile.{Look}
use Rattle.cp_rules.specs.Local.{Confirmed}
use Rattle.cp_rules_facts.specs.Seen.{reader, tracked_member}
use Rattle.cp_rules_facts.specs.Executions.{Local, LocalCluster, Act, local_after, IsExecution, seen_acts}
use Rattle.cp_rules_facts.proofs.Executions.{local_executions}
use Rattle.cp_rules_rounds.specs.Moments.{IsLocalMoment}
use Rattle.cp_rules_rounds.proofs.Known.{acted, sent_by, sent_cases, after_cases}
use Rattle.cp_rules_rounds.proofs.Said.{confirmed, TakenIn, WasTaken}
use Rattle.cp_rules_rounds.proofs.Whole.{early_meets}

-- ---- the act that took a look

pub record Found (first : Config) (acts : List Act) (l term : ℕ) (look : Look) : Type 0 where
  pub later : List Act
  pub read : Act
  pub early : List Act
  pub acts_are : acts ≡ later ++ (read ∷ early)
  pub taken : TakenIn (local_after first early) read l term look

pub found : (first : Config) (acts : List Act) (l term : ℕ) (look : Look) → WasTaken first acts l term look → Found first acts l term look
found first [] l term look h = absurd h
found first (a ∷ before) l term look (inl t) = record { later = []; read = a; early = before; acts_are = refl; taken = t }
found first (a ∷ before) l term look (inr h) =
    let x = found first before l term look h in
    record { later = a ∷ x.later; read = x.read; early = x.early; acts_are = ap (λ (r : List Act). a ∷ r) x.acts_are; taken = x.taken }

-- ---- confirmations after a moment

-- Who says yes to a round above the bound had no later term at the moment.
pub record Confirms (first : Config) (early : List Act) (term bound : ℕ) (acts : List Act) : Type 0 where
  pub up : (m : ℕ) → ((local_after first early).member m).stored.term ≤ ((local_after first acts).member m).stored.term
  pub low : (from to round : ℕ) → Contains (local_after first acts).sent (confirmed from to term round) → bound < round → ((local_after first early).member from).stored.term ≤ term

pub confirms_after : (first : Config) (early : List Act) (term bound : ℕ) → ((from to round : ℕ) → Contains (local_after first early).sent (confirmed from to term round) → round ≤ bound)
    → (later : List Act) → Confirms first early term bound (later ++ early)
confirms_after first early term bound base [] = record {
  up = λ m. le_refl ((local_after first early).member m).stored.term;
  low = λ from to round has above. absurd (let z = base from to round has in omega (arith, z, above));
}
confirms_after first early term bound base (a ∷ later) =
    let old = confirms_after first early term bound base later in
    let w = local_after first (later ++ early) in
    let x = acted w a in
    let then_term : ℕ → ℕ = λ m. ((local_after first early).member m).stored.term in
    record {
      up = λ m. after_cases (λ (l : Local). then_term m ≤ l.stored.term) w a m
          (λ e. let b : then_term m ≤ (w.member m).stored.term = old.up m in
          let c : then_term m ≤ (w.member a.actor).stored.term = subst (λ (n : ℕ). then_term m ≤ (w.member n).stored.term) e b in
          let d = x.rounds.term in omega (arith, c, d))
          (λ ne. old.up m);
      low = λ from to round has above. ⊎_elim
          (λ (had : Contains w.sent (confirmed from to term round)). old.low from to round had above)
          (λ (new : (from ≡ a.actor) × Contains (sent_by w a) (record { to = to; body = Confirmed term true round })).
          let y = (x.rounds.says (record { to = to; body = Confirmed term true round }) new.1).0 in
          let b = old.up from in
          let c : then_term from ≤ (w.member a.actor).stored.term = subst (λ (n : ℕ). then_term from ≤ (w.member n).stored.term) new.0 b in
          omega (arith, c, y))
          (sent_cases w a (confirmed from to term round) has);
    }

-- ---- whole logs at both moments

-- a member as agreement sees it
abbrev pub agreed : Local → Member
agreed l = untracked (tracked_member l.stored l.state)

-- the members of a moment as whole logs
abbrev pub Stand : Config → LocalCluster → whole.Cluster → Type 0
Stand first v x = (m : ℕ) → StandsFor first.members (agreed (v.member m)) (x.member m)

opening_stands : (first : Config) → Stand first (local_after first []) whole.opening
opening_stands first m = record { term = refl; commit = refl; leader = refl; log = record { fits = omega arith; log = refl; base_term = refl; members = refl; above = omega arith } }

record Traced (first : Config) (acts : List Act) (plain : List whole.Step) : Type 0 where
  steps : List Step
  through : MembersThrough first.members (seen_acts first acts) steps
  stands : StandsThrough first.members steps plain

-- the moment at the end
end_stands : (first : Config) (acts : List Act) → IsExecution first acts → (plain : List whole.Step) → Traced first acts plain → Stand first (local_after first acts) (whole.cluster_after plain)
end_stands first [] is plain t =
    let none : plain ≡ [] = subst (λ (l : List Step). StandsThrough first.members l plain) t.through t.stands in
    subst (λ (l : List whole.Step). Stand first (local_after first []) (whole.cluster_after l)) (sym none) (opening_stands first)
end_stands first (a ∷ before) is plain t = λ m.
    let g = t.through in
    let s = subst (λ (l : List Step). StandsThrough first.members l plain) g.2 t.stands in
    let seen = ap (λ (l : List Step). (cluster_after first.members l).member m) (sym g.2) ∙ g.3 m ∙ ap (λ (l : ChunkedMember). untracked l.tracked) ((local_executions first (a ∷ before) is).same m) in
    subst (λ (x : Member). StandsFor first.members x ((whole.cluster_after plain).member m)) seen (s.3 m)

-- one act less
less : (first : Config) (a : Act) (before : List Act) (plain : List whole.Step) → Traced first (a ∷ before) plain → (p : whole.Step) × (ps : List whole.Step) × (plain ≡ p ∷ ps) × Traced first before ps
less first a before plain t =
    let g = t.through in
    let s = subst (λ (l : List Step). StandsThrough first.members l plain) g.2 t.stands in
    (s.0, s.1, s.2, record { steps = g.1; through = g.4; stands = s.4 })

-- the steps up to an earlier moment
split : (first : Config) (later early : List Act) (plain : List whole.Step) → Traced first (later ++ early) plain → (ls : List whole.Step) × (es : List whole.Step) × (plain ≡ ls ++ es) × Traced first early es
split first [] early plain t = ([], plain, refl, t)
split first (a ∷ later) early plain t =
    let x = less first a (later ++ early) plain t in
    let y = split first later early x.1 x.3 in
    (x.0 ∷ y.0, y.1, x.2 ∙ ap (λ (l : List whole.Step). x.0 ∷ l) y.2, y.3)

-- a moment among the acts is one among the steps
moment_stands : (first : Config) (acts : List Act) → IsExecution first acts → (plain : List whole.Step) → Traced first acts plain → (v : LocalCluster) → IsLocalMoment first acts v → (x : whole.Cluster) × whole.IsMoment plain x × Stand first v x
moment_stands first [] is plain t v at =
    let none : plain ≡ [] = subst (λ (l : List Step). StandsThrough first.members l plain) t.through t.stands in
    (whole.opening, subst (λ (l : List whole.Step). whole.IsMoment l whole.opening) (sym none) refl, subst (λ (w : LocalCluster). Stand first w whole.opening) (sym at) (opening_stands first))
moment_stands first (a ∷ before) is plain t v (inl e) =
    let x = less first a before plain t in
    (whole.cluster_after plain, subst (λ (l : List whole.Step). whole.IsMoment l (whole.cluster_after l)) (sym x.2) (inl refl), subst (λ (w : LocalCluster). Stand first w (whole.cluster_after plain)) (sym e) (end_stands first (a ∷ before) is plain t))
moment_stands first (a ∷ before) is plain t v (inr at) =
    let x = less first a before plain t in
    let y = moment_stands first before is.1 x.1 x.3 v at in
    (y.0, subst (λ (l : List whole.Step). whole.IsMoment l y.0) (sym x.2) (inr y.1), y.2)

pub early_is : (first : Config) (later early : List Act) → IsExecution first (later ++ early) → IsExecution first early
early_is first [] early is = is
early_is first (a ∷ later) early is = early_is first later early is.1

pub record Both (first : Config) (later early : List Act) : Type 0 where
  pub ls : List whole.Step
  pub es : List whole.Step
  pub meets : whole.MeetsFacts first.members (ls ++ es)
  pub meets_early : whole.MeetsFacts first.members es
  pub now : Stand first (local_after first (later ++ early)) (whole.cluster_after (ls ++ es))
  pub before : Stand first (local_after first early) (whole.cluster_after es)
  pub moments : (v : LocalCluster) → IsLocalMoment first early v → (x : whole.Cluster) × whole.IsMoment es x × Stand first v x

pub both : (first : Config) (later early : List Act) → IsExecution first (later ++ early) → Both first later early
both first later early is =
    let y = chunked_executions reader first.members (seen_acts first (later ++ early)) (local_executions first (later ++ early) is).meets in
    let (plain, facts, through) = whole_logs first.members y.0 y.1 in
    let t : Traced first (later ++ early) plain = record { steps = y.0; through = y.2; stands = through } in
    let s = split first later early plain t in
    let then_is = early_is first later early is in
    let all_meet = subst (λ (l : List whole.Step). whole.MeetsFacts first.members l) s.2 facts in
    record {
      ls = s.0;
      es = s.1;
      meets = all_meet;
      meets_early = early_meets first.members s.0 s.1 all_meet;
      now = subst (λ (l : List whole.Step). Stand first (local_after first (later ++ early)) (whole.cluster_after l)) s.2 (end_stands first (later ++ early) is plain t);
      before = end_stands first early then_is s.1 s.3;
      moments = moment_stands first early then_is s.1 s.3;
    }

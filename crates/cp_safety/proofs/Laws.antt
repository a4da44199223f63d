-- The laws, carried from whole logs to the members that stand for these.
use Rattle.std.proofs.Common.{◌≡◌, ℕ, zero, suc, ◌+◌, ◌-◌, ◌<◌, ◌≤◌, inl, inr, ⊎_elim, true, List, [], ◌∷◌, ◌++◌, length, take, drop, refl, ap, sym, ◌∙◌, arith, subst, slice_get, take-take, length-take, length-append}
use Rattle.std.proofs.Math.Seq.{take-append_seam}
use Rattle.std.proofs.lemmas.Bool.{cases_lt}
use Rattle.std.proofs.lemmas.Option.{same_Some}
use Rattle.cp_parts.specs.declared.log_entry.LogEntry.{LogEntry}
use Rattle.cp_agreement_facts.specs.Configurations.{AreAdjacent, HasQuorum, configuration_after, configuration_at}
use Rattle.cp_agreement_facts.specs.Logs.{HasTerm, IsPrefixOf}
use Rattle.cp_agreement_facts.specs.Clusters.{Member, Cluster, Step, IsMoment, cluster_after, opening}
use Rattle.cp_agreement_facts.specs.Facts.{KnowsTerm, MeetsFacts}
use Rattle.cp_agreement.specs.WholeLogs as whole
use Rattle.cp_agreement.proofs.Logs.{get-take, has_place}
use Rattle.cp_agreement.proofs.Moments.{one_leader as whole_one_leader, equal_prefixes as whole_equal_prefixes, later_leaders as whole_later_leaders, one_history as whole_one_history, held_at_end as whole_held_at_end, held_by_first as whole_held_by_first, one_led as whole_one_led, later_led as whole_later_led}
use Rattle.cp_agreement.proofs.Configurations.{QuietFrom}
use Rattle.cp_agreement.proofs.Ghost.{ghost_of}
use Rattle.cp_safety.specs.Standing.{StandsForLog, StandsFor, StandsThrough, LedThrough}
use Rattle.cp_safety.specs.Laws.{Led, HasEntry, AgreeUpTo, CommitsFrontOf, IsHistory, IsHeldBy, KeepsMembers}
use Rattle.cp_safety.proofs.Lists.{drop-take_add, has_term_same}
use Rattle.cp_safety.proofs.Fits.{at_log, knows_has, whole_length}
use Rattle.cp_safety.proofs.Executions.{whole_logs, led_whole_logs, quiet_whole_logs}

opening_stands : (first : List ℕ) (m : ℕ) → StandsFor first ((opening first).member m) (whole.opening.member m)
opening_stands first m = record { term = refl; commit = refl; leader = refl; log = record { fits = omega arith; log = refl; base_term = refl; members = refl; above = omega arith } }

-- the moment of the execution on whole logs that a moment stands for
at_once : (first : List ℕ) (steps : List Step) (plain : List whole.Step) → StandsThrough first steps plain → (v : Cluster) → IsMoment first steps v
    → (x : whole.Cluster) × whole.IsMoment plain x × ((m : ℕ) → StandsFor first (v.member m) (x.member m))
at_once first [] plain through v at = (
  whole.opening,
  subst (λ p. whole.IsMoment p whole.opening) (sym through) refl,
  λ m. subst (λ (u : Cluster). StandsFor first (u.member m) (whole.opening.member m)) (sym at) (opening_stands first m),
)
at_once first (s ∷ steps) plain (p, ps, is, stands, rest) v (inl e) = (
  whole.cluster_after plain,
  subst (λ l. whole.IsMoment l (whole.cluster_after l)) (sym is) (inl refl),
  λ m. subst (λ (u : Cluster). StandsFor first (u.member m) ((whole.cluster_after plain).member m)) (sym e) (stands m),
)
at_once first (s ∷ steps) plain (p, ps, is, stands, rest) v (inr at) = let r = at_once first steps ps rest v at in (r.0, subst (λ l. whole.IsMoment l r.0) (sym is) (inr r.1), r.2)

-- at the end
stands_now : (first : List ℕ) (steps : List Step) (plain : List whole.Step) → StandsThrough first steps plain
    → (m : ℕ) → StandsFor first ((cluster_after first steps).member m) ((whole.cluster_after plain).member m)
stands_now first [] plain through m = subst (λ p. StandsFor first ((opening first).member m) ((whole.cluster_after p).member m)) (sym through) (opening_stands first m)
stands_now first (s ∷ steps) plain (p, ps, is, stands, rest) m = stands m

-- What two logs with equal fronts have at a place of the front.
same_at : (a b : List LogEntry) (n k : ℕ) → take n a ≡ take n b → k < n → slice_get a k ≡ slice_get b k
same_at a b n k same less = sym (get-take a n k less) ∙ ap (λ l. slice_get l k) same ∙ get-take b n k less

same_term : (a b : List LogEntry) (n i t : ℕ) → take n a ≡ take n b → i ≤ n → HasTerm a i t → HasTerm b i t
same_term a b n zero t same le has = has
same_term a b n (suc k) t same le has = (has.0, sym (same_at a b n k same le) ∙ has.1, has.2)

same_front : (a b : List LogEntry) (n m : ℕ) → take n a ≡ take n b → m ≤ n → take m a ≡ take m b
same_front a b n m same le = sym (take-take m n a le) ∙ ap (take m) same ∙ take-take m n b le

-- a front that is a prefix of another log
prefix_front : (a b : List LogEntry) (n : ℕ) → n ≤ length a → IsPrefixOf (take n a) b → (take n a ≡ take n b) × (n ≤ length b)
prefix_front a b n le (rest, e) =
    let long : length (take n a) ≡ n = omega (arith, length-take n a, le) in (
      sym (take-append_seam (take n a) rest) ∙ ap (λ k. take k (take n a ++ rest)) long ∙ ap (take n) e,
      omega (arith, long, length-append (take n a) rest, ap length e),
    )

-- Members that stand for logs with equal fronts agree.
agree : (first : List ℕ) (a b : Member) (la lb : List LogEntry) → StandsForLog first a la → StandsForLog first b lb → (n : ℕ) → take n la ≡ take n lb → AgreeUpTo n a b
agree first a b la lb fa fb n same i le = (entries, terms)
  where
    entries : (e f : LogEntry) → HasEntry a i e → HasEntry b i f → e ≡ f
    entries e f (k, ik, is) (j, ij, at) = same_Some e f (
        sym is ∙ at_log first a la fa k ∙ same_at la lb n (a.base + k) same (omega (arith, ik, le)) ∙ ap (slice_get lb) (omega (arith, ik, ij))
        ∙ sym (at_log first b lb fb j) ∙ at)

    terms : (t u : ℕ) → KnowsTerm a i t → KnowsTerm b i u → t ≡ u
    terms t u ka kb = has_term_same lb i t u (same_term la lb n i t same le (knows_has first a la fa i t ka)) (knows_has first b lb fb i u kb)

-- Where the one's committed list is a prefix of the other's log, the other has it.
leads_on : (first : List ℕ) (a b : Member) (x y : whole.Member) → StandsFor first a x → StandsFor first b y → x.commit ≤ length x.log → IsPrefixOf (take x.commit x.log) y.log
    → AgreeUpTo a.commit a b × (a.commit ≤ b.base + length b.log)
leads_on first a b x y fa fb within later =
    let front = prefix_front x.log y.log x.commit within later in (
      agree first a b x.log y.log fa.log fb.log a.commit (subst (λ c. take c x.log ≡ take c y.log) fa.commit front.0),
      omega (arith, front.1, fa.commit, whole_length first b y.log fb.log),
    )

module _ (first : List ℕ) (steps : List Step) (meets : MeetsFacts first steps) (v w : Cluster) (at_v : IsMoment first steps v) (at_w : IsMoment first steps w) (m n : ℕ) where
  -- The laws, each by the law of that name on whole logs.
  pub one_office : (v.member m).is_leader ≡ true → (w.member n).is_leader ≡ true → (v.member m).term ≡ (w.member n).term → m ≡ n
  one_office leads_m leads_n same =
      let (plain, facts, through) = whole_logs first steps meets in
      let x = at_once first steps plain through v at_v in
      let y = at_once first steps plain through w at_w in
      whole_one_leader first plain facts x.0 y.0 x.1 y.1 m n ((x.2 m).leader ∙ leads_m) ((y.2 n).leader ∙ leads_n) ((x.2 m).term ∙ same ∙ sym (y.2 n).term)

  pub equal_prefixes : (i t : ℕ) → KnowsTerm (v.member m) i t → KnowsTerm (w.member n) i t → AgreeUpTo i (v.member m) (w.member n)
  equal_prefixes i t knows_m knows_n =
      let (plain, facts, through) = whole_logs first steps meets in
      let x = at_once first steps plain through v at_v in
      let y = at_once first steps plain through w at_w in
      let lm = (x.0.member m).log in let ln = (y.0.member n).log in
      agree first (v.member m) (w.member n) lm ln (x.2 m).log (y.2 n).log i
      (whole_equal_prefixes first plain facts x.0 y.0 x.1 y.1 m n i t (knows_has first (v.member m) lm (x.2 m).log i t knows_m) (knows_has first (w.member n) ln (y.2 n).log i t knows_n))

  pub later_offices : (w.member n).is_leader ≡ true → (v.member m).term < (w.member n).term
      → AgreeUpTo (v.member m).commit (v.member m) (w.member n) × ((v.member m).commit ≤ (w.member n).base + length (w.member n).log)
  later_offices leads less =
      let (plain, facts, through) = whole_logs first steps meets in
      let x = at_once first steps plain through v at_v in
      let y = at_once first steps plain through w at_w in
      let within = ((whole_one_history first plain facts).1 x.0 x.1 m).1 in
      leads_on first (v.member m) (w.member n) (x.0.member m) (y.0.member n) (x.2 m) (y.2 n) within
      (whole_later_leaders first plain facts x.0 y.0 x.1 y.1 m n ((y.2 n).leader ∙ leads) (omega (arith, less, (x.2 m).term, (y.2 n).term)))

-- ---- members that led in a step

-- the step on whole logs that a step stands for
led_at : (first : List ℕ) (steps : List Step) (plain : List whole.Step) → LedThrough first steps plain → (m : ℕ) (x : Member) → Led steps m x → (y : whole.Member) × whole.Led plain m y × StandsFor first x y
led_at first [] plain through m x led = absurd led
led_at first (s ∷ steps) plain (p, ps, is, actor, leads, stands, rest) m x (inl (a, b, c)) =
    (p.after, subst (λ l. whole.Led l m p.after) (sym is) (inl (actor ∙ a, leads ∙ b, refl)), subst (λ z. StandsFor first z p.after) c stands)
led_at first (s ∷ steps) plain (p, ps, is, actor, leads, stands, rest) m x (inr led) = let r = led_at first steps ps rest m x led in (r.0, subst (λ l. whole.Led l m r.0) (sym is) (inr r.1), r.2)

-- No two members lead in one term, also where a step is cut off or the leader steps down in it.
pub one_led : (first : List ℕ) (steps : List Step) → MeetsFacts first steps → (m n : ℕ) (x y : Member) → Led steps m x → Led steps n y → x.term ≡ y.term → m ≡ n
one_led first steps meets m n x y led_m led_n same =
    let (plain, facts, through, led) = led_whole_logs first steps meets in
    let a = led_at first steps plain led m x led_m in
    let b = led_at first steps plain led n y led_n in
    whole_one_led first plain facts m n a.0 b.0 a.1 b.1 (a.2.term ∙ same ∙ sym b.2.term)

-- What a member has committed each that leads a later term has.
pub later_led : (first : List ℕ) (steps : List Step) → MeetsFacts first steps → (v : Cluster) → IsMoment first steps v → (m n : ℕ) (x : Member) → Led steps n x
    → (v.member m).term < x.term → AgreeUpTo (v.member m).commit (v.member m) x × ((v.member m).commit ≤ x.base + length x.log)
later_led first steps meets v at_v m n x led_n less =
    let (plain, facts, through, led) = led_whole_logs first steps meets in
    let a = at_once first steps plain through v at_v in
    let b = led_at first steps plain led n x led_n in
    let within = ((whole_one_history first plain facts).1 a.0 a.1 m).1 in
    leads_on first (v.member m) x (a.0.member m) b.0 (a.2 m) b.2 within (whole_later_led first plain facts a.0 a.1 m n b.0 b.1 (omega (arith, less, (a.2 m).term, b.2.term)))

-- A member that stands for a log has committed a front of each list of which this log's committed front is one.
commits_front : (first : List ℕ) (history : List LogEntry) (a : Member) (log : List LogEntry) → StandsForLog first a log → take a.commit log ≡ take a.commit history → a.commit ≤ length history → CommitsFrontOf first history a
commits_front first history a log fit same within =
    let above = fit.above in
    record {
      within = within;
      base = above;
      entries = ap (take (a.commit - a.base)) fit.log ∙ sym (drop-take_add a.base (a.commit - a.base) log) ∙ ap (λ k. drop a.base (take k log)) (omega (arith, above)) ∙ ap (drop a.base) same;
      base_term = same_term log history a.commit a.base a.base_term same above fit.base_term;
      members = fit.members ∙ ap (configuration_after first) (same_front log history a.commit a.base same above);
    }

module _ (first : List ℕ) (steps : List Step) (plain : List whole.Step) (facts : whole.MeetsFacts first plain) (through : StandsThrough first steps plain) where
  abbrev history : List LogEntry
  history = (whole_one_history first plain facts).0

  -- what a member has committed at a moment of the execution on whole logs
  front : (x : whole.Cluster) → whole.IsMoment plain x → (m : ℕ) → (take (x.member m).commit (x.member m).log ≡ take (x.member m).commit history) × ((x.member m).commit ≤ length history)
  front x at m = let h = (whole_one_history first plain facts).1 x at m in prefix_front (x.member m).log history (x.member m).commit h.1 h.0

  -- The history of the execution on whole logs is that of this one.
  is_history : IsHistory first steps history
  is_history v at m =
      let x = at_once first steps plain through v at in
      let c = (x.2 m).commit in
      let f = front x.0 x.1 m in
      commits_front first history (v.member m) (x.0.member m).log (x.2 m).log (subst (λ k. take k (x.0.member m).log ≡ take k history) c f.0) (subst (λ k. k ≤ length history) c f.1)

  -- A member whose whole log has the history's front holds its last entry.
  holds : (place : ℕ) → place < length history → (a : Member) (log : List LogEntry) → StandsForLog first a log → take (suc place) log ≡ take (suc place) history → IsHeldBy history place a
  holds place within a log fit same = ⊎_elim inl
      (λ (above : a.base ≤ place).
      let e = has_place history place within in
      inr (
        e.0,
        e.1,
        (
          place - a.base,
          omega (arith, above),
          at_log first a log fit (place - a.base) ∙ ap (slice_get log) (omega (arith, above)) ∙ same_at log history (suc place) place same (omega arith) ∙ e.1,
        ),
      ))
      (cases_lt place a.base)

  -- Each committed place of it is held at the end.
  held : (v : Cluster) → IsMoment first steps v → (m place : ℕ) → place < (v.member m).commit
      → (members : List ℕ) × AreAdjacent (configuration_at first history (suc place)) members × HasQuorum members (λ n. IsHeldBy history place ((cluster_after first steps).member n))
  held v at m place less =
      let x = at_once first steps plain through v at in
      let f = front x.0 x.1 m in
      let low : place < (x.0.member m).commit = omega (arith, less, (x.2 m).commit) in
      let (members, near, quorum) = whole_held_at_end first plain facts x.0 x.1 m place low in
      let same : take (suc place) (x.0.member m).log ≡ take (suc place) history = same_front (x.0.member m).log history (x.0.member m).commit (suc place) f.0 low in (
        members,
        subst (λ l. AreAdjacent (configuration_after first l) members) same near,
        (quorum.0, quorum.1, λ n chosen. holds place (omega (arith, low, f.1)) ((cluster_after first steps).member n) ((whole.cluster_after plain).member n).log (stands_now first steps plain through n).log (quorum.2 n chosen ∙ same)),
      )

module _ (first : List ℕ) (steps : List Step) (plain : List whole.Step) (facts : whole.MeetsFacts first plain) (through : StandsThrough first steps plain) (quiet : (t : ℕ) → QuietFrom ((ghost_of plain).made t) 0) where
  -- While members are fixed, each committed place of it is held at the end by a quorum of the first members.
  held_by_first : (v : Cluster) → IsMoment first steps v → (m place : ℕ) → place < (v.member m).commit
      → HasQuorum first (λ n. IsHeldBy (history first steps plain facts through) place ((cluster_after first steps).member n))
  held_by_first v at m place less =
      let x = at_once first steps plain through v at in
      let f = front first steps plain facts through x.0 x.1 m in
      let low : place < (x.0.member m).commit = omega (arith, less, (x.2 m).commit) in
      let quorum = whole_held_by_first first plain facts quiet x.0 x.1 m place low in
      let same = same_front (x.0.member m).log (history first steps plain facts through) (x.0.member m).commit (suc place) f.0 low in (
        quorum.0,
        quorum.1,
        λ n chosen. holds first steps plain facts through place (omega (arith, low, f.1)) ((cluster_after first steps).member n) ((whole.cluster_after plain).member n).log (stands_now first steps plain through n).log (quorum.2 n chosen ∙ same),
      )

pub committed_prefixes : (first : List ℕ) (steps : List Step) → MeetsFacts first steps → (history : List LogEntry) × IsHistory first steps history
committed_prefixes first steps meets = let (plain, facts, through) = whole_logs first steps meets in (history first steps plain facts through, is_history first steps plain facts through)

pub held_at_end : (first : List ℕ) (steps : List Step) → MeetsFacts first steps → (history : List LogEntry) × IsHistory first steps history
    × ((v : Cluster) → IsMoment first steps v → (m place : ℕ) → place < (v.member m).commit
    → (members : List ℕ) × AreAdjacent (configuration_at first history (suc place)) members
    × HasQuorum members (λ n. IsHeldBy history place ((cluster_after first steps).member n)))
held_at_end first steps meets =
    let (plain, facts, through) = whole_logs first steps meets in
    (history first steps plain facts through, is_history first steps plain facts through, held first steps plain facts through)

pub held_by_first_members : (first : List ℕ) (steps : List Step) → MeetsFacts first steps → KeepsMembers first steps → (history : List LogEntry) × IsHistory first steps history
    × ((v : Cluster) → IsMoment first steps v → (m place : ℕ) → place < (v.member m).commit → HasQuorum first (λ n. IsHeldBy history place ((cluster_after first steps).member n)))
held_by_first_members first steps meets keeps =
    let (plain, facts, through, quiet) = quiet_whole_logs first steps meets keeps in
    (history first steps plain facts through, is_history first steps plain facts through, held_by_first first steps plain facts through quiet)

-- An execution of members with snapshots stands for one on whole logs.
use Rattle.std.proofs.Common.{slice_get, inl, inr, ◌≡◌, ℕ, zero, suc, ◌≤◌, ⊎_elim, List, [], ◌∷◌, ◌++◌, map, refl, ap, sym, ◌∙◌, arith, subst, Contains}
use Rattle.std.proofs.lemmas.List.Elements.{Contains-append_cases}
use Rattle.cp_parts.specs.declared.log_entry.LogEntry.{LogEntry}
use Rattle.cp_agreement_facts.specs.Logs.{HasTerm}
use Rattle.cp_agreement_facts.specs.Clusters.{Append, Cluster, Member, Message, Snapshot, Step, Vote, after_step, cluster_after, put}
use Rattle.cp_agreement_facts.specs.Facts.{KnowsTerm, MeetsFacts, before}
use Rattle.cp_safety.specs.Standing.{StandsFor, StandsForLog, StandsThrough, LedThrough}
use Rattle.cp_agreement.specs.WholeLogs as whole
use Rattle.cp_agreement.proofs.Ghost.{Ghost, Invariant, Sound, ghost_of, put_other, put_same}
use Rattle.cp_agreement.proofs.Moments.{invariant}
use Rattle.cp_agreement.proofs.GhostSteps.{leader_in, made_cases}
use Rattle.cp_agreement.proofs.Configurations.{QuietFrom}
use Rattle.cp_safety.specs.Laws.{KeepsMembers}
use Rattle.std.proofs.lemmas.Bool.{cases_eq}
use Rattle.cp_agreement.proofs.Grows.{leader_stays}
use Rattle.cp_safety.proofs.Fits.{knows_has}
use Rattle.cp_safety.proofs.Messages.{Heard, receive, stand, standing, to_whole}
use Rattle.cp_safety.proofs.Steps.{next_fit, next_heard, next_stand, outcome, step_facts, whole_step, quiet_log}

-- The execution on whole logs, beside the one with snapshots.
record Beside (first : List ℕ) (steps : List Step) : Type 0 where
  plain : List whole.Step
  meets : whole.MeetsFacts first plain
  logs : ℕ → List LogEntry
  sent : List Message
  is : whole.cluster_after plain ≡ stand (cluster_after first steps) logs sent
  fit : (m : ℕ) → StandsForLog first ((cluster_after first steps).member m) (logs m)
  heard : Heard first (cluster_after first steps) sent
  through : StandsThrough first steps plain
  led : LedThrough first steps plain
  quiet : KeepsMembers first steps → ((m : ℕ) → QuietFrom (logs m) 0) × ((t : ℕ) → QuietFrom ((ghost_of plain).made t) 0)

stands_for : (first : List ℕ) (b : Member) (l : List LogEntry) → StandsForLog first b l → StandsFor first b (standing b l)
stands_for first b l f = record { term = refl; commit = refl; leader = refl; log = f }

-- By induction on the steps.
beside : (first : List ℕ) (steps : List Step) → MeetsFacts first steps → Beside first steps
beside first [] meets = record {
  plain = [];
  meets = tt;
  logs = λ m. [];
  sent = [];
  is = refl;
  fit = λ m. record { fits = omega arith; log = refl; base_term = refl; members = refl; above = omega arith };
  heard = record {
    plain = λ m same has. absurd (omega (arith, has.1));
    asked = λ c t lt li has. absurd (omega (arith, has.1));
    done = λ v to t j has. absurd (omega (arith, has.1));
    snapshot = λ f t i it ms has. absurd (omega (arith, has.1));
  };
  through = refl;
  led = refl;
  quiet = λ keeps. (λ m k e le is. absurd (cc), λ t k e le is. absurd (cc));
}
beside first (s ∷ before) meets = next (beside first before meets.1)
  where
    next : Beside first before → Beside first (s ∷ before)
    next b =
        let w = cluster_after first before in
        let inv : Invariant first (stand w b.logs b.sent) (ghost_of b.plain) = subst (λ x. Invariant first x (ghost_of b.plain)) b.is (invariant first b.plain b.meets) in
        let r = receive first w b.sent b.heard s.got meets.0.delivered in
        let o = outcome first w b.logs b.sent (ghost_of b.plain) s inv b.heard b.fit r meets.0 in
        let p = whole_step first w b.logs b.sent (ghost_of b.plain) s inv b.heard b.fit r meets.0 o.log in
        let same : whole.cluster_after (p ∷ b.plain) ≡ stand (after_step w s) (put b.logs s.actor o.log) (b.sent ++ map (to_whole o.log s.after.commit) s.sends) =
        ap (λ x. whole.after_step x p) b.is ∙ next_stand first w b.logs b.sent (ghost_of b.plain) s inv b.heard b.fit r meets.0 o in
        let fits = next_fit first w b.logs b.sent (ghost_of b.plain) s inv b.heard b.fit r meets.0 o in
        record {
          plain = p ∷ b.plain;
          meets = (subst (λ x. whole.Facts first x p) (sym b.is) (step_facts first w b.logs b.sent (ghost_of b.plain) s inv b.heard b.fit r meets.0 o), b.meets);
          logs = put b.logs s.actor o.log;
          sent = b.sent ++ map (to_whole o.log s.after.commit) s.sends;
          is = same;
          fit = fits;
          heard = next_heard first w b.logs b.sent (ghost_of b.plain) s inv b.heard b.fit r meets.0 o;
          through = (p, b.plain, refl, λ m. subst (λ x. StandsFor first ((after_step w s).member m) (x.member m)) (sym same) (stands_for first ((after_step w s).member m) (put b.logs s.actor o.log m) (fits m)), b.through);
          led = (p, b.plain, refl, refl, refl, stands_for first s.after o.log o.fits, b.led);
          quiet = λ keeps.
              let old = b.quiet (λ v at. keeps v (inr at)) in
              let own : QuietFrom s.after.log 0 = λ k e le is. keeps (cluster_after first (s ∷ before)) (inl refl) s.actor k e (ap (λ (x : Member). slice_get x.log k) (put_same w.member s.actor s.after s.actor refl) ∙ is) in
              let log = quiet_log first w b.logs b.sent (ghost_of b.plain) s inv b.heard b.fit r meets.0 o old.0 old.1 own in (
                λ m. ⊎_elim
                    (λ (e : m ≡ s.actor). subst (λ l. QuietFrom l 0) (sym (put_same b.logs s.actor o.log m e)) log)
                    (λ ne. subst (λ l. QuietFrom l 0) (sym (put_other b.logs s.actor o.log m ne)) (old.0 m))
                    (cases_eq m s.actor),
                λ t. ⊎_elim
                    (λ e. subst (λ l. QuietFrom l 0) (sym e) (old.1 t))
                    (λ e. subst (λ l. QuietFrom l 0) (sym e) log)
                    (made_cases (whole.cluster_after b.plain) (ghost_of b.plain) p t),
              );
        }

pub whole_logs : (first : List ℕ) (steps : List Step) → MeetsFacts first steps → (plain : List whole.Step) × whole.MeetsFacts first plain × StandsThrough first steps plain
whole_logs first steps meets = let b = beside first steps meets in (b.plain, b.meets, b.through)

-- The same execution, with who leads in its steps.
pub led_whole_logs : (first : List ℕ) (steps : List Step) → MeetsFacts first steps → (plain : List whole.Step) × whole.MeetsFacts first plain × StandsThrough first steps plain × LedThrough first steps plain
led_whole_logs first steps meets = let b = beside first steps meets in (b.plain, b.meets, b.through, b.led)

-- Where no members entry stands in any log, none stands in a leader's whole log.
pub quiet_whole_logs : (first : List ℕ) (steps : List Step) → MeetsFacts first steps → KeepsMembers first steps
    → (plain : List whole.Step) × whole.MeetsFacts first plain × StandsThrough first steps plain × ((t : ℕ) → QuietFrom ((ghost_of plain).made t) 0)
quiet_whole_logs first steps meets keeps = let b = beside first steps meets in (b.plain, b.meets, b.through, (b.quiet keeps).1)

-- What an execution with snapshots knows of itself.
pub record Known (w : Cluster) : Type 0 where
  pub upto : (m t i : ℕ) → KnowsTerm (w.member m) i t → t ≤ (w.member m).term
  pub asked : (c t lt li : ℕ) → Contains w.sent (Vote c t lt li) → t ≤ (w.member c).term
  pub above : (m : ℕ) → (w.member m).base ≤ (w.member m).commit

-- Read off the execution on whole logs.
pub known : (first : List ℕ) (steps : List Step) → MeetsFacts first steps → Known (cluster_after first steps)
known first steps meets =
    let b = beside first steps meets in
    let inv : Invariant first (stand (cluster_after first steps) b.logs b.sent) (ghost_of b.plain) = subst (λ x. Invariant first x (ghost_of b.plain)) b.is (invariant first b.plain b.meets) in
    record {
      upto = λ m t i knows. has_upto (ghost_of b.plain) (b.logs m) ((cluster_after first steps).member m).term (inv.log m) i t (knows_has first ((cluster_after first steps).member m) (b.logs m) (b.fit m) i t knows);
      asked = λ c t lt li has. (inv.asked c t lt li (b.heard.plain (Vote c t lt li) tt has)).1;
      above = λ m. (b.fit m).above;
    }
  where
    has_upto : (g : Ghost) (l : List LogEntry) (u : ℕ) → Sound g l u → (i t : ℕ) → HasTerm l i t → t ≤ u
    has_upto g l u sound zero t has = omega (arith, has)
    has_upto g l u sound (suc i) t has = subst (λ n. n ≤ u) has.2 (sound.upto i has.0 has.1)

-- What is sent of a term in an Append is sent by the one leader of that term.
sender_holds : (first : List ℕ) (steps : List whole.Step) → whole.MeetsFacts first steps → (f t p pt : ℕ) (es : List LogEntry) (c : ℕ) → Contains (whole.cluster_after steps).sent (Append f t p pt es c) → (ghost_of steps).leader t ≡ f
sender_holds first [] meets f t p pt es c has = absurd (omega (arith, has.1))
sender_holds first (s ∷ before) meets f t p pt es c has = ⊎_elim
    (λ (old : Contains (whole.cluster_after before).sent (Append f t p pt es c)).
    let inv = invariant first before meets.1 in
    leader_stays first (whole.cluster_after before) (ghost_of before) s inv meets.0 t (inv.append f t p pt es c old).0 ∙ sender_holds first before meets.1 f t p pt es c old)
    (λ (new : Contains s.sends (Append f t p pt es c)).
    let x = meets.0.append f t p pt es c new in
    leader_in (whole.cluster_after before) (ghost_of before) s t x.leading x.term_is ∙ sym x.sender_is)
    (Contains-append_cases (whole.cluster_after before).sent s.sends (Append f t p pt es c) has)

-- Snapshots of one term have one sender.
pub senders : (first : List ℕ) (steps : List Step) → MeetsFacts first steps → (f f' t i i' it it' : ℕ) (ms ms' : List ℕ)
    → Contains (cluster_after first steps).sent (Snapshot f t i it ms) → Contains (cluster_after first steps).sent (Snapshot f' t i' it' ms') → f ≡ f'
senders first steps meets f f' t i i' it it' ms ms' has has' =
    let b = beside first steps meets in
    let x = b.heard.snapshot f t i it ms has in
    let y = b.heard.snapshot f' t i' it' ms' has' in
    let at : (whole.cluster_after b.plain).sent ≡ b.sent = ap (λ z. z.sent) b.is in
    sym (sender_holds first b.plain b.meets f t 0 0 x.entries x.commit (subst (λ l. Contains l (Append f t 0 0 x.entries x.commit)) (sym at) x.is_sent))
    ∙ sender_holds first b.plain b.meets f' t 0 0 y.entries y.commit (subst (λ l. Contains l (Append f' t 0 0 y.entries y.commit)) (sym at) y.is_sent)

-- One step of a member with a snapshot is one step on the whole logs that members stand for.
use Rattle.std.proofs.Common.{◌≡◌, ◌≢◌, ℕ, zero, suc, ◌+◌, ◌-◌, ◌*◌, ◌<◌, ◌≤◌, ◌⊎◌, inl, inr, ⊎_elim, List, [], ◌∷◌, ◌++◌, length, take, drop, map, refl, ap, ap₂, sym, ◌∙◌, arith, subst, Some, slice_get, Contains, le_refl, le_trans, le_of_lt, le_of_eq, take_all, count_by, take-append-drop, length-take, zero-add}
use mathlib.Core.Path.{fun_ext}
use Rattle.std.proofs.lemmas.Bool.{cases_lt, cases_eq}
use Rattle.std.proofs.lemmas.Option.{slice_get_within}
use Rattle.std.proofs.lemmas.List.Elements.{Contains-append_left, Contains-append_right, Contains-append_cases}
use Rattle.cp_parts.specs.declared.log_entry.LogEntry.{LogEntry}
use Rattle.cp_agreement_facts.specs.Configurations.{AreOneApart, configuration_after}
use Rattle.cp_agreement_facts.specs.Logs.{HasTerm, HasTerms}
use Rattle.cp_agreement_facts.specs.Clusters.{Member, Append, Appended, Cluster, Done, Message, Snapshot, Step, Vote, Voted, after_step, put}
use Rattle.cp_agreement_facts.specs.Facts.{Acknowledges, ChangesAreSingle, EntriesCreated, Facts, Finishes, FollowerCommits, FollowsAbove, FollowsBelow, GotAppend, InstallsSnapshot, KeepsLog, LeaderCommits, SameBase, TakesSnapshot, WinsElection}
use Rattle.cp_safety.specs.Standing.{StandsForLog}
use Rattle.cp_agreement.specs.WholeLogs as whole
use Rattle.cp_agreement.proofs.Logs.{Share, get-drop, get-take, has_place, reach, reach_at, share_at, share_length, share_less, share_refl, share_sym, share_take, share_trans}
use Rattle.cp_agreement.proofs.Configurations.{QuietFrom}
use Rattle.cp_agreement.proofs.Ghost.{Committed, Ghost, Invariant, put_other, put_same}
use Rattle.cp_agreement.proofs.Complete.{complete, sound_matches}
use Rattle.cp_safety.proofs.Lists.{configuration_after-append, contains_map, drop-append_left, drop-drop_add, drop-take_add, drop_all, has_term_shared, has_term_within, take-add_drop}
use Rattle.cp_safety.proofs.Fits.{Difference, at_log, ends_has, first_difference, has_knows, keep_front, keep_push, knows_has, members_is, whole_length}
use Rattle.cp_safety.proofs.Messages.{AsItIs, Carries, ForDone, ForSnapshot, Heard, Received, Stands, same_message, stand, standing, to_whole, what_stands}

module _ (first : List ℕ) (w : Cluster) (logs : ℕ → List LogEntry) (sent : List Message) (g : Ghost) (s : Step)
    (inv : Invariant first (stand w logs sent) g) (heard : Heard first w sent) (fit : (m : ℕ) → StandsForLog first (w.member m) (logs m)) (r : Received first sent s.got) (facts : Facts w s) where
  -- the acting member and its whole log before the step, and the cluster on whole logs
  abbrev me : Member
  me = w.member s.actor

  abbrev whole_log : List LogEntry
  whole_log = logs s.actor

  abbrev now : whole.Cluster
  now = stand w logs sent

  -- the step on whole logs, where it leaves the whole log l
  abbrev pub whole_step : List LogEntry → whole.Step
  whole_step l = record { actor = s.actor; got = r.got; leads = s.leads; after = standing s.after l; sends = map (to_whole l s.after.commit) s.sends }

  -- The whole log that the step leaves, how it came about, and what is known of it up to the base.
  pub record Outcome : Type 0 where
    pub log : List LogEntry
    pub fits : StandsForLog first s.after log
    pub change : (log ≡ whole_log) ⊎ (whole.EntriesCreated first now (whole_step log) ⊎ whole.FollowsLeader now (whole_step log))
    pub below : ((s.after.base ≤ me.commit) × Share s.after.base log whole_log × ((f t i it : ℕ) (ms : List ℕ) → s.got ≡ Some (Snapshot f t i it ms) → Share me.commit log whole_log))
        ⊎ (InstallsSnapshot w s × Share s.after.base log (g.made s.after.term))

  -- No commit lies past the whole log.
  commit_within : me.commit ≤ length whole_log
  commit_within = ⊎_elim (λ e. omega (arith, e)) (λ (c : Committed first now g whole_log me.commit me.term). share_length (g.made c.term) whole_log me.commit (share_sym whole_log (g.made c.term) me.commit c.same)) (inv.commit s.actor)

  -- What is committed, the leader of the member's term has.
  agree : g.leader s.after.term ≢ 0 → Share me.commit whole_log (g.made s.after.term)
  agree leader = ⊎_elim
      (λ e. λ k less. absurd (omega (arith, e, less)))
      (λ (c : Committed first now g whole_log me.commit me.term).
      share_trans whole_log (g.made c.term) (g.made s.after.term) me.commit c.same
      (share_less (g.made c.term) (g.made s.after.term) me.commit (suc c.place) c.covers
      (complete first now g inv c.term c.place c.chosen s.after.term leader (le_trans c.upto facts.term))))
      (inv.commit s.actor)

  came_plain : GotAppend w s → whole.GotAppend now (whole_step whole_log)
  came_plain c = record { sender = c.sender; previous = c.previous; previous_term = c.previous_term; entries = c.entries; commit = c.commit; got = r.plain (Append c.sender s.after.term c.previous c.previous_term c.entries c.commit) tt c.got }

  -- The Append that came is a piece of the leader's log.
  piece : (c : GotAppend w s) → (g.leader s.after.term ≢ 0) × HasTerm (g.made s.after.term) c.previous c.previous_term × ((k : ℕ) (e : LogEntry) → slice_get c.entries k ≡ Some e → slice_get (g.made s.after.term) (c.previous + k) ≡ Some e)
  piece c = inv.append c.sender s.after.term c.previous c.previous_term c.entries c.commit (r.delivered (Append c.sender s.after.term c.previous c.previous_term c.entries c.commit) (r.plain (Append c.sender s.after.term c.previous c.previous_term c.entries c.commit) tt c.got))

  no_snapshot : GotAppend w s → (n : ℕ) (l : List LogEntry) → (f t i it : ℕ) (ms : List ℕ) → s.got ≡ Some (Snapshot f t i it ms) → Share n l whole_log
  no_snapshot c n l f t i it ms e = absurd (let h = c.got in cc)

  -- a whole log with the same base
  same_fit : (l : List LogEntry) → SameBase s.after me → s.after.log ≡ drop me.base l → Share me.base l whole_log → StandsForLog first s.after l
  same_fit l (eb, et, em) log both =
      let old = fit s.actor in
      let back = share_sym l whole_log me.base both in
      record {
        fits = subst (λ n. n ≤ length l) (sym eb) (share_length whole_log l me.base back);
        log = log ∙ ap (λ n. drop n l) (sym eb);
        base_term = subst (λ n. HasTerm l n s.after.base_term) (sym eb) (subst (HasTerm l me.base) (sym et) (has_term_shared whole_log l me.base me.base me.base_term back (le_refl me.base) old.base_term));
        members = em ∙ old.members ∙ ap (configuration_after first) (sym (share_take l whole_log me.base both) ∙ ap (λ n. take n l) (sym eb));
        above = facts.above_base;
      }

  -- The cases of a log's change, one by one.
  keeps : KeepsLog w s → Outcome
  keeps k =
      let old = fit s.actor in
      let both : (n : ℕ) → n ≤ length whole_log → Share n whole_log whole_log = λ n le. share_refl whole_log n le in
      record {
        log = whole_log;
        fits = same_fit whole_log k.0 (k.1 ∙ old.log) (both me.base old.fits);
        change = inl refl;
        below = inl (subst (λ n. n ≤ me.commit) (sym k.0.0) old.above, subst (λ n. Share n whole_log whole_log) (sym k.0.0) (both me.base old.fits), λ f t i it ms e. both me.commit commit_within);
      }

  changes : (l : List LogEntry) (after : List ℕ) → ChangesAreSingle w s after → whole.ChangesAreSingle first now (whole_step l) after
  changes l after c = record {
    one_apart = subst (λ m. AreOneApart m after) (members_is first me whole_log (fit s.actor)) c.one_apart;
    settled = λ k e le is.
        let above = (fit s.actor).above in
        c.settled (k - me.base) e (omega (arith, above, le)) (at_log first me whole_log (fit s.actor) (k - me.base) ∙ ap (slice_get whole_log) (omega (arith, above, le)) ∙ is);
    own = own_entry c.own.0 c.own.1 c.own.2 (knows_has first me whole_log (fit s.actor) c.own.0 s.after.term c.own.3);
  }
    where
      own_entry : (i : ℕ) → 0 < i → i ≤ me.commit → HasTerm whole_log i s.after.term → (k : ℕ) × (e : LogEntry) × (k < me.commit) × (slice_get whole_log k ≡ Some e) × (e.term ≡ s.after.term)
      own_entry zero pos le has = absurd (omega arith)
      own_entry (suc k) pos le has = (k, has.0, le, has.1, has.2)

  creates : EntriesCreated w s → Outcome
  creates m =
      let old = fit s.actor in
      let kept : (n : ℕ) → n ≤ length whole_log → Share n (whole_log ++ (m.entry ∷ [])) whole_log = λ n le. keep_push whole_log m.entry n le in
      record {
        log = whole_log ++ (m.entry ∷ []);
        fits = same_fit (whole_log ++ (m.entry ∷ [])) m.base (m.result ∙ ap (λ l. l ++ (m.entry ∷ [])) old.log ∙ sym (drop-append_left me.base whole_log (m.entry ∷ []) old.fits)) (kept me.base old.fits);
        change = inr (inl (record { entry = m.entry; own = m.own; leading = m.leading; result = refl; change = λ after is. changes (whole_log ++ (m.entry ∷ [])) after (m.change after is) }));
        below = inl (subst (λ n. n ≤ me.commit) (sym m.base.0) old.above, subst (λ n. Share n (whole_log ++ (m.entry ∷ [])) whole_log) (sym m.base.0) (kept me.base old.fits), λ f t i it ms e. kept me.commit commit_within);
      }

  -- A replacement that begins at or after the base.
  follows : (c : GotAppend w s) → SameBase s.after me → HasTerm whole_log c.previous c.previous_term
      → (d : ℕ) (entry : LogEntry) → slice_get c.entries d ≡ Some entry → HasTerms whole_log c.previous c.entries d
      → (length whole_log ≡ c.previous + d) ⊎ ((e : LogEntry) × (slice_get whole_log (c.previous + d) ≡ Some e) × (e.term ≢ entry.term))
      → me.base ≤ c.previous + d → s.after.log ≡ drop me.base (take (c.previous + d) whole_log ++ drop d c.entries) → Outcome
  follows c base has d entry there same differs above log =
      let old = fit s.actor in
      let kept = keep_front whole_log (drop d c.entries) (c.previous + d) me.base above old.fits in
      record {
        log = take (c.previous + d) whole_log ++ drop d c.entries;
        fits = same_fit (take (c.previous + d) whole_log ++ drop d c.entries) base log kept;
        change = inr (inr (record {
          came = record { sender = c.sender; previous = c.previous; previous_term = c.previous_term; entries = c.entries; commit = c.commit; got = r.plain (Append c.sender s.after.term c.previous c.previous_term c.entries c.commit) tt c.got };
          has = has;
          change = inr (record { kept = d; entry = entry; there = there; same = same; differs = differs; result = refl });
        }));
        below = inl (
          subst (λ n. n ≤ me.commit) (sym base.0) old.above,
          subst (λ n. Share n (take (c.previous + d) whole_log ++ drop d c.entries) whole_log) (sym base.0) kept,
          λ f t i it ms e. no_snapshot c me.commit (take (c.previous + d) whole_log ++ drop d c.entries) f t i it ms e,
        );
      }

  -- what is left of the whole log after the base
  rest_is : (n m d : ℕ) (es : List LogEntry) → n ≡ me.base + m → take m me.log ++ drop d es ≡ drop me.base (take n whole_log ++ drop d es)
  rest_is n m d es e =
      let old = fit s.actor in
      let fits = old.fits in
      ap (λ l. l ++ drop d es) (ap (take m) old.log ∙ sym (drop-take_add me.base m whole_log) ∙ ap (λ k. drop me.base (take k whole_log)) (sym e))
      ∙ sym (drop-append_left me.base (take n whole_log) (drop d es) (omega (arith, e, fits, length-take n whole_log)))

  follows_above : FollowsAbove w s → Outcome
  follows_above f =
      let old = fit s.actor in
      let c = f.came in
      let at = at_log first me whole_log old in
      follows c f.base (knows_has first me whole_log old c.previous c.previous_term f.has)
      f.change.kept f.change.entry f.change.there
      (λ k e less is. let x = f.change.same k e less is in (x.0, ap (slice_get whole_log) (omega (arith, f.previous_is)) ∙ sym (at (f.skip + k)) ∙ x.1, x.2))
      (⊎_elim
      (λ (e : length me.log ≡ f.skip + f.change.kept). inl (omega (arith, e, f.previous_is, whole_length first me whole_log old)))
      (λ x. inr (x.0, ap (slice_get whole_log) (omega (arith, f.previous_is)) ∙ sym (at (f.skip + f.change.kept)) ∙ x.1, x.2))
      f.change.differs)
      (omega (arith, f.previous_is))
      (f.change.result ∙ rest_is (c.previous + f.change.kept) (f.skip + f.change.kept) f.change.kept c.entries (omega (arith, f.previous_is)))

  follows_below : FollowsBelow w s → Outcome
  follows_below f =
      let old = fit s.actor in
      let c = f.came in
      let at = at_log first me whole_log old in
      let h = piece c in
      let above = old.above in
      let both = agree h.0 in
      let skip : ℕ = me.base - c.previous in
      let below = f.below in
      follows c f.base (has_term_shared (g.made s.after.term) whole_log me.commit c.previous c.previous_term (share_sym whole_log (g.made s.after.term) me.commit both) (omega (arith, above, below)) h.1)
      (skip + f.change.kept) f.change.entry (sym (get-drop c.entries skip f.change.kept) ∙ f.change.there)
      (λ k e less is. ⊎_elim
      (λ (low : k < skip). (e, share_at (g.made s.after.term) whole_log me.commit (c.previous + k) e (share_sym whole_log (g.made s.after.term) me.commit both) (omega (arith, low, above, below)) (h.2 k e is), refl))
      (λ (high : skip ≤ k).
      let x = f.change.same (k - skip) e (omega (arith, high, less)) (get-drop c.entries skip (k - skip) ∙ ap (slice_get c.entries) (omega (arith, high)) ∙ is) in
      (x.0, ap (slice_get whole_log) (omega (arith, high, below)) ∙ sym (at (0 + (k - skip))) ∙ x.1, x.2))
      (cases_lt k skip))
      (⊎_elim
      (λ (e : length me.log ≡ 0 + f.change.kept). inl (omega (arith, e, below, whole_length first me whole_log old)))
      (λ x. inr (x.0, ap (slice_get whole_log) (omega (arith, below)) ∙ sym (at (0 + f.change.kept)) ∙ x.1, x.2))
      f.change.differs)
      (omega (arith, below))
      (f.change.result ∙ ap (λ l. take (0 + f.change.kept) me.log ++ l) (drop-drop_add skip f.change.kept c.entries) ∙ rest_is (c.previous + (skip + f.change.kept)) (0 + f.change.kept) (skip + f.change.kept) c.entries (omega (arith, below)))

  takes_snapshot : TakesSnapshot w s → Outcome
  takes_snapshot c =
      let old = fit s.actor in
      let b = me in
      let within : s.after.base ≤ length whole_log = let n = c.fits in omega (arith, c.base, n, whole_length first b whole_log old) in
      record {
        log = whole_log;
        fits = record {
          fits = within;
          log = c.log ∙ ap (drop c.n) old.log ∙ drop-drop_add b.base c.n whole_log ∙ ap (λ k. drop k whole_log) (sym c.base);
          base_term = knows_has first b whole_log old s.after.base s.after.base_term c.term;
          members = c.members ∙ ap₂ (λ m l. configuration_after m (take c.n l)) old.members old.log ∙ sym (configuration_after-append first (take b.base whole_log) (take c.n (drop b.base whole_log))) ∙ ap (configuration_after first) (sym (take-add_drop b.base c.n whole_log) ∙ ap (λ k. take k whole_log) (sym c.base));
          above = facts.above_base;
        };
        change = inl refl;
        below = inl (c.committed, share_refl whole_log s.after.base within, λ f t i it ms e. share_refl whole_log b.commit commit_within);
      }

  -- the front that a leader sent with its snapshot
  front_of_office : (f it : ℕ) (ms : List ℕ) (i : ℕ) → (c : Carries first sent f s.after.term i it ms) → (g.leader s.after.term ≢ 0) × Share (length c.entries) c.entries (g.made s.after.term)
  front_of_office f it ms i c =
      let h = inv.append f s.after.term 0 0 c.entries c.commit c.is_sent in
      (h.0, λ k less. let x = has_place c.entries k less in (x.0, x.1, ap (slice_get (g.made s.after.term)) (sym (zero-add k)) ∙ h.2 k x.0 x.1))

  -- An installed snapshot: where the index has its term nothing changes in the whole log, else the log becomes the sent front.
  installs : InstallsSnapshot w s → Outcome
  installs n =
      let old = fit s.actor in
      let b = me in
      let got = r.snapshot n.sender s.after.term s.after.base s.after.base_term s.after.base_members n.got in
      let c = got.0 in
      let leading = front_of_office n.sender s.after.base_term s.after.base_members s.after.base c in
      let made_has : HasTerm (g.made s.after.term) s.after.base s.after.base_term = has_term_shared c.entries (g.made s.after.term) (length c.entries) s.after.base s.after.base_term leading.1 (le_of_eq (sym c.long)) c.has in
      let matches = sound_matches g whole_log (g.made s.after.term) b.term s.after.term (inv.log s.actor) (inv.made s.after.term) in
      let whole_es : take s.after.base c.entries ≡ c.entries = ap (λ k. take k c.entries) (sym c.long) ∙ take_all (length c.entries) c.entries (le_refl (length c.entries)) in
      let above = n.above in let under = old.above in
      ⊎_elim
      (λ x.
      let has = knows_has first b whole_log old s.after.base s.after.base_term x.0 in
      let both : Share s.after.base whole_log (g.made s.after.term) = reach_at whole_log (g.made s.after.term) s.after.base s.after.base_term matches has made_has in
      let same : take s.after.base whole_log ≡ c.entries = share_take whole_log c.entries s.after.base (share_trans whole_log (g.made s.after.term) c.entries s.after.base both (share_sym c.entries (g.made s.after.term) s.after.base (share_less c.entries (g.made s.after.term) s.after.base (length c.entries) (le_of_eq (sym c.long)) leading.1))) ∙ whole_es in
      record {
        log = whole_log;
        fits = record {
          fits = has_term_within whole_log s.after.base s.after.base_term has;
          log = x.1 ∙ ap (drop (s.after.base - b.base)) old.log ∙ drop-drop_add b.base (s.after.base - b.base) whole_log ∙ ap (λ k. drop k whole_log) (omega (arith, above, under));
          base_term = has;
          members = c.members ∙ ap (configuration_after first) (sym same);
          above = facts.above_base;
        };
        change = inl refl;
        below = inr (n, both);
      })
      (λ x.
      let fits : StandsForLog first s.after c.entries = record {
        fits = le_of_eq (sym c.long);
        log = x.1 ∙ sym (drop_all s.after.base c.entries (le_of_eq c.long));
        base_term = c.has;
        members = c.members ∙ ap (configuration_after first) (sym whole_es);
        above = facts.above_base;
      } in
      let h = inv.append n.sender s.after.term 0 0 c.entries c.commit c.is_sent in
      ⊎_elim
      (λ all. absurd (x.0 (has_knows first b whole_log old s.after.base s.after.base_term (omega (arith, above, under)) (last_term c.entries s.after.base s.after.base_term all c.long (omega (arith, above)) c.has))))
      (λ (d : Difference whole_log c.entries). record {
        log = c.entries;
        fits = fits;
        change = inr (inr (record {
          came = record { sender = n.sender; previous = 0; previous_term = 0; entries = c.entries; commit = c.commit; got = got.1 };
          has = refl;
          change = inr (record {
            kept = d.d;
            entry = d.entry;
            there = d.there;
            same = d.same;
            differs = d.differs;
            result =
                let up : d.d ≤ length c.entries = le_of_lt (slice_get_within c.entries d.d d.entry d.there) in
                let both = reach whole_log (g.made s.after.term) 0 0 c.entries d.d matches refl refl h.2 d.same up in
                sym (ap (λ l. l ++ drop d.d c.entries)
                (share_take whole_log c.entries (0 + d.d) (share_trans whole_log (g.made s.after.term) c.entries (0 + d.d) both (share_sym c.entries (g.made s.after.term) (0 + d.d) (share_less c.entries (g.made s.after.term) (0 + d.d) (length c.entries) (omega (arith, up)) leading.1))) ∙ ap (λ k. take k c.entries) (zero-add d.d))
                ∙ take-append-drop d.d c.entries);
          });
        }));
        below = inr (n, share_less c.entries (g.made s.after.term) s.after.base (length c.entries) (le_of_eq (sym c.long)) leading.1);
      })
      (first_difference whole_log c.entries (length c.entries) (le_refl (length c.entries))))
      n.log
    where
      last_term : (es : List LogEntry) (i it : ℕ) → HasTerms whole_log 0 es (length es) → length es ≡ i → 0 < i → HasTerm es i it → HasTerm whole_log i it
      last_term es zero it all long pos has = absurd (omega arith)
      last_term es (suc j) it all long pos has =
          let x = all j has.0 (omega (arith, long)) has.1 in
          (x.0, ap (slice_get whole_log) (sym (zero-add j)) ∙ x.1, x.2 ∙ has.2)

  -- All cases.
  pub outcome : Outcome
  outcome = ⊎_elim keeps (⊎_elim creates (⊎_elim follows_above (⊎_elim follows_below (⊎_elim takes_snapshot installs)))) facts.log

  -- Where no log had a members entry and the member's log has none, its whole log has none.
  pub quiet_log : (o : Outcome) → ((m : ℕ) → QuietFrom (logs m) 0) → ((t : ℕ) → QuietFrom (g.made t) 0) → QuietFrom s.after.log 0 → QuietFrom o.log 0
  quiet_log o logs_quiet made_quiet after_quiet k e le is = ⊎_elim
      (λ (low : k < s.after.base). ⊎_elim
      (λ x. logs_quiet s.actor k e le (share_at o.log whole_log s.after.base k e x.1 low is))
      (λ x. made_quiet s.after.term k e le (share_at o.log (g.made s.after.term) s.after.base k e x.1 low is))
      o.below)
      (λ (high : s.after.base ≤ k). after_quiet (k - s.after.base) e (omega arith) (at_log first s.after o.log o.fits (k - s.after.base) ∙ ap (slice_get o.log) (omega (arith, high)) ∙ is))
      (cases_lt k s.after.base)

  -- Up to the base the log is the leader's, where an Append of it came.
  low_made : (o : Outcome) → GotAppend w s → Share s.after.base o.log (g.made s.after.term)
  low_made o c = ⊎_elim
      (λ x. share_trans o.log whole_log (g.made s.after.term) s.after.base x.1 (share_less whole_log (g.made s.after.term) s.after.base me.commit x.0 (agree (piece c).0)))
      (λ x. absurd (let a = x.0.got in let b = c.got in cc))
      o.below

  -- What an acknowledgement says of the whole log.
  abbrev acknowledges : (o : Outcome) (j : ℕ) → Acknowledges w s j → whole.Acknowledges now (whole_step o.log) j
  acknowledges o j a = record {
    came = record { sender = a.came.sender; previous = a.came.previous; previous_term = a.came.previous_term; entries = a.came.entries; commit = a.came.commit; got = r.plain (Append a.came.sender s.after.term a.came.previous a.came.previous_term a.came.entries a.came.commit) tt a.came.got };
    index_is = a.index_is;
    has = ⊎_elim
        (λ (h : a.came.previous < s.after.base). has_term_shared (g.made s.after.term) o.log s.after.base a.came.previous a.came.previous_term (share_sym o.log (g.made s.after.term) s.after.base (low_made o a.came)) (le_of_lt h) (piece a.came).1)
        (λ (h : s.after.base ≤ a.came.previous). knows_has first s.after o.log o.fits a.came.previous a.came.previous_term (a.has h))
        (cases_lt a.came.previous s.after.base);
    all = λ k e less is. ⊎_elim
        (λ (h : a.came.previous + k < s.after.base). (e, share_at (g.made s.after.term) o.log s.after.base (a.came.previous + k) e (share_sym o.log (g.made s.after.term) s.after.base (low_made o a.came)) h ((piece a.came).2 k e is), refl))
        (λ (h : s.after.base ≤ a.came.previous + k). knows_has first s.after o.log o.fits (suc (a.came.previous + k)) e.term (a.all k e is h))
        (cases_lt (a.came.previous + k) s.after.base);
  }

  abbrev snapshot_acknowledges : (l : List LogEntry) (f i it : ℕ) (ms : List ℕ) (x : (c : Carries first sent f s.after.term i it ms) × (r.got ≡ Some (Append f s.after.term 0 0 c.entries c.commit))) → Share i l (g.made s.after.term) → whole.Acknowledges now (whole_step l) i
  snapshot_acknowledges l f i it ms x both = record {
    came = record { sender = f; previous = 0; previous_term = 0; entries = x.0.entries; commit = x.0.commit; got = x.1 };
    index_is = sym x.0.long ∙ sym (zero-add (length x.0.entries));
    has = refl;
    all = λ k e less is.
        let leading = front_of_office f it ms i x.0 in
        let made = share_at x.0.entries (g.made s.after.term) (length x.0.entries) k e leading.1 less is in
        (e, ap (slice_get l) (zero-add k) ∙ share_at (g.made s.after.term) l i k e (share_sym l (g.made s.after.term) i both) (subst (λ n. k < n) x.0.long less) made, refl);
  }

  installed_made : (o : Outcome) → InstallsSnapshot w s → Share s.after.base o.log (g.made s.after.term)
  installed_made o n = ⊎_elim (λ x. absurd (let a = n.above in let b = x.0 in omega (arith, a, b))) (λ x. x.1) o.below

  -- A Done acknowledges the whole front.
  finishes : (o : Outcome) (j : ℕ) → Finishes w s j → whole.Acknowledges now (whole_step o.log) j
  finishes o j f =
      let got = r.snapshot f.sender s.after.term j f.index_term f.members f.got in
      snapshot_acknowledges o.log f.sender j f.index_term f.members got (⊎_elim
      (λ x. subst (λ n. Share n o.log (g.made s.after.term)) (sym x.1) (installed_made o x.0))
      (λ (le : j ≤ me.commit). ⊎_elim
      (λ x. share_less o.log (g.made s.after.term) j me.commit le (share_trans o.log whole_log (g.made s.after.term) me.commit (x.2 f.sender s.after.term j f.index_term f.members f.got) (agree (front_of_office f.sender f.index_term f.members j got.0).0)))
      (λ x. share_less o.log (g.made s.after.term) j s.after.base (let a = x.0.above in omega (arith, a, le)) x.1)
      o.below)
      f.done)

  -- what was sent, of each kind
  unmap_vote : (l : List LogEntry) (c t lt li : ℕ) → Contains (map (to_whole l s.after.commit) s.sends) (Vote c t lt li) → Contains s.sends (Vote c t lt li)
  unmap_vote l c t lt li has = from (what_stands l s.after.commit s.sends (Vote c t lt li) has)
    where
      from : Stands l s.after.commit s.sends (Vote c t lt li) → Contains s.sends (Vote c t lt li)
      from (AsItIs at) = at
      from (ForSnapshot f t' i it ms at e) = absurd (cc)
      from (ForDone v to t' j at e) = absurd (cc)

  unmap_voted : (l : List LogEntry) (v c t : ℕ) → Contains (map (to_whole l s.after.commit) s.sends) (Voted v c t) → Contains s.sends (Voted v c t)
  unmap_voted l v c t has = from (what_stands l s.after.commit s.sends (Voted v c t) has)
    where
      from : Stands l s.after.commit s.sends (Voted v c t) → Contains s.sends (Voted v c t)
      from (AsItIs at) = at
      from (ForSnapshot f t' i it ms at e) = absurd (cc)
      from (ForDone v' to t' j at e) = absurd (cc)

  unmap_appended : (l : List LogEntry) (v to t j : ℕ) → Contains (map (to_whole l s.after.commit) s.sends) (Appended v to t j) → Contains s.sends (Appended v to t j) ⊎ Contains s.sends (Done v to t j)
  unmap_appended l v to t j has = from (what_stands l s.after.commit s.sends (Appended v to t j) has)
    where
      from : Stands l s.after.commit s.sends (Appended v to t j) → Contains s.sends (Appended v to t j) ⊎ Contains s.sends (Done v to t j)
      from (AsItIs at) = inl at
      from (ForSnapshot f t' i it ms at e) = absurd (cc)
      from (ForDone v' to' t' j' at e) =
          let e1 : v' ≡ v = cc in let e2 : to' ≡ to = cc in let e3 : t' ≡ t = cc in let e4 : j' ≡ j = cc in
          inr (subst (λ n. Contains s.sends (Done v to t n)) e4 (subst (λ n. Contains s.sends (Done v to n j')) e3 (subst (λ n. Contains s.sends (Done v n t' j')) e2 (subst (λ n. Contains s.sends (Done n to' t' j')) e1 at))))

  -- What is sent in an Append or a Snapshot, a leader's whole log has.
  sends_append : (o : Outcome) (f t p pt : ℕ) (es : List LogEntry) (c : ℕ) → Contains (map (to_whole o.log s.after.commit) s.sends) (Append f t p pt es c) → whole.SendsAppend (whole_step o.log) f t p pt es c
  sends_append o f t p pt es c has = from (what_stands o.log s.after.commit s.sends (Append f t p pt es c) has)
    where
      from : Stands o.log s.after.commit s.sends (Append f t p pt es c) → whole.SendsAppend (whole_step o.log) f t p pt es c
      from (AsItIs at) =
          let y = facts.append f t p pt es c at in
          record {
            sender_is = y.sender_is;
            term_is = y.term_is;
            leading = y.leading;
            has = knows_has first s.after o.log o.fits p pt y.has;
            piece = λ k e is. ap (slice_get o.log) (omega (arith, y.previous_is)) ∙ sym (at_log first s.after o.log o.fits (y.skip + k)) ∙ y.piece k e is;
            commit_is = y.commit_is;
          }
      from (ForSnapshot f' t' i it ms at e) =
          let y = facts.snapshot f' t' i it ms at in
          let e1 : f' ≡ f = cc in let e2 : t' ≡ t = cc in let e3 : 0 ≡ p = cc in let e4 : 0 ≡ pt = cc in let e5 : take i o.log ≡ es = cc in let e6 : s.after.commit ≡ c = cc in
          record {
            sender_is = sym e1 ∙ y.sender_is;
            term_is = sym e2 ∙ y.term_is;
            leading = y.leading;
            has = subst (λ n. HasTerm o.log n pt) e3 (sym e4);
            piece = λ k z is.
                let within = slice_get_within es k z is in
                let short : k < i = omega (arith, within, ap length e5, length-take i o.log) in
                ap (slice_get o.log) (omega (arith, e3)) ∙ sym (get-take o.log i k short) ∙ ap (λ q. slice_get q k) e5 ∙ is;
            commit_is = sym e6;
          }
      from (ForDone v' to' t' j' at e) = absurd (cc)

  -- An election is won on whole logs.
  wins : WinsElection w s → (l : List LogEntry) → whole.WinsElection first now (whole_step l)
  wins k l =
      let old = fit s.actor in
      let b = me in
      record {
        vote = k.vote;
        fresh = λ i e is. ⊎_elim
            (λ (h : i < b.base). under i e is b.base b.base_term refl h old.base_term (k.fresh b.base_term b.base (inl (refl, refl))))
            (λ (h : b.base ≤ i). k.fresh e.term (suc i) (has_knows first b whole_log old (suc i) e.term (omega (arith, h)) (e, is, refl)))
            (cases_lt i b.base);
        spelled = λ lt li has. ends_has first b whole_log old lt li (k.spelled lt li (heard.asked s.actor s.after.term lt li has));
        quorum = (
          k.quorum.0,
          subst (λ m. length m < 2 * count_by k.quorum.0 m) (members_is first b whole_log old) k.quorum.1,
          λ v chosen. ⊎_elim inl (λ said. inr (heard.plain (Voted v s.actor s.after.term) tt said)) (k.quorum.2 v chosen),
        );
      }
    where
      under : (i : ℕ) (e : LogEntry) → slice_get whole_log i ≡ Some e → (n t : ℕ) → n ≡ me.base → i < n → HasTerm whole_log n t → t < s.after.term → e.term < s.after.term
      under i e is zero t en less has low = absurd (omega arith)
      under i e is (suc j) t en less has low =
          let root = (inv.log s.actor).rooted j has.0 has.1 in
          let up = (inv.made has.0.term).upto i e (share_at whole_log (g.made has.0.term) (suc j) i e root less is) in
          omega (arith, up, has.2, low)

  -- A commit by a quorum.
  leader_commits : (o : Outcome) → LeaderCommits w s → whole.LeaderCommits first now (whole_step o.log)
  leader_commits o c = record {
    leads = c.leads;
    own = knows_has first s.after o.log o.fits s.after.commit s.after.term c.own;
    quorum = (
      c.quorum.0,
      subst (λ m. length m < 2 * count_by c.quorum.0 m) (members_is first s.after o.log o.fits) c.quorum.1,
      λ v chosen. ⊎_elim inl
          (λ a. inr (a.0, a.1, a.2, ⊎_elim (heard.plain (Appended v a.0 s.after.term a.1) tt) (heard.done v a.0 s.after.term a.1) a.3))
          (c.quorum.2 v chosen),
    );
  }

  -- A commit by an Append or by an installed snapshot.
  follower_commits : (o : Outcome) → FollowerCommits w s ⊎ InstallsSnapshot w s → whole.FollowerCommits now (whole_step o.log)
  follower_commits o (inl c) = record { index = c.index; acknowledges = acknowledges o c.index c.acknowledges; told = c.told; reached = c.reached }
  follower_commits o (inr n) =
      let got = r.snapshot n.sender s.after.term s.after.base s.after.base_term s.after.base_members n.got in
      record {
        index = s.after.base;
        acknowledges = snapshot_acknowledges o.log n.sender s.after.base s.after.base_term s.after.base_members got (installed_made o n);
        told = subst (λ m. m ≤ got.0.commit) (sym n.commit) got.0.covers;
        reached = le_of_eq n.commit;
      }

  -- The step meets the facts on whole logs.
  pub step_facts : (o : Outcome) → whole.Facts first now (whole_step o.log)
  step_facts o = record {
    others = record {
      messages_delivered = record { named = facts.named; delivered = r.delivered };
      terms_and_votes = record { term = facts.term; vote = facts.vote };
      logs_follow = record {
        log = o.change;
        append = sends_append o;
        ask = λ c t lt li has. let y = facts.ask c t lt li (unmap_vote o.log c t lt li has) in record {
          candidate_is = y.candidate_is;
          term_is = y.term_is;
          vote = y.vote;
          ends = ends_has first s.after o.log o.fits lt li y.ends;
        };
      };
      acknowledged = λ v to t j has. ⊎_elim
          (λ plain. let y = facts.appended v to t j plain in (y.0, y.1, acknowledges o j y.2))
          (λ done. let y = facts.done v to t j done in (y.0, y.1, finishes o j y.2))
          (unmap_appended o.log v to t j has);
      commit = ⊎_elim inl (λ x. inr (⊎_elim (λ c. inl (leader_commits o c)) (λ c. inr (follower_commits o c)) x)) facts.commit;
    };
    votes_given = λ v c t has. let y = facts.votes_given v c t (unmap_voted o.log v c t has) in record {
      voter_is = y.voter_is;
      term_is = y.term_is;
      vote = y.vote;
      last_term = y.last_term;
      last_index = y.last_index;
      asked = heard.plain (Vote c t y.last_term y.last_index) tt y.asked;
      own_term = y.own_term;
      own_index = y.own_index;
      own = ends_has first s.after o.log o.fits y.own_term y.own_index y.own;
      up_to_date = y.up_to_date;
    };
    leaders_elected = record { leads = facts.leads; elected = λ h. ⊎_elim inl (λ k. inr (wins k o.log)) (facts.elected h) };
  }

  module _ (o : Outcome) where
    abbrev next_whole : ℕ → List LogEntry
    next_whole = put logs s.actor o.log

    abbrev next_sent : List Message
    next_sent = sent ++ map (to_whole o.log s.after.commit) s.sends

    pub next_fit : (m : ℕ) → StandsForLog first ((after_step w s).member m) (next_whole m)
    next_fit m = ⊎_elim
        (λ (e : m ≡ s.actor). subst (λ b. StandsForLog first b (next_whole m)) (sym (put_same w.member s.actor s.after m e)) (subst (StandsForLog first s.after) (sym (put_same logs s.actor o.log m e)) o.fits))
        (λ ne. subst (λ b. StandsForLog first b (next_whole m)) (sym (put_other w.member s.actor s.after m ne)) (subst (StandsForLog first (w.member m)) (sym (put_other logs s.actor o.log m ne)) (fit m)))
        (cases_eq m s.actor)

    pub next_heard : Heard first (after_step w s) next_sent
    next_heard = record {
      plain = λ m same has. ⊎_elim
          (λ old. Contains-append_left sent (map (to_whole o.log s.after.commit) s.sends) m (heard.plain m same old))
          (λ new. Contains-append_right sent (map (to_whole o.log s.after.commit) s.sends) m
          (subst (Contains (map (to_whole o.log s.after.commit) s.sends)) (same_message o.log s.after.commit m same) (contains_map (to_whole o.log s.after.commit) s.sends m new)))
          (Contains-append_cases w.sent s.sends m has);
      asked = λ c t lt li has. ⊎_elim
          (λ old. Contains-append_left w.sent s.sends (Vote c t lt li) (heard.asked c t lt li old))
          (λ new. Contains-append_right w.sent s.sends (Vote c t lt li) (unmap_vote o.log c t lt li new))
          (Contains-append_cases sent (map (to_whole o.log s.after.commit) s.sends) (Vote c t lt li) has);
      done = λ v to t j has. ⊎_elim
          (λ old. Contains-append_left sent (map (to_whole o.log s.after.commit) s.sends) (Appended v to t j) (heard.done v to t j old))
          (λ new. Contains-append_right sent (map (to_whole o.log s.after.commit) s.sends) (Appended v to t j) (contains_map (to_whole o.log s.after.commit) s.sends (Done v to t j) new))
          (Contains-append_cases w.sent s.sends (Done v to t j) has);
      snapshot = λ f t i it ms has. ⊎_elim
          (λ old. let c = heard.snapshot f t i it ms old in record {
            entries = c.entries;
            commit = c.commit;
            covers = c.covers;
            long = c.long;
            has = c.has;
            members = c.members;
            is_sent = Contains-append_left sent (map (to_whole o.log s.after.commit) s.sends) (Append f t 0 0 c.entries c.commit) c.is_sent;
          })
          (λ new.
          let y = facts.snapshot f t i it ms new in
          let fits = o.fits.fits in
          let short : i ≤ length o.log = omega (arith, y.index_is, fits) in
          record {
            entries = take i o.log;
            commit = s.after.commit;
            covers = subst (λ n. n ≤ s.after.commit) (sym y.index_is) facts.above_base;
            long = omega (arith, length-take i o.log, short);
            has = has_term_shared o.log (take i o.log) i i it (λ k less. let x = has_place o.log k (omega (arith, less, short)) in (x.0, x.1, get-take o.log i k less ∙ x.1)) (le_refl i)
                (subst (λ n. HasTerm o.log n it) (sym y.index_is) (subst (HasTerm o.log s.after.base) (sym y.index_term_is) o.fits.base_term));
            members = y.members_is ∙ o.fits.members ∙ ap (λ n. configuration_after first (take n o.log)) (sym y.index_is);
            is_sent = Contains-append_right sent (map (to_whole o.log s.after.commit) s.sends) (Append f t 0 0 (take i o.log) s.after.commit) (contains_map (to_whole o.log s.after.commit) s.sends (Snapshot f t i it ms) new);
          })
          (Contains-append_cases w.sent s.sends (Snapshot f t i it ms) has);
    }

    stand_put : (j : ℕ) → put (λ m. standing (w.member m) (logs m)) s.actor (standing s.after o.log) j ≡ standing (put w.member s.actor s.after j) (next_whole j)
    stand_put j = ⊎_elim
        (λ (e : j ≡ s.actor). put_same (λ m. standing (w.member m) (logs m)) s.actor (standing s.after o.log) j e ∙ sym (ap₂ standing (put_same w.member s.actor s.after j e) (put_same logs s.actor o.log j e)))
        (λ ne. put_other (λ m. standing (w.member m) (logs m)) s.actor (standing s.after o.log) j ne ∙ sym (ap₂ standing (put_other w.member s.actor s.after j ne) (put_other logs s.actor o.log j ne)))
        (cases_eq j s.actor)

    pub next_stand : whole.after_step now (whole_step o.log) ≡ stand (after_step w s) next_whole next_sent
    next_stand = λ i. record { member = fun_ext stand_put i; sent = next_sent }

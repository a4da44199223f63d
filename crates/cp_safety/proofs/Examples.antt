-- The executions in full meet what they are said to meet. Each step's facts are given by what it did; what it sent, message by message.
use Rattle.std.proofs.Common.{◌≡◌, ◌≢◌, ℕ, zero, suc, ◌+◌, ◌≤◌, ◌⊎◌, inl, inr, ⊎_elim, Bool, true, false, List, [], ◌∷◌, refl, ap, sym, ◌∙◌, arith, subst, Some, None, Option, slice_get, Contains, true≢false, ◌==◌, ◌||◌, zero-add}
use Rattle.std.proofs.lemmas.Bool.{or_cases}
use Rattle.std.proofs.lemmas.Option.{same_Some, slice_get_within}
use Rattle.cp_base.proofs.Tests.{same_number}
use Rattle.cp_grammar.specs.Grammar.{whole}
use Rattle.cp_grammar.specs.Fields.{mark_reading, number_reading}
use Rattle.cp_grammar.specs.Lists.{items_reading}
use Rattle.cp_grammar.specs.Common.{members, member_after}
use Rattle.cp_parts.specs.Configs.{members_entry, config_in}
use Rattle.cp_parts.specs.declared.log_entry.LogEntry.{LogEntry}
use Rattle.cp_agreement_facts.specs.Entries.{members_in}
use Rattle.cp_agreement_facts.specs.Clusters.{Member, Message, Vote, Voted, Append, Appended, Snapshot, Done, Other, Cluster, Step, cluster_after}
use Rattle.cp_agreement_facts.specs.Facts.{before, KnowsTerm, LogEndsAt, KeepsLog, EntriesCreated, FollowsAbove, FollowsBelow, TakesSnapshot, InstallsSnapshot, SendsAppend, SendsVote, GivesVote, Acknowledges, LeaderCommits, FollowerCommits, OtherFacts, VotesGiven, LeadersElected, WinsElection, ChangesAreSingle, MeetsFacts}
use Rattle.cp_safety.specs.Examples.{three, alone, entry, adds_two, adds_three, member_of, asks, votes, wins, acknowledges, commits, second_asks, says_yes, says_yes_again, first_wins, second_wins_too, leads_alone, adds_second, second_follows, commits_second, adds_third, second_follows_again, second_stands, third_votes, second_wins, elects_and_commits, votes_twice, stands_late, MeetsAllButVotes, MeetsWithAnyLog, LeadersElectedWithAnyLog}

-- the two members of a quorum
abbrev pair : ℕ → ℕ → ℕ → Bool
pair a b m = (m == a) || (m == b)

pair_cases : (a b m : ℕ) → pair a b m ≡ true → (m ≡ a) ⊎ (m ≡ b)
pair_cases a b m e = ⊎_elim (λ h. inl (same_number m a h)) (λ h. inr (same_number m b h)) (or_cases (m == a) (m == b) e)

-- P of each message of a list, one by one
abbrev Each : (Message → Type 0) → List Message → Type 0
Each P [] = Unit {0}
Each P (x ∷ xs) = P x × Each P xs

each_contains : (P : Message → Type 0) (xs : List Message) (x : Message) → Each P xs → Contains xs x → P x
each_contains P [] x all (k, h, e) = absurd (omega arith)
each_contains P (y ∷ xs) x all (zero, h, e) = subst P e all.0
each_contains P (y ∷ xs) x all (suc k, h, e) = each_contains P xs x all.1 (k, omega arith, e)

-- what came was sent
abbrev WasSent : List Message → Option Message → Type 0
WasSent sent None = Unit {0}
WasSent sent (Some m) = Contains sent m

was_sent : (sent : List Message) (o : Option Message) → WasSent sent o → (m : Message) → o ≡ Some m → Contains sent m
was_sent sent None came m e = absurd (cc)
was_sent sent (Some x) came m e = subst (Contains sent) (same_Some x m e) came

-- what the facts but those of votes say of a message that is sent
abbrev Says : Cluster → Step → Message → Type 0
Says w s (Vote c t lt li) = SendsVote s c t lt li
Says w s (Voted v c t) = Unit {0}
Says w s (Append f t p pt es c) = SendsAppend s f t p pt es c
Says w s (Appended v to t j) = (v ≡ s.actor) × (t ≡ s.after.term) × Acknowledges w s j
Says w s (Snapshot f t i it ms) = ⊥
Says w s (Done v to t j) = ⊥
Says w s Other = Unit {0}

-- what they say of a vote
abbrev Votes : Cluster → Step → Message → Type 0
Votes w s (Vote c t lt li) = Unit {0}
Votes w s (Voted v c t) = GivesVote w s v c t
Votes w s (Append f t p pt es c) = Unit {0}
Votes w s (Appended v to t j) = Unit {0}
Votes w s (Snapshot f t i it ms) = Unit {0}
Votes w s (Done v to t j) = Unit {0}
Votes w s Other = Unit {0}

votes_given : (w : Cluster) (s : Step) → Each (Votes w s) s.sends → VotesGiven w s
votes_given w s all v c t sent = each_contains (Votes w s) s.sends (Voted v c t) all sent

-- the facts beside those of elections
record Shown (w : Cluster) (s : Step) : Type 0 where
  named : s.actor ≢ 0
  came : WasSent w.sent s.got
  term : (before w s).term ≤ s.after.term
  vote : (before w s).term ≡ s.after.term → (before w s).vote ≢ 0 → s.after.vote ≡ (before w s).vote
  log : KeepsLog w s ⊎ (EntriesCreated w s ⊎ (FollowsAbove w s ⊎ (FollowsBelow w s ⊎ (TakesSnapshot w s ⊎ InstallsSnapshot w s))))
  says : Each (Says w s) s.sends
  above_base : s.after.base ≤ s.after.commit
  commit : (s.after.commit ≤ (before w s).commit) ⊎ (LeaderCommits w s ⊎ (FollowerCommits w s ⊎ InstallsSnapshot w s))

shown : (w : Cluster) (s : Step) → Shown w s → OtherFacts w s
shown w s h = record {
  messages_delivered = record { named = h.named; delivered = was_sent w.sent s.got h.came };
  terms_and_votes = record { term = h.term; vote = h.vote };
  logs_follow = record {
    log = h.log;
    append = λ f t p pt es c sent. each_contains (Says w s) s.sends (Append f t p pt es c) h.says sent;
    snapshot = λ f t i it ms sent. absurd (each_contains (Says w s) s.sends (Snapshot f t i it ms) h.says sent);
    ask = λ c t lt li sent. each_contains (Says w s) s.sends (Vote c t lt li) h.says sent;
  };
  appends_acknowledged = record {
    appended = λ v to t j sent. each_contains (Says w s) s.sends (Appended v to t j) h.says sent;
    done = λ v to t j sent. absurd (each_contains (Says w s) s.sends (Done v to t j) h.says sent);
  };
  commits_advance = record { above_base = h.above_base; commit = h.commit };
}

-- a step that leads nothing
follows_only : (w : Cluster) (s : Step) → s.after.is_leader ≡ false → s.leads ≡ false → LeadersElected w s
follows_only w s e f = record { leads = λ h. absurd (true≢false (sym h ∙ e)); elected = λ h. absurd (true≢false (sym h ∙ f)) }

-- a leader goes on
leads_on : (w : Cluster) (s : Step) → (before w s).is_leader ≡ true → (before w s).term ≡ s.after.term → s.leads ≡ true → LeadersElected w s
leads_on w s leader same leads = record { leads = λ h. leads; elected = λ h. inl (leader, same) }

-- what a request for votes that was sent says, where it is this candidate's
abbrev Spelled : ℕ → ℕ → Member → Message → Type 0
Spelled me term b (Vote c t lt li) = c ≡ me → t ≡ term → LogEndsAt b lt li
Spelled me term b (Voted v c t) = Unit {0}
Spelled me term b (Append f t p pt es c) = Unit {0}
Spelled me term b (Appended v to t j) = Unit {0}
Spelled me term b (Snapshot f t i it ms) = Unit {0}
Spelled me term b (Done v to t j) = Unit {0}
Spelled me term b Other = Unit {0}

-- An empty log is known by term 0 alone.
fresh : (first : List ℕ) (term vote : ℕ) (t i : ℕ) → KnowsTerm (member_of first term vote [] 0 false) i t → t ≡ 0
fresh first term vote t i (inl h) = h.1
fresh first term vote t i (inr (k, e, (x, at, xt))) = absurd (cc)

third_piece : (k : ℕ) (e : LogEntry) → slice_get (adds_three ∷ []) k ≡ Some e → slice_get (entry ∷ adds_two ∷ adds_three ∷ []) (2 + k) ≡ Some e
third_piece k e is = let two : suc (suc k) ≡ 2 + k = omega arith in subst (λ n. slice_get (entry ∷ adds_two ∷ adds_three ∷ []) n ≡ Some e) two is

asks_shown : Shown (cluster_after three []) asks
asks_shown = record {
  named = omega arith;
  came = tt;
  term = omega arith;
  vote = λ e ne. absurd (omega (arith, e));
  log = inl ((refl, refl, refl), refl);
  says = (record { candidate_is = refl; term_is = refl; vote = refl; ends = (refl, inl (refl, refl)) }, tt);
  above_base = omega arith;
  commit = inl (omega arith);
}

votes_shown : Shown (cluster_after three (asks ∷ [])) votes
votes_shown = record {
  named = omega arith;
  came = (0, omega arith, refl);
  term = omega arith;
  vote = λ e ne. absurd (omega (arith, e));
  log = inl ((refl, refl, refl), refl);
  says = (tt, tt);
  above_base = omega arith;
  commit = inl (omega arith);
}

wins_shown : Shown (cluster_after three (votes ∷ asks ∷ [])) wins
unfolding members_in config_in members_entry whole mark_reading number_reading members items_reading member_after
wins_shown = record {
  named = omega arith;
  came = (1, omega arith, refl);
  term = omega arith;
  vote = λ e ne. refl;
  log = inr (inl (record { base = (refl, refl, refl); entry = entry; own = refl; leading = refl; result = refl; change = λ members is. absurd (cc) }));
  says = (record { sender_is = refl; term_is = refl; leading = refl; skip = 0; previous_is = refl; has = inl (refl, refl); piece = λ k e is. ap (slice_get (entry ∷ [])) (zero-add k) ∙ is; commit_is = refl }, tt);
  above_base = omega arith;
  commit = inl (omega arith);
}

acknowledges_shown : Shown (cluster_after three (wins ∷ votes ∷ asks ∷ [])) acknowledges
acknowledges_shown = record {
  named = omega arith;
  came = (2, omega arith, refl);
  term = omega arith;
  vote = λ e ne. refl;
  log = inr (inr (inl (record { came = record { sender = 1; previous = 0; previous_term = 0; entries = entry ∷ []; commit = 0; got = refl }; base = (refl, refl, refl); skip = 0; previous_is = refl; has = inl (refl, refl); change = record { kept = 0; entry = entry; there = refl; same = λ k e less is. absurd (omega arith); differs = inl refl; result = refl } })));
  says = ((refl, refl, record { came = record { sender = 1; previous = 0; previous_term = 0; entries = entry ∷ []; commit = 0; got = refl }; index_is = refl; has = λ le. inl (refl, refl); all = λ k e is le. inr (k, refl, (e, is, refl)) }), tt);
  above_base = omega arith;
  commit = inl (omega arith);
}

commits_shown : Shown (cluster_after three (acknowledges ∷ wins ∷ votes ∷ asks ∷ [])) commits
unfolding members_in config_in members_entry whole mark_reading number_reading members items_reading member_after
commits_shown = record {
  named = omega arith;
  came = (3, omega arith, refl);
  term = omega arith;
  vote = λ e ne. refl;
  log = inl ((refl, refl, refl), refl);
  says = tt;
  above_base = omega arith;
  commit = inr (inl (record { leads = refl; own = inr (0, refl, (entry, refl, refl)); quorum = (pair 1 2, omega arith, λ v chosen. ⊎_elim inl (λ e. inr (1, 1, omega arith, inl (subst (λ x. Contains (cluster_after three (acknowledges ∷ wins ∷ votes ∷ asks ∷ [])).sent (Appended x 1 1 1)) (sym e) (3, omega arith, refl)))) (pair_cases 1 2 v chosen)) }));
}

second_asks_shown : Shown (cluster_after three (asks ∷ [])) second_asks
second_asks_shown = record {
  named = omega arith;
  came = tt;
  term = omega arith;
  vote = λ e ne. absurd (omega (arith, e));
  log = inl ((refl, refl, refl), refl);
  says = (record { candidate_is = refl; term_is = refl; vote = refl; ends = (refl, inl (refl, refl)) }, tt);
  above_base = omega arith;
  commit = inl (omega arith);
}

says_yes_shown : Shown (cluster_after three (second_asks ∷ asks ∷ [])) says_yes
says_yes_shown = record {
  named = omega arith;
  came = (0, omega arith, refl);
  term = omega arith;
  vote = λ e ne. absurd (omega (arith, e));
  log = inl ((refl, refl, refl), refl);
  says = (tt, tt);
  above_base = omega arith;
  commit = inl (omega arith);
}

says_yes_again_shown : Shown (cluster_after three (says_yes ∷ second_asks ∷ asks ∷ [])) says_yes_again
says_yes_again_shown = record {
  named = omega arith;
  came = (1, omega arith, refl);
  term = omega arith;
  vote = λ e ne. refl;
  log = inl ((refl, refl, refl), refl);
  says = (tt, tt);
  above_base = omega arith;
  commit = inl (omega arith);
}

first_wins_shown : Shown (cluster_after three (says_yes_again ∷ says_yes ∷ second_asks ∷ asks ∷ [])) first_wins
unfolding members_in config_in members_entry whole mark_reading number_reading members items_reading member_after
first_wins_shown = record {
  named = omega arith;
  came = (2, omega arith, refl);
  term = omega arith;
  vote = λ e ne. refl;
  log = inr (inl (record { base = (refl, refl, refl); entry = entry; own = refl; leading = refl; result = refl; change = λ members is. absurd (cc) }));
  says = tt;
  above_base = omega arith;
  commit = inl (omega arith);
}

second_wins_too_shown : Shown (cluster_after three (first_wins ∷ says_yes_again ∷ says_yes ∷ second_asks ∷ asks ∷ [])) second_wins_too
unfolding members_in config_in members_entry whole mark_reading number_reading members items_reading member_after
second_wins_too_shown = record {
  named = omega arith;
  came = (3, omega arith, refl);
  term = omega arith;
  vote = λ e ne. refl;
  log = inr (inl (record { base = (refl, refl, refl); entry = entry; own = refl; leading = refl; result = refl; change = λ members is. absurd (cc) }));
  says = tt;
  above_base = omega arith;
  commit = inl (omega arith);
}

leads_alone_shown : Shown (cluster_after alone []) leads_alone
unfolding members_in config_in members_entry whole mark_reading number_reading members items_reading member_after
leads_alone_shown = record {
  named = omega arith;
  came = tt;
  term = omega arith;
  vote = λ e ne. absurd (omega (arith, e));
  log = inr (inl (record { base = (refl, refl, refl); entry = entry; own = refl; leading = refl; result = refl; change = λ members is. absurd (cc) }));
  says = tt;
  above_base = omega arith;
  commit = inr (inl (record { leads = refl; own = inr (0, refl, (entry, refl, refl)); quorum = (pair 1 1, omega arith, λ v chosen. inl (⊎_elim (λ e. e) (λ e. e) (pair_cases 1 1 v chosen))) }));
}

adds_second_shown : Shown (cluster_after alone (leads_alone ∷ [])) adds_second
unfolding members_in config_in members_entry whole mark_reading number_reading members items_reading member_after
adds_second_shown = record {
  named = omega arith;
  came = tt;
  term = omega arith;
  vote = λ e ne. refl;
  log = inr (inl (record { base = (refl, refl, refl); entry = adds_two; own = refl; leading = refl; result = refl; change = λ members is. subst (ChangesAreSingle (cluster_after alone (leads_alone ∷ [])) adds_second) (same_Some (1 ∷ 2 ∷ []) members is) (record { one_apart = inl (1 ∷ [], [], 2, refl, refl); settled = λ k e le at. absurd (omega (arith, le, slice_get_within (entry ∷ []) k e at)); own = (1, omega arith, omega arith, inr (0, refl, (entry, refl, refl))) }) }));
  says = (record { sender_is = refl; term_is = refl; leading = refl; skip = 0; previous_is = refl; has = inl (refl, refl); piece = λ k e is. ap (slice_get (entry ∷ adds_two ∷ [])) (zero-add k) ∙ is; commit_is = refl }, tt);
  above_base = omega arith;
  commit = inl (omega arith);
}

second_follows_shown : Shown (cluster_after alone (adds_second ∷ leads_alone ∷ [])) second_follows
second_follows_shown = record {
  named = omega arith;
  came = (0, omega arith, refl);
  term = omega arith;
  vote = λ e ne. absurd (omega (arith, e));
  log = inr (inr (inl (record { came = record { sender = 1; previous = 0; previous_term = 0; entries = entry ∷ adds_two ∷ []; commit = 1; got = refl }; base = (refl, refl, refl); skip = 0; previous_is = refl; has = inl (refl, refl); change = record { kept = 0; entry = entry; there = refl; same = λ k e less is. absurd (omega arith); differs = inl refl; result = refl } })));
  says = ((refl, refl, record { came = record { sender = 1; previous = 0; previous_term = 0; entries = entry ∷ adds_two ∷ []; commit = 1; got = refl }; index_is = refl; has = λ le. inl (refl, refl); all = λ k e is le. inr (k, refl, (e, is, refl)) }), tt);
  above_base = omega arith;
  commit = inl (omega arith);
}

commits_second_shown : Shown (cluster_after alone (second_follows ∷ adds_second ∷ leads_alone ∷ [])) commits_second
unfolding members_in config_in members_entry whole mark_reading number_reading members items_reading member_after
commits_second_shown = record {
  named = omega arith;
  came = (1, omega arith, refl);
  term = omega arith;
  vote = λ e ne. refl;
  log = inl ((refl, refl, refl), refl);
  says = tt;
  above_base = omega arith;
  commit = inr (inl (record { leads = refl; own = inr (1, refl, (adds_two, refl, refl)); quorum = (pair 1 2, omega arith, λ v chosen. ⊎_elim inl (λ e. inr (1, 2, omega arith, inl (subst (λ x. Contains (cluster_after alone (second_follows ∷ adds_second ∷ leads_alone ∷ [])).sent (Appended x 1 1 2)) (sym e) (1, omega arith, refl)))) (pair_cases 1 2 v chosen)) }));
}

adds_third_shown : Shown (cluster_after alone (commits_second ∷ second_follows ∷ adds_second ∷ leads_alone ∷ [])) adds_third
unfolding members_in config_in members_entry whole mark_reading number_reading members items_reading member_after
adds_third_shown = record {
  named = omega arith;
  came = tt;
  term = omega arith;
  vote = λ e ne. refl;
  log = inr (inl (record { base = (refl, refl, refl); entry = adds_three; own = refl; leading = refl; result = refl; change = λ members is. subst (ChangesAreSingle (cluster_after alone (commits_second ∷ second_follows ∷ adds_second ∷ leads_alone ∷ [])) adds_third) (same_Some (1 ∷ 2 ∷ 3 ∷ []) members is) (record { one_apart = inl (1 ∷ 2 ∷ [], [], 3, refl, refl); settled = λ k e le at. absurd (omega (arith, le, slice_get_within (entry ∷ adds_two ∷ []) k e at)); own = (1, omega arith, omega arith, inr (0, refl, (entry, refl, refl))) }) }));
  says = (record { sender_is = refl; term_is = refl; leading = refl; skip = 2; previous_is = refl; has = inr (1, refl, (adds_two, refl, refl)); piece = third_piece; commit_is = refl }, tt);
  above_base = omega arith;
  commit = inl (omega arith);
}

second_follows_again_shown : Shown (cluster_after alone (adds_third ∷ commits_second ∷ second_follows ∷ adds_second ∷ leads_alone ∷ [])) second_follows_again
second_follows_again_shown = record {
  named = omega arith;
  came = (2, omega arith, refl);
  term = omega arith;
  vote = λ e ne. absurd (ne refl);
  log = inr (inr (inl (record { came = record { sender = 1; previous = 2; previous_term = 1; entries = adds_three ∷ []; commit = 2; got = refl }; base = (refl, refl, refl); skip = 2; previous_is = refl; has = inr (1, refl, (adds_two, refl, refl)); change = record { kept = 0; entry = adds_three; there = refl; same = λ k e less is. absurd (omega arith); differs = inl refl; result = refl } })));
  says = tt;
  above_base = omega arith;
  commit = inl (omega arith);
}

second_stands_shown : Shown (cluster_after alone (second_follows_again ∷ adds_third ∷ commits_second ∷ second_follows ∷ adds_second ∷ leads_alone ∷ [])) second_stands
second_stands_shown = record {
  named = omega arith;
  came = tt;
  term = omega arith;
  vote = λ e ne. absurd (ne refl);
  log = inl ((refl, refl, refl), refl);
  says = (record { candidate_is = refl; term_is = refl; vote = refl; ends = (refl, inr (2, refl, (adds_three, refl, refl))) }, tt);
  above_base = omega arith;
  commit = inl (omega arith);
}

third_votes_shown : Shown (cluster_after alone (second_stands ∷ second_follows_again ∷ adds_third ∷ commits_second ∷ second_follows ∷ adds_second ∷ leads_alone ∷ [])) third_votes
third_votes_shown = record {
  named = omega arith;
  came = (3, omega arith, refl);
  term = omega arith;
  vote = λ e ne. absurd (omega (arith, e));
  log = inl ((refl, refl, refl), refl);
  says = (tt, tt);
  above_base = omega arith;
  commit = inl (omega arith);
}

second_wins_shown : Shown (cluster_after alone (third_votes ∷ second_stands ∷ second_follows_again ∷ adds_third ∷ commits_second ∷ second_follows ∷ adds_second ∷ leads_alone ∷ [])) second_wins
second_wins_shown = record {
  named = omega arith;
  came = (4, omega arith, refl);
  term = omega arith;
  vote = λ e ne. refl;
  log = inl ((refl, refl, refl), refl);
  says = tt;
  above_base = omega arith;
  commit = inl (omega arith);
}

wins_elected : LeadersElected (cluster_after three (votes ∷ asks ∷ [])) wins
wins_elected = record {
  leads = λ h. refl;
  elected = λ h. inr (record {
    vote = refl;
    fresh = λ t i knows. let low = fresh three 1 1 t i knows in omega (arith, low);
    spelled = λ lt li sent. each_contains (Spelled 1 1 (member_of three 1 1 [] 0 false)) (cluster_after three (votes ∷ asks ∷ [])).sent (Vote 1 1 lt li) (λ e f. (refl, inl (refl, refl)), (tt, tt)) sent refl refl;
    quorum = (pair 1 2, omega arith, λ v chosen. ⊎_elim inl (λ e. inr (subst (λ x. Contains (cluster_after three (votes ∷ asks ∷ [])).sent (Voted x 1 1)) (sym e) (1, omega arith, refl))) (pair_cases 1 2 v chosen));
  });
}

first_wins_elected : LeadersElected (cluster_after three (says_yes_again ∷ says_yes ∷ second_asks ∷ asks ∷ [])) first_wins
first_wins_elected = record {
  leads = λ h. refl;
  elected = λ h. inr (record {
    vote = refl;
    fresh = λ t i knows. let low = fresh three 1 1 t i knows in omega (arith, low);
    spelled = λ lt li sent. each_contains (Spelled 1 1 (member_of three 1 1 [] 0 false)) (cluster_after three (says_yes_again ∷ says_yes ∷ second_asks ∷ asks ∷ [])).sent (Vote 1 1 lt li) (λ e f. (refl, inl (refl, refl)), ((λ e f. absurd (omega (arith, e))), (tt, (tt, tt)))) sent refl refl;
    quorum = (pair 1 3, omega arith, λ v chosen. ⊎_elim inl (λ e. inr (subst (λ x. Contains (cluster_after three (says_yes_again ∷ says_yes ∷ second_asks ∷ asks ∷ [])).sent (Voted x 1 1)) (sym e) (2, omega arith, refl))) (pair_cases 1 3 v chosen));
  });
}

second_wins_too_elected : LeadersElected (cluster_after three (first_wins ∷ says_yes_again ∷ says_yes ∷ second_asks ∷ asks ∷ [])) second_wins_too
second_wins_too_elected = record {
  leads = λ h. refl;
  elected = λ h. inr (record {
    vote = refl;
    fresh = λ t i knows. let low = fresh three 1 2 t i knows in omega (arith, low);
    spelled = λ lt li sent. each_contains (Spelled 2 1 (member_of three 1 2 [] 0 false)) (cluster_after three (first_wins ∷ says_yes_again ∷ says_yes ∷ second_asks ∷ asks ∷ [])).sent (Vote 2 1 lt li) ((λ e f. absurd (omega (arith, e))), (λ e f. (refl, inl (refl, refl)), (tt, (tt, tt)))) sent refl refl;
    quorum = (pair 2 3, omega arith, λ v chosen. ⊎_elim inl (λ e. inr (subst (λ x. Contains (cluster_after three (first_wins ∷ says_yes_again ∷ says_yes ∷ second_asks ∷ asks ∷ [])).sent (Voted x 2 1)) (sym e) (3, omega arith, refl))) (pair_cases 2 3 v chosen));
  });
}

votes_gives : GivesVote (cluster_after three (asks ∷ [])) votes 2 1 1
votes_gives = record { voter_is = refl; term_is = refl; vote = refl; last_term = 0; last_index = 0; asked = (0, omega arith, refl); own_term = 0; own_index = 0; own = (refl, inl (refl, refl)); up_to_date = inr (refl, omega arith) }

pub elects_meets : MeetsFacts three elects_and_commits
elects_meets = (
  record { others = shown (cluster_after three (acknowledges ∷ wins ∷ votes ∷ asks ∷ [])) commits commits_shown; votes_given = votes_given (cluster_after three (acknowledges ∷ wins ∷ votes ∷ asks ∷ [])) commits tt; leaders_elected = leads_on (cluster_after three (acknowledges ∷ wins ∷ votes ∷ asks ∷ [])) commits refl refl refl },
  (
    record { others = shown (cluster_after three (wins ∷ votes ∷ asks ∷ [])) acknowledges acknowledges_shown; votes_given = votes_given (cluster_after three (wins ∷ votes ∷ asks ∷ [])) acknowledges (tt, tt); leaders_elected = follows_only (cluster_after three (wins ∷ votes ∷ asks ∷ [])) acknowledges refl refl },
    (
      record { others = shown (cluster_after three (votes ∷ asks ∷ [])) wins wins_shown; votes_given = votes_given (cluster_after three (votes ∷ asks ∷ [])) wins (tt, tt); leaders_elected = wins_elected },
      (
        record { others = shown (cluster_after three (asks ∷ [])) votes votes_shown; votes_given = votes_given (cluster_after three (asks ∷ [])) votes (votes_gives, tt); leaders_elected = follows_only (cluster_after three (asks ∷ [])) votes refl refl },
        (
          record { others = shown (cluster_after three []) asks asks_shown; votes_given = votes_given (cluster_after three []) asks (tt, tt); leaders_elected = follows_only (cluster_after three []) asks refl refl },
          tt,
        ),
      ),
    ),
  ),
)

pub votes_twice_meets : MeetsAllButVotes three votes_twice
votes_twice_meets = (
  shown (cluster_after three (first_wins ∷ says_yes_again ∷ says_yes ∷ second_asks ∷ asks ∷ [])) second_wins_too second_wins_too_shown,
  second_wins_too_elected,
  (
    shown (cluster_after three (says_yes_again ∷ says_yes ∷ second_asks ∷ asks ∷ [])) first_wins first_wins_shown,
    first_wins_elected,
    (
      shown (cluster_after three (says_yes ∷ second_asks ∷ asks ∷ [])) says_yes_again says_yes_again_shown,
      follows_only (cluster_after three (says_yes ∷ second_asks ∷ asks ∷ [])) says_yes_again refl refl,
      (
        shown (cluster_after three (second_asks ∷ asks ∷ [])) says_yes says_yes_shown,
        follows_only (cluster_after three (second_asks ∷ asks ∷ [])) says_yes refl refl,
        (
          shown (cluster_after three (asks ∷ [])) second_asks second_asks_shown,
          follows_only (cluster_after three (asks ∷ [])) second_asks refl refl,
          (
            shown (cluster_after three []) asks asks_shown,
            follows_only (cluster_after three []) asks refl refl,
            tt,
          ),
        ),
      ),
    ),
  ),
)

follows_any : (w : Cluster) (s : Step) → LeadersElected w s → LeadersElectedWithAnyLog w s
follows_any w s h = record { leads = h.leads; elected = λ l. ⊎_elim inl (λ (x : WinsElection w s). inr (record { vote = x.vote; quorum = x.quorum })) (h.elected l) }

leads_alone_elected : LeadersElectedWithAnyLog (cluster_after alone []) leads_alone
leads_alone_elected = record { leads = λ h. refl; elected = λ h. inr (record { vote = refl; quorum = (pair 1 1, omega arith, λ v chosen. inl (⊎_elim (λ e. e) (λ e. e) (pair_cases 1 1 v chosen))) }) }

second_wins_elected : LeadersElectedWithAnyLog (cluster_after alone (third_votes ∷ second_stands ∷ second_follows_again ∷ adds_third ∷ commits_second ∷ second_follows ∷ adds_second ∷ leads_alone ∷ [])) second_wins
unfolding members_in config_in members_entry whole mark_reading number_reading members items_reading member_after
second_wins_elected = record { leads = λ h. refl; elected = λ h. inr (record { vote = refl; quorum = (pair 2 3, omega arith, λ v chosen. ⊎_elim inl (λ e. inr (subst (λ x. Contains (cluster_after alone (third_votes ∷ second_stands ∷ second_follows_again ∷ adds_third ∷ commits_second ∷ second_follows ∷ adds_second ∷ leads_alone ∷ [])).sent (Voted x 2 1)) (sym e) (4, omega arith, refl))) (pair_cases 2 3 v chosen)) }) }

third_gives : GivesVote (cluster_after alone (second_stands ∷ second_follows_again ∷ adds_third ∷ commits_second ∷ second_follows ∷ adds_second ∷ leads_alone ∷ [])) third_votes 3 2 1
third_gives = record { voter_is = refl; term_is = refl; vote = refl; last_term = 1; last_index = 3; asked = (3, omega arith, refl); own_term = 0; own_index = 0; own = (refl, inl (refl, refl)); up_to_date = inl (omega arith) }

pub stands_late_meets : MeetsWithAnyLog alone stands_late
stands_late_meets = (
  shown (cluster_after alone (third_votes ∷ second_stands ∷ second_follows_again ∷ adds_third ∷ commits_second ∷ second_follows ∷ adds_second ∷ leads_alone ∷ [])) second_wins second_wins_shown,
  votes_given (cluster_after alone (third_votes ∷ second_stands ∷ second_follows_again ∷ adds_third ∷ commits_second ∷ second_follows ∷ adds_second ∷ leads_alone ∷ [])) second_wins tt,
  second_wins_elected,
  (
    shown (cluster_after alone (second_stands ∷ second_follows_again ∷ adds_third ∷ commits_second ∷ second_follows ∷ adds_second ∷ leads_alone ∷ [])) third_votes third_votes_shown,
    votes_given (cluster_after alone (second_stands ∷ second_follows_again ∷ adds_third ∷ commits_second ∷ second_follows ∷ adds_second ∷ leads_alone ∷ [])) third_votes (third_gives, tt),
    follows_any (cluster_after alone (second_stands ∷ second_follows_again ∷ adds_third ∷ commits_second ∷ second_follows ∷ adds_second ∷ leads_alone ∷ [])) third_votes (follows_only (cluster_after alone (second_stands ∷ second_follows_again ∷ adds_third ∷ commits_second ∷ second_follows ∷ adds_second ∷ leads_alone ∷ [])) third_votes refl refl),
    (
      shown (cluster_after alone (second_follows_again ∷ adds_third ∷ commits_second ∷ second_follows ∷ adds_second ∷ leads_alone ∷ [])) second_stands second_stands_shown,
      votes_given (cluster_after alone (second_follows_again ∷ adds_third ∷ commits_second ∷ second_follows ∷ adds_second ∷ leads_alone ∷ [])) second_stands (tt, tt),
      follows_any (cluster_after alone (second_follows_again ∷ adds_third ∷ commits_second ∷ second_follows ∷ adds_second ∷ leads_alone ∷ [])) second_stands (follows_only (cluster_after alone (second_follows_again ∷ adds_third ∷ commits_second ∷ second_follows ∷ adds_second ∷ leads_alone ∷ [])) second_stands refl refl),
      (
        shown (cluster_after alone (adds_third ∷ commits_second ∷ second_follows ∷ adds_second ∷ leads_alone ∷ [])) second_follows_again second_follows_again_shown,
        votes_given (cluster_after alone (adds_third ∷ commits_second ∷ second_follows ∷ adds_second ∷ leads_alone ∷ [])) second_follows_again tt,
        follows_any (cluster_after alone (adds_third ∷ commits_second ∷ second_follows ∷ adds_second ∷ leads_alone ∷ [])) second_follows_again (follows_only (cluster_after alone (adds_third ∷ commits_second ∷ second_follows ∷ adds_second ∷ leads_alone ∷ [])) second_follows_again refl refl),
        (
          shown (cluster_after alone (commits_second ∷ second_follows ∷ adds_second ∷ leads_alone ∷ [])) adds_third adds_third_shown,
          votes_given (cluster_after alone (commits_second ∷ second_follows ∷ adds_second ∷ leads_alone ∷ [])) adds_third (tt, tt),
          follows_any (cluster_after alone (commits_second ∷ second_follows ∷ adds_second ∷ leads_alone ∷ [])) adds_third (leads_on (cluster_after alone (commits_second ∷ second_follows ∷ adds_second ∷ leads_alone ∷ [])) adds_third refl refl refl),
          (
            shown (cluster_after alone (second_follows ∷ adds_second ∷ leads_alone ∷ [])) commits_second commits_second_shown,
            votes_given (cluster_after alone (second_follows ∷ adds_second ∷ leads_alone ∷ [])) commits_second tt,
            follows_any (cluster_after alone (second_follows ∷ adds_second ∷ leads_alone ∷ [])) commits_second (leads_on (cluster_after alone (second_follows ∷ adds_second ∷ leads_alone ∷ [])) commits_second refl refl refl),
            (
              shown (cluster_after alone (adds_second ∷ leads_alone ∷ [])) second_follows second_follows_shown,
              votes_given (cluster_after alone (adds_second ∷ leads_alone ∷ [])) second_follows (tt, tt),
              follows_any (cluster_after alone (adds_second ∷ leads_alone ∷ [])) second_follows (follows_only (cluster_after alone (adds_second ∷ leads_alone ∷ [])) second_follows refl refl),
              (
                shown (cluster_after alone (leads_alone ∷ [])) adds_second adds_second_shown,
                votes_given (cluster_after alone (leads_alone ∷ [])) adds_second (tt, tt),
                follows_any (cluster_after alone (leads_alone ∷ [])) adds_second (leads_on (cluster_after alone (leads_alone ∷ [])) adds_second refl refl refl),
                (
                  shown (cluster_after alone []) leads_alone leads_alone_shown,
                  votes_given (cluster_after alone []) leads_alone tt,
                  leads_alone_elected,
                  tt,
                ),
              ),
            ),
          ),
        ),
      ),
    ),
  ),
)

-- Executions in full: one that commits, and two that show what single facts are for.
use Rattle.std.specs.Prelude.{◌≡◌, ℕ, ◌⊎◌, Bool, List, [], ◌∷◌, true, false, Some, None, Contains}
use Rattle.cp_parts.specs.declared.log_entry.LogEntry.{LogEntry}
use Rattle.cp_agreement_facts.specs.Configurations.{HasQuorum}
use Rattle.cp_agreement_facts.specs.Clusters.{Member, Vote, Voted, Append, Appended, Cluster, Step, cluster_after}
use Rattle.cp_agreement_facts.specs.Facts.{before, configuration_of, OtherFacts, LeadersElected, VotesGiven}

-- a member that has taken no snapshot
abbrev pub member_of : List ℕ → (term vote : ℕ) → List LogEntry → ℕ → Bool → Member
member_of first term vote log commit is_leader = record { term = term; vote = vote; base = 0; base_term = 0; base_members = first; log = log; commit = commit; is_leader = is_leader }

-- an entry of term 1 that changes no members
abbrev pub entry : LogEntry
entry = record { term = 1; bytes = [] }

abbrev pub three : List ℕ
three = 1 ∷ 2 ∷ 3 ∷ []

-- Member 1 of 1, 2 and 3 is elected by 2 and creates an entry, which 2 acknowledges; so it commits it.
abbrev pub asks : Step
asks = record { actor = 1; got = None; leads = false; after = member_of three 1 1 [] 0 false; sends = Vote 1 1 0 0 ∷ [] }

abbrev pub votes : Step
votes = record { actor = 2; got = Some (Vote 1 1 0 0); leads = false; after = member_of three 1 1 [] 0 false; sends = Voted 2 1 1 ∷ [] }

abbrev pub wins : Step
wins = record { actor = 1; got = Some (Voted 2 1 1); leads = true; after = member_of three 1 1 (entry ∷ []) 0 true; sends = Append 1 1 0 0 (entry ∷ []) 0 ∷ [] }

abbrev pub acknowledges : Step
acknowledges = record { actor = 2; got = Some (Append 1 1 0 0 (entry ∷ []) 0); leads = false; after = member_of three 1 1 (entry ∷ []) 0 false; sends = Appended 2 1 1 1 ∷ [] }

abbrev pub commits : Step
commits = record { actor = 1; got = Some (Appended 2 1 1 1); leads = true; after = member_of three 1 1 (entry ∷ []) 1 true; sends = [] }

abbrev pub elects_and_commits : List Step
elects_and_commits = commits ∷ acknowledges ∷ wins ∷ votes ∷ asks ∷ []

-- All facts but "votes are durable and up to date".
abbrev pub MeetsAllButVotes : List ℕ → List Step → Type 0
MeetsAllButVotes first [] = Unit {0}
MeetsAllButVotes first (s ∷ earlier) = OtherFacts (cluster_after first earlier) s × LeadersElected (cluster_after first earlier) s × MeetsAllButVotes first earlier

-- Members 1 and 2 both ask, and member 3 says yes to both in one term. It keeps the first vote alone.
abbrev pub second_asks : Step
second_asks = record { actor = 2; got = None; leads = false; after = member_of three 1 2 [] 0 false; sends = Vote 2 1 0 0 ∷ [] }

abbrev pub says_yes : Step
says_yes = record { actor = 3; got = Some (Vote 1 1 0 0); leads = false; after = member_of three 1 1 [] 0 false; sends = Voted 3 1 1 ∷ [] }

abbrev pub says_yes_again : Step
says_yes_again = record { actor = 3; got = Some (Vote 2 1 0 0); leads = false; after = member_of three 1 1 [] 0 false; sends = Voted 3 2 1 ∷ [] }

abbrev pub first_wins : Step
first_wins = record { actor = 1; got = Some (Voted 3 1 1); leads = true; after = member_of three 1 1 (entry ∷ []) 0 true; sends = [] }

abbrev pub second_wins_too : Step
second_wins_too = record { actor = 2; got = Some (Voted 3 2 1); leads = true; after = member_of three 1 2 (entry ∷ []) 0 true; sends = [] }

abbrev pub votes_twice : List Step
votes_twice = second_wins_too ∷ first_wins ∷ says_yes_again ∷ says_yes ∷ second_asks ∷ asks ∷ []

-- Leaders elected by a quorum, with no word on the candidate's log.
pub record WinsWithAnyLog (w : Cluster) (s : Step) : Type 0 where
  pub vote : s.after.vote ≡ s.actor
  pub quorum : HasQuorum (configuration_of (before w s)) (λ v. (v ≡ s.actor) ⊎ Contains w.sent (Voted v s.actor s.after.term))

pub record LeadersElectedWithAnyLog (w : Cluster) (s : Step) : Type 0 where
  pub leads : s.after.is_leader ≡ true → s.leads ≡ true
  pub elected : s.leads ≡ true → (((before w s).is_leader ≡ true) × ((before w s).term ≡ s.after.term)) ⊎ WinsWithAnyLog w s

-- All facts, but that candidates may win with any log.
abbrev pub MeetsWithAnyLog : List ℕ → List Step → Type 0
MeetsWithAnyLog first [] = Unit {0}
MeetsWithAnyLog first (s ∷ earlier) = OtherFacts (cluster_after first earlier) s × VotesGiven (cluster_after first earlier) s × LeadersElectedWithAnyLog (cluster_after first earlier) s
    × MeetsWithAnyLog first earlier

abbrev pub alone : List ℕ
alone = 1 ∷ []

-- The members entries of term 1 that make the configuration 1, 2 and then 1, 2, 3.
abbrev pub adds_two : LogEntry
adds_two = record { term = 1; bytes = 4 ∷ 0 ∷ 0 ∷ 0 ∷ 0 ∷ 0 ∷ 0 ∷ 0 ∷ 0 ∷ 0 ∷ 0 ∷ 0 ∷ 0 ∷ 2 ∷ 1 ∷ 2 ∷ [] }

abbrev pub adds_three : LogEntry
adds_three = record { term = 1; bytes = 4 ∷ 0 ∷ 0 ∷ 0 ∷ 0 ∷ 0 ∷ 0 ∷ 0 ∷ 0 ∷ 0 ∷ 0 ∷ 0 ∷ 0 ∷ 3 ∷ 1 ∷ 2 ∷ 3 ∷ [] }

-- Member 1 leads term 1 alone, adds 2, commits that with 2, and adds 3. Member 2 follows, and has not voted in term 1. Now it votes
-- for itself in this same term, asks 3, and counts itself and 3 as a quorum of the three members that its log has.
abbrev pub leads_alone : Step
leads_alone = record { actor = 1; got = None; leads = true; after = member_of alone 1 1 (entry ∷ []) 1 true; sends = [] }

abbrev pub adds_second : Step
adds_second = record { actor = 1; got = None; leads = true; after = member_of alone 1 1 (entry ∷ adds_two ∷ []) 1 true; sends = Append 1 1 0 0 (entry ∷ adds_two ∷ []) 1 ∷ [] }

abbrev pub second_follows : Step
second_follows = record { actor = 2; got = Some (Append 1 1 0 0 (entry ∷ adds_two ∷ []) 1); leads = false; after = member_of alone 1 0 (entry ∷ adds_two ∷ []) 0 false; sends = Appended 2 1 1 2 ∷ [] }

abbrev pub commits_second : Step
commits_second = record { actor = 1; got = Some (Appended 2 1 1 2); leads = true; after = member_of alone 1 1 (entry ∷ adds_two ∷ []) 2 true; sends = [] }

abbrev pub adds_third : Step
adds_third = record { actor = 1; got = None; leads = true; after = member_of alone 1 1 (entry ∷ adds_two ∷ adds_three ∷ []) 2 true; sends = Append 1 1 2 1 (adds_three ∷ []) 2 ∷ [] }

abbrev pub second_follows_again : Step
second_follows_again = record { actor = 2; got = Some (Append 1 1 2 1 (adds_three ∷ []) 2); leads = false; after = member_of alone 1 0 (entry ∷ adds_two ∷ adds_three ∷ []) 0 false; sends = [] }

abbrev pub second_stands : Step
second_stands = record { actor = 2; got = None; leads = false; after = member_of alone 1 2 (entry ∷ adds_two ∷ adds_three ∷ []) 0 false; sends = Vote 2 1 1 3 ∷ [] }

abbrev pub third_votes : Step
third_votes = record { actor = 3; got = Some (Vote 2 1 1 3); leads = false; after = member_of alone 1 2 [] 0 false; sends = Voted 3 2 1 ∷ [] }

abbrev pub second_wins : Step
second_wins = record { actor = 2; got = Some (Voted 3 2 1); leads = true; after = member_of alone 1 2 (entry ∷ adds_two ∷ adds_three ∷ []) 0 true; sends = [] }

abbrev pub stands_late : List Step
stands_late = second_wins ∷ third_votes ∷ second_stands ∷ second_follows_again ∷ adds_third ∷ commits_second ∷ second_follows ∷ adds_second ∷ leads_alone ∷ []

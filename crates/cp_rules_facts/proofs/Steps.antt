-- Every rule, and so every step, is shown good.
use Rattle.std.proofs.Common.{◌≡◌, ℕ, true, false, ap, Some}
use Rattle.cp_agreement_facts.specs.Clusters as cluster
use Rattle.cp_agreement_facts.specs.Clusters.{Message}
use Rattle.cp_safety.specs.Chunks.{AsItIs, seen_got}
use Rattle.cp_rules.specs.Local.{Body, PreVote, PreVoteReply, Vote, VoteReply, Append, AppendReply, Snapshot, SnapshotReply, Confirm, Confirmed, Event, Tick, Got, Propose, ChangeMembers, Read}
use Rattle.cp_rules.specs.Steps.{on_message, rule, step}
use Rattle.cp_rules_facts.specs.Seen.{wire, came_with}
use Rattle.cp_rules_facts.specs.Soundness.{IsFair}
use Rattle.cp_rules_facts.proofs.Turns.{Turn, got, Good}
use Rattle.cp_rules_facts.proofs.Votes.{prevote_good, vote_good, confirm_good, confirmed_good}
use Rattle.cp_rules_facts.proofs.Elections.{prevote_reply_good, vote_reply_good}
use Rattle.cp_rules_facts.proofs.Appends.{append_good}
use Rattle.cp_rules_facts.proofs.Replies.{append_reply_good, snapshot_reply_good}
use Rattle.cp_rules_facts.proofs.Snapshots.{snapshot_good}
use Rattle.cp_rules_facts.proofs.Changes.{propose_good, change_good}
use Rattle.cp_rules_facts.proofs.Ticks.{tick_good, settles_good}
use Rattle.cp_rules_facts.proofs.Looks.{read_good}

-- what came as it is, is seen so
seen_as : (t : Turn) (m : Message) → t.came ≡ Some (AsItIs m) → got t ≡ Some m
seen_as t m is = ap (seen_got t.index_term t.members) is

message_good : (t : Turn) (from : ℕ) (body : Body) → t.came ≡ Some (wire from t.me body) → Good t (on_message t.me t.p t.v from body)
message_good t from (PreVote term candidate) is = prevote_good t from term candidate
message_good t from (PreVoteReply term granted) is = prevote_reply_good t from term granted
message_good t from (Vote term candidate) is = vote_good t from term candidate (seen_as t (cluster.Vote from term candidate.term candidate.index) is)
message_good t from (VoteReply term true) is = vote_reply_good t from term true (λ e. seen_as t (cluster.Voted from t.me term) is)
message_good t from (VoteReply term false) is = vote_reply_good t from term false (λ e. absurd (cc))
message_good t from (Append term previous previous_term commit entries) is = append_good t from term previous previous_term commit entries (seen_as t (cluster.Append from term previous previous_term entries commit) is)
message_good t from (AppendReply term true index) is = append_reply_good t from term true index (λ e. seen_as t (cluster.Appended from t.me term index) is)
message_good t from (AppendReply term false index) is = append_reply_good t from term false index (λ e. absurd (cc))
message_good t from (Snapshot term index offset is_last bytes) is = snapshot_good t from term index offset is_last bytes is
message_good t from (SnapshotReply term index true received) is = snapshot_reply_good t from term index true received (λ e. seen_as t (cluster.Done from t.me term index) is)
message_good t from (SnapshotReply term index false received) is = snapshot_reply_good t from term index false received (λ e. absurd (cc))
message_good t from (Confirm term round) is = confirm_good t from term round
message_good t from (Confirmed term taken round) is = confirmed_good t from term taken round

rule_good : (t : Turn) (event : Event) → t.came ≡ came_with t.me event → IsFair t.p t.v event → Good t (rule t.me t.p t.v event)
rule_good t (Tick clock may_write expiry machine) is fair = tick_good t clock may_write machine fair.1 expiry fair.0
rule_good t (Got from body) is fair = message_good t from body is
rule_good t (Propose entry) is fair = propose_good t entry fair
rule_good t (ChangeMembers change plan call) is fair = change_good t change plan call fair
rule_good t (Read call attempt op) is fair = read_good t call attempt op

pub step_good : (t : Turn) (event : Event) → t.came ≡ came_with t.me event → IsFair t.p t.v event → Good t (step t.me t.p t.v event)
step_good t event is fair = settles_good t (rule t.me t.p t.v event) (rule_good t event is fair)

-- Each step is in range.
use Rattle.std.proofs.Common.{ℕ, ◌≤◌, List, refl, le_refl, arith}
use Rattle.cp_grammar.specs.Common as common
use Rattle.cp_log_rules.specs.Persistent.{PersistentState, new_group}
use Rattle.cp_rules.specs.Limits.{most_index}
use Rattle.cp_rules.specs.Volatile.{VolatileState, started}
use Rattle.cp_rules.specs.Local.{Body, PreVote, PreVoteReply, Vote, VoteReply, Append, AppendReply, Snapshot, SnapshotReply, Confirm, Confirmed, Event, Tick, Got, Propose, ChangeMembers, Read}
use Rattle.cp_rules.specs.Steps.{on_message, rule, step}
use Rattle.cp_rules_facts.specs.Soundness.{IsSound, IsFair}
use Rattle.cp_rules_facts.proofs.Laws.{stays_sound}
use Rattle.cp_rules_ranges.specs.Ranges.{IsMember, IsInRange, BodyIsInRange, EventIsInRange}
use Rattle.cp_rules_ranges.specs.Laws.{MayStep, StaysInRange, StepsGoOn}
use Rattle.cp_rules_ranges.proofs.Rules.{Here, Ranged, Goes, follows_in_range, prevote_range, prevote_reply_range, vote_range, confirm_range, confirmed_range, read_range}
use Rattle.cp_rules_ranges.proofs.Leaders.{vote_reply_range, propose_range, change_range, append_reply_range, snapshot_reply_range}
use Rattle.cp_rules_ranges.proofs.Followers.{append_range, snapshot_range}
use Rattle.cp_rules_ranges.proofs.Ticks.{settles_range, tick_range}

message_range : (h : Here) (from : ℕ) (body : Body) → IsMember from → BodyIsInRange body → Goes h (on_message h.me h.p h.v from body)
message_range h from (PreVote term candidate) m r = prevote_range h from term candidate m r.0
message_range h from (PreVoteReply term granted) m r = prevote_reply_range h from term granted r
message_range h from (Vote term candidate) m r = vote_range h from term candidate m r.0
message_range h from (VoteReply term granted) m r = vote_reply_range h from term granted r
message_range h from (Append term previous previous_term commit entries) m r = append_range h from term previous previous_term commit entries m r
message_range h from (AppendReply term taken index) m r = append_reply_range h from term taken index m r.0
message_range h from (Snapshot term index offset is_last bytes) m r = snapshot_range h from term index offset is_last bytes m r
message_range h from (SnapshotReply term index done received) m r = snapshot_reply_range h from term index done received m r.0
message_range h from (Confirm term round) m r = confirm_range h from term round m r.0 r.1
message_range h from (Confirmed term taken round) m r = confirmed_range h from term taken round r.0

rule_range : (h : Here) (event : Event) → IsFair h.p h.v event → EventIsInRange h.v event → Goes h (rule h.me h.p h.v event)
rule_range h (Tick clock may_write expiry machine) fair r = tick_range h clock r.0 may_write machine fair.1 expiry r.1
rule_range h (Got from body) fair r = message_range h from body r.0 r.1
rule_range h (Propose entry) fair r = propose_range h entry r
rule_range h (ChangeMembers change plan call) fair r = change_range h change plan call fair
rule_range h (Read call attempt op) fair r = read_range h call attempt op r

pub step_range : (me : ℕ) (p : PersistentState) (v : VolatileState) (event : Event) → MayStep me p v event → Ranged p (step me p v event)
step_range me p v event may =
    let h : Here = record { me = me; p = p; v = v; member = may.member; sound = may.sound; range = may.range } in
    settles_range h (rule me p v event) (rule_range h event may.fair may.comes) (stays_sound.step me p v event may.sound may.fair)

start_range : (p : PersistentState) (v : VolatileState) (clock : ℕ) → IsInRange p v → clock ≤ most_index → IsInRange p (started p.base clock)
start_range p v clock r late = follows_in_range p (started p.base clock) refl r.stored (record { clock = late; heard = late; beat = omega arith; round = omega arith; received = λ x e. absurd (cc) })

begin_range : (ms : List ℕ) (clock : ℕ) → common.members.Fits ms → clock ≤ most_index → IsInRange (new_group ms) (started 0 clock)
begin_range ms clock fits late = follows_in_range (new_group ms) (started 0 clock) refl
    (record { term = omega arith; vote = omega arith; last_index = omega arith; base_term = omega arith; members = fits; snapshot = omega arith; entries = tt })
    (record { clock = late; heard = late; beat = omega arith; round = omega arith; received = λ x e. absurd (cc) })

pub stays_in_range : StaysInRange
stays_in_range = record {
  step = λ me p v event may. (step_range me p v event may).after;
  start = start_range;
  begin = begin_range;
}

-- ---- one step after another

begin_sound : (me clock : ℕ) (ms : List ℕ) → IsMember me → IsSound me (new_group ms) (started 0 clock)
begin_sound me clock ms is = record {
  named = λ e. let low = is.first in omega (arith, low, e);
  above_base = le_refl 0;
  within = omega arith;
  no_base = λ h. refl;
  voted = λ h. absurd (cc);
  campaigns = λ h. absurd (cc);
  leads = λ h. absurd (cc);
  peers = λ h. absurd (cc);
}

pub steps_go_on : StepsGoOn
steps_go_on = record {
  step = λ me p v event may. record { member = may.member; sound = stays_sound.step me p v event may.sound may.fair; range = (step_range me p v event may).after };
  start = λ me clock p v is late. record { member = is.member; sound = stays_sound.start me clock p v is.sound; range = start_range p v clock is.range late };
  begin = λ me clock ms is fits late. record { member = is; sound = begin_sound me clock ms is; range = begin_range ms clock fits late };
}

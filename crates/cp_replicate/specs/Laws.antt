-- The rules do what is decided.
use Rattle.std.specs.Prelude.{◌≡◌, ◌<◌, ◌≤◌, ℕ, ◌+◌, ◌-◌, ◌&&◌, Bool, true, false, if◌then◌else◌, List, [], ◌∷◌, take, drop, length, max, Some, None, nat_lt}
use Rattle.cp_parts.specs.declared.log_entry.LogEntry.{LogEntry}
use Rattle.cp_log_rules.specs.Persistent.{PersistentState, last}
use Rattle.cp_log_rules.specs.Configurations.{config_at}
use Rattle.cp_rules.specs.declared.ballot.Ballot.{Ballot}
use Rattle.cp_rules.specs.Limits.{batch_entries, batch_bytes}
use Rattle.cp_rules.specs.Persistent.{AppendPart, ballot, ballot_part, members}
use Rattle.cp_rules.specs.Volatile.{VolatileState, Look, Reads, peer, with_peer}
use Rattle.cp_rules.specs.Local.{Body, LocalStep, does, reply, send, leads_and, Append, AppendReply, is_leader}
use Rattle.cp_rules.specs.Terms as terms
use Rattle.cp_rules.specs.Terms.{adopted, adopts}
use Rattle.cp_rules.specs.Appends.{following, follower_commit, on_append}
use Rattle.cp_rules.specs.AppendReplies.{on_append_reply}
use Rattle.cp_rules.specs.Commit.{commits, commits_to}
use Rattle.cp_rules.specs.Sending.{append_to, batch, chunk_from}
use Rattle.cp_rules.specs.Ticks.{expires}
use Rattle.cp_rules.specs.Confirming as rounds
use Rattle.cp_rules.specs.Requests.{proposes}
use Rattle.cp_replicate.specs.declared.following.Followed.{Followed}
use Rattle.cp_replicate.specs.declared.following.Followed.TheVariants.{Refused, Kept, Conflict, Replaced}
use Rattle.cp_replicate.specs.declared.replying.AppendReplied.{AppendReplied}
use Rattle.cp_replicate.specs.declared.replying.AppendReplied.TheVariants.{Adopted, Ignored, Matched, FellBack}
use Rattle.cp_replicate.specs.declared.sending.Sending.{Sending}
use Rattle.cp_replicate.specs.declared.sending.Sending.TheVariants.{Chunk, Entries}
use Rattle.cp_replicate.specs.Decisions.{followed, append_replied, steps_down, to_send, may_expire, is_ready}

-- ---- an append

-- the commit that is told goes no further than the index that is answered
abbrev pub told_to : ℕ → ℕ → VolatileState → VolatileState
told_to told index v = record v { commit = follower_commit v.commit told index }

-- with the term adopted and the sender followed
abbrev pub follows : PersistentState → Ballot → VolatileState → ℕ → ℕ → ℕ → List LogEntry → Followed → LocalStep
follows p b v from told previous entries (Refused index) = does (ballot_part p b) v (reply from (AppendReply b.term false index))
follows p b v from told previous entries Kept = does (ballot_part p b) (told_to told (previous + length entries) v) (reply from (AppendReply b.term true (previous + length entries)))
follows p b v from told previous entries Conflict = does (ballot_part p b) v []
follows p b v from told previous entries (Replaced after) = does (Some (AppendPart b after (drop (after - previous) entries))) (told_to told (previous + length entries) v) (reply from (AppendReply b.term true (previous + length entries)))

abbrev pub AppendsGoAsDecided : Type 0
AppendsGoAsDecided = (p : PersistentState) (v : VolatileState) (from term previous previous_term told : ℕ) (entries : List LogEntry)
    → on_append p v from term previous previous_term told entries
    ≡ (if nat_lt term p.term then does None v (reply from (AppendReply p.term false 0))
    else follows p (adopted term (ballot p)) (following from v) from told previous entries (followed p v.commit previous previous_term entries))

-- ---- the reply to an append

-- where the member lacks entries, they are sent, but not by one that has stepped down
abbrev pub leads_on : PersistentState → VolatileState → ℕ → ℕ → LocalStep
leads_on p v from index = leads_and (does None v (if is_leader v.role && nat_lt index (last p) then append_to p v from ∷ [] else []))

abbrev pub after_append_reply : ℕ → PersistentState → VolatileState → ℕ → ℕ → ℕ → AppendReplied → LocalStep
after_append_reply me p v from term index Adopted = adopts term p v
after_append_reply me p v from term index Ignored = does None v []
after_append_reply me p v from term index (Matched x) = leads_on p (commits me p (with_peer from x v)) from index
after_append_reply me p v from term index (FellBack x) =
    does None (with_peer from x v) (if nat_lt x.next (peer v.peers from).next then append_to p (with_peer from x v) from ∷ [] else [])

abbrev pub AppendRepliesGoAsDecided : Type 0
AppendRepliesGoAsDecided = (me : ℕ) (p : PersistentState) (v : VolatileState) (from term : ℕ) (accepted : Bool) (index : ℕ)
    → on_append_reply me p v from term accepted index
    ≡ after_append_reply me p v from term index (append_replied v.role p.term (members p) from (peer v.peers from) (last p) term accepted index)

-- ---- a commit

abbrev pub CommitsGoAsDecided : Type 0
CommitsGoAsDecided = (me : ℕ) (p : PersistentState) (v : VolatileState) (found : ℕ)
    → commits_to me p v found ≡ (let state = record v { commit = found } in if steps_down me v.commit found (config_at p found).members then terms.steps_down state else state)

-- ---- what is sent

abbrev pub sent : PersistentState → ℕ → Sending → Body
sent p commit (Chunk offset) = chunk_from p offset
sent p commit (Entries after count) = Append p.term after.index after.term commit (take count (drop (after.index - p.base) p.log))

abbrev pub SendsAsDecided : Type 0
SendsAsDecided = (p : PersistentState) (v : VolatileState) (member : ℕ) → append_to p v member ≡ send member (sent p v.commit (to_send p (peer v.peers member)))

-- ---- an expiry

abbrev pub ExpiresAsDecided : Type 0
ExpiresAsDecided = (me : ℕ) (p : PersistentState) (v : VolatileState) (may_write : Bool) (entry : List ℕ)
    → expires me p v may_write (Some entry) ≡ (if may_expire v.role v.leader (last p) v.commit may_write then proposes me p v entry else does None v [])

-- ---- a read

abbrev pub ReadsGoAsDecided : Type 0
ReadsGoAsDecided = (me : ℕ) (members : List ℕ) (reads : Reads) (commit : ℕ) (look : Look)
    → rounds.is_ready me members reads commit look ≡ is_ready me members reads.confirmed commit look.index look.round

-- ---- batches

abbrev pub bytes_of : List LogEntry → ℕ
bytes_of [] = 0
bytes_of (e ∷ entries) = length e.bytes + bytes_of entries

-- A front of what is to be sent: no more entries than an append has, one at least where there is one, and no more bytes than an append
-- has unless the first entry alone has more.
pub record Fits (entries : List LogEntry) : Type 0 where
  pub front : batch entries ≡ take (length (batch entries)) entries
  pub some : 0 < length entries → 0 < length (batch entries)
  pub few : length (batch entries) ≤ batch_entries
  pub room : bytes_of (batch entries) ≤ max batch_bytes (bytes_of (take 1 entries))

abbrev pub BatchesFit : Type 0
BatchesFit = (entries : List LogEntry) → Fits entries

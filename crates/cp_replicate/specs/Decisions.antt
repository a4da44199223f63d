-- What is decided of replication, on plain numbers and logs.
use Rattle.std.specs.Prelude.{ℕ, ◌-◌, ◌==◌, Bool, not, ◌&&◌, ◌||◌, if◌then◌else◌, List, drop, length, Option, Some, None, is_none, option_map, nat_lt, nat_le, slice_index_or}
use Rattle.cp_parts.specs.declared.log_entry.LogEntry.{LogEntry}
use Rattle.cp_log_rules.specs.Persistent.{PersistentState, last, term_at}
use Rattle.cp_rules.specs.declared.peer.Peer.{Peer}
use Rattle.cp_rules.specs.declared.role.Role.{Role}
use Rattle.cp_rules.specs.Persistent.{is_member, is_quorum, known_term, has_term}
use Rattle.cp_rules.specs.Local.{is_leader}
use Rattle.cp_rules.specs.Appends.{difference, refused_index}
use Rattle.cp_rules.specs.AppendReplies.{matched_to, next_tried}
use Rattle.cp_rules.specs.Requests.{refuses}
use Rattle.cp_rules.specs.Sending.{batch}
use Rattle.cp_replicate.specs.Logs.{from}
use Rattle.cp_replicate.specs.declared.following.Followed.{Followed}
use Rattle.cp_replicate.specs.declared.following.Followed.TheVariants.{Refused, Kept, Conflict, Replaced}
use Rattle.cp_replicate.specs.declared.replying.AppendReplied.{AppendReplied}
use Rattle.cp_replicate.specs.declared.replying.AppendReplied.TheVariants.{Adopted, Ignored, Matched, FellBack}
use Rattle.cp_replicate.specs.declared.sending.Sending.{Sending}
use Rattle.cp_replicate.specs.declared.sending.Sending.TheVariants.{Chunk, Entries}

-- ---- an append

-- the index behind which entries differ from a log, by the term of each index of the log
abbrev pub differs : (ℕ → Option ℕ) → ℕ → List LogEntry → Option ℕ
differs terms after entries = option_map (λ d. d.after) (difference terms after entries)

abbrev pub compared : ℕ → Option ℕ → Followed
compared commit None = Kept
compared commit (Some after) = if nat_lt after commit then Conflict else Replaced after

abbrev pub followed : PersistentState → ℕ → ℕ → ℕ → List LogEntry → Followed
followed p commit previous previous_term entries =
    if nat_lt previous p.base then compared commit (differs (term_at p) p.base (drop (p.base - previous) entries))
    else if has_term p previous previous_term then compared commit (differs (term_at p) previous entries)
    else Refused (refused_index (last p) previous)

-- ---- the reply to an append

abbrev pub is_answered : Role → ℕ → List ℕ → ℕ → ℕ → Bool
is_answered role own_term members from term = is_leader role && ((term == own_term) && is_member from members)

abbrev pub matched : Peer → ℕ → ℕ → AppendReplied
matched peer last index = if nat_lt peer.matched index && nat_le index last then Matched (matched_to peer index) else Ignored

abbrev pub fallen_back : Peer → ℕ → Peer
fallen_back peer index = record peer { next = next_tried peer index }

abbrev pub append_replied : Role → ℕ → List ℕ → ℕ → Peer → ℕ → ℕ → Bool → ℕ → AppendReplied
append_replied role own_term members from peer last term accepted index =
    if nat_lt own_term term then Adopted
    else if not (is_answered role own_term members from term) then Ignored
    else if accepted then matched peer last index
    else FellBack (fallen_back peer index)

-- ---- a commit

-- where the commit rises, and these members leave the leader out
abbrev pub steps_down : ℕ → ℕ → ℕ → List ℕ → Bool
steps_down me commit found members = not (found == commit) && not (is_member me members)

-- ---- what is sent

-- to a member of which a leader keeps this
abbrev pub to_send : PersistentState → Peer → Sending
to_send p x =
    if nat_le x.next p.base then Chunk x.offset
    else Entries (record { term = known_term p (x.next - 1); index = x.next - 1 }) (length (batch (from p x.next)))

-- ---- an expiry

abbrev pub may_expire : Role → ℕ → ℕ → ℕ → Bool → Bool
may_expire role leader last commit may_write = may_write && is_none (refuses role leader last commit)

-- ---- a read

-- the member is known to have confirmed the round or a later one; the leader confirms its own
abbrev pub has_confirmed : ℕ → List ℕ → ℕ → ℕ → Bool
has_confirmed me confirmed round member = (member == me) || nat_le round (slice_index_or confirmed member 0)

-- a read that came with this last index and waits for this round
abbrev pub is_ready : ℕ → List ℕ → List ℕ → ℕ → ℕ → ℕ → Bool
is_ready me members confirmed commit index round = nat_le index commit && is_quorum members (has_confirmed me confirmed round)

-- The member's own rules: what it does that is told to begin, to destroy, to move or to end a group, and what METADATA's leader takes.
use Rattle.std.proofs.Common.{◌≡◌, ℕ, Bool, false, List, [], ◌∷◌, map, Some, None, Option, refl, le_refl, zero-le, sym, append-nil, if◌then◌else◌}
use Rattle.std.specs.Prelude.{◌||◌, is_some}
use Rattle.cp_answers.specs.declared.answer.Answer.TheVariants as answer
use Rattle.cp_message.specs.declared.task.Task.{Task}
use Rattle.cp_message.specs.declared.task.Task.TheVariants as task
use Rattle.cp_message.specs.declared.task.TaskReply.{TaskReply}
use Rattle.cp_message.specs.declared.task.TaskReply.TheVariants as task_reply
use Rattle.cp_ops.specs.declared.entry.Entry.{Entry}
use Rattle.cp_ops.specs.declared.entry.Entry.TheVariants as entry
use Rattle.cp_parts.specs.declared.part.Part.TheVariants as part
use Rattle.cp_log_rules.specs.Configurations.{config_at}
use Rattle.cp_log_rules.specs.Durable.{has_ended}
use Rattle.cp_rules.specs.declared.change.Change.{Change}
use Rattle.cp_rules.specs.Persistent.{configuration}
use Rattle.cp_group_rules.specs.Events as groups
use Rattle.cp_group_rules.specs.Events.{entry_bytes}
use Rattle.cp_group_rules.specs.Groups.{VolatileGroup, last_words}
use Rattle.cp_member_rules.specs.Following as rules
use Rattle.cp_member_rules.specs.Letters.{Talk, Hello, Welcome, Asks, Reply, Refuse, StartGroup, Told, Did, Raft, group_id, letter, letter_of, is_client, is_member}
use Rattle.cp_member_rules.specs.Machines.{Machines, Setup, metadata}
use Rattle.cp_member_rules.specs.Members.{Leadership, group_at, leads, stored_at, was_proposed}
use Rattle.cp_member_rules.specs.MemberSteps.{MemberStep, says, with_leadership, writes}
use Rattle.cp_member_rules.specs.Proposing.{hears_done, proposes, proposes_once, takes, with_proposed}
use Rattle.cp_member_rules.specs.Steps.{hears}
use Rattle.cp_member_laws.specs.Runs.{is_told, refused_in}
use Rattle.cp_member_laws.proofs.Saying.{quiet_ended}
use Rattle.cp_member_laws.proofs.Following.{Follows, same, relax, joined, either}
use Rattle.cp_member_laws.proofs.Acting.{follows_acts}

module _ {V : Type 0} (ms : Machines V) (setup : Setup) (me : ℕ) (key : ℕ → ℕ → ℕ → Bool) where
  -- words that refuse nobody
  pub follows_says : (to : ℕ) (talk : Talk) (d : MemberStep) → refused_in talk ≡ None → Follows key 0 d (says me to talk d)
  follows_says to talk d plain = record {
    news = [];
    said = letter me to talk ∷ [];
    few = le_refl 0;
    parts = sym (append-nil d.parts);
    stored = refl;
    restart = refl;
    attempts = refl;
    sent = refl;
    clear = quiet (refused_in talk) plain;
  } where
    quiet : (o : Option (ℕ × ℕ)) → o ≡ None → (is_told key to o || false) ≡ false
    quiet None e = refl
    quiet (Some x) e = absurd cc

  -- What METADATA's leader remembers changes nothing of this.
  pub follows_leadership : (n : ℕ) (d e : MemberStep) (leadership : Leadership) → Follows key n d e → Follows key n d (with_leadership leadership e)
  follows_leadership n d e leadership f = record {
    news = f.news;
    said = f.said;
    few = f.few;
    parts = f.parts;
    stored = f.stored;
    restart = f.restart;
    attempts = f.attempts;
    sent = f.sent;
    clear = f.clear;
  }

  follows_one : (d e f : MemberStep) → Follows key 1 d e → Follows key 0 e f → Follows key 1 d f
  follows_one d e f first rest = joined key 1 0 d e f first rest

  still : (d : MemberStep) → Follows key 1 d d
  still d = relax key 0 1 d d zero-le (same key d)

  -- ---- start and end

  follows_begins : (group : ℕ) (first : List ℕ) (d : MemberStep) → Follows key 1 d (rules.begins_group ms setup me group first d)
  follows_begins group first d = record {
    news = part.Begin (group_id group) first ∷ [];
    said = [];
    few = le_refl 1;
    parts = refl;
    stored = refl;
    restart = refl;
    attempts = refl;
    sent = sym (append-nil d.sent);
    clear = refl;
  }

  follows_start : (from group : ℕ) (first : List ℕ) (d : MemberStep) → Follows key 1 d (rules.told_start ms setup me from group first d)
  follows_start from group first d =
      let here = is_some (group_at d.state group) || has_ended d.state.stored group in
      let e = if here then d else rules.begins_group ms setup me group first d in
      follows_one d e (says me from (Did group task_reply.Started) e)
      (either key 1 d here d (rules.begins_group ms setup me group first d) (still d) (follows_begins group first d))
      (follows_says from (Did group task_reply.Started) e refl)

  follows_ended : (group : ℕ) (o : Option VolatileGroup) (d : MemberStep) → Follows key 1 d (rules.forgets ms setup me group o (writes (part.End (group_id group)) d))
  follows_ended group None d = record {
    news = part.End (group_id group) ∷ [];
    said = [];
    few = le_refl 1;
    parts = refl;
    stored = refl;
    restart = refl;
    attempts = refl;
    sent = sym (append-nil d.sent);
    clear = refl;
  }
  follows_ended group (Some held) d = record {
    news = part.End (group_id group) ∷ [];
    said = map (letter_of me group) (last_words (answer.GroupDestroyed (group_id group)) held);
    few = le_refl 1;
    parts = refl;
    stored = refl;
    restart = refl;
    attempts = refl;
    sent = refl;
    clear = quiet_ended key me group (answer.GroupDestroyed (group_id group)) held.pending held.reading;
  }

  follows_end : (from group : ℕ) (d : MemberStep) → Follows key 1 d (rules.told_end ms setup me from group d)
  follows_end from group d =
      let x = rules.forgets ms setup me group (group_at d.state group) (writes (part.End (group_id group)) d) in
      let e = if has_ended d.state.stored group then d else x in
      follows_one d e (says me from (Did group task_reply.Ended) e)
      (either key 1 d (has_ended d.state.stored group) d x (still d) (follows_ended group (group_at d.state group) d)) (follows_says from (Did group task_reply.Ended) e refl)

  -- ---- destroy and move

  follows_if : (said : Bool) (to group : ℕ) (reply : TaskReply) (d : MemberStep) → Follows key 0 d (rules.says_if ms setup me said to group reply d)
  follows_if said to group reply d = either key 0 d said _ d (follows_says to (Did group reply) d refl) (same key d)

  follows_destroys : (group : ℕ) (d : MemberStep) → Follows key 1 d (rules.destroys ms setup me group d)
  follows_destroys group d = either key 1 d _ _ d (follows_acts ms setup me key group (groups.Proposes (entry_bytes (entry.Destroy (group_id group)))) d tt) (still d)

  follows_destroy : (from group : ℕ) (d : MemberStep) → Follows key 1 d (rules.told_destroy ms setup me from group d)
  follows_destroy from group d =
      let e = rules.destroys ms setup me group d in
      follows_one d e (rules.told_destroy ms setup me from group d) (follows_destroys group d) (follows_if (rules.is_destroyed ms setup me group e.state) from group task_reply.Destroyed e)

  follows_change : (group : ℕ) (o : Option Change) (plan : ℕ) (d : MemberStep) → Follows key 1 d (rules.changes_to ms setup me group o plan d)
  follows_change group None plan d = still d
  follows_change group (Some change) plan d = follows_acts ms setup me key group (groups.Changes change plan None) d tt

  follows_moves : (group plan add remove : ℕ) (d : MemberStep) → Follows key 1 d (rules.moves_on ms setup me group plan add remove d)
  follows_moves group plan add remove d = either key 1 d _ _ d (follows_change group (rules.next_change plan add remove (configuration (stored_at d.state group))) plan d) (still d)

  follows_moved : (from group plan remove : ℕ) (o : Option VolatileGroup) (d : MemberStep) → Follows key 0 d (rules.tells_moved ms setup me from group plan remove o d)
  follows_moved from group plan remove None d = same key d
  follows_moved from group plan remove (Some held) d =
      let c = config_at (stored_at d.state group) held.raft.commit in
      follows_if (rules.has_moved plan remove c) from group (task_reply.Moved plan c.index c.members) d

  follows_move : (from group plan add remove : ℕ) (d : MemberStep) → Follows key 1 d (rules.told_move ms setup me from group plan add remove d)
  follows_move from group plan add remove d =
      let e = rules.moves_on ms setup me group plan add remove d in
      follows_one d e (rules.told_move ms setup me from group plan add remove d) (follows_moves group plan add remove d) (follows_moved from group plan remove (group_at e.state group) e)

  follows_told : (from group : ℕ) (t : Task) (d : MemberStep) → Follows key 1 d (rules.told ms setup me from group t d)
  follows_told from group task.Destroy d = follows_destroy from group d
  follows_told from group task.End d = follows_end from group d
  follows_told from group (task.Move plan add remove) d = follows_move from group plan add remove.0 d

  -- ---- METADATA's leader

  pub follows_proposes : (e : Entry) (d : MemberStep) → Follows key 1 d (proposes ms setup me e d)
  follows_proposes e d = follows_acts ms setup me key metadata (groups.Proposes (entry_bytes e)) d tt

  follows_once : (x : Entry) (d : MemberStep) → Follows key 1 d (proposes_once ms setup me x d)
  follows_once x d =
      let e = proposes ms setup me x d in
      either key 1 d (was_proposed (entry_bytes x) d.state.leadership) d _ (still d)
      (follows_leadership 1 d e (with_proposed (entry_bytes x) e.outcome e.state.leadership) (follows_proposes x d))

  follows_takes : (from group : ℕ) (reply : TaskReply) (d : MemberStep) → Follows key 1 d (takes ms setup me from group reply d)
  follows_takes from group task_reply.Started d = follows_leadership 1 d d _ (still d)
  follows_takes from group task_reply.Ended d = follows_leadership 1 d d _ (still d)
  follows_takes from group task_reply.Destroyed d = follows_once (entry.Destroyed (group_id group)) d
  follows_takes from group (task_reply.Moved plan index members) d = either key 1 d _ _ d (follows_once (entry.Moved (group_id group) index members) d) (still d)

  follows_done : (from group : ℕ) (reply : TaskReply) (d : MemberStep) → Follows key 1 d (hears_done ms setup me from group reply d)
  follows_done from group reply d = either key 1 d (leads (group_at d.state metadata)) _ d (follows_takes from group reply d) (still d)

  -- ---- what members say

  follows_hears : (from : ℕ) (talk : Talk) (d : MemberStep) → Follows key 1 d (hears ms setup me from talk d)
  follows_hears from (StartGroup group first) d = either key 1 d setup.managed _ d (follows_start from group first d) (still d)
  follows_hears from (Told group t) d = either key 1 d setup.managed _ d (follows_told from group t d) (still d)
  follows_hears from (Did group reply) d = follows_done from group reply d
  follows_hears from (Raft group body) d = follows_acts ms setup me key group (groups.Gets from body) d tt
  follows_hears from Hello d = still d
  follows_hears from (Welcome restart) d = still d
  follows_hears from (Asks call attempt restart group op) d = still d
  follows_hears from (Reply thread attempt group number a) d = still d
  follows_hears from (Refuse thread attempt group number r) d = still d

  pub follows_member : (from : ℕ) (talk : Talk) (d : MemberStep) → Follows key 1 d (if is_member from then hears ms setup me from talk d else d)
  follows_member from talk d = either key 1 d (is_member from) _ d (follows_hears from talk d) (still d)

  pub follows_hello : (from : ℕ) (d : MemberStep) → Follows key 1 d (if is_client from then says me from (Welcome d.state.stored.restart) d else d)
  follows_hello from d = either key 1 d (is_client from) _ d (relax key 0 1 _ _ zero-le (follows_says from (Welcome d.state.stored.restart) d refl)) (still d)

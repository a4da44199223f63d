-- A step of one group at a member.
use Rattle.std.proofs.Common.{◌≡◌, ◌≤◌, ℕ, Bool, true, false, List, [], ◌∷◌, ◌++◌, map, Some, None, Option, refl, le_refl, zero-le, le_of_eq, sym, ap, append-nil, if◌then◌else◌}
use Rattle.std.specs.Prelude.{◌&&◌, not, is_some, nat_lt, filter}
use Rattle.std.specs.Option.{option_map}
use Rattle.cp_log_rules.specs.Persistent.{PersistentState}
use Rattle.cp_log_rules.specs.Durable.{DurableState, with_part, first_members}
use Rattle.cp_message.specs.declared.task.Task.TheVariants as task
use Rattle.cp_meta_state.specs.MetaState.{MetaState}
use Rattle.cp_meta_state.specs.declared.rows.GroupRow.{GroupRow}
use Rattle.cp_meta_state.specs.declared.rows.MoveRow.{MoveRow}
use Rattle.cp_rules.specs.Local as raft
use Rattle.cp_rules.specs.Local.{is_leader}
use Rattle.cp_rules.specs.Parts.{part_of}
use Rattle.cp_rules.specs.Persistent.{Part, StatePart, AppendPart, SnapshotPart, after_part}
use Rattle.cp_rules.specs.Steps.{step}
use Rattle.cp_group_rules.specs.Answering.{waiting_after}
use Rattle.cp_group_rules.specs.Events.{Event, Ticks, Settings, raft_event}
use Rattle.cp_group_rules.specs.Groups.{VolatileGroup}
use Rattle.cp_group_rules.specs.Machines.{Machine}
use Rattle.cp_group_rules.specs.Steps.{GroupStep, completed, group_step, newly_pending, newly_reading, news, restores, settles, stays, takes}
use Rattle.cp_group_rules.specs.Views.{view_at}
use Rattle.cp_group_rules.proofs.Quiet.{quiet}
use Rattle.cp_member_rules.specs.Acting.{acts, acts_in, by_entries, did_by, done_by, leadership_after, sends_tasks, tasks_if}
use Rattle.cp_member_rules.specs.Letters.{Letter, Talk, StartGroup, Told, group_id, letter, letter_of}
use Rattle.cp_member_rules.specs.Machines.{Machines, Setup, is_metadata}
use Rattle.cp_member_rules.specs.Members.{Leadership, group_at, lists_at, stored_at}
use Rattle.cp_member_rules.specs.MemberSteps.{MemberStep, writes_if, with_group, with_leadership}
use Rattle.cp_member_rules.specs.Tasks as tasks
use Rattle.cp_member_laws.specs.Runs.{tells_key, is_told, refused_in, one_if}
use Rattle.cp_member_laws.proofs.Telling.{Clear, clear_append, clear_map, clear_flat}
use Rattle.cp_member_laws.proofs.Saying.{Quiet, IsOther, quiet_step, quiet_sends}
use Rattle.cp_member_laws.proofs.Following.{Follows, same, relax}

pub own_restart : (group : ℕ) (x : Part) (s : DurableState) → (with_part (part_of (group_id group) x) s).restart ≡ s.restart
own_restart group (StatePart b) s = refl
own_restart group (AppendPart b after entries) s = refl
own_restart group (SnapshotPart b index bytes) s = refl

abbrev pub count_of : Option Part → ℕ
count_of None = 0
count_of (Some x) = 1

module _ {V : Type 0} (ms : Machines V) (setup : Setup) (me : ℕ) (key : ℕ → ℕ → ℕ → Bool) where
  clear_each : (talk : Talk) (members : List ℕ) → refused_in talk ≡ None → Clear (tells_key key) (tasks.to_each me talk members)
  clear_each talk members plain = clear_map (tells_key key) (λ (m : ℕ). letter me m talk) members (λ m. ap (λ (o : Option (ℕ × ℕ)). is_told key m o) plain)

  clear_tasks : (leadership : Leadership) (s : MetaState) → Clear (tells_key key) (tasks.tasks setup me leadership s)
  clear_tasks leadership s =
      let all = first_members setup.members in
      clear_append (tells_key key) (tasks.starts me leadership s) _
      (clear_flat (tells_key key) (λ (g : ℕ × GroupRow). tasks.to_each me (StartGroup g.0 g.1.first) (tasks.unconfirmed leadership.started g.0 (tasks.concerned s g.0))) (filter (λ (g : ℕ × GroupRow). nat_lt 1 g.0) s.groups)
      (λ g. clear_each (StartGroup g.0 g.1.first) (tasks.unconfirmed leadership.started g.0 (tasks.concerned s g.0)) refl))
      (clear_append (tells_key key) (tasks.destroys me setup.members s) _
      (clear_flat (tells_key key) (λ (g : ℕ × GroupRow). tasks.to_each me (Told g.0 task.Destroy) all) (filter (λ (g : ℕ × GroupRow). g.1.destroying) s.groups) (λ g. clear_each (Told g.0 task.Destroy) all refl))
      (clear_append (tells_key key) (tasks.moves me s) (tasks.ends me setup.members leadership s)
      (clear_flat (tells_key key) (λ (x : ℕ × MoveRow). tasks.to_each me (Told x.0 (task.Move x.1.plan x.1.add (record { 0 = x.1.remove }))) (tasks.concerned s x.0)) s.moves
      (λ x. clear_each (Told x.0 (task.Move x.1.plan x.1.add (record { 0 = x.1.remove }))) (tasks.concerned s x.0) refl))
      (clear_flat (tells_key key) (λ (g : ℕ × Unit {0}). tasks.to_each me (Told g.0 task.End) (tasks.unconfirmed leadership.ended g.0 all)) s.destroyed
      (λ g. clear_each (Told g.0 task.End) (tasks.unconfirmed leadership.ended g.0 all) refl))))

  clear_if : (b : Bool) (d : MemberStep) (held : VolatileGroup) → Clear (tells_key key) (tasks_if ms setup me b d held)
  clear_if false d held = refl
  clear_if true d held = clear_tasks d.state.leadership (lists_at ms d.state held)

  -- a step whose words are quiet
  abbrev pub IsQuiet : ℕ → GroupStep → Type 0
  IsQuiet group did = Quiet key me group did.replies × Quiet key me group did.sends

  pub follows_done : (group : ℕ) (held : VolatileGroup) (did : GroupStep) (d : MemberStep) → IsQuiet group did → Follows key (count_of did.part) d (done_by ms setup me group held did d)
  follows_done group held did d quiet = by did.part where
    stood : Option Part → MemberStep
    stood o = with_leadership (leadership_after group did d.state.leadership) (with_group group did.group (writes_if (option_map (part_of (group_id group)) o) d))

    said : Option Part → List Letter
    said o = map (letter_of me group) did.replies ++ (tasks_if ms setup me (sends_tasks group held did (stood o).tasked) (stood o) did.group ++ map (letter_of me group) did.sends)

    clear : (o : Option Part) → Clear (tells_key key) (said o)
    clear o = clear_append (tells_key key) (map (letter_of me group) did.replies) _ quiet.0
        (clear_append (tells_key key) (tasks_if ms setup me (sends_tasks group held did (stood o).tasked) (stood o) did.group) (map (letter_of me group) did.sends) (clear_if (sends_tasks group held did (stood o).tasked) (stood o) did.group) quiet.1)

    by : (o : Option Part) → Follows key (count_of o) d (done_by ms setup me group held (record did { part = o }) d)
    by None = record {
      news = [];
      said = said None;
      few = le_refl 0;
      parts = sym (append-nil d.parts);
      stored = refl;
      restart = refl;
      attempts = refl;
      sent = refl;
      clear = clear None;
    }
    by (Some x) = record {
      news = part_of (group_id group) x ∷ [];
      said = said (Some x);
      few = le_refl 1;
      parts = refl;
      stored = refl;
      restart = own_restart group x d.state.stored;
      attempts = refl;
      sent = refl;
      clear = clear (Some x);
    }

  pub quiet_answered : {W : Type 0} (m : Machine W) (event : Event) (e : raft.Event) (installed : Bool) (p q : PersistentState) (held : VolatileGroup) (s : raft.LocalStep) (group : ℕ)
      → Quiet key me group (settles m event e installed p q held s).replies
  quiet_answered m event e installed p q held s group =
      let given = news m p q held.raft.commit s.state.commit in
      let asking = held.pending ++ newly_pending event s.outcome in
      quiet_step key me group m (view_at m q s.state.commit) given asking (waiting_after given asking) (held.reading ++ newly_reading e event s s.outcome) s.answered s.lost
      (is_leader held.raft.role && not (is_leader s.state.role)) s.state.commit

  quiet_takes : {W : Type 0} (m : Machine W) (p : PersistentState) (held : VolatileGroup) (event : Event) (e : raft.Event) (installed : Bool) (group : ℕ) → IsOther key event
      → IsQuiet group (takes m me p held event e installed)
  quiet_takes m p held event e installed group h =
      let s = step me p held.raft e in
      (quiet_answered m event e installed p (after_part s.part p) held s group, quiet_sends key me group event s.outcome s.sends h)

  quiet_if : (b : Bool) (group : ℕ) (x y : GroupStep) → IsQuiet group x → IsQuiet group y → IsQuiet group (if b then x else y)
  quiet_if true group x y h k = h
  quiet_if false group x y h k = k

  quiet_group : {W : Type 0} (m : Machine W) (settings : Settings) (p : PersistentState) (held : VolatileGroup) (event : Event) (group : ℕ) → IsOther key event → IsQuiet group (group_step m settings me p held event)
  quiet_group m settings p held event group h =
      let whole_ = completed p held.raft event in
      quiet_if (restores m whole_) group (takes m me p held event (raft_event m settings p held event) (is_some whole_)) (stays held)
      (quiet_takes m p held event (raft_event m settings p held event) (is_some whole_) group h) (refl, refl)

  pub quiet_by : (group : ℕ) (p : PersistentState) (held : VolatileGroup) (event : Event) → IsOther key event → IsQuiet group (did_by ms setup me group p held event)
  quiet_by group p held event h = by (is_metadata group) where
    by : (b : Bool) → IsQuiet group (if b then group_step ms.lists (by_entries setup.settings) me p held event else group_step ms.objects setup.settings me p held event)
    by true = quiet_group ms.lists (by_entries setup.settings) p held event group h
    by false = quiet_group ms.objects setup.settings p held event group h

  -- a step of a group, with one part at most
  pub few_parts : (o : Option Part) → count_of o ≤ 1
  few_parts None = zero-le
  few_parts (Some x) = le_refl 1

  pub follows_in : (group : ℕ) (event : Event) (o : Option VolatileGroup) (d : MemberStep) → IsOther key event → Follows key 1 d (acts_in ms setup me group event o d)
  follows_in group event None d h = relax key 0 1 d d zero-le (same key d)
  follows_in group event (Some held) d h =
      let did = did_by ms setup me group (stored_at d.state group) held event in
      relax key (count_of did.part) 1 d (done_by ms setup me group held did d) (few_parts did.part) (follows_done group held did d (quiet_by group (stored_at d.state group) held event h))

  pub follows_acts : (group : ℕ) (event : Event) (d : MemberStep) → IsOther key event → Follows key 1 d (acts ms setup me group event d)
  follows_acts group event d h = follows_in group event (group_at d.state group) d h

  -- a tick that may not write
  silent : {W : Type 0} (m : Machine W) (settings : Settings) (p : PersistentState) (held : VolatileGroup) (now : ℕ) → (group_step m settings me p held (Ticks now false)).part ≡ None
  silent m settings p held now = (quiet m settings me p held now).part

  silent_by : (group : ℕ) (p : PersistentState) (held : VolatileGroup) (now : ℕ) → (did_by ms setup me group p held (Ticks now false)).part ≡ None
  silent_by group p held now = by (is_metadata group) where
    by : (b : Bool) → (if b then group_step ms.lists (by_entries setup.settings) me p held (Ticks now false) else group_step ms.objects setup.settings me p held (Ticks now false)).part ≡ None
    by true = silent ms.lists (by_entries setup.settings) p held now
    by false = silent ms.objects setup.settings p held now

  follows_silent : (group : ℕ) (now : ℕ) (o : Option VolatileGroup) (d : MemberStep) → Follows key 0 d (acts_in ms setup me group (Ticks now false) o d)
  follows_silent group now None d = same key d
  follows_silent group now (Some held) d =
      let did = did_by ms setup me group (stored_at d.state group) held (Ticks now false) in
      relax key (count_of did.part) 0 d (done_by ms setup me group held did d) (le_of_eq (ap count_of (silent_by group (stored_at d.state group) held now)))
      (follows_done group held did d (quiet_by group (stored_at d.state group) held (Ticks now false) tt))

  -- a tick that writes a part where it may
  pub follows_tick : (group : ℕ) (now : ℕ) (b : Bool) (d : MemberStep) → Follows key (one_if b) d (acts ms setup me group (Ticks now b) d)
  follows_tick group now true d = follows_acts group (Ticks now true) d tt
  follows_tick group now false d = follows_silent group now (group_at d.state group) d

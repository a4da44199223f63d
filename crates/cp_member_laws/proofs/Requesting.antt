-- A request: it is left, or it is taken.
use Rattle.std.proofs.Common.{◌≡◌, ℕ, ◌⊎◌, inl, inr, Bool, true, false, List, [], ◌∷◌, ◌++◌, Some, None, Option, Result, Ok, Err, refl, le_refl, le_of_eq, zero-le, sym, ap, append-nil, if◌then◌else◌}
use Rattle.std.specs.Prelude.{◌==◌, ◌&&◌, nat_le, is_ok}
use Rattle.cp_answers.specs.declared.answer.Answer.TheVariants as answer
use Rattle.cp_answers.specs.declared.refusal.Refusal.TheVariants as refusal
use Rattle.cp_ops.specs.declared.op.Op.{Op}
use Rattle.cp_log_rules.specs.Durable.{has_ended}
use Rattle.cp_log_rules.specs.Persistent.{PersistentState}
use Rattle.cp_rules.specs.declared.outcome.Outcome.{Outcome}
use Rattle.cp_rules.specs.declared.outcome.Outcome.TheVariants as outcome
use Rattle.cp_rules.specs.Local as raft
use Rattle.cp_rules.specs.Persistent.{after_part}
use Rattle.cp_rules.specs.Steps.{step}
use Rattle.cp_group_rules.specs.Events as groups
use Rattle.cp_group_rules.specs.Events.{Settings, goes_by_round, raft_event}
use Rattle.cp_group_rules.specs.Groups.{VolatileGroup, tells}
use Rattle.cp_group_rules.specs.Machines.{Machine}
use Rattle.cp_group_rules.specs.Steps.{GroupStep, group_step, refused}
use Rattle.cp_member_rules.specs.Acting.{by_entries, did_by, done_by}
use Rattle.cp_member_rules.specs.Letters.{Request, Welcome, group_id, letter, refuse, reply}
use Rattle.cp_member_rules.specs.Machines.{Machines, Setup, is_metadata}
use Rattle.cp_member_rules.specs.Members.{group_at, last_attempt, stored_at}
use Rattle.cp_member_rules.specs.MemberSteps.{MemberStep, says}
use Rattle.cp_member_rules.specs.Requesting.{attempted, in_group, if_not_ended, if_new, if_started, if_read}
use Rattle.cp_member_laws.specs.Runs.{is_new}
use Rattle.cp_member_laws.proofs.Following.{Follows, same, relax}
use Rattle.cp_member_laws.proofs.Saying.{Quiet, quiet_append, quiet_tells}
use Rattle.cp_member_laws.proofs.Refusing.{IsRefused, Writes, writes_asked}
use Rattle.cp_member_laws.proofs.Acting.{IsQuiet, quiet_answered, quiet_by, count_of, few_parts, follows_done}
use Rattle.cp_member_laws.proofs.Rules.{follows_says}

-- no key at all
abbrev pub nobody : ℕ → ℕ → ℕ → Bool
nobody from thread attempt = false

module _ {V : Type 0} (ms : Machines V) (setup : Setup) (me : ℕ) (key : ℕ → ℕ → ℕ → Bool) where
  -- it refuses nobody of the key; or it writes nothing, and refuses nobody but who if_not_ended
  abbrev pub Tried : Request → MemberStep → MemberStep → Type 0
  Tried r d e = Follows key 1 d e ⊎ (Follows nobody 0 d e × (key r.from r.call.thread.0 r.attempt ≡ false → Follows key 1 d e))

  -- what becomes of the request, from d to e
  pub data Answered (r : Request) (readable : Bool) (d e : MemberStep) : Type 0 where
    Left : (readable && is_new r d.state) ≡ false → e.state ≡ d.state → Follows key 0 d e → Answered r readable d e
    Taken : (readable && is_new r d.state) ≡ true → Tried r (record d { state = attempted r d.state }) e → Answered r readable d e

  follows_refuse : (k : ℕ → ℕ → ℕ → Bool) (r : Request) (d : MemberStep) → k r.from r.call.thread.0 r.attempt ≡ false
      → Follows k 0 d (says me r.from (refuse r.group r.call r.attempt refusal.NoGroup) d)
  follows_refuse k r d other = record {
    news = [];
    said = letter me r.from (refuse r.group r.call r.attempt refusal.NoGroup) ∷ [];
    few = le_refl 0;
    parts = sym (append-nil d.parts);
    stored = refl;
    restart = refl;
    attempts = refl;
    sent = refl;
    clear = rw other refl;
  }

  -- ---- a step of a group

  quiet_by_outcome : (group : ℕ) (event : groups.Event) (o : Outcome) (sends : List raft.Sent) → (IsRefused o → ⊥) → Quiet key me group (tells sends ++ refused event o)
  quiet_by_outcome group event outcome.Done sends h = quiet_append key me group (tells sends) [] (quiet_tells key me group sends) refl
  quiet_by_outcome group event (outcome.Proposed index) sends h = quiet_append key me group (tells sends) [] (quiet_tells key me group sends) refl
  quiet_by_outcome group event (outcome.Refused r) sends h = absurd (h tt)

  abbrev IsSilent : ℕ → GroupStep → Type 0
  IsSilent group did = IsQuiet ms setup me key group did ⊎ (did.part ≡ None)

  silent_try : {W : Type 0} (m : Machine W) (settings : Settings) (p : PersistentState) (held : VolatileGroup) (r : Request) (o : Op) → IsSilent r.group (group_step m settings me p held (groups.Asks r.from r.call r.attempt o))
  silent_try m settings p held r o = by (writes_asked me p held.raft (goes_by_round settings held.raft o) r.call r.attempt o) where
    event : groups.Event
    event = groups.Asks r.from r.call r.attempt o

    asked : raft.Event
    asked = raft_event m settings p held event

    s : raft.LocalStep
    s = step me p held.raft asked

    by : Writes s → IsSilent r.group (group_step m settings me p held event)
    by (inl h) = inr h
    by (inr h) = inl (quiet_answered ms setup me key m event asked false p (after_part s.part p) held s r.group, quiet_by_outcome r.group event s.outcome s.sends h)

  silent_by : (p : PersistentState) (held : VolatileGroup) (r : Request) (o : Op) → IsSilent r.group (did_by ms setup me r.group p held (groups.Asks r.from r.call r.attempt o))
  silent_by p held r o = by (is_metadata r.group) where
    by : (b : Bool) → IsSilent r.group (if b then group_step ms.lists (by_entries setup.settings) me p held (groups.Asks r.from r.call r.attempt o) else group_step ms.objects setup.settings me p held (groups.Asks r.from r.call r.attempt o))
    by true = silent_try ms.lists (by_entries setup.settings) p held r o
    by false = silent_try ms.objects setup.settings p held r o

  tried_seat : (r : Request) (o : Op) (x : Option VolatileGroup) (d : MemberStep) → Tried r d (in_group ms setup me r o x d)
  tried_seat r o None d = inr (follows_refuse nobody r d refl, λ other. relax key 0 1 _ _ zero-le (follows_refuse key r d other))
  tried_seat r o (Some held) d = by (silent_by (stored_at d.state r.group) held r o) where
    did : GroupStep
    did = did_by ms setup me r.group (stored_at d.state r.group) held (groups.Asks r.from r.call r.attempt o)

    e : MemberStep
    e = done_by ms setup me r.group held did d

    by : IsSilent r.group did → Tried r d e
    by (inl h) = inl (relax key (count_of did.part) 1 d e (few_parts ms setup me key did.part) (follows_done ms setup me key r.group held did d h))
    by (inr h) = inr (
      relax nobody (count_of did.part) 0 d e (le_of_eq (ap count_of h))
          (follows_done ms setup me nobody r.group held did d (quiet_by ms setup me nobody r.group (stored_at d.state r.group) held (groups.Asks r.from r.call r.attempt o) refl)),
      λ other. relax key (count_of did.part) 1 d e (few_parts ms setup me key did.part)
          (follows_done ms setup me key r.group held did d (quiet_by ms setup me key r.group (stored_at d.state r.group) held (groups.Asks r.from r.call r.attempt o) other)),
    )

  tried : (r : Request) (o : Op) (d : MemberStep) → Tried r d (if_not_ended ms setup me r o d)
  tried r o d = by (has_ended d.state.stored r.group) where
    ended : MemberStep
    ended = says me r.from (reply r.group r.call r.attempt (answer.GroupDestroyed (group_id r.group))) d

    by : (b : Bool) → Tried r d (if b then ended else in_group ms setup me r o (group_at d.state r.group) d)
    by true = inl (relax key 0 1 d ended zero-le (follows_says ms setup me key r.from (reply r.group r.call r.attempt (answer.GroupDestroyed (group_id r.group))) d refl))
    by false = tried_seat r o (group_at d.state r.group) d

  answered_anew : (r : Request) (o : Op) (d : MemberStep) → (r.restart == d.state.stored.restart) ≡ true → Answered r true d (if_new ms setup me r o d)
  answered_anew r o d own = by (nat_le r.attempt (last_attempt d.state r.from r.call.thread.0)) refl where
    taken : MemberStep
    taken = record d { state = attempted r d.state }

    by : (b : Bool) → nat_le r.attempt (last_attempt d.state r.from r.call.thread.0) ≡ b → Answered r true d (if b then d else if_not_ended ms setup me r o taken)
    by true e = Left (rw (own, e) refl) refl (same key d)
    by false e = Taken (rw (own, e) refl) (tried r o taken)

  answered_start : (r : Request) (o : Op) (d : MemberStep) → Answered r true d (if_started ms setup me r o d)
  answered_start r o d = by (r.restart == d.state.stored.restart) refl where
    by : (b : Bool) → (r.restart == d.state.stored.restart) ≡ b → Answered r true d (if b then if_new ms setup me r o d else says me r.from (Welcome d.state.stored.restart) d)
    by true e = answered_anew r o d e
    by false e = Left (rw e refl) refl (follows_says ms setup me key r.from (Welcome d.state.stored.restart) d refl)

  pub answered : (r : Request) (x : Result Op ℕ) (d : MemberStep) → Answered r (is_ok x) d (if_read ms setup me r x d)
  answered r (Ok o) d = answered_start r o d
  answered r (Err place) d = Left refl refl (same key d)

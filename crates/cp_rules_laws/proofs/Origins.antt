-- By induction on the acts, over where the entries of one step come from.
use Rattle.std.proofs.Common.{◌≡◌, ℕ, inl, inr, ⊎_elim, Bool, true, false, List, [], ◌∷◌, map, refl, ap, sym, ◌∙◌, subst, arith, Option, Some, None, Contains, if◌then◌else◌, nat_lt, slice_get, ◌-◌}
use Rattle.std.proofs.lemmas.Bool.{cases_eq}
use Rattle.std.proofs.lemmas.List.Elements.{Contains-append_cases}
use Rattle.cp_agreement.proofs.Ghost.{put_same, put_other}
use Rattle.cp_safety.proofs.Lists.{contains_unmap}
use Rattle.cp_parts.specs.declared.config.Config.{Config}
use Rattle.cp_parts.specs.declared.log_entry.LogEntry.{LogEntry}
use Rattle.cp_log_rules.specs.Persistent.{PersistentState, entry_at}
use Rattle.cp_rules.specs.Persistent.{after_part}
use Rattle.cp_rules.specs.Volatile.{VolatileState}
use Rattle.cp_rules.specs.Local.{Body, PreVote, PreVoteReply, Vote, VoteReply, Append, AppendReply, Snapshot, SnapshotReply, Confirm, Confirmed, Sent, Event}
use Rattle.cp_rules_facts.specs.Seen.{step_of}
use Rattle.cp_rules_facts.specs.Soundness.{IsSound}
use Rattle.cp_rules_facts.specs.Executions.{Local, Mail, LocalCluster, Act, mail, did, left_by, local_after, IsExecution}
use Rattle.cp_rules_facts.proofs.Executions.{local_executions}
use Rattle.cp_rules_laws.specs.Writes.{HasAt, CameAt}
use Rattle.cp_rules_laws.specs.Origins.{MakesAt, ComesFrom, WasMade, HasOrigins, EntriesWereMade}
use Rattle.cp_rules_laws.proofs.Moves.{entries_come_from}

module _ (first : Config) (a : Act) (before : List Act) (is : IsExecution first (a ∷ before)) (old : HasOrigins first before) where
  abbrev w : LocalCluster
  w = local_after first before

  abbrev p : PersistentState
  p = (w.member a.actor).stored

  abbrev v : VolatileState
  v = (w.member a.actor).state

  abbrev Known : ℕ → LogEntry → Type 0
  Known i e = WasMade first (a ∷ before) i e

  sound : IsSound a.actor p v
  sound = (local_executions first before is.1).sound a.actor is.0.named

  from : (ev : Event) → a.event ≡ Some ev → ComesFrom p ev (step_of a.actor p v (Some ev))
  from ev event_is = entries_come_from a.actor p v ev sound (is.0.fair ev event_is)

  -- what the actor has after its step
  stepped : (event : Option Event) → a.event ≡ event → (i : ℕ) (e : LogEntry) → entry_at (after_part (step_of a.actor p v event).part p) i ≡ Some e → Known i e
  stepped None event_is i e there = inr (old.log a.actor i e there)
  stepped (Some ev) event_is i e there = ⊎_elim
      (λ (x : entry_at p i ≡ Some e). inr (old.log a.actor i e x))
      (λ z. ⊎_elim
      (λ (x : CameAt ev i e). inr (old.sent (record { from = x.0; to = a.actor; body = x.1 }) (is.0.delivered x.0 x.1 (event_is ∙ ap (λ (y : Event). Some y) x.2)) i e x.3))
      (λ (x : MakesAt p ev (step_of a.actor p v (Some ev)) i e). inl (record { event = ev; event_is = event_is; makes = subst (λ (o : Option Event). MakesAt p ev (step_of a.actor p v o) i e) (sym event_is) x }))
      z)
      ((from ev event_is).log i e there)

  -- what the actor sends is in its log
  appended : (event : Option Event) → a.event ≡ event → (to : ℕ) (body : Body) → Contains (step_of a.actor p v event).sends (record { to = to; body = body }) → (i : ℕ) (e : LogEntry) → HasAt body i e
      → entry_at (after_part (step_of a.actor p v event).part p) i ≡ Some e
  appended None event_is to body has i e h = absurd (let x = has.1 in omega (arith, x))
  appended (Some ev) event_is to (PreVote term candidate) has i e h = absurd h
  appended (Some ev) event_is to (PreVoteReply term granted) has i e h = absurd h
  appended (Some ev) event_is to (Vote term candidate) has i e h = absurd h
  appended (Some ev) event_is to (VoteReply term granted) has i e h = absurd h
  appended (Some ev) event_is to (Append term previous previous_term commit entries) has i e h =
      ap (entry_at (after_part (step_of a.actor p v (Some ev)).part p)) h.1 ∙ (from ev event_is).sends to term previous previous_term commit entries has h.0 e h.2
  appended (Some ev) event_is to (AppendReply term taken index) has i e h = absurd h
  appended (Some ev) event_is to (Snapshot term index offset is_last bytes) has i e h = absurd h
  appended (Some ev) event_is to (SnapshotReply term index done received) has i e h = absurd h
  appended (Some ev) event_is to (Confirm term round) has i e h = absurd h
  appended (Some ev) event_is to (Confirmed term taken round) has i e h = absurd h

  mailed : (cut : Bool) (x : Mail) → Contains (if cut then [] else map (mail a.actor) (did w a).sends) x → (i : ℕ) (e : LogEntry) → HasAt x.body i e → Known i e
  mailed true x (k, less, same) i e h = absurd (omega (arith, less))
  mailed false x has i e h =
      let y = contains_unmap (mail a.actor) (did w a).sends x has in
      let s : Sent = y.0 in
      let here : HasAt s.body i e = subst (λ (z : Mail). HasAt z.body i e) (sym y.2) h in
      stepped a.event refl i e (appended a.event refl s.to s.body y.1 i e here)

  next : HasOrigins first (a ∷ before)
  next = record {
    log = λ m i e there. ⊎_elim
        (λ (same : m ≡ a.actor). stepped a.event refl i e (subst (λ (l : Local). entry_at l.stored i ≡ Some e) (put_same w.member a.actor (left_by w a) m same) there))
        (λ (ne : m ≡ a.actor → ⊥). inr (old.log m i e (subst (λ (l : Local). entry_at l.stored i ≡ Some e) (put_other w.member a.actor (left_by w a) m ne) there)))
        (cases_eq m a.actor);
    sent = λ x has i e h. ⊎_elim
        (λ z. inr (old.sent x z i e h))
        (λ z. mailed a.cut x z i e h)
        (Contains-append_cases w.sent (if a.cut then [] else map (mail a.actor) (did w a).sends) x has);
  }

none_there : (c : Bool) (e : LogEntry) (k : ℕ) → (if c then slice_get [] k else None) ≡ Some e → ⊥
none_there true e k h = absurd (cc)
none_there false e k h = absurd (cc)

pub entries_were_made : EntriesWereMade
entries_were_made first [] is = record {
  log = λ m i e there. absurd (none_there (nat_lt 0 i) e (i - 0 - 1) there);
  sent = λ x has. absurd (let z = has.1 in omega (arith, z));
}
entries_were_made first (a ∷ before) is = next first a before is (entries_were_made first before is.1)

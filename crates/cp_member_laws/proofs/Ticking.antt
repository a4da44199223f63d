-- A tick of a member: at most one part.
use Rattle.std.proofs.Common.{◌≡◌, ℕ, Bool, true, false, List, [], ◌∷◌, map, Some, None, Option, refl, le_refl, zero-le, sym, subst, append-nil, if◌then◌else◌}
use Rattle.std.specs.Prelude.{◌&&◌}
use Rattle.cp_meta_state.specs.MetaState.{Moves}
use Rattle.cp_ops.specs.declared.entry.Entry.TheVariants as entry
use Rattle.cp_group_rules.specs.Events as groups
use Rattle.cp_group_rules.specs.Groups.{VolatileGroup}
use Rattle.cp_member_rules.specs.Acting.{acts}
use Rattle.cp_member_rules.specs.Machines.{Machines, Setup, metadata}
use Rattle.cp_member_rules.specs.Members.{group_at}
use Rattle.cp_member_rules.specs.MemberSteps.{MemberStep, wrote_nothing}
use Rattle.cp_member_rules.specs.Proposing as rules
use Rattle.cp_member_rules.specs.Ticks as ticks
use Rattle.cp_member_laws.specs.Runs.{one_if}
use Rattle.cp_member_laws.proofs.Following.{Follows, same, relax, joined, either, tight, stays_written}
use Rattle.cp_member_laws.proofs.Acting.{follows_tick}
use Rattle.cp_member_laws.proofs.Rules.{follows_leadership, follows_proposes}

module _ {V : Type 0} (ms : Machines V) (setup : Setup) (me : ℕ) (key : ℕ → ℕ → ℕ → Bool) where
  -- one part in two steps, where the second writes only if the first did not
  one_of : (c d e : MemberStep) → ((b : Bool) → wrote_nothing d ≡ b → Follows key (one_if b) d e) → (b : Bool) → wrote_nothing c ≡ b → Follows key (one_if b) c d → Follows key (one_if b) c e
  one_of c d e later false h first = joined key 0 0 c d e first (later false (stays_written key 0 c d h first))
  one_of c d e later true h first = by (wrote_nothing d) refl where
    by : (b : Bool) → wrote_nothing d ≡ b → Follows key 1 c e
    by true k = joined key 0 1 c d e (tight key 1 c d h k first) (later true k)
    by false k = joined key 1 0 c d e first (later false k)

  follows_each : (numbers : List ℕ) (d : MemberStep) (b : Bool) → wrote_nothing d ≡ b → Follows key (one_if b) d (ticks.each_ticks ms setup me numbers d)
  follows_each [] d b h = relax key 0 (one_if b) d d zero-le (same key d)
  follows_each (group ∷ numbers) d b h =
      let e = acts ms setup me group (groups.Ticks d.state.clock (wrote_nothing d)) d in
      one_of d e (ticks.each_ticks ms setup me numbers e) (λ c k. follows_each numbers e c k) b h
      (subst (λ c. Follows key (one_if c) d e) h (follows_tick ms setup me key group d.state.clock (wrote_nothing d) d))

  follows_left : (m : ℕ) (d : MemberStep) → Follows key 1 d (rules.proposes_left ms setup me m d)
  follows_left m d =
      let e = rules.proposes ms setup me (entry.Left (record { 0 = m })) d in
      follows_leadership ms setup me key 1 d e (rules.with_left m e.outcome e.state.leadership) (follows_proposes ms setup me key (entry.Left (record { 0 = m })) d)

  still : (d : MemberStep) → Follows key 1 d d
  still d = relax key 0 1 d d zero-le (same key d)

  follows_leaving : (o : Option ℕ) (moves : Moves) (commit : ℕ) (d : MemberStep) → Follows key 1 d (rules.lets_leave ms setup me o moves commit d)
  follows_leaving None moves commit d = still d
  follows_leaving (Some m) moves commit d = either key 1 d _ d _ (still d) (follows_left m d)

  follows_leaves : (o : Option VolatileGroup) (d : MemberStep) → Follows key 1 d (rules.lets_leave_by ms setup me o d)
  follows_leaves None d = still d
  follows_leaves (Some held) d = follows_leaving _ _ held.raft.commit d

  follows_beat : (d : MemberStep) (b : Bool) → wrote_nothing d ≡ b → Follows key (one_if b) d (rules.leaves_at_beat ms setup me d)
  follows_beat d b h = by b d.beats h where
    by : (b beats : Bool) → wrote_nothing d ≡ b → Follows key (one_if b) d (if beats && wrote_nothing d then rules.lets_leave_by ms setup me (group_at d.state metadata) d else d)
    by b false h = relax key 0 (one_if b) d d zero-le (same key d)
    by true true h = either key 1 d (wrote_nothing d) _ d (follows_leaves (group_at d.state metadata) d) (still d)
    by false true h = subst (λ c. Follows key 0 d (if c then rules.lets_leave_by ms setup me (group_at d.state metadata) d else d)) (sym h) (same key d)

  follows_clock : (millis : ℕ) (d : MemberStep) → Follows key 0 d (record d { state = ticks.clock_after millis d.state })
  follows_clock millis d = record {
    news = [];
    said = [];
    few = le_refl 0;
    parts = sym (append-nil d.parts);
    stored = refl;
    restart = refl;
    attempts = refl;
    sent = sym (append-nil d.sent);
    clear = refl;
  }

  pub follows_ticks : (millis : ℕ) (d : MemberStep) → wrote_nothing d ≡ true → Follows key 1 d (ticks.ticks ms setup me millis d)
  follows_ticks millis d h =
      let e = record d { state = ticks.clock_after millis d.state } in
      let numbers = map (λ g. g.0) e.state.groups in
      let f = ticks.each_ticks ms setup me numbers e in
      joined key 0 1 d e (rules.leaves_at_beat ms setup me f) (follows_clock millis d)
      (one_of e f (rules.leaves_at_beat ms setup me f) (λ b k. follows_beat f b k) true h (follows_each numbers e true h))

-- A member of three that starts for the first time may take a step.
use Rattle.std.proofs.Common.{◌≡◌, ℕ, List, [], ◌∷◌, false, refl, sym, subst, arith}
use Rattle.cp_grammar.specs.Lists.{ItemsFit}
use Rattle.cp_grammar.specs.Common.{members, member_after}
use Rattle.cp_log_rules.specs.Recovery.{recovered_from}
use Rattle.cp_log_rules.specs.Durable.{DurableState, first_members, first_state, group_in}
use Rattle.cp_log.specs.Files.{IfOkState, file_state, started}
use Rattle.cp_rules.specs.Volatile.{VolatileState}
use Rattle.cp_rules.specs.Volatile as volatile
use Rattle.cp_rules_ranges.specs.Ranges.{IsMember}
use Rattle.cp_rules_ranges.proofs.Steps.{steps_go_on}
use Rattle.cp_raft_state.specs.declared.seat.Seat.{Seat}
use Rattle.cp_raft.specs.Rafts.{MayGoOn}

three_fit : members.Fits (first_members 3)
unfolding members member_after ItemsFit
three_fit = ((omega arith, refl), (refl, ((omega arith, refl), ((omega arith, refl), ((omega arith, refl), tt)))))

-- what stands after the first start
pub opens : (file : List ℕ) (s : DurableState) → file ≡ [] → IfOkState (file_state (first_state false 3) file) (λ before. s ≡ started before) → s ≡ started (first_state false 3)
unfolding recovered_from
opens [] s e h = h
opens (b ∷ file) s e h = absurd (cc)

begins_at : (me : ℕ) → IsMember me → MayGoOn (started (first_state false 3)) (record { group = record { 0 = 1 }; me = me }) (volatile.started 0 0)
begins_at me is = record {
  stored = record { group = omega arith; format = refl; stands = refl };
  may = steps_go_on.begin me 0 (first_members 3) is three_fit (omega arith);
  settled = refl;
}

pub begins : (me : ℕ) (s : DurableState) (seat : Seat) (v : VolatileState) → IsMember me → s ≡ started (first_state false 3) → seat ≡ record { group = record { 0 = 1 }; me = me } → v ≡ volatile.started (group_in s 1).base 0 → MayGoOn s seat v
begins me s seat v is es eseat ev =
    subst (λ (x : VolatileState). MayGoOn s seat x) (sym ev)
    (subst (λ (x : Seat). MayGoOn s x (volatile.started (group_in s 1).base 0)) (sym eseat)
    (subst (λ (x : DurableState). MayGoOn x (record { group = record { 0 = 1 }; me = me }) (volatile.started (group_in x 1).base 0)) (sym es) (begins_at me is)))

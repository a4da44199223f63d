-- The others among members, one after the other.
use Rattle.std.proofs.Common.{◌≡◌, ◌≢◌, ◌==◌, ◌++◌, ◌∙◌, ℕ, List, [], ◌∷◌, true, false, refl, ap, sym, arith}
use Rattle.std.proofs.lemmas.List.{append_assoc}
use Rattle.std.proofs.lemmas.Bool.Decides.{nat_tests}
use Rattle.cp_rules.specs.Local.{Sent}
use Rattle.cp_rules.specs.Persistent.{others}
use Rattle.cp_raft_state.specs.declared.seat.Seat.{Seat}
use Rattle.cp_message.specs.declared.message.Message.{Message}
use Rattle.cp_raft_state.specs.Messages.{sent_by, messages_of}
use Rattle.cp_raft_leading.specs.Asks.{to_others}

-- another one is there
pub other_in : (me m : ℕ) (rest : List ℕ) → m ≢ me → others me (m ∷ rest) ≡ m ∷ others me rest
other_in me m rest apart = let t : (m == me) ≡ false = grind (arith, nat_tests) in rw t refl

-- oneself is not
pub self_out : (me m : ℕ) (rest : List ℕ) → m ≡ me → others me (m ∷ rest) ≡ others me rest
self_out me m rest same = let t : (m == me) ≡ true = grind (arith, nat_tests) in rw t refl

-- the messages to them
pub to_other : (seat : Seat) (what : ℕ → Sent) (m : ℕ) (rest : List ℕ) → m ≢ seat.me → to_others seat what (m ∷ rest) ≡ sent_by seat (what m) ∷ to_others seat what rest
to_other seat what m rest apart = rw (other_in seat.me m rest apart) refl

pub to_self : (seat : Seat) (what : ℕ → Sent) (m : ℕ) (rest : List ℕ) → m ≡ seat.me → to_others seat what (m ∷ rest) ≡ to_others seat what rest
to_self seat what m rest same = rw (self_out seat.me m rest same) refl

-- where one of them has been sent to, the rest of them is left
pub joined : (seat : Seat) (what : ℕ → Sent) (m : ℕ) (rest : List ℕ) (before after : List Message) → m ≢ seat.me → after ≡ before ++ messages_of seat (what m ∷ [])
    → after ++ to_others seat what rest ≡ before ++ to_others seat what (m ∷ rest)
joined seat what m rest before after apart sent =
    ap (λ (xs : List Message). xs ++ to_others seat what rest) sent
    ∙ append_assoc before (sent_by seat (what m) ∷ []) (to_others seat what rest)
    ∙ ap (λ (xs : List Message). before ++ xs) (sym (to_other seat what m rest apart))

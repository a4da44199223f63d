-- Each reply has the answer of an entry, or of a look at the machine.
use Rattle.std.proofs.Common.{◌≡◌, inl, inr, ℕ, Bool, true, false, not, ◌&&◌, List, [], ◌∷◌, ◌++◌, map, refl, subst, Some, None, Option, if◌then◌else◌}
use Rattle.std.specs.Prelude.{nat_lt}
use Rattle.std.specs.List.{AllByRecursion, cons_option, filter}
use Rattle.std.specs.Option.{option_map}
use Rattle.cp_answers.specs.declared.answer.Answer.{Answer}
use Rattle.cp_answers.specs.declared.refusal.Refusal.TheVariants as refusal
use Rattle.cp_base.specs.declared.identifier.Invocation.{Invocation}
use Rattle.cp_rules.specs.Local.{is_leader}
use Rattle.cp_rules.specs.Volatile.{Look}
use Rattle.cp_group_rules.specs.declared.attempt.Attempt.{Attempt}
use Rattle.cp_group_rules.specs.Answering.{newer, newest, without_over, waiting_after, reply_to, reply_with, replies_of, read_replies, reader, is_above, lost, lost_reads}
use Rattle.cp_group_rules.specs.Groups.{Said, refuses}
use Rattle.cp_group_rules.specs.Machines.{Machine}
use Rattle.cp_group_rules.specs.Replies.{IsAmong, HasAnswer, RepliesHaveAnswers}
use Rattle.cp_group_rules.specs.Steps.{news, newly_pending, newly_reading}
use Rattle.cp_group_rules.specs.Times.{same_call}
use Rattle.cp_group_rules.specs.Views.{Given, view_at}

-- ---- the newest attempt

same_some : {A : Type 0} (x y : A) → Some x ≡ Some y → x ≡ y
same_some x y e = cc

module _ (call : Invocation) where
  abbrev IsOf : Attempt → Type 0
  IsOf x = same_call call x.call ≡ true

  newer_is : (y : Attempt) (o : Option Attempt) (x : Attempt) → ((z : Attempt) → o ≡ Some z → IsOf z) → IsOf y → newer y o ≡ x → IsOf x
  newer_is y None x later first e = subst IsOf e first
  newer_is y (Some z) x later first e = by (nat_lt z.number y.number) e where
    by : (b : Bool) → (if b then y else z) ≡ x → IsOf x
    by true e = subst IsOf e first
    by false e = subst IsOf e (later z refl)

  newest_is : (pending : List Attempt) (x : Attempt) → newest call pending ≡ Some x → IsOf x
  newest_is [] x e = absurd cc
  newest_is (y ∷ pending) x e = by (newest_is pending) (same_call call y.call) refl e where
    by : ((z : Attempt) → newest call pending ≡ Some z → IsOf z) → (b : Bool) → same_call call y.call ≡ b
        → (if b then Some (newer y (newest call pending)) else newest call pending) ≡ Some x → IsOf x
    by later false h e = later x e
    by later true h e = newer_is y (newest call pending) x later h (same_some (newer y (newest call pending)) x e)

-- ---- all that is said

module _ {V : Type 0} (m : Machine V) (all : List Given) (view : V) (looks : List Look) where
  abbrev Are : List Said → Type 0
  Are said = AllByRecursion (HasAnswer m all view looks) said

  join : (xs ys : List Said) → Are xs → Are ys → Are (xs ++ ys)
  join [] ys h k = k
  join (x ∷ xs) ys h k = (h.0, join xs ys h.1 k)

  given_to : (x : Given) (o : Option Attempt) → IsAmong x all → ((z : Attempt) → o ≡ Some z → same_call x.call z.call ≡ true) → Are (reply_to x.answer o)
  given_to x None among same = tt
  given_to x (Some z) among same = (inl (x, among, refl, same z refl), tt)

  given_all : (given : List Given) (pending : List Attempt) → ((x : Given) → IsAmong x given → IsAmong x all) → Are (replies_of given pending)
  given_all [] pending among = tt
  given_all (x ∷ given) pending among =
      join (reply_to x.answer (newest x.call pending)) (replies_of given (without_over x pending))
      (given_to x (newest x.call pending) (among x (inl refl)) (newest_is x.call pending)) (given_all given (without_over x pending) (λ y h. among y (inr h)))

  looked_with : (look : Look) (o : Option Answer) (x : Option Attempt) → IsAmong look looks → m.looked view look.op ≡ o → Are (reply_with o x)
  looked_with look None x among e = tt
  looked_with look (Some answer) None among e = tt
  looked_with look (Some answer) (Some x) among e = (inr (look, among, e), tt)

  looked_all : (reading : List Attempt) (some : List Look) → ((look : Look) → IsAmong look some → IsAmong look looks) → Are (read_replies m view reading some)
  looked_all reading [] among = tt
  looked_all reading (look ∷ some) among =
      join (reply_with (m.looked view look.op) (reader reading look)) (read_replies m view reading some)
      (looked_with look (m.looked view look.op) (reader reading look) (among look (inl refl)) refl) (looked_all reading some (λ y h. among y (inr h)))

  lost_all : (pending : List Attempt) → Are (map (refuses refusal.Lost) pending)
  lost_all [] = tt
  lost_all (x ∷ pending) = (inl tt, lost_all pending)

  lost_if : (b : Bool) (commit : ℕ) (pending : List Attempt) → Are (if b then lost commit pending else [])
  lost_if true commit pending = lost_all (filter (is_above commit) pending)
  lost_if false commit pending = tt

  lost_looks : (reading : List Attempt) (some : List Look) → Are (lost_reads reading some)
  lost_looks reading [] = tt
  lost_looks reading (look ∷ some) = by (reader reading look) (lost_looks reading some) where
    by : (o : Option Attempt) → Are (lost_reads reading some) → Are (cons_option (option_map (refuses refusal.Lost) o) (lost_reads reading some))
    by None h = h
    by (Some x) h = (inl tt, h)

pub replies_have_answers : {V : Type 0} (m : Machine V) → RepliesHaveAnswers m
replies_have_answers m event e installed p q g s =
    let given = news m p q g.raft.commit s.state.commit in
    let view = view_at m q s.state.commit in
    let asking = g.pending ++ newly_pending event s.outcome in
    let reading = g.reading ++ newly_reading e event s s.outcome in
    let down = is_leader g.raft.role && not (is_leader s.state.role) in
    join m given view s.answered (replies_of given asking) _ (given_all m given view s.answered given asking (λ x h. h))
    (join m given view s.answered (read_replies m view reading s.answered) _ (looked_all m given view s.answered reading s.answered (λ look h. h))
    (join m given view s.answered (if down then lost s.state.commit (waiting_after given asking) else []) (lost_reads reading s.lost)
    (lost_if m given view s.answered down s.state.commit (waiting_after given asking)) (lost_looks m given view s.answered reading s.lost)))

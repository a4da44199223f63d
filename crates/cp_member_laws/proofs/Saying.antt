-- What a group says refuses nobody but the attempt that comes, and those that are lost.
use Rattle.std.proofs.Common.{◌≡◌, ℕ, Bool, true, false, List, [], ◌∷◌, ◌++◌, map, Some, None, Option, refl, sym, ap, subst, if◌then◌else◌}
use Rattle.std.specs.Prelude.{filter, not}
use Rattle.std.specs.List.{cons_option}
use Rattle.std.specs.Option.{option_map}
use Rattle.cp_answers.specs.declared.answer.Answer.{Answer}
use Rattle.cp_answers.specs.declared.refusal.Refusal.TheVariants as refusal
use Rattle.cp_rules.specs.declared.outcome.Outcome.{Outcome}
use Rattle.cp_rules.specs.declared.outcome.Outcome.TheVariants as outcome
use Rattle.cp_rules.specs.Local as steps
use Rattle.cp_rules.specs.Volatile.{Look}
use Rattle.cp_group_rules.specs.Answering.{reply_to, replies_of, newest, is_over, lost, is_above, reader, reply_with, read_replies, lost_reads}
use Rattle.cp_group_rules.specs.Events.{Event, Ticks, Gets, Asks, Proposes, Changes}
use Rattle.cp_group_rules.specs.Steps.{refused}
use Rattle.cp_group_rules.specs.Machines.{Machine}
use Rattle.cp_group_rules.specs.declared.attempt.Attempt.{Attempt}
use Rattle.cp_group_rules.specs.Groups.{Said, Refuses, replies, refuses, tells}
use Rattle.cp_group_rules.specs.Views.{Given}
use Rattle.cp_member_rules.specs.Letters.{Letter, letter_of}
use Rattle.cp_member_laws.specs.Runs.{tells_key, is_told, is_lost}
use Rattle.cp_member_laws.proofs.Telling.{Clear, clear_cons, clear_append}

-- The event is no attempt of the key.
abbrev pub IsOther : (ℕ → ℕ → ℕ → Bool) → Event → Type 0
IsOther key (Asks from call attempt o) = key from call.thread.0 attempt ≡ false
IsOther key event = Unit {0}

module _ (key : ℕ → ℕ → ℕ → Bool) (me group : ℕ) where
  -- no refusal of the key among what is said
  abbrev pub Quiet : List Said → Type 0
  Quiet said = Clear (tells_key key) (map (letter_of me group) said)

  letters : (xs ys : List Said) → map (letter_of me group) (xs ++ ys) ≡ map (letter_of me group) xs ++ map (letter_of me group) ys
  letters [] ys = refl
  letters (x ∷ xs) ys = ap (λ (l : List Letter). letter_of me group x ∷ l) (letters xs ys)

  pub quiet_append : (xs ys : List Said) → Quiet xs → Quiet ys → Quiet (xs ++ ys)
  quiet_append xs ys h k = subst (λ (l : List Letter). Clear (tells_key key) l) (sym (letters xs ys))
      (clear_append (tells_key key) (map (letter_of me group) xs) (map (letter_of me group) ys) h k)

  quiet_to : (a : Answer) (o : Option Attempt) → Quiet (reply_to a o)
  quiet_to a None = refl
  quiet_to a (Some x) = refl

  quiet_told : (told : List Given) (pending : List Attempt) → Quiet (replies_of told pending)
  quiet_told [] pending = refl
  quiet_told (t ∷ told) pending =
      quiet_append (reply_to t.answer (newest t.call pending)) (replies_of told (filter (λ x. not (is_over t x)) pending))
      (quiet_to t.answer (newest t.call pending)) (quiet_told told (filter (λ x. not (is_over t x)) pending))

  pub quiet_answers : (a : Answer) (pending : List Attempt) → Quiet (map (replies a) pending)
  quiet_answers a [] = refl
  quiet_answers a (x ∷ pending) = quiet_answers a pending

  quiet_losses : (pending : List Attempt) → Quiet (map (refuses refusal.Lost) pending)
  quiet_losses [] = refl
  quiet_losses (x ∷ pending) = quiet_losses pending

  quiet_lost_reads : (reading : List Attempt) (looks : List Look) → Quiet (lost_reads reading looks)
  quiet_lost_reads reading [] = refl
  quiet_lost_reads reading (look ∷ looks) = by (reader reading look) (quiet_lost_reads reading looks) where
    by : (o : Option Attempt) → Quiet (lost_reads reading looks) → Quiet (cons_option (option_map (refuses refusal.Lost) o) (lost_reads reading looks))
    by None h = h
    by (Some x) h = h

  quiet_with : (o : Option Answer) (x : Option Attempt) → Quiet (reply_with o x)
  quiet_with None x = refl
  quiet_with (Some a) x = quiet_to a x

  quiet_reads : {V : Type 0} (m : Machine V) (view : V) (reading : List Attempt) (looks : List Look) → Quiet (read_replies m view reading looks)
  quiet_reads m view reading [] = refl
  quiet_reads m view reading (look ∷ looks) =
      quiet_append (reply_with (m.looked view look.op) (reader reading look)) (read_replies m view reading looks)
      (quiet_with (m.looked view look.op) (reader reading look)) (quiet_reads m view reading looks)

  quiet_if : (b : Bool) (xs : List Said) → Quiet xs → Quiet (if b then xs else [])
  quiet_if true xs h = h
  quiet_if false xs h = refl

  -- the answers of a step
  pub quiet_step : {V : Type 0} (m : Machine V) (view : V) (told : List Given) (asking waiting reading : List Attempt) (looks losses : List Look) (down : Bool) (commit : ℕ)
      → Quiet (replies_of told asking ++ (read_replies m view reading looks ++ ((if down then lost commit waiting else []) ++ lost_reads reading losses)))
  quiet_step m view told asking waiting reading looks losses down commit =
      quiet_append (replies_of told asking) _ (quiet_told told asking)
      (quiet_append (read_replies m view reading looks) _ (quiet_reads m view reading looks)
      (quiet_append (if down then lost commit waiting else []) (lost_reads reading losses) (quiet_if down (lost commit waiting) (quiet_losses (filter (is_above commit) waiting))) (quiet_lost_reads reading losses)))

  pub quiet_tells : (sends : List steps.Sent) → Quiet (tells sends)
  quiet_tells [] = refl
  quiet_tells (s ∷ sends) = quiet_tells sends

  quiet_refused : (event : Event) (o : Outcome) → IsOther key event → Quiet (refused event o)
  quiet_refused event outcome.Done h = refl
  quiet_refused event (outcome.Proposed index) h = refl
  quiet_refused (Ticks clock may_write) (outcome.Refused r) h = refl
  quiet_refused (Gets from body) (outcome.Refused r) h = refl
  quiet_refused (Proposes e) (outcome.Refused r) h = refl
  quiet_refused (Changes change plan call) (outcome.Refused r) h = refl
  quiet_refused (Asks from call attempt o) (outcome.Refused r) h = clear_cons (tells_key key) (letter_of me group (Refuses from call attempt r)) [] (by (is_lost r)) refl where
    by : (b : Bool) → is_told key from (if b then None else Some (call.thread.0, attempt)) ≡ false
    by true = refl
    by false = h

  pub quiet_sends : (event : Event) (o : Outcome) (sends : List steps.Sent) → IsOther key event → Quiet (tells sends ++ refused event o)
  quiet_sends event o sends h = quiet_append (tells sends) (refused event o) (quiet_tells sends) (quiet_refused event o h)

  pub quiet_ended : (a : Answer) (xs ys : List Attempt) → Quiet (map (replies a) xs ++ map (replies a) ys)
  quiet_ended a xs ys = quiet_append (map (replies a) xs) (map (replies a) ys) (quiet_answers a xs) (quiet_answers a ys)

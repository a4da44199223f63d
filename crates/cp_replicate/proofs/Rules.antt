-- The rules do what is decided: each `if` one side after the other.
use Rattle.std.proofs.Common.{◌≡◌, ℕ, suc, ◌+◌, ◌-◌, ◌<◌, ◌≤◌, ◌==◌, ◌&&◌, not, ⊎_elim, Bool, true, false, List, [], ◌∷◌, length, drop, refl, ap, sym, ◌∙◌, arith, Option, Some, None, option_map, nat_lt, nat_le, if◌then◌else◌}
use Rattle.std.proofs.Math.Nat.{le_refl}
use Rattle.std.proofs.lemmas.Bool.{cases_Bool, ltb-true, eq-eqb, eqb-true}
use Rattle.std.proofs.lemmas.List.{drop-drop}
use Rattle.cp_parts.specs.declared.log_entry.LogEntry.{LogEntry}
use Rattle.cp_log_rules.specs.Persistent.{PersistentState, last, term_at}
use Rattle.cp_log_rules.specs.Configurations.{config_at}
use Rattle.cp_rules.specs.declared.ballot.Ballot.{Ballot}
use Rattle.cp_rules.specs.declared.log_end.LogEnd.{LogEnd}
use Rattle.cp_rules.specs.Persistent.{AppendPart, ballot, ballot_part, members, is_member, is_term, known_term, has_term}
use Rattle.cp_rules.specs.Volatile.{VolatileState, peer, with_peer}
use Rattle.cp_rules.specs.Local.{does, reply, send, Append, AppendReply}
use Rattle.cp_rules.specs.Terms as terms
use Rattle.cp_rules.specs.Terms.{adopted, adopts}
use Rattle.cp_rules.specs.Appends.{Difference, difference, following, takes, goes_on, refused_index}
use Rattle.cp_rules.specs.AppendReplies.{matched_to}
use Rattle.cp_rules.specs.Commit.{commits}
use Rattle.cp_rules.specs.Sending.{batch, chunk_from, entries_from}
use Rattle.cp_election.proofs.Rules.{of_if}
use Rattle.cp_replicate.specs.declared.following.Followed.TheVariants.{Refused, Conflict, Replaced}
use Rattle.cp_replicate.specs.declared.replying.AppendReplied.TheVariants.{Adopted, Ignored, Matched, FellBack}
use Rattle.cp_replicate.specs.declared.sending.Sending.TheVariants.{Chunk, Entries}
use Rattle.cp_replicate.specs.Logs as logs
use Rattle.cp_replicate.specs.Decisions.{differs, compared, followed, is_answered, matched, fallen_back}
use Rattle.cp_replicate.specs.Laws.{told_to, follows, leads_on, after_append_reply, sent, AppendsGoAsDecided, AppendRepliesGoAsDecided, CommitsGoAsDecided, SendsAsDecided, ExpiresAsDecided, ReadsGoAsDecided}
use Rattle.cp_replicate.proofs.Batches.{batches_fit}

-- ---- an append

-- what differs is all from a place on
abbrev Drops : ℕ → List LogEntry → Option Difference → Type 0
Drops after entries None = Unit {0}
Drops after entries (Some d) = (after ≤ d.after) × (d.entries ≡ drop (d.after - after) entries)

later : (after : ℕ) (e : LogEntry) (entries : List LogEntry) (found : Option Difference) → Drops (suc after) entries found → Drops after (e ∷ entries) found
later after e entries None h = tt
later after e entries (Some d) h =
    let low = h.0 in
    let s : d.after - after ≡ suc (d.after - suc after) = omega (arith, low) in
    (omega (arith, low), rw s h.1)

drops : (terms : ℕ → Option ℕ) (after : ℕ) (entries : List LogEntry) → Drops after entries (difference terms after entries)
drops terms after [] = tt
drops terms after (e ∷ entries) = ⊎_elim
    (λ (h : is_term e.term (terms (suc after)) ≡ true). rw h (later after e entries (difference terms (suc after) entries) (drops terms (suc after) entries)))
    (λ (h : is_term e.term (terms (suc after)) ≡ false).
    let z : after - after ≡ 0 = omega arith in
    rw (h, z) (le_refl after, refl))
    (cases_Bool (is_term e.term (terms (suc after))))

-- the same, counted from an index below
from_below : (previous base : ℕ) (entries : List LogEntry) (found : Option Difference) → previous < base → Drops base (drop (base - previous) entries) found → Drops previous entries found
from_below previous base entries None low h = tt
from_below previous base entries (Some d) low h =
    let le = h.0 in
    let s : base - previous + (d.after - base) ≡ d.after - previous = omega (arith, le, low) in
    (omega (arith, le, low), h.1 ∙ drop-drop (d.after - base) (base - previous) entries ∙ ap (λ k. drop k entries) s)

module _ (p : PersistentState) (b : Ballot) (v : VolatileState) (from told previous : ℕ) (entries : List LogEntry) where
  takes_as_compared : (found : Option Difference) → Drops previous entries found
      → takes p b v from told (previous + length entries) found ≡ follows p b v from told previous entries (compared v.commit (option_map (λ d. d.after) found))
  takes_as_compared None h = refl
  takes_as_compared (Some d) h =
      of_if (follows p b v from told previous entries) (nat_lt d.after v.commit) Conflict (Replaced d.after)
      (does (ballot_part p b) v [])
      (does (Some (AppendPart b d.after d.entries)) (told_to told (previous + length entries) v) (reply from (AppendReply b.term true (previous + length entries))))
      refl
      (rw h.1 refl)

-- the base has its term
has_base : (p : PersistentState) → has_term p p.base p.base_term ≡ true
has_base p = let a : (p.base == p.base) ≡ true = eq-eqb p.base p.base refl in rw a (eq-eqb p.base_term p.base_term refl)

below : (p : PersistentState) (b : Ballot) (v : VolatileState) (from previous told : ℕ) (entries : List LogEntry) → previous < p.base
    → goes_on p b v from p.base p.base_term told (previous + length entries) (drop (p.base - previous) entries)
    ≡ follows p b v from told previous entries (compared v.commit (differs (term_at p) p.base (drop (p.base - previous) entries)))
below p b v from previous told entries low =
    let found = difference (term_at p) p.base (drop (p.base - previous) entries) in
    rw (has_base p) (takes_as_compared p b v from told previous entries found (from_below previous p.base entries found low (drops (term_at p) p.base (drop (p.base - previous) entries))))

above : (p : PersistentState) (b : Ballot) (v : VolatileState) (from previous previous_term told : ℕ) (entries : List LogEntry)
    → goes_on p b v from previous previous_term told (previous + length entries) entries
    ≡ follows p b v from told previous entries (if has_term p previous previous_term then compared v.commit (differs (term_at p) previous entries) else Refused (refused_index (last p) previous))
above p b v from previous previous_term told entries =
    let found = difference (term_at p) previous entries in
    let index = refused_index (last p) previous in
    of_if (follows p b v from told previous entries) (has_term p previous previous_term)
    (compared v.commit (differs (term_at p) previous entries)) (Refused index)
    (takes p b v from told (previous + length entries) found)
    (does (ballot_part p b) v (reply from (AppendReply b.term false index)))
    (takes_as_compared p b v from told previous entries found (drops (term_at p) previous entries))
    refl

-- what is made of either side, where a side is only seen if it is taken
of_if_seen : {A B : Type 0} (f : A → B) (c : Bool) (a b : A) (x y : B) → (c ≡ true → x ≡ f a) → y ≡ f b → (if c then x else y) ≡ f (if c then a else b)
of_if_seen f true a b x y first second = first refl
of_if_seen f false a b x y first second = second

same_first : {A : Type 0} (c : Bool) (x y z : A) → y ≡ z → (if c then x else y) ≡ (if c then x else z)
same_first true x y z h = refl
same_first false x y z h = h

pub appends_go_as_decided : AppendsGoAsDecided
appends_go_as_decided p v from term previous previous_term told entries =
    let b = adopted term (ballot p) in
    let w = following from v in
    let low = compared v.commit (differs (term_at p) p.base (drop (p.base - previous) entries)) in
    let high = if has_term p previous previous_term then compared v.commit (differs (term_at p) previous entries) else Refused (refused_index (last p) previous) in
    let x = goes_on p b w from p.base p.base_term told (previous + length entries) (drop (p.base - previous) entries) in
    let y = goes_on p b w from previous previous_term told (previous + length entries) entries in
    same_first (nat_lt term p.term) (does None v (reply from (AppendReply p.term false 0)))
    (if nat_lt previous p.base then x else y)
    (follows p b w from told previous entries (followed p v.commit previous previous_term entries))
    (of_if_seen (follows p b w from told previous entries) (nat_lt previous p.base) low high x y
    (λ h. below p b w from previous told entries (ltb-true previous p.base h))
    (above p b w from previous previous_term told entries))

-- ---- the reply to an append

pub append_replies_go_as_decided : AppendRepliesGoAsDecided
append_replies_go_as_decided me p v from term accepted index =
    let f = after_append_reply me p v from term index in
    let known = peer v.peers from in
    let nothing = does None v [] in
    let answered = is_answered v.role p.term (members p) from term in
    let rises = nat_lt known.matched index && nat_le index (last p) in
    let more = leads_on p (commits me p (with_peer from (matched_to known index) v)) from index in
    let back = f (FellBack (fallen_back known index)) in
    of_if f (nat_lt p.term term) Adopted
    (if not answered then Ignored else if accepted then matched known (last p) index else FellBack (fallen_back known index))
    (adopts term p v)
    (if not answered then nothing else if accepted then (if rises then more else nothing) else back)
    refl
    (of_if f (not answered) Ignored (if accepted then matched known (last p) index else FellBack (fallen_back known index))
    nothing (if accepted then (if rises then more else nothing) else back)
    refl
    (of_if f accepted (matched known (last p) index) (FellBack (fallen_back known index))
    (if rises then more else nothing) back
    (of_if f rises (Matched (matched_to known index)) Ignored more nothing refl refl)
    refl))

-- ---- a commit

by_two : {A : Type 0} (c d : Bool) (v state down : A) → (c ≡ true → v ≡ state) → (if c then v else if d then state else down) ≡ (if not c && not d then down else state)
by_two true d v state down same = same refl
by_two false true v state down same = refl
by_two false false v state down same = refl

pub commits_go_as_decided : CommitsGoAsDecided
commits_go_as_decided me p v found =
    let state = record v { commit = found } in
    by_two (found == v.commit) (is_member me (config_at p found).members) v state (terms.steps_down state)
    (λ h. ap (λ c. record v { commit = c }) (sym (eqb-true found v.commit h)))

-- ---- what is sent

pub sends_as_decided : SendsAsDecided
sends_as_decided p v member =
    let x = peer v.peers member in
    let after : LogEnd = record { term = known_term p (x.next - 1); index = x.next - 1 } in
    ap (send member) (of_if (sent p v.commit) (nat_le x.next p.base)
    (Chunk x.offset) (Entries after (length (batch (logs.from p x.next))))
    (chunk_from p x.offset) (entries_from p v x.next)
    refl
    (ap (Append p.term after.index after.term v.commit) (batches_fit (logs.from p x.next)).front))

pub expires_as_decided : ExpiresAsDecided
expires_as_decided me p v may_write entry = refl

pub reads_go_as_decided : ReadsGoAsDecided
reads_go_as_decided me members reads commit look = refl

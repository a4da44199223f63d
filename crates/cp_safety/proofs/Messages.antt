-- What the messages of members with snapshots say of whole logs.
use Rattle.std.proofs.Common.{◌≡◌, ℕ, ◌≤◌, List, length, take, map, refl, ap₂, sym, ◌∙◌, subst, Some, None, Option, Contains}
use Rattle.std.proofs.lemmas.Option.{same_Some}
use Rattle.cp_parts.specs.declared.log_entry.LogEntry.{LogEntry}
use Rattle.cp_agreement_facts.specs.Configurations.{configuration_after}
use Rattle.cp_agreement_facts.specs.Logs.{HasTerm}
use Rattle.cp_agreement_facts.specs.Clusters.{Append, Appended, Cluster, Done, Member, Message, Other, Snapshot, Vote, Voted}
use Rattle.cp_agreement.specs.WholeLogs as whole
use Rattle.cp_safety.proofs.Lists.{contains_unmap}

-- The messages that say the same of whole logs as they stand.
abbrev pub SaysTheSame : Message → Type 0
SaysTheSame (Vote c t lt li) = Unit {0}
SaysTheSame (Voted v c t) = Unit {0}
SaysTheSame (Append f t p pt es c) = Unit {0}
SaysTheSame (Appended v to t j) = Unit {0}
SaysTheSame (Snapshot f t i it ms) = ⊥
SaysTheSame (Done v to t j) = ⊥
SaysTheSame Other = Unit {0}

-- The message that a message stands for, where its sender has the whole log l and this commit: a snapshot is an Append of the whole
-- front from index 0 on, and a reply to it a reply to that Append.
abbrev pub to_whole : List LogEntry → ℕ → Message → Message
to_whole l commit (Vote c t lt li) = Vote c t lt li
to_whole l commit (Voted v c t) = Voted v c t
to_whole l commit (Append f t p pt es c) = Append f t p pt es c
to_whole l commit (Appended v to t j) = Appended v to t j
to_whole l commit (Snapshot f t i it ms) = Append f t 0 0 (take i l) commit
to_whole l commit (Done v to t j) = Appended v to t j
to_whole l commit Other = Other

-- Such a message stands for itself.
pub same_message : (l : List LogEntry) (commit : ℕ) (m : Message) → SaysTheSame m → to_whole l commit m ≡ m
same_message l commit (Vote c t lt li) same = refl
same_message l commit (Voted v c t) same = refl
same_message l commit (Append f t p pt es c) same = refl
same_message l commit (Appended v to t j) same = refl
same_message l commit (Snapshot f t i it ms) same = absurd same
same_message l commit (Done v to t j) same = absurd same
same_message l commit Other same = refl

-- What stands behind a message that was sent: itself, or a snapshot or the reply to one.
pub data Stands (l : List LogEntry) (commit : ℕ) (sends : List Message) (m : Message) : Type 0 where
  AsItIs : Contains sends m → Stands l commit sends m
  ForSnapshot : (f t i it : ℕ) (ms : List ℕ) → Contains sends (Snapshot f t i it ms) → Append f t 0 0 (take i l) commit ≡ m → Stands l commit sends m
  ForDone : (v to t j : ℕ) → Contains sends (Done v to t j) → Appended v to t j ≡ m → Stands l commit sends m

stands_behind : (l : List LogEntry) (commit : ℕ) (sends : List Message) (m x : Message) → Contains sends x → to_whole l commit x ≡ m → Stands l commit sends m
stands_behind l commit sends m (Vote c t lt li) at e = AsItIs (subst (Contains sends) e at)
stands_behind l commit sends m (Voted v c t) at e = AsItIs (subst (Contains sends) e at)
stands_behind l commit sends m (Append f t p pt es c) at e = AsItIs (subst (Contains sends) e at)
stands_behind l commit sends m (Appended v to t j) at e = AsItIs (subst (Contains sends) e at)
stands_behind l commit sends m (Snapshot f t i it ms) at e = ForSnapshot f t i it ms at e
stands_behind l commit sends m (Done v to t j) at e = ForDone v to t j at e
stands_behind l commit sends m Other at e = AsItIs (subst (Contains sends) e at)

-- What stands behind a message of the cluster on whole logs.
pub what_stands : (l : List LogEntry) (commit : ℕ) (sends : List Message) (m : Message) → Contains (map (to_whole l commit) sends) m → Stands l commit sends m
what_stands l commit sends m has = let x = contains_unmap (to_whole l commit) sends m has in stands_behind l commit sends m x.0 x.1 x.2

-- the member that one stands for, with this whole log
abbrev pub standing : Member → List LogEntry → whole.Member
standing b l = record { term = b.term; vote = b.vote; log = l; commit = b.commit; is_leader = b.is_leader }

-- the cluster that one stands for
abbrev pub stand : Cluster → (ℕ → List LogEntry) → List Message → whole.Cluster
stand w logs sent = record { member = λ m. standing (w.member m) (logs m); sent = sent }

-- What was sent as a snapshot stands for an Append of the whole front.
pub record Carries (first : List ℕ) (sent : List Message) (f t i it : ℕ) (ms : List ℕ) : Type 0 where
  pub entries : List LogEntry
  pub commit : ℕ
  pub covers : i ≤ commit
  pub long : length entries ≡ i
  pub has : HasTerm entries i it
  pub members : ms ≡ configuration_after first entries
  pub is_sent : Contains sent (Append f t 0 0 entries commit)

-- What was sent, on both sides.
pub record Heard (first : List ℕ) (w : Cluster) (sent : List Message) : Type 0 where
  pub plain : (m : Message) → SaysTheSame m → Contains w.sent m → Contains sent m
  pub asked : (c t lt li : ℕ) → Contains sent (Vote c t lt li) → Contains w.sent (Vote c t lt li)
  pub done : (v to t j : ℕ) → Contains w.sent (Done v to t j) → Contains sent (Appended v to t j)
  pub snapshot : (f t i it : ℕ) (ms : List ℕ) → Contains w.sent (Snapshot f t i it ms) → Carries first sent f t i it ms

-- The message that came, as the whole logs see it.
pub record Received (first : List ℕ) (sent : List Message) (o : Option Message) : Type 0 where
  pub got : Option Message
  pub delivered : (m : Message) → got ≡ Some m → Contains sent m
  pub plain : (m : Message) → SaysTheSame m → o ≡ Some m → got ≡ Some m
  pub snapshot : (f t i it : ℕ) (ms : List ℕ) → o ≡ Some (Snapshot f t i it ms) → (c : Carries first sent f t i it ms) × (got ≡ Some (Append f t 0 0 c.entries c.commit))

received_as_it_is : (first : List ℕ) (w : Cluster) (sent : List Message) → Heard first w sent → (x : Message) → SaysTheSame x → Contains w.sent x → Received first sent (Some x)
received_as_it_is first w sent heard x same has = record {
  got = Some x;
  delivered = λ m e. subst (Contains sent) (same_Some x m e) (heard.plain x same has);
  plain = λ m p e. e;
  snapshot = λ f t i it ms e. absurd (subst SaysTheSame (same_Some x (Snapshot f t i it ms) e) same);
}

-- What came, as the whole logs see it.
pub receive : (first : List ℕ) (w : Cluster) (sent : List Message) → Heard first w sent → (o : Option Message) → ((m : Message) → o ≡ Some m → Contains w.sent m) → Received first sent o
receive first w sent heard None came = record { got = None; delivered = λ m e. absurd (cc); plain = λ m p e. absurd (cc); snapshot = λ f t i it ms e. absurd (cc) }
receive first w sent heard (Some (Vote c t lt li)) came = received_as_it_is first w sent heard (Vote c t lt li) tt (came (Vote c t lt li) refl)
receive first w sent heard (Some (Voted v c t)) came = received_as_it_is first w sent heard (Voted v c t) tt (came (Voted v c t) refl)
receive first w sent heard (Some (Append f t p pt es c)) came = received_as_it_is first w sent heard (Append f t p pt es c) tt (came (Append f t p pt es c) refl)
receive first w sent heard (Some (Appended v to t j)) came = received_as_it_is first w sent heard (Appended v to t j) tt (came (Appended v to t j) refl)
receive first w sent heard (Some Other) came = received_as_it_is first w sent heard Other tt (came Other refl)
receive first w sent heard (Some (Done v to t j)) came = record {
  got = None;
  delivered = λ m e. absurd (cc);
  plain = λ m p e. absurd (subst SaysTheSame (sym (same_Some (Done v to t j) m e)) p);
  snapshot = λ f t i it ms e. absurd (cc);
}
receive first w sent heard (Some (Snapshot f t i it ms)) came =
    let c = heard.snapshot f t i it ms (came (Snapshot f t i it ms) refl) in
    record {
      got = Some (Append f t 0 0 c.entries c.commit);
      delivered = λ m e. subst (Contains sent) (same_Some (Append f t 0 0 c.entries c.commit) m e) c.is_sent;
      plain = λ m p e. absurd (subst SaysTheSame (sym (same_Some (Snapshot f t i it ms) m e)) p);
      snapshot = λ f' t' i' it' ms' e.
          let ef : f ≡ f' = cc in let et : t ≡ t' = cc in let ei : i ≡ i' = cc in let eit : it ≡ it' = cc in let ems : ms ≡ ms' = cc in (
            record {
              entries = c.entries;
              commit = c.commit;
              covers = subst (λ n. n ≤ c.commit) ei c.covers;
              long = c.long ∙ ei;
              has = subst (λ n. HasTerm c.entries n it') ei (subst (HasTerm c.entries i) eit c.has);
              members = sym ems ∙ c.members;
              is_sent = subst (λ u. Contains sent (Append f' u 0 0 c.entries c.commit)) et (subst (λ u. Contains sent (Append u t 0 0 c.entries c.commit)) ef c.is_sent);
            },
            ap₂ (λ a b. Some (Append a b 0 0 c.entries c.commit)) ef et,
          );
    }

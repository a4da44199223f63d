-- A crash, between two steps or at the end of one, meets the facts. So no other lemma has a case for it.
use Rattle.std.proofs.Common.{◌≡◌, ◌⊎◌, ◌≢◌, ℕ, inl, inr, ⊎_elim, List, [], refl, sym, arith, Contains, le_refl, true≢false}
use Rattle.cp_agreement_facts.specs.Clusters.{Append, Appended, Message, Vote, Voted}
use Rattle.cp_agreement.specs.WholeLogs.{Cluster, Step, Facts, EntriesCreated, FollowsLeader, WinsElection, crash, cut_off}

none_sent : (m : Message) → Contains {X = Message} [] m → ⊥
none_sent m c = omega (arith, c.1)

-- A crash between two steps.
pub crash_meets : (first : List ℕ) (w : Cluster) (m : ℕ) → m ≢ 0 → Facts first w (crash w m)
crash_meets first w m named = record {
  others = record {
    messages_delivered = record { named = named; delivered = λ x e. absurd (cc) };
    terms_and_votes = record { term = le_refl (w.member m).term; vote = λ e ne. refl };
    logs_follow = record {
      log = inl refl;
      append = λ f t p pt es c sent. absurd (none_sent (Append f t p pt es c) sent);
      ask = λ c t lt li sent. absurd (none_sent (Vote c t lt li) sent);
    };
    acknowledged = λ v to t j sent. absurd (none_sent (Appended v to t j) sent);
    commit = inl (omega arith);
  };
  votes_given = λ v c t sent. absurd (none_sent (Voted v c t) sent);
  leaders_elected = record { leads = λ h. absurd (true≢false (sym h)); elected = λ h. absurd (true≢false (sym h)) };
}

-- What a step wrote before a crash cut it off was allowed to it.
pub cut_off_meets : (first : List ℕ) (w : Cluster) (s : Step) → Facts first w s → Facts first w (cut_off s)
cut_off_meets first w s facts = record {
  others = record {
    messages_delivered = record { named = facts.named; delivered = facts.delivered };
    terms_and_votes = record { term = facts.term; vote = facts.vote };
    logs_follow = record {
      log = ⊎_elim inl (⊎_elim created followed) facts.log;
      append = λ f t p pt es c sent. absurd (none_sent (Append f t p pt es c) sent);
      ask = λ c t lt li sent. absurd (none_sent (Vote c t lt li) sent);
    };
    acknowledged = λ v to t j sent. absurd (none_sent (Appended v to t j) sent);
    commit = inl (omega arith);
  };
  votes_given = λ v c t sent. absurd (none_sent (Voted v c t) sent);
  leaders_elected = record {
    leads = λ h. absurd (true≢false (sym h));
    elected = λ h. ⊎_elim inl
        (λ (t : WinsElection first w s). inr (record { vote = t.vote; fresh = t.fresh; spelled = t.spelled; quorum = t.quorum }))
        (facts.elected h);
  };
}
  where
    created : EntriesCreated first w s → (s.after.log ≡ (w.member s.actor).log) ⊎ (EntriesCreated first w (cut_off s) ⊎ FollowsLeader w (cut_off s))
    created = λ (m : EntriesCreated first w s). inr (inl (record {
      entry = m.entry;
      own = m.own;
      leading = m.leading;
      result = m.result;
      change = λ members is. let c = m.change members is in record { one_apart = c.one_apart; settled = c.settled; own = c.own };
    }))

    followed : FollowsLeader w s → (s.after.log ≡ (w.member s.actor).log) ⊎ (EntriesCreated first w (cut_off s) ⊎ FollowsLeader w (cut_off s))
    followed = λ (f : FollowsLeader w s). inr (inr (record {
      came = record { sender = f.came.sender; previous = f.came.previous; previous_term = f.came.previous_term; entries = f.came.entries; commit = f.came.commit; got = f.came.got };
      has = f.has;
      change = f.change;
    }))

pub crashes_meet : (first : List ℕ) (w : Cluster) → ((m : ℕ) → m ≢ 0 → Facts first w (crash w m)) × ((s : Step) → Facts first w s → Facts first w (cut_off s))
crashes_meet first w = (crash_meets first w, cut_off_meets first w)

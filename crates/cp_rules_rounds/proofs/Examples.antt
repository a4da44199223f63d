-- Each act of the example is allowed.
use Rattle.std.proofs.Common.{◌≡◌, ◌≢◌, ℕ, ◌==◌, true, false, List, [], ◌∷◌, length, refl, ap, sym, ◌∙◌, subst, subst₂, Some, None, Contains, nat_lt, slice_index_or, ltb-true, true≢false}
use Rattle.std.proofs.lemmas.Option.{same_Some}
use Rattle.cp_codec.specs.Fields.{big_endian}
use Rattle.cp_grammar.specs.Grammar.{whole}
use Rattle.cp_grammar.specs.Fields.{mark_reading, number_reading}
use Rattle.cp_grammar.specs.Lists.{items_spelling, items_reading}
use Rattle.cp_grammar.specs.Common.{index, client_id, thread_no, invocation, member_after, members as member_list}
use Rattle.cp_parts.specs.Configs.{config_grammar, members_entry, config_in}
use Rattle.cp_parts.specs.Heads.{head_grammar, head_of}
use Rattle.cp_log_rules.specs.Configurations.{config_after}
use Rattle.cp_base.specs.declared.identifier.Invocation.{Invocation}
use Rattle.cp_rules.specs.Persistent.{members}
use Rattle.cp_rules.specs.Local.{Body, PreVote, PreVoteReply, Vote, VoteReply, Append, AppendReply, Confirm, Confirmed, Event, Tick, Got, Propose, ChangeMembers, Read}
use Rattle.cp_rules.specs.Worked.{end_at, empty, call, caller, add, look}
use Rattle.cp_rules_facts.specs.Executions.{LocalCluster, Act, did, stored_after, local_after, IsAllowed, IsExecution}
use Rattle.cp_rules_facts.specs.Soundness.{IsFair}
use Rattle.cp_rules_rounds.specs.Examples.{first, at, until, answering}

got_from : Event → ℕ
got_from (Tick clock may_write expiry machine) = 0
got_from (Got from body) = from
got_from (Propose entry) = 0
got_from (ChangeMembers change plan _) = 0
got_from (Read _ attempt op) = 0

got_body : Event → Body
got_body (Tick clock may_write expiry machine) = Confirm 0 0
got_body (Got from body) = body
got_body (Propose entry) = Confirm 0 0
got_body (ChangeMembers change plan _) = Confirm 0 0
got_body (Read _ attempt op) = Confirm 0 0

-- what was sent at this place comes
comes : (w : LocalCluster) (m from : ℕ) (body : Body) (k : ℕ) → m ≢ 0 → nat_lt k (length w.sent) ≡ true → slice_index_or w.sent k (record { from = from; to = m; body = body }) ≡ record { from = from; to = m; body = body } → IsAllowed w (at m (Got from body))
unfolding got_from got_body
comes w m from body k named low there = record {
  named = named;
  delivered = λ f b e.
      let x : Got from body ≡ Got f b = same_Some (Got from body) (Got f b) e in
      subst₂ (λ (y : ℕ) (z : Body). Contains w.sent (record { from = y; to = m; body = z })) (ap got_from x) (ap got_body x) (k, ltb-true k (length w.sent) low, there);
  fair = λ e is. subst (λ (y : Event). IsFair (w.member m).stored (w.member m).state y) (same_Some (Got from body) e is) tt;
}

-- what comes from no member
asks : (w : LocalCluster) (m : ℕ) (event : Event) → m ≢ 0 → ((from : ℕ) (body : Body) → event ≡ Got from body → ⊥) → IsFair (w.member m).stored (w.member m).state event → IsAllowed w (at m event)
asks w m event named none fair = record {
  named = named;
  delivered = λ f b e. absurd (none f b (same_Some event (Got f b) e));
  fair = λ e is. subst (λ (y : Event). IsFair (w.member m).stored (w.member m).state y) (same_Some event e is) fair;
}

pub answered : (did (local_after first until) answering).answered ≡ look ∷ []
unfolding big_endian whole mark_reading number_reading items_spelling items_reading index client_id thread_no invocation member_after member_list config_grammar members_entry config_in head_grammar head_of config_after
answered = refl

no_call : (c : Invocation) → None ≡ Some c → length c.client.0 ≡ 16
no_call c is = absurd (cc)

abbrev t0 : List Act
t0 = []

abbrev t1 : List Act
t1 = at 1 (Tick 2000 true None None) ∷ t0

abbrev t2 : List Act
t2 = at 2 (Got 1 (PreVote 1 (end_at 0 0))) ∷ t1

abbrev t3 : List Act
t3 = at 1 (Got 2 (PreVoteReply 1 true)) ∷ t2

abbrev t4 : List Act
t4 = at 2 (Got 1 (Vote 1 (end_at 0 0))) ∷ t3

abbrev t5 : List Act
t5 = at 1 (Got 2 (VoteReply 1 true)) ∷ t4

abbrev t6 : List Act
t6 = at 1 (Read caller 1 call) ∷ t5

abbrev t7 : List Act
t7 = at 2 (Got 1 (Append 1 0 0 0 (empty 1 ∷ []))) ∷ t6

abbrev t8 : List Act
t8 = at 1 (Got 2 (AppendReply 1 true 1)) ∷ t7

abbrev t9 : List Act
t9 = at 1 (ChangeMembers (add 4 0) 0 None) ∷ t8

abbrev t10 : List Act
t10 = at 2 (Got 1 (Confirm 1 1)) ∷ t9

abbrev t11 : List Act
t11 = at 1 (Got 2 (Confirmed 1 true 1)) ∷ t10

abbrev t12 : List Act
t12 = at 3 (Got 1 (Confirm 1 1)) ∷ t11

abbrev t13 : List Act
t13 = at 1 (Got 3 (Confirmed 1 true 1)) ∷ t12

-- a member's number is none of the surroundings'
named : (m : ℕ) → (m == 0) ≡ false → m ≢ 0
named m e z = true≢false (sym (ap (λ (n : ℕ). n == 0) z) ∙ e)

act1 : IsAllowed (local_after first t0) (at 1 (Tick 2000 true None None))
unfolding big_endian whole mark_reading number_reading items_spelling items_reading index client_id thread_no invocation member_after member_list config_grammar members_entry config_in head_grammar head_of config_after
act1 = asks (local_after first t0) 1 (Tick 2000 true None None) (named 1 refl) (λ f b e. let z : Tick 2000 true None None ≡ Got f b = e in cc) ((λ e is. let z : None ≡ Some e = is in cc), (λ e is. let z : None ≡ Some e = is in cc))

act2 : IsAllowed (local_after first t1) (at 2 (Got 1 (PreVote 1 (end_at 0 0))))
unfolding big_endian whole mark_reading number_reading items_spelling items_reading index client_id thread_no invocation member_after member_list config_grammar members_entry config_in head_grammar head_of config_after
act2 = comes (local_after first t1) 2 1 (PreVote 1 (end_at 0 0)) 0 (named 2 refl) refl refl

act3 : IsAllowed (local_after first t2) (at 1 (Got 2 (PreVoteReply 1 true)))
unfolding big_endian whole mark_reading number_reading items_spelling items_reading index client_id thread_no invocation member_after member_list config_grammar members_entry config_in head_grammar head_of config_after
act3 = comes (local_after first t2) 1 2 (PreVoteReply 1 true) 2 (named 1 refl) refl refl

act4 : IsAllowed (local_after first t3) (at 2 (Got 1 (Vote 1 (end_at 0 0))))
unfolding big_endian whole mark_reading number_reading items_spelling items_reading index client_id thread_no invocation member_after member_list config_grammar members_entry config_in head_grammar head_of config_after
act4 = comes (local_after first t3) 2 1 (Vote 1 (end_at 0 0)) 3 (named 2 refl) refl refl

act5 : IsAllowed (local_after first t4) (at 1 (Got 2 (VoteReply 1 true)))
unfolding big_endian whole mark_reading number_reading items_spelling items_reading index client_id thread_no invocation member_after member_list config_grammar members_entry config_in head_grammar head_of config_after
act5 = comes (local_after first t4) 1 2 (VoteReply 1 true) 5 (named 1 refl) refl refl

act6 : IsAllowed (local_after first t5) (at 1 (Read caller 1 call))
unfolding big_endian whole mark_reading number_reading items_spelling items_reading index client_id thread_no invocation member_after member_list config_grammar members_entry config_in head_grammar head_of config_after
act6 = asks (local_after first t5) 1 (Read caller 1 call) (named 1 refl) (λ f b e. let z : Read caller 1 call ≡ Got f b = e in cc) tt

act7 : IsAllowed (local_after first t6) (at 2 (Got 1 (Append 1 0 0 0 (empty 1 ∷ []))))
unfolding big_endian whole mark_reading number_reading items_spelling items_reading index client_id thread_no invocation member_after member_list config_grammar members_entry config_in head_grammar head_of config_after
act7 = comes (local_after first t6) 2 1 (Append 1 0 0 0 (empty 1 ∷ [])) 6 (named 2 refl) refl refl

act8 : IsAllowed (local_after first t7) (at 1 (Got 2 (AppendReply 1 true 1)))
unfolding big_endian whole mark_reading number_reading items_spelling items_reading index client_id thread_no invocation member_after member_list config_grammar members_entry config_in head_grammar head_of config_after
act8 = comes (local_after first t7) 1 2 (AppendReply 1 true 1) 10 (named 1 refl) refl refl

act9 : IsAllowed (local_after first t8) (at 1 (ChangeMembers (add 4 0) 0 None))
unfolding big_endian whole mark_reading number_reading items_spelling items_reading index client_id thread_no invocation member_after member_list config_grammar members_entry config_in head_grammar head_of config_after
act9 = asks (local_after first t8) 1 (ChangeMembers (add 4 0) 0 None) (named 1 refl) (λ f b e. let z : ChangeMembers (add 4 0) 0 None ≡ Got f b = e in cc) no_call

act10 : IsAllowed (local_after first t9) (at 2 (Got 1 (Confirm 1 1)))
unfolding big_endian whole mark_reading number_reading items_spelling items_reading index client_id thread_no invocation member_after member_list config_grammar members_entry config_in head_grammar head_of config_after
act10 = comes (local_after first t9) 2 1 (Confirm 1 1) 8 (named 2 refl) refl refl

act11 : IsAllowed (local_after first t10) (at 1 (Got 2 (Confirmed 1 true 1)))
unfolding big_endian whole mark_reading number_reading items_spelling items_reading index client_id thread_no invocation member_after member_list config_grammar members_entry config_in head_grammar head_of config_after
act11 = comes (local_after first t10) 1 2 (Confirmed 1 true 1) 14 (named 1 refl) refl refl

act12 : IsAllowed (local_after first t11) (at 3 (Got 1 (Confirm 1 1)))
unfolding big_endian whole mark_reading number_reading items_spelling items_reading index client_id thread_no invocation member_after member_list config_grammar members_entry config_in head_grammar head_of config_after
act12 = comes (local_after first t11) 3 1 (Confirm 1 1) 9 (named 3 refl) refl refl

act13 : IsAllowed (local_after first t12) (at 1 (Got 3 (Confirmed 1 true 1)))
unfolding big_endian whole mark_reading number_reading items_spelling items_reading index client_id thread_no invocation member_after member_list config_grammar members_entry config_in head_grammar head_of config_after
act13 = comes (local_after first t12) 1 3 (Confirmed 1 true 1) 15 (named 1 refl) refl refl

pub happens : IsExecution first (answering ∷ until)
happens = (act13, (act12, (act11, (act10, (act9, (act8, (act7, (act6, (act5, (act4, (act3, (act2, (act1, tt)))))))))))))

pub configured : members (stored_after (local_after first until) answering) ≡ 1 ∷ 2 ∷ 3 ∷ 4 ∷ []
unfolding big_endian whole mark_reading number_reading items_spelling items_reading index client_id thread_no invocation member_after member_list config_grammar members_entry config_in head_grammar head_of config_after
configured = refl

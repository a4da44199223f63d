-- Why a member refuses a request. A refusal is no answer, and comes without an entry.
use Rattle.std.specs.Prelude.{ℕ, List, Option, Some, None, codes, ◌++◌}
use Rattle.std.specs.Fmt.{decimal}
use Rattle.cp_base.specs.declared.limits.TheConstants.{MOST_MEMBER}
use Rattle.cp_grammar.specs.Grammar.{Grammar, always, keyed, variant, case, no_case}
use Rattle.cp_grammar.specs.Fields.{byte}
use Rattle.cp_grammar.specs.Common.{index}
use Rattle.cp_op_values.specs.Numbers.{any_u32}
use Rattle.cp_answers.specs.declared.refusal.Refusal.{Refusal}
use Rattle.cp_answers.specs.declared.refusal.Refusal.TheVariants as variants

abbrev pub refusal_tag : Refusal → ℕ
refusal_tag (variants.NotLeader leader) = 0
refusal_tag (variants.Overloaded limit) = 1
refusal_tag variants.NoGroup = 2
refusal_tag (variants.IndexEnd index) = 3
refusal_tag (variants.WrongMembers index) = 4
refusal_tag (variants.ChangePending index) = 5
refusal_tag (variants.NoOwnTermCommit term) = 6
refusal_tag variants.AlreadyThere = 7
refusal_tag variants.NotThere = 8
refusal_tag variants.LastMember = 9
refusal_tag variants.Lost = 10

abbrev pub refusal_not_leader : Refusal → Option ℕ
refusal_not_leader (variants.NotLeader leader) = Some leader
refusal_not_leader _ = None

abbrev pub refusal_overloaded : Refusal → Option ℕ
refusal_overloaded (variants.Overloaded limit) = Some limit
refusal_overloaded _ = None

abbrev pub refusal_index_end : Refusal → Option ℕ
refusal_index_end (variants.IndexEnd index) = Some index
refusal_index_end _ = None

abbrev pub refusal_wrong_members : Refusal → Option ℕ
refusal_wrong_members (variants.WrongMembers index) = Some index
refusal_wrong_members _ = None

abbrev pub refusal_change_pending : Refusal → Option ℕ
refusal_change_pending (variants.ChangePending index) = Some index
refusal_change_pending _ = None

abbrev pub refusal_no_own_term_commit : Refusal → Option ℕ
refusal_no_own_term_commit (variants.NoOwnTermCommit term) = Some term
refusal_no_own_term_commit _ = None

unfoldable pub refusal : Grammar ℕ Refusal
refusal = keyed refusal_tag (byte 10)
    (case 0 (variant variants.NotLeader refusal_not_leader (byte MOST_MEMBER))
    (case 1 (variant variants.Overloaded refusal_overloaded any_u32)
    (case 2 (always variants.NoGroup)
    (case 3 (variant variants.IndexEnd refusal_index_end index)
    (case 4 (variant variants.WrongMembers refusal_wrong_members index)
    (case 5 (variant variants.ChangePending refusal_change_pending index)
    (case 6 (variant variants.NoOwnTermCommit refusal_no_own_term_commit index)
    (case 7 (always variants.AlreadyThere)
    (case 8 (always variants.NotThere)
    (case 9 (always variants.LastMember)
    (case 10 (always variants.Lost)
    no_case)))))))))))

abbrev pub refusal_text : Refusal → List ℕ
refusal_text (variants.NotLeader leader) = codes "not-leader " ++ decimal leader
refusal_text (variants.Overloaded limit) = codes "overloaded " ++ decimal limit
refusal_text variants.NoGroup = codes "no-group"
refusal_text (variants.IndexEnd index) = codes "index-end " ++ decimal index
refusal_text (variants.WrongMembers index) = codes "wrong-members " ++ decimal index
refusal_text (variants.ChangePending index) = codes "change-pending " ++ decimal index
refusal_text (variants.NoOwnTermCommit term) = codes "no-own-term-commit " ++ decimal term
refusal_text variants.AlreadyThere = codes "already-there"
refusal_text variants.NotThere = codes "not-there"
refusal_text variants.LastMember = codes "last-member"
refusal_text variants.Lost = codes "lost"

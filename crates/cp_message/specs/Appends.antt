-- Appends: the entries that a leader hands to a follower, and what it is answered.
use Rattle.std.specs.Prelude.{ℕ, List, [], ◌∷◌, ◌++◌, length}
use Rattle.cp_base.specs.declared.limits.TheConstants.{MOST_ENTRY}
use Rattle.cp_grammar.specs.Grammar.{Grammar, mapped, seq, ◌then◌}
use Rattle.cp_grammar.specs.Fields.{flag}
use Rattle.cp_grammar.specs.Common.{index, group_id}
use Rattle.cp_message.specs.Texts.{numbers_text, yes_text}
use Rattle.cp_message.specs.Entries.{entries_after}
use Rattle.cp_message.specs.declared.append.Append.{Append}
use Rattle.cp_message.specs.declared.append.AppendReply.{AppendReply}

-- The entries, which have at most so many bytes each, follow the previous index.
unfoldable pub append_within : ℕ → Grammar ℕ Append
append_within most = mapped
    (λ p. record { group = p.0; term = p.1.0; previous_index = p.1.1.0; previous_term = p.1.1.1.0; commit = p.1.1.1.1.0; entries = p.1.1.1.1.1 })
    (λ a. (a.group, (a.term, (a.previous_index, (a.previous_term, (a.commit, a.entries))))))
    (group_id then index then seq index (λ previous. index then index then entries_after most previous))

-- the newest form
abbrev pub append_newest : Grammar ℕ Append
append_newest = append_within MOST_ENTRY

unfoldable pub append_reply : Grammar ℕ AppendReply
append_reply = mapped (λ p. record { group = p.0; term = p.1.0; accepted = p.1.1.0; index = p.1.1.1 })
    (λ r. (r.group, (r.term, (r.accepted, r.index))))
    (group_id then index then flag then index)

abbrev pub append_text : Append → List ℕ
append_text a = numbers_text (a.group.0 ∷ a.term ∷ a.previous_index ∷ a.previous_term ∷ a.commit ∷ length a.entries ∷ [])

abbrev pub append_reply_text : AppendReply → List ℕ
append_reply_text r = numbers_text (r.group.0 ∷ r.term ∷ []) ++ yes_text r.accepted ++ numbers_text (r.index ∷ [])

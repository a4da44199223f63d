-- Votes: what a candidate asks, and what it is answered. Before it stands for election a member asks the same of the next term.
use Rattle.std.specs.Prelude.{ℕ, List, [], ◌∷◌, ◌++◌}
use Rattle.cp_grammar.specs.Grammar.{Grammar, mapped, ◌then◌}
use Rattle.cp_grammar.specs.Fields.{flag}
use Rattle.cp_grammar.specs.Common.{index, group_id}
use Rattle.cp_message.specs.Texts.{numbers_text, yes_text}
use Rattle.cp_message.specs.declared.vote.VoteRequest.{VoteRequest}
use Rattle.cp_message.specs.declared.vote.VoteReply.{VoteReply}

unfoldable pub vote_request : Grammar ℕ VoteRequest
vote_request = mapped (λ p. record { group = p.0; term = p.1.0; last_index = p.1.1.0; last_term = p.1.1.1 })
    (λ v. (v.group, (v.term, (v.last_index, v.last_term))))
    (group_id then index then index then index)

unfoldable pub vote_reply : Grammar ℕ VoteReply
vote_reply = mapped (λ p. record { group = p.0; term = p.1.0; granted = p.1.1 })
    (λ v. (v.group, (v.term, v.granted)))
    (group_id then index then flag)

abbrev pub vote_request_text : VoteRequest → List ℕ
vote_request_text v = numbers_text (v.group.0 ∷ v.term ∷ v.last_index ∷ v.last_term ∷ [])

abbrev pub vote_reply_text : VoteReply → List ℕ
vote_reply_text v = numbers_text (v.group.0 ∷ v.term ∷ []) ++ yes_text v.granted

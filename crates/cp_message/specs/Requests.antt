-- What clients ask of members, and what they are answered. Operations, answers and refusals stand as their bytes, and the text of these is given.
use Rattle.std.specs.Prelude.{ℕ, List, [], ◌∷◌, ◌++◌}
use Rattle.cp_grammar.specs.Grammar.{Grammar, mapped, ◌then◌}
use Rattle.cp_grammar.specs.Fields.{bytes}
use Rattle.cp_grammar.specs.Common.{index, group_id, thread_no, client_id}
use Rattle.cp_message.specs.Texts.{numbers_text}
use Rattle.cp_message.specs.declared.request.Request.{Request}
use Rattle.cp_message.specs.declared.request.Reply.{Reply}

-- with an operation of at most so many bytes
unfoldable pub request_within : ℕ → Grammar ℕ Request
request_within most = mapped
    (λ p. record { thread = p.0; attempt = p.1.0; restart = p.1.1.0; client = p.1.1.1.0; group = p.1.1.1.1.0; number = p.1.1.1.1.1.0; op = p.1.1.1.1.1.1 })
    (λ r. (r.thread, (r.attempt, (r.restart, (r.client, (r.group, (r.number, r.op)))))))
    (thread_no then index then index then client_id then group_id then index then bytes most)

-- with an answer or a refusal of at most so many bytes
unfoldable pub reply_within : ℕ → Grammar ℕ Reply
reply_within most = mapped
    (λ p. record { thread = p.0; attempt = p.1.0; group = p.1.1.0; number = p.1.1.1.0; bytes = p.1.1.1.1 })
    (λ r. (r.thread, (r.attempt, (r.group, (r.number, r.bytes)))))
    (thread_no then index then group_id then index then bytes most)

abbrev pub request_text : Request → List ℕ → List ℕ
request_text r inner = numbers_text (r.thread.0 ∷ r.attempt ∷ r.restart ∷ r.group.0 ∷ r.number ∷ []) ++ 32 ∷ inner

abbrev pub reply_text : Reply → List ℕ → List ℕ
reply_text r inner = numbers_text (r.thread.0 ∷ r.attempt ∷ r.group.0 ∷ r.number ∷ []) ++ 32 ∷ inner

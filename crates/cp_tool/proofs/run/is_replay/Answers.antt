use Rattle.std.proofs.Common.{string_bytes, ◌∙◌, ap, sym, ◌∷◌, []}
use Rattle.cp_tool.proofs.OneWord.{one_word}
use Rattle.cp_tool.proofs.run.is_replay.Goals as goal

pub returns-in-len1 : goal.returns-in-len1
returns-in-len1 c =
    let one = one_word string_bytes c.args.words.now c.word-item.result c.in-len1.len_at_least c.in-len1.len_below c.word-item.is in
    let a = c.as_str.ensures.value in
    (λ t. one ∙ ap (λ w. w ∷ []) (sym a ∙ c.is_word_replay.ensures.0 t), λ m. c.is_word_replay.ensures.1 (cc))

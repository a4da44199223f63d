use Rattle.std.proofs.Common.{◌++◌, ℕ, List, [], ◌∷◌, length, replicate, refl, ◌∙◌, ap}
use Rattle.cp_journal.proofs.Arrays.{laid, zeros_at}
use Rattle.cp_journal.proofs.append.small_record.Goals as goal

pub returns : goal.returns
returns c =
    laid c.to_be_bytes.result c.args.body.now (replicate 69 0) c.put.new.bytes c.put-2.new.bytes (ap length c.to_be_bytes.ensures) c.requires refl (zeros_at 69) c.put.ensures c.put-2.ensures
    ∙ ap (λ (head : List ℕ). head ++ c.args.body.now ++ 0 ∷ []) c.to_be_bytes.ensures

use Rattle.std.proofs.Common.{◌≡◌, ◌++◌, ℕ, List, [], ◌∷◌, length, get_or, refl, sym, ◌∙◌, ap, arith}
use Rattle.std.specs.Int.{w64, to_be_bytes}
use Rattle.cp_codec.specs.Fields.{big_endian}
use Rattle.cp_grammar.specs.Common.{index, group_id}
use Rattle.cp_parts.specs.Parts.{part_grammar}
use Rattle.cp_parts.proofs.part.state_bytes.Goals as goal

-- the eight bytes of a number, and what follows them
abbrev laid_out : List ℕ → List ℕ → List ℕ
laid_out xs rest = get_or xs 0 0 ∷ get_or xs 1 0 ∷ get_or xs 2 0 ∷ get_or xs 3 0 ∷ get_or xs 4 0 ∷ get_or xs 5 0 ∷ get_or xs 6 0 ∷ get_or xs 7 0 ∷ rest

-- eight bytes, one by one, are these bytes
eight_bytes : (n : ℕ) (xs rest : List ℕ) → xs ≡ to_be_bytes w64 n → laid_out xs rest ≡ to_be_bytes w64 n ++ rest
eight_bytes n xs rest is = ap (λ (l : List ℕ). laid_out l rest) is

pub returns : goal.returns
unfolding part_grammar index group_id big_endian
returns c =
    let second = eight_bytes c.args.term c.to_be_bytes-2.result (c.args.vote ∷ []) c.to_be_bytes-2.ensures in
    ap (λ (l : List ℕ). 2 ∷ l) (eight_bytes c.args.group.0 c.to_be_bytes.result (laid_out c.to_be_bytes-2.result (c.args.vote ∷ [])) c.to_be_bytes.ensures
    ∙ ap (λ (l : List ℕ). to_be_bytes w64 c.args.group.0 ++ l) second)

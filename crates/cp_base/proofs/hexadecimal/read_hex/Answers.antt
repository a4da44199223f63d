use Rattle.std.proofs.Common.{sym, ap, ◌∙◌, ◌≡◌}
use Rattle.hex.specs.Hex.{encode_lower}
use Rattle.cp_base.proofs.HexadecimalLemmas.{no_digits, other_digits}
use Rattle.cp_base.proofs.hexadecimal.read_hex.Goals as goal

pub returns-in_default : goal.returns-in_default
returns-in_default c = no_digits c.args.text.now c.in-Err.error c.in-Err.ensures.err c.in_default.not-OutOfMemory

pub returns-else-eq : goal.returns-else-eq
returns-else-eq c =
    let written : c.as_bytes.result.now ≡ encode_lower c.in-Ok.bytes.items = c.as_bytes.ensures.value ∙ c.in-Ok-encode.ensures ∙ ap encode_lower c.as_slice.ensures.value in
    other_digits c.args.text.now c.in-Ok.bytes.items c.in-Ok.ensures.ok c.as_bytes.result.now written (sym c.eq.ensures ∙ c.if-eq.false)

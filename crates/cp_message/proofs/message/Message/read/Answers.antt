use Rattle.std.proofs.Common.{arith}
use Rattle.cp_codec.proofs.Wide.{bytes_from}
use Rattle.cp_grammar.specs.Grammar.{whole}
use Rattle.cp_message.specs.declared.message.Message.{Message}
use Rattle.cp_message.specs.Messages.{any_version}
use Rattle.cp_message.proofs.Versions.{is_told, is_spelled, is_writable, fails_no_more, same_told}
use Rattle.cp_message.proofs.message.Message.read.Goals as goal

pub returns-in-Ok-clause-found : goal.returns-in-Ok-clause-found
returns-in-Ok-clause-found c =
    let good = bytes_from c.args.bytes.now (λ i. omega (arith, c.type_inv.bytes i)) in
    (c.in-Ok.versioned.0, is_spelled c.args.bytes.now c.in-Ok.versioned good c.in-Ok.ensures)

pub returns-in-Ok-clause-fits : goal.returns-in-Ok-clause-fits
returns-in-Ok-clause-fits c =
    let good = bytes_from c.args.bytes.now (λ i. omega (arith, c.type_inv.bytes i)) in
    is_writable c.args.bytes.now c.in-Ok.versioned good c.in-Ok.ensures

pub returns-in-Ok-clause-only : goal.returns-in-Ok-clause-only
returns-in-Ok-clause-only c = λ version value spelled. same_told (whole any_version c.args.bytes.now) c.in-Ok.versioned (version, value) c.in-Ok.ensures (is_told version value c.args.bytes.now spelled)

pub returns-in-Err-clause-only : goal.returns-in-Err-clause-only
returns-in-Err-clause-only c = λ version value spelled.
    fails_no_more {B = Message} c.in-Err.error (whole any_version c.args.bytes.now) (version, value) value c.in-Err.ensures (is_told version value c.args.bytes.now spelled)

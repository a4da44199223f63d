use Rattle.std.proofs.Common.{◌≡◌, ◌++◌, IfOk, arith, subst}
use Rattle.cp_snapshot.specs.Assemblers.{received, held}
use Rattle.cp_snapshot.specs.Decisions.{told, joined_to}
use Rattle.cp_snapshot.proofs.Joins.{whole_on}
use Rattle.cp_snapshot.proofs.assembler.Assembler.take.Goals as goal

pub returns-in-On-clause-whole : goal.returns-in-On-clause-whole
returns-in-On-clause-whole c = λ ok.
    let bytes = c.tidy.new.self.bytes.items in
    let far = c.go_on.ensures.progress in
    whole_on c.args.chunk.now c.tidy.new.self.source c.tidy.new.self.kept bytes (held c.go_on.new.self) (received c.args.self.now) c.received_of-received.result
    (omega (arith, c.tidy.ensures.tidy.all))
    c.tidy.ensures.received
    c.received_of-received.ensures
    c.in-On.ensures
    (subst (λ r. IfOk r (λ p. p ≡ told (joined_to c.args.chunk.now.last (bytes ++ c.args.chunk.now.bytes)))) ok far)
    (c.go_on.ensures.whole ok)

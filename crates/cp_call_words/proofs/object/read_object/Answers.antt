use Rattle.cp_call_words.proofs.ObjectWords.{named_alone}
use Rattle.cp_call_words.proofs.object.read_object.Goals as goal

pub returns-in-Some : goal.returns-in-Some
returns-in-Some c =
    let read = rw c.in-Some.is at c.in_ok-name.ensures in
    named_alone c.args.managed c.args.word.now c.in-Some.name read.0 read.1

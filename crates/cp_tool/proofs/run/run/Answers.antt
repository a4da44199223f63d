use Rattle.std.proofs.Common.{inr}
use Rattle.cp_tool.proofs.Promises.{replays, replays_front}
use Rattle.cp_tool.proofs.run.run.Goals as goal

pub returns-in-Ok-write_all-clause-done : goal.returns-in-Ok-write_all-clause-done
returns-in-Ok-write_all-clause-done g c = λ done words.
    replays (g.S.Source.left c.args.source.now) (g.S.Source.left c.read_all.new.source) c.in-Ok.bytes.items c.in-Ok-read.schedule
    (g.K.Sink.written c.args.sink.now) (g.K.Sink.written c.write_all.new.sink) c.in-Ok-transcript.text.items
    c.in-Ok.ensures.ok (rw c.deref.ensures.value at c.in-Ok-read.ensures.found) c.in-Ok-transcript.ensures
    (rw c.deref-2.ensures.value at c.in-Ok-write_all.ensures.ok)

pub returns-in-Err-Failed-write_all-clause-front : goal.returns-in-Err-Failed-write_all-clause-front
returns-in-Err-Failed-write_all-clause-front g c = λ fault.
    replays_front (g.S.Source.left c.args.source.now) (g.S.Source.left c.read_all.new.source) c.in-Ok.bytes.items c.in-Ok-read.schedule
    (g.K.Sink.written c.args.sink.now) (g.K.Sink.written c.write_all.new.sink) c.in-Ok-transcript.text.items
    c.in-Ok.ensures.ok (rw c.deref.ensures.value at c.in-Ok-read.ensures.found) c.in-Ok-transcript.ensures
    (rw c.deref-2.ensures.value at c.in-Err-Failed-write_all.ensures.front)

pub returns-clause-no_memory : goal.returns-clause-no_memory
returns-clause-no_memory g c = λ starved. inr
    (replays_front (g.S.Source.left c.args.source.now) (g.S.Source.left c.read_all.new.source) c.in-Ok.bytes.items c.in-Ok-read.schedule
    (g.K.Sink.written c.args.sink.now) (g.K.Sink.written c.write_all.new.sink) c.in-Ok-transcript.text.items
    c.in-Ok.ensures.ok (rw c.deref.ensures.value at c.in-Ok-read.ensures.found) c.in-Ok-transcript.ensures
    (rw c.deref-2.ensures.value at c.in-Err-NoMemory-write_all.ensures.front))

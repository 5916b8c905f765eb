use Rattle.std.proofs.Common.{[], refl}
use Rattle.text_output.proofs.Sinks.{given}
use Rattle.text_output.proofs.sink_output.SinkOutput.give.Goals as goal

pub returns-clause-takes : goal.returns-clause-takes
returns-clause-takes g c =
    rw (c.is_err-self.ensures.value, c.requires)
    (given (record { name = c.args.self.now.sink.ghost_name; written = g.K.Sink.written c.args.self.now.sink.now; faults = g.K.Sink.faults c.args.self.now.sink.now; waiting = []; failed = c.args.self.now.failed })
    (g.K.Sink.written c.put.new.sink) (g.K.Sink.faults c.put.new.sink) c.put.result c.args.bytes.now c.args.bytes.now c.if-self.false refl c.put.ensures.whole c.put.ensures.part c.put.ensures.cause)

use Rattle.std.proofs.Common.{[], sym, ◌∙◌}
use Rattle.std.proofs.lemmas.List.{append-nil}
use Rattle.text_output.proofs.Sinks.{given, dropped}
use Rattle.text_output.proofs.sink_output.SinkOutput.flush.Goals as goal

pub returns-clause-takes : goal.returns-clause-takes
returns-clause-takes g c =
    rw (c.is_err-self.ensures.value, c.clear-2.ensures)
    (given (record { name = c.args.self.now.sink.ghost_name; written = g.K.Sink.written c.args.self.now.sink.now; faults = g.K.Sink.faults c.args.self.now.sink.now; waiting = c.args.self.now.waiting; failed = c.args.self.now.failed })
    (g.K.Sink.written c.put.new.sink) (g.K.Sink.faults c.put.new.sink) c.put.result c.text.result.now [] c.if-self.false (c.text.ensures ∙ sym (append-nil c.args.self.now.waiting)) c.put.ensures.whole c.put.ensures.part c.put.ensures.cause)

pub returns-then-self-clause-takes : goal.returns-then-self-clause-takes
returns-then-self-clause-takes g c =
    dropped (record { name = c.args.self.now.sink.ghost_name; written = g.K.Sink.written c.args.self.now.sink.now; faults = g.K.Sink.faults c.args.self.now.sink.now; waiting = c.args.self.now.waiting; failed = c.args.self.now.failed }) _ [] c.if-self.true

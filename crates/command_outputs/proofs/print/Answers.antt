use Rattle.command_outputs.proofs.Saying.{prints_from_flush}
use Rattle.command_outputs.proofs.print.Goals as goal

pub returns : goal.returns
returns g c =
    prints_from_flush c.args.text.now (g.O.Sink.shown c.args.out.now) (g.O.Sink.shown c.write.new.self) c.flush.result (g.O.Sink.shown c.flush.new.self) c.in_ok-write.ensures.ok c.in_ok-write.ensures.faults c.flush.ensures

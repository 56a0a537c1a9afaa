use Rattle.command_outputs.proofs.Saying.{says_from_write}
use Rattle.command_outputs.proofs.say.Goals as goal

pub returns : goal.returns
returns g c =
    says_from_write c.args.line.now (g.E.Sink.shown c.args.err.now) c.write.result (g.E.Sink.shown c.write.new.self) c.write.ensures

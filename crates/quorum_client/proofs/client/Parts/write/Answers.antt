-- A write: the round is all of it.
use Rattle.quorum_client.proofs.Called.{called_after_write, ready_after_write}
use Rattle.quorum_client.proofs.client.Parts.write.Goals as goal

pub returns-clause-ready : goal.returns-clause-ready
returns-clause-ready g c =
    ready_after_write c.args.self.now c.round.new.self c.args.call.now c.round.result c.requires.ready c.requires.left c.round.ensures

pub returns-clause-called : goal.returns-clause-called
returns-clause-called g c =
    called_after_write c.args.self.now c.round.new.self c.args.call.now c.round.result c.round.ensures c.requires.kind c.requires.left c.requires.next

-- A read: after the round come its answer and its repairs.
use Rattle.std.proofs.Common.{refl, ap, arith}
use Rattle.quorum_client.proofs.Sent.{all_fewer}
use Rattle.quorum_client.proofs.Called.{called_after_read, ready_after_read, routes_asked}
use Rattle.quorum_client.proofs.client.Parts.read.Goals as goal

pub send_repairs-requires-clause-ready : goal.send_repairs-requires-clause-ready
send_repairs-requires-clause-ready g c =
    rw c.round-entry.ensures.client
    (all_fewer c.args.self.now.number 1 _ c.round-entry.new.self.routes.items (omega arith)
    (routes_asked c.args.self.now c.round-entry.new.self c.args.call.now _ c.round-entry.result c.requires.ready c.requires.left c.round-entry.ensures))

pub returns-clause-ready : goal.returns-clause-ready
returns-clause-ready g c =
    ready_after_read c.args.self.now c.round-entry.new.self _ c.args.call.now c.round-entry.result _ c.requires.ready c.requires.left
    c.round-entry.ensures refl c.send_repairs.ensures

pub returns-clause-called : goal.returns-clause-called
returns-clause-called g c =
    let after = record c.round-entry.new.self { routes = c.send_repairs.new.routes } in
    called_after_read c.args.self.now c.round-entry.new.self after c.args.call.now c.round-entry.result _ c.round-entry.ensures
    c.requires.kind c.requires.left c.requires.next refl
    (ap (λ t. t.value) c.freshest-best.ensures) c.send_repairs.ensures

-- A route for five notes serves a client of two calls.
use Rattle.std.proofs.Common.{arith, ◌+◌, ◌*◌, length}
use Rattle.quorum_client.proofs.Sent.{all_fewer}
use Rattle.quorum_client.proofs.tests.only_client.Goals as goal

pub new-requires-clause-routes : goal.new-requires-clause-routes
new-requires-clause-routes c = all_fewer 0 (2 * length c.args.calls + 1) 5 c.args.routes.items (omega arith) c.requires.routes

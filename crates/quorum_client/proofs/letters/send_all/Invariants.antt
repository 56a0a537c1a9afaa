-- A note that goes to every replica, as far as it has gone.
use Rattle.std.proofs.Common.{◌≡◌, [], ◌∷◌, ◌++◌, map, take, drop}
use Rattle.quorum_client.specs.Routes.{with_sent}
use Rattle.quorum_client.proofs.letters.send_all.Given as goal

abbrev pub invariant-loop-route : goal.invariant-loop-route
invariant-loop-route g l = l.route-items ≡ map (with_sent (l.note ∷ [])) (take l.route-index l.fn.routes.items) ++ drop l.route-index l.fn.routes.items

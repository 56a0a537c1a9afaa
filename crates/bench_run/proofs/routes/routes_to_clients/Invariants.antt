-- The routes to the inboxes so far.
use Rattle.std.proofs.Common.{◌≡◌, ◌++◌, map, take, drop}
use Rattle.std.specs.List.{AllZip}
use Rattle.bench_run.specs.Openings.{replies_without, IsFirstReplyRoute}
use Rattle.bench_run.proofs.routes.routes_to_clients.Given as goal

abbrev pub invariant-loop-inbox : goal.invariant-loop-inbox
invariant-loop-inbox g l = record {
  inboxes : l.inbox-items ≡ map (replies_without l.replica l.budget) (take l.inbox-index l.fn.inboxes.items) ++ drop l.inbox-index l.fn.inboxes.items;
  routes : AllZip (IsFirstReplyRoute l.replica l.budget) (take l.inbox-index l.fn.inboxes.items) l.routes.items;
}

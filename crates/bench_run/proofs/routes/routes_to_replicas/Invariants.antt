-- The routes to the boxes so far.
use Rattle.std.proofs.Common.{◌≡◌, ◌++◌, map, take, drop}
use Rattle.std.specs.List.{AllZip}
use Rattle.bench_run.specs.Openings.{notes_without, IsFirstRoute}
use Rattle.bench_run.proofs.routes.routes_to_replicas.Given as goal

abbrev pub invariant-loop-notes : goal.invariant-loop-notes
invariant-loop-notes g l = record {
  boxes : l.notes-items ≡ map (notes_without l.client l.budget) (take l.notes-index l.fn.boxes.items) ++ drop l.notes-index l.fn.boxes.items;
  routes : AllZip (IsFirstRoute l.client l.budget) (take l.notes-index l.fn.boxes.items) l.routes.items;
}

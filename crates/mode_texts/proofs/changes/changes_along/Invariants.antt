-- What was fed, and the changes so far.
use Rattle.std.proofs.Common.{◌≡◌, length, take}
use Rattle.mode_texts.specs.LiveSteps.{AreChangesSoFar}
use Rattle.mode_texts.proofs.changes.changes_along.Given as goal

abbrev pub invariant-loop-op : goal.invariant-loop-op
invariant-loop-op l = record {
  fed : l.live.fed ≡ take l.op-index l.ops;
  places : l.live.places ≡ length l.ops;
  values : l.live.values ≡ l.values;
  changes : AreChangesSoFar (take l.op-index l.ops) l.changes.items l.score;
}

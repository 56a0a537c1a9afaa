-- What was taken so far.
use Rattle.std.proofs.Common.{◌≡◌}
use mathlib.Core.List.{IsPrefix}
use Rattle.key_recorder.proofs.log.ShardLog.drain.Given as goal

abbrev pub invariant-loop : goal.invariant-loop
invariant-loop g l = record {
  more : IsPrefix l.fn.self.taken l.self.taken;
  rest : l.self ≡ record l.fn.self { taken = l.self.taken; empties = l.self.empties };
}

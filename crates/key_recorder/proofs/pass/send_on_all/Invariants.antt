-- A letter that goes to every shard, as far as it has gone.
use Rattle.std.proofs.Common.{◌≡◌, ◌++◌, map, take, drop}
use Rattle.key_recorder.specs.Passes.{sent_on}
use Rattle.key_recorder.proofs.pass.send_on_all.Given as goal

abbrev pub invariant-loop-k : goal.invariant-loop-k
invariant-loop-k g l = l.lanes.items ≡ map (sent_on l.letter) (take l.k l.fn.lanes.items) ++ drop l.k l.fn.lanes.items

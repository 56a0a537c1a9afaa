-- The entries of the logs so far.
use Rattle.std.proofs.Common.{◌≡◌, take}
use Rattle.std.specs.Prelude.{flat_map}
use Rattle.key_recorder.specs.Letters.{entries_in}
use Rattle.key_recorder.proofs.collected.all_entries.Given as goal

abbrev pub invariant-loop-log : goal.invariant-loop-log
invariant-loop-log l = l.entries.items ≡ flat_map (λ g. entries_in g.taken) (take l.log-index l.logs)

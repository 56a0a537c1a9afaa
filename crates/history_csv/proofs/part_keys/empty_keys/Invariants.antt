use Rattle.std.proofs.Common.{◌≡◌, [], map, take}
use Rattle.history_csv.specs.Numbering.{key_ops}
use Rattle.history_csv.specs.Parting.{slices_shown}
use Rattle.history_csv.proofs.part_keys.empty_keys.Given as goal

abbrev pub invariant-loop-place : goal.invariant-loop-place
invariant-loop-place l = l.keys.items ≡ map (key_ops []) (slices_shown (take l.place l.names))

use Rattle.std.proofs.Common.{◌≡◌, map, take}
use Rattle.history_csv.specs.Numbering.{distinct, key_ops}
use Rattle.history_csv.specs.Parting.{names_in}
use Rattle.history_csv.proofs.part_keys.fill.Given as goal

abbrev pub invariant-loop-place : goal.invariant-loop-place
invariant-loop-place l = l.keys.items ≡ map (key_ops (take l.place l.block)) (distinct (names_in l.block))

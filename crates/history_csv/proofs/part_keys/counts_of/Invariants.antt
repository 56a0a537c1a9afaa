use Rattle.std.proofs.Common.{◌≡◌, map, take}
use Rattle.std.specs.List.{range_with_len}
use Rattle.history_csv.specs.Parting.{times_in}
use Rattle.history_csv.proofs.part_keys.counts_of.Given as goal

abbrev pub invariant-loop-place : goal.invariant-loop-place
invariant-loop-place l = l.counts.items ≡ map (times_in (take l.place l.numbers)) (range_with_len 0 l.count)

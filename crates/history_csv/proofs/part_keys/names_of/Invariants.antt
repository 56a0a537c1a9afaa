use Rattle.std.proofs.Common.{◌≡◌, map, take}
use Rattle.history_csv.specs.Numbering.{distinct}
use Rattle.history_csv.specs.Parting.{names_in, place_in, slices_shown}
use Rattle.history_csv.proofs.part_keys.names_of.Given as goal

abbrev pub invariant-loop-place : goal.invariant-loop-place
invariant-loop-place l = record {
  names : slices_shown l.names.keys ≡ distinct (names_in (take l.place l.block));
  places : l.places.items ≡ map (place_in (distinct (names_in (take l.place l.block)))) (take l.place l.block);
}

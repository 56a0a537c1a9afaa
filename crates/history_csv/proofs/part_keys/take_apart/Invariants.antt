use Rattle.std.proofs.Common.{◌≡◌, ◌++◌, length, map}
use Rattle.std.specs.Vec.Iter.{into_iter_items, into_iter_len}
use Rattle.history_csv.specs.Numbering.{keys_of}
use Rattle.history_csv.specs.Parting.{with_first}
use Rattle.history_csv.proofs.part_keys.take_apart.Given as goal

abbrev pub invariant-loop-key : goal.invariant-loop-key
invariant-loop-key l = record {
  counted : into_iter_len l.key-iterator ≡ length (into_iter_items l.key-iterator);
  found : l.found.items ++ map with_first (into_iter_items l.key-iterator) ≡ l.fn.found.items ++ map with_first (keys_of l.fn.block);
}

use Rattle.std.proofs.Common.{◌≡◌, ◌≤◌, ◌++◌, List, All, length, map}
use Rattle.std.specs.List.{flat_map}
use Rattle.std.specs.Vec.Iter.{into_iter_items, into_iter_len}
use Rattle.history_csv.specs.Entries.{Entry, most_records}
use Rattle.history_csv.specs.Numbering.{keys_of}
use Rattle.history_csv.specs.Parting.{with_first}
use Rattle.history_csv.proofs.parts.keys_of_parts.Given as goal

abbrev pub invariant-loop-part : goal.invariant-loop-part
invariant-loop-part l = record {
  counted : into_iter_len l.part-iterator ≡ length (into_iter_items l.part-iterator);
  few : All (λ (part : List Entry). length part ≤ most_records) (into_iter_items l.part-iterator);
  found : l.found.items ++ map with_first (flat_map keys_of (into_iter_items l.part-iterator)) ≡ map with_first (flat_map keys_of l.fn.parts.items);
}

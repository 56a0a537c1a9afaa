use Rattle.std.proofs.Common.{◌≡◌, ◌++◌, length, map}
use Rattle.std.specs.Vec.Iter.{into_iter_items, into_iter_len}
use Rattle.history_csv.proofs.parts.without_records.Given as goal

abbrev pub invariant-loop-key : goal.invariant-loop-key
invariant-loop-key l = record {
  counted : into_iter_len l.key-iterator ≡ length (into_iter_items l.key-iterator);
  keys : l.keys.items ++ map (λ key. key.1) (into_iter_items l.key-iterator) ≡ map (λ key. key.1) l.fn.found.items;
}

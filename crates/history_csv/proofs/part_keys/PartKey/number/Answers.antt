use Rattle.std.proofs.Common.{◌<◌, not, length, arith}
use Rattle.std.proofs.lemmas.List.Sums.{prefix_len-le-length}
use Rattle.std.specs.Str.{bytes_eq}
use Rattle.history_csv.specs.Entries.{most_records}
use Rattle.history_csv.specs.Parting.{values_shown}
use Rattle.history_csv.proofs.part_keys.PartKey.number.Goals as goal

pub overflow_cast-result : goal.overflow_cast-result
overflow_cast-result c =
    let values = values_shown c.self.inside.values in
    let few : length values < most_records = rw (← c.self.view_is) at c.requires in
    omega (arith, c.in_ok-place.ensures.place, prefix_len-le-length (λ x. not (bytes_eq c.args.value.now x)) values)

pub overflow_add-result : goal.overflow_add-result
overflow_add-result c =
    let values = values_shown c.self.inside.values in
    let few : length values < most_records = rw (← c.self.view_is) at c.requires in
    omega (arith, c.in_ok-place.ensures.place, prefix_len-le-length (λ x. not (bytes_eq c.args.value.now x)) values)

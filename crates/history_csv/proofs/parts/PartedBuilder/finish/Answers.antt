use Rattle.std.proofs.Common.{not, arith}
use Rattle.history_csv.specs.Entries.{Entry, most_records}
use Rattle.history_csv.specs.Numbering.{is_skipped, kept}
use Rattle.history_csv.proofs.KeyFacts.{filter-shorter}
use Rattle.history_csv.proofs.PartsFacts.{history-parted, parts-few}
use Rattle.history_csv.proofs.parts.PartedBuilder.finish.Goals as goal

pub keys_of_parts-requires : goal.keys_of_parts-requires
keys_of_parts-requires c =
    let (entries, parted, few) = c.requires in
    let fewer = filter-shorter (λ (x : Entry). not (is_skipped x)) entries in
    rw parted.parts (parts-few (kept entries) most_records (omega arith))

pub returns : goal.returns
returns c = λ entries parted rise.
    let (sorted, permuted, up, keys) = c.in_ok-in_order.ensures in
    history-parted entries _ c.in_ok-found.found.items sorted c.args.self.parts.items rise parted.parts c.in_ok-found.ensures permuted up keys parted.records parted.skipped

use Rattle.std.proofs.Common.{◌≤◌, List, length, ap, arith}
use Rattle.std.specs.Vec.Iter.{into_iter_items}
use Rattle.std.proofs.lemmas.List.Elements.{All-rest}
use Rattle.history_csv.specs.Entries.{Entry, most_records}
use Rattle.history_csv.proofs.PartsFacts.{keys-next}
use Rattle.history_csv.proofs.parts.keys_of_parts.Goals as goal

pub loop-part-preserved : goal.loop-part-preserved
loop-part-preserved c =
    let left = into_iter_items c.loop-part.part-iterator in
    let rest = into_iter_items c.next.new.self in
    let (next, fewer) = c.in-Some.ensures.steps in
    let so_far = c.loop-part.invariant in
    record {
      counted = omega (arith, ap length next, so_far.counted);
      few = All-rest (λ (part : List Entry). length part ≤ most_records) c.in-Some.part rest left next so_far.few;
      found = keys-next c.loop-part.found.items c.take_apart.new.found.items _ c.in-Some.part rest left next c.in_ok-take_apart.ensures so_far.found;
    }

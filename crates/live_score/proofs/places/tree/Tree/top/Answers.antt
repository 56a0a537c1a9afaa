use Rattle.std.proofs.Common.{sym, ◌∙◌}
use Rattle.live_score.specs.Trees.{places_of}
use Rattle.live_score.proofs.Greatest.{top_of_parts}
use Rattle.live_score.proofs.places.tree.Tree.top.Goals as goal

pub returns-in-Node : goal.returns-in-Node
returns-in-Node c =
    let (size, top, first, second) = rw c.in-Node.is at c.requires in
    rw c.in-Node.is (top ∙ sym (top_of_parts (places_of c.in-Node.field-0.value) (places_of c.in-Node.field-3.value)))

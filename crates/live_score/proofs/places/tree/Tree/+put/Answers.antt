use Rattle.std.proofs.Common.{arith}
use Rattle.std.proofs.lemmas.List.{set-append_left, set-append_right}
use Rattle.live_score.specs.Trees.{places_of}
use Rattle.live_score.proofs.places.tree.Tree.+put.Goals.{then-at-size, else-at-size}
use Rattle.live_score.proofs.places.tree.Tree.+put.Goals as goal

pub returns-after-at-size-clause-places : goal.returns-after-at-size-clause-places
returns-after-at-size-clause-places t c =
    let left = places_of c.in-Node.left.value in
    let right = places_of c.in-Node.right.value in
    let (size, top, first, second) = rw c.in-Node.is at c.requires.summed in
    elim c.if-at-size.branch [
      | then-at-size w ↦
          let low = w.if-at-size.true in
          let e = set-append_left left right c.args.at c.args.place (omega arith) in
          grind (arith, e)
      | else-at-size w ↦
          let high = w.if-at-size.false in
          let e = set-append_right left right c.in-Node.size c.args.at c.args.place (omega arith) high in
          grind (arith, e)
    ]

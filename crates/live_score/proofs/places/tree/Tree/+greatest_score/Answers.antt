use Rattle.std.proofs.Common.{arith}
use Rattle.live_score.specs.Trees.{places_of}
use Rattle.live_score.proofs.Greatest.{goes_left, goes_right, first_rises, second_rises}
use Rattle.live_score.proofs.places.tree.Tree.+greatest_score.Goals as goal

pub returns-then-side-reached : goal.returns-then-side-reached
returns-then-side-reached t c rises =
    let left = places_of c.in-Node.left.value in
    let right = places_of c.in-Node.right.value in
    let rising = rw c.in-Node.is at rises in
    let e = goes_left left right rising c.args.c.now in
    let r = first_rises left right rising in
    grind (arith, e, r)

pub returns-else-side-reached : goal.returns-else-side-reached
returns-else-side-reached t c rises =
    let left = places_of c.in-Node.left.value in
    let right = places_of c.in-Node.right.value in
    let rising = rw c.in-Node.is at rises in
    let e = goes_right c.args.c.now left right in
    let r = second_rises left right rising in
    grind (arith, e, r)

use Rattle.live_score.specs.Places.{AreRising}
use Rattle.live_score.specs.Trees.{places_of}
use Rattle.live_score.proofs.Greatest.{greatest_is_bound}
use Rattle.live_score.proofs.places.Places.greatest_score.Goals as goal

pub returns : goal.returns
returns c rising bound =
    let at : AreRising (places_of c.self.inside.tree) = rw c.self.view_is rising in
    let most = c.greatest_score.ensures at in
    rw (most, c.self.view_is) (greatest_is_bound c.args.c.now bound c.args.self.now)

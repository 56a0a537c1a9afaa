use Rattle.std.proofs.Common.{◌<◌, ◌≤◌, rules}
use Rattle.std.proofs.lemmas.Iterator.{first_from_find, YieldsList-from_slice}
use Rattle.std.proofs.lemmas.Option.{MatchOption-at_some}
use Rattle.stale_model.specs.Zones.{last_start}
use Rattle.zones.proofs.Pairs.{pair_from_first}
use Rattle.zones.proofs.pair_of.Goals as goal

pub returns : goal.returns
returns c =
    let d = c.args.d in
    let zones = c.args.zones.now in
    let j = c.in_ok-later.later in
    let found = first_from_find _ _ c.find.result (λ z. j.f < last_start d z) (λ z. last_start d z ≤ j.f) c.find.ensures.ran (YieldsList-from_slice zones cc) (λ x q k. search rules) (λ x q k. search rules) in
    let (above, place, within, at, low) = MatchOption-at_some _ _ _ c.in_ok-earlier.was found in
    pair_from_first d zones _ j place c.in_ok-later.ensures within at above low

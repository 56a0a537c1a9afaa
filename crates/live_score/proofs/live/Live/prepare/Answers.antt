-- The rows and the places are those of absent alone.
use Rattle.std.proofs.Common.{◌+◌, List, length, ◌∙◌, ap, arith}
use Rattle.std.proofs.lemmas.List.{length-replicate, length-set}
use Rattle.live_score.specs.declared.places.Place.{Place}
use Rattle.live_score.specs.Places.{unused}
use Rattle.live_score.proofs.Starting.{kept_first}
use Rattle.live_score.proofs.live.Live.prepare.Goals as goal

pub invariant_of-result : goal.invariant_of-result
invariant_of-result c =
    let none = c.in-Ok.ensures.len in
    let first : Place = record { f = 0; w = 0; s = 0 } in
    record {
      kept = kept_first c.args.values c.args.places c.in-Ok.fed.items c.in_ok-rows.rows.items c.in_ok-tree.tree c.put.new.self c.in-Ok.ensures.items c.in_ok-rows.ensures c.in_ok-tree.ensures c.put.ensures;
      within = omega arith;
      room = c.in-Ok.ensures.capacity;
      enough = ap (λ (l : List Place). length l) c.put.ensures ∙ (length-set c.in_ok-tree.tree 0 first ∙ (ap (λ (l : List Place). length l) c.in_ok-tree.ensures ∙ length-replicate (c.args.places + 1) unused));
    }

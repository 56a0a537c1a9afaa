-- The route to one box more.
use Rattle.std.proofs.Common.{◌≡◌, ◌+◌, ◌<◌, length, take, true, ap, sym, ◌∙◌, subst, arith}
use Rattle.std.specs.Prelude.{is_ok}
use Rattle.std.specs.List.{AllZip}
use Rattle.std.proofs.lemmas.Grind.{common_steps}
use Rattle.std.proofs.lemmas.List.Edits.{map_over_more}
use Rattle.bench_run.specs.Openings.{notes_without, IsFirstRoute}
use Rattle.bench_run.proofs.Pairs.{made_more}
use Rattle.bench_run.proofs.routes.routes_to_replicas.Goals as goal

pub loop-notes-preserved : goal.loop-notes-preserved
loop-notes-preserved g c =
    let at = c.loop-notes in
    let xs = c.args.boxes.now.items in
    let less : at.notes-index < length xs = omega arith in
    let went : is_ok c.push.result ≡ true = sym c.map_err.ensures.variant ∙ ap is_ok c.in_ok-map_err.was in
    let pushed = rw went at c.push.ensures.items in
    record {
      boxes = grind (arith, common_steps, map_over_more (notes_without c.args.client c.args.budget));
      routes = subst (λ l. AllZip (IsFirstRoute c.args.client c.args.budget) (take (at.notes-index + 1) xs) l) (sym pushed)
          (made_more (IsFirstRoute c.args.client c.args.budget) (notes_without c.args.client c.args.budget) xs at.notes-items at.routes.items at.notes-index c.notes-item.result c.in_ok-route.route
          less at.invariant.boxes c.in_ok-route.ensures.route at.invariant.routes);
    }

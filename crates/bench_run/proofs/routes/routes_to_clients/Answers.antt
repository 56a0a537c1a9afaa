-- The route to one box more.
use Rattle.std.proofs.Common.{◌≡◌, ◌+◌, ◌<◌, length, take, true, ap, sym, ◌∙◌, subst, arith}
use Rattle.std.specs.Prelude.{is_ok}
use Rattle.std.specs.List.{AllZip}
use Rattle.std.proofs.lemmas.Grind.{common_steps}
use Rattle.std.proofs.lemmas.List.Edits.{map_over_more}
use Rattle.bench_run.specs.Openings.{replies_without, IsFirstReplyRoute}
use Rattle.bench_run.proofs.Pairs.{made_more}
use Rattle.bench_run.proofs.routes.routes_to_clients.Goals as goal

pub loop-inbox-preserved : goal.loop-inbox-preserved
loop-inbox-preserved g c =
    let at = c.loop-inbox in
    let xs = c.args.inboxes.now.items in
    let less : at.inbox-index < length xs = omega arith in
    let went : is_ok c.push.result ≡ true = sym c.map_err.ensures.variant ∙ ap is_ok c.in_ok-map_err.was in
    let pushed = rw went at c.push.ensures.items in
    record {
      inboxes = grind (arith, common_steps, map_over_more (replies_without c.args.replica c.args.budget));
      routes = subst (λ l. AllZip (IsFirstReplyRoute c.args.replica c.args.budget) (take (at.inbox-index + 1) xs) l) (sym pushed)
          (made_more (IsFirstReplyRoute c.args.replica c.args.budget) (replies_without c.args.replica c.args.budget) xs at.inbox-items at.routes.items at.inbox-index c.inbox-item.result c.in_ok-route.route
          less at.invariant.inboxes c.in_ok-route.ensures.route at.invariant.routes);
    }

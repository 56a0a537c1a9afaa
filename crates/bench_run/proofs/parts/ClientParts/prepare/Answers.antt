-- All that a client needs was made.
use Rattle.std.proofs.Common.{◌≡◌, length, rules, arith}
use Rattle.std.specs.Arc.{arc_value}
use Rattle.bench_run.proofs.ReadyParts.{ready_client}
use Rattle.bench_run.proofs.parts.ClientParts.prepare.Goals as goal

pub returns-clause-client : goal.returns-clause-client
returns-clause-client g c =
    let s = c.args.settings.now in
    let post : arc_value c.in_ok-post.post ≡ arc_value c.in_ok-inbox.inbox.post = search rules in
    let many : length c.args.boxes.now.items ≡ s.replicas = let ok = c.args.boxes.now.ok.0 in let m = c.requires.many in omega arith in
    ready_client s c.args.clock.now c.args.client c.args.seat.now.seen _ c.args.boxes.now.items _ c.requires.calls c.split-seat.ensures.new post c.in_ok-inbox.ensures.taker many
    c.in_ok-routes.ensures.routes

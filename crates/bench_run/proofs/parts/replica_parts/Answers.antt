-- All that a replica needs was made.
use Rattle.std.proofs.Common.{◌≡◌, [], length, ap, sym, ◌∙◌, subst, rules, arith}
use Rattle.std.specs.Arc.{arc_value}
use Rattle.std.proofs.lemmas.Result.{IfOk-weaker}
use Rattle.ticket_clock.specs.Seats.{ClockView, SeatView}
use Rattle.bench_run.specs.declared.job.JobParts.{JobParts}
use Rattle.bench_run.specs.Jobs.{JobView}
use Rattle.bench_run.specs.JobSteps.{view_of}
use Rattle.bench_run.specs.Ready.{places, IsReadyReplica}
use Rattle.bench_run.proofs.ReadyParts.{ready_replica}
use Rattle.bench_run.proofs.parts.replica_parts.Goals as goal

pub returns-clause-replica : goal.returns-clause-replica
returns-clause-replica g c =
    let s = c.args.settings.now in
    let clock = arc_value c.args.clock.now in
    let notes = c.args.notes.now in
    let inboxes = c.args.inboxes.now.items in
    let seen = c.args.seat.now.seen in
    let view : JobView = record {
      settings = s;
      clock = arc_value c.in_ok-same.same;
      replica = c.in_ok-node.node;
      seat = c.split-seat.result;
      inbox = arc_value c.in_ok-inbox.inbox;
      taker = c.args.taker;
      routes = c.in_ok-routes.routes.items;
    } in
    let same : arc_value c.in_ok-same.same ≡ clock = search rules in
    let post : arc_value c.in_ok-inbox.inbox ≡ arc_value notes.post = search rules in
    let many : length inboxes ≡ s.clients = let ok = c.args.inboxes.now.ok.0 in let m = c.requires.many in omega arith in
    let seat = c.split-seat.ensures.new ∙ ap (λ (v : ClockView). let r : SeatView = record { clock = v.id; drawn = []; left = places s; seen = seen } in r) c.deref.ensures in
    let ready : IsReadyReplica s clock c.args.replica notes inboxes view =
    ready_replica s clock c.args.replica seen notes inboxes view (search rules) same c.in_ok-node.ensures seat post c.requires.taker many c.in_ok-routes.ensures.routes
    in
    IfOk-weaker c.new.result (λ (parts : JobParts). view_of parts ≡ view) (λ (parts : JobParts). IsReadyReplica s clock c.args.replica notes inboxes (view_of parts))
    (λ parts is. subst (IsReadyReplica s clock c.args.replica notes inboxes) (sym is) ready) c.new.ensures.view

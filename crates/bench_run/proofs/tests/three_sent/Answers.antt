-- A replica that was just made can serve its one client.
use Rattle.std.proofs.Common.{◌≡◌, ℕ, List, [], ◌∷◌, length, slice_index_or, arith, sym, ◌∙◌, ap, subst}
use Rattle.replica_node.specs.Replicas.{ReplicaView}
use Rattle.ticket_clock.specs.Seats.{ClockView, SeatView}
use Rattle.bench_run.specs.declared.job.ReplyRoute.{ReplyRoute}
use Rattle.bench_run.specs.Jobs.{IsFreshReplyRoute, CanServe}
use Rattle.bench_run.proofs.tests.three_sent.Goals as goal

pub run-end-requires : goal.run-end-requires
run-end-requires g c =
    let replica = c.in_ok-replica.ensures in
    let theirs = c.split-theirs.ensures.new in
    subst CanServe (sym (c.new-3.ensures ∙ c.in_ok-parts.ensures.view)) (record {
      limits = record {
        clients = (omega arith, omega arith);
        replicas = (omega arith, omega arith);
        calls = (omega arith, omega arith);
        keys = (omega arith, omega arith);
        read_quorum = (omega arith, omega arith);
        write_quorum = (omega arith, omega arith);
        writes = omega arith;
        shards = (omega arith, omega arith);
      };
      keys = ap (λ (r : ReplicaView). r.keys) replica;
      nothing = ap (λ (r : ReplicaView). r.journal) replica;
      own = ap (λ (s : SeatView). s.clock) theirs ∙ sym (ap (λ (k : ClockView). k.id) c.in_ok-clock-2.ensures);
      none_drawn = ap (λ (s : SeatView). s.drawn) theirs;
      left = let places = ap (λ (r : ReplicaView). r.places) replica in let left = ap (λ (s : SeatView). s.left) theirs in omega arith;
      inbox = c.in_ok-inbox.ensures.0;
      none_taken = c.in_ok-inbox.ensures.1;
      as_many = ap (λ (l : List ReplyRoute). length l) c.in_ok-routes.ensures;
      routes = λ client r less.
          let first : client ≡ 0 = omega arith in
          let is : slice_index_or c.in_ok-routes.routes.items client r ≡ c.in_ok-route.route =
          ap (λ (l : List ReplyRoute). slice_index_or l client r) c.in_ok-routes.ensures ∙ ap (λ (k : ℕ). slice_index_or (c.in_ok-route.route ∷ []) k r) first
          in
          subst (λ (n : ℕ). IsFreshReplyRoute n 2 (slice_index_or c.in_ok-routes.routes.items client r)) (sym (ap (λ (x : ReplicaView). x.number) replica))
          (subst (λ (x : ReplyRoute). IsFreshReplyRoute 0 2 x) (sym is) c.in_ok-route.ensures.route);
    })

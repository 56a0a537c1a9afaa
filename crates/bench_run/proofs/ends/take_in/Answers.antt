-- What both lists of ends tell.
use Rattle.std.proofs.Common.{slice_index_or, sym, ◌∙◌, arith}
use Rattle.bench_run.proofs.BothTaken.{inboxes_own, takers_back, replica_still, notes_told, replies_taken}
use Rattle.bench_run.proofs.ends.take_in.Goals as goal

pub take_in_replicas-requires-clause-inboxes : goal.take_in_replicas-requires-clause-inboxes
take_in_replicas-requires-clause-inboxes g c =
    let first = c.take_in_clients.ensures in
    inboxes_own c.args.client_ends.items c.args.inboxes.now c.take_in_clients.new.inboxes (sym c.args.client_ends.ok.0 ∙ c.requires.many_clients) first.inboxes first.replies c.requires.inboxes

pub take_in_replicas-requires-clause-takers : goal.take_in_replicas-requires-clause-takers
take_in_replicas-requires-clause-takers g c =
    let first = c.take_in_clients.ensures in
    takers_back c.args.client_ends.items c.args.inboxes.now c.take_in_clients.new.inboxes (sym c.args.client_ends.ok.0 ∙ c.requires.many_clients) first.inboxes first.replies

pub take_in_replicas-requires-clause-ends : goal.take_in_replicas-requires-clause-ends
take_in_replicas-requires-clause-ends g c = λ k e b low.
    let first = c.take_in_clients.ensures in
    replica_still c.args.client_ends.items c.args.inboxes.now c.take_in_clients.new.inboxes (sym c.args.client_ends.ok.0 ∙ c.requires.many_clients) first.inboxes first.replies
    c.args.boxes.now c.take_in_clients.new.boxes first.notes c.args.seat.now c.take_in_clients.new.seat k b (slice_index_or c.args.ends.items k e) first.seat.clock (omega (arith, low, c.requires.many))
    (c.requires.replicas k e b low)

pub returns-clause-notes : goal.returns-clause-notes
returns-clause-notes g c =
    let first = c.take_in_clients.ensures in
    notes_told c.args.client_ends.items c.args.inboxes.now c.take_in_clients.new.inboxes (sym c.args.client_ends.ok.0 ∙ c.requires.many_clients) first.inboxes first.replies
    c.args.boxes.now c.take_in_clients.new.boxes first.notes c.args.ends.items
    (λ k b e low. c.take_in_replicas.ensures.notes k b e (omega (arith, low, first.boxes)))

pub returns-clause-replies : goal.returns-clause-replies
returns-clause-replies g c = λ k i d e r low few.
    let first = c.take_in_clients.ensures in
    replies_taken c.args.client_ends.items c.args.inboxes.now c.take_in_clients.new.inboxes (sym c.args.client_ends.ok.0 ∙ c.requires.many_clients) first.inboxes first.replies
    c.args.ends.items (λ j n b f s less inside. c.take_in_replicas.ensures.replies j n b f s (omega (arith, less, c.args.ends.ok.0)) (omega (arith, inside, first.inboxes)))
    k i d e r (omega (arith, low, c.args.ends.ok.0)) (omega (arith, few, c.args.client_ends.ok.0))

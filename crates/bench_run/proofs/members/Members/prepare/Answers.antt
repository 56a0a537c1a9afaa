-- All members are ready once all senders are split off.
use Rattle.std.proofs.Common.{List, ◌∙◌, subst}
use Rattle.std.specs.Arc.{arc_value}
use Rattle.ticket_clock.specs.Seats.{ClockView}
use Rattle.bench_run.specs.declared.boxes.NoteBox.{NoteBox}
use Rattle.bench_run.specs.Ready.{AreReadyClients, AreReadyReplicas}
use Rattle.bench_run.proofs.MoreMembers.{same_many, same_many_inboxes}
use Rattle.bench_run.proofs.ReadyMembers.{ready_boxes, clients_moved, replicas_moved}
use Rattle.bench_run.proofs.members.Members.prepare.Goals as goal

pub returns-clause-boxes : goal.returns-clause-boxes
returns-clause-boxes g c =
    ready_boxes c.args.settings.now c.prepare_clients.new.boxes.items c.prepare_replicas.new.inboxes.items
    (same_many c.prepare_clients.new.boxes.items c.in_ok-boxes.boxes.items c.in_ok-inboxes.ensures.same ∙ c.in_ok-boxes.ensures.many)
    (same_many_inboxes c.prepare_replicas.new.inboxes.items c.in_ok-inboxes.inboxes.items c.in_ok-replicas.ensures.same ∙ c.in_ok-inboxes.ensures.many)
    c.in_ok-inboxes.ensures.boxes c.in_ok-replicas.ensures.inboxes

pub returns-clause-replicas : goal.returns-clause-replicas
returns-clause-replicas g c =
    let clock = arc_value c.in_ok-clock.clock in
    replicas_moved c.args.settings.now clock c.prepare_clients.new.boxes.items c.in_ok-inboxes.inboxes.items c.prepare_replicas.new.inboxes.items c.in_ok-replicas.replicas.items
    c.in_ok-replicas.ensures.same
    (subst (λ (l : List NoteBox). AreReadyReplicas c.args.settings.now clock l c.in_ok-inboxes.inboxes.items c.in_ok-replicas.replicas.items) c.as_slice.ensures.value
    c.in_ok-replicas.ensures.replicas)

pub returns-clause-clients : goal.returns-clause-clients
returns-clause-clients g c =
    clients_moved c.args.settings.now (arc_value c.in_ok-clock.clock) c.in_ok-inboxes.inboxes.items c.prepare_replicas.new.inboxes.items c.in_ok-boxes.boxes.items
    c.prepare_clients.new.boxes.items c.in_ok-inboxes.clients.items c.in_ok-replicas.ensures.same c.in_ok-inboxes.ensures.same
    (subst (λ (v : ClockView). AreReadyClients c.args.settings.now v c.in_ok-inboxes.inboxes.items c.in_ok-boxes.boxes.items c.in_ok-inboxes.clients.items) c.deref.ensures
    c.in_ok-inboxes.ensures.clients)

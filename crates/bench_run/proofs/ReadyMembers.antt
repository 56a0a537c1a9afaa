-- That all members of a run are ready.
use Rattle.std.proofs.Common.{◌≡◌, ◌-◌, List, length, get_or, sym, arith}
use Rattle.std.specs.Prelude.{All}
use Rattle.ticket_clock.specs.Seats.{ClockView}
use Rattle.stale_model.specs.declared.store.Settings.{Settings}
use Rattle.bench_run.specs.declared.boxes.NoteBox.{NoteBox}
use Rattle.bench_run.specs.declared.boxes.ReplyBox.{ReplyBox}
use Rattle.bench_run.specs.declared.job.JobParts.{JobParts}
use Rattle.bench_run.specs.declared.parts.ClientParts.{ClientParts}
use Rattle.bench_run.specs.JobSteps.{view_of}
use Rattle.bench_run.specs.Openings.{boxes_of, inboxes_of, AreNotesGiven, AreRepliesGiven}
use Rattle.bench_run.specs.Ready.{AreReadyClients, AreReadyReplicas, AreReadyBoxes}
use Rattle.bench_run.proofs.MoreMembers.{client_moved, replica_moved, same_inbox}

-- the boxes, once all senders were split off
pub ready_boxes : (s : Settings) (boxes : List NoteBox) (inboxes : List ReplyBox) → length boxes ≡ s.replicas → length inboxes ≡ s.clients → All (AreNotesGiven s.clients 0) boxes
    → All (AreRepliesGiven s.replicas 0) inboxes → AreReadyBoxes s boxes inboxes
ready_boxes s boxes inboxes many many_inboxes notes replies = record {
  as_many = many;
  as_many_inboxes = many_inboxes;
  each = λ k b less. notes k b (omega (arith, many, less));
  each_inbox = λ k b less. replies k b (omega (arith, many_inboxes, less));
}

-- the parts of the clients, where the boxes are the same
pub clients_moved : (s : Settings) (clock : ClockView) (inboxes inboxes' : List ReplyBox) (boxes boxes' : List NoteBox) (clients : List ClientParts) → inboxes_of inboxes' ≡ inboxes_of inboxes
    → boxes_of boxes' ≡ boxes_of boxes → AreReadyClients s clock inboxes boxes clients → AreReadyClients s clock inboxes' boxes' clients
clients_moved s clock inboxes inboxes' boxes boxes' clients same_replies same_notes ready = record {
  as_many = ready.as_many;
  each = λ k b c less.
      client_moved s clock k (get_or inboxes k b) (get_or inboxes' k b) boxes boxes' (get_or clients k c) (same_inbox inboxes inboxes' k b (sym same_replies)) (sym same_notes)
      (ready.each k b c less);
}

-- the parts of the replicas likewise
pub replicas_moved : (s : Settings) (clock : ClockView) (boxes : List NoteBox) (inboxes inboxes' : List ReplyBox) (replicas : List JobParts) → inboxes_of inboxes' ≡ inboxes_of inboxes
    → AreReadyReplicas s clock boxes inboxes replicas → AreReadyReplicas s clock boxes inboxes' replicas
replicas_moved s clock boxes inboxes inboxes' replicas same ready = record {
  as_many = ready.as_many;
  fresh = ready.fresh;
  each = λ k b r less. replica_moved s clock k (get_or boxes k b) inboxes inboxes' (view_of (get_or replicas k r)) (sym same) (ready.each k b r less);
}

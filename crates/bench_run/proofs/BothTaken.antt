-- What the ends of the clients and of the replicas tell together, once all were taken in.
use Rattle.std.proofs.Common.{◌≡◌, ℕ, ◌<◌, true, List, length, slice_index_or, sym, ◌∙◌, ap, subst, arith}
use Rattle.std.specs.Arc.{arc_value}
use mathlib.Core.List.{IsPrefix}
use Rattle.ticket_clock.specs.Seats.{SeatView, times}
use Rattle.post_box.specs.Boxes.{letters_of}
use Rattle.stale_model.specs.declared.store.Reply.{Reply}
use Rattle.quorum_client.specs.declared.letters.Note.{Note}
use Rattle.quorum_client.specs.declared.client.ClientEnd.{ClientEnd}
use Rattle.quorum_client.specs.Letters.{sender_of}
use Rattle.bench_run.specs.declared.boxes.NoteBox.{NoteBox}
use Rattle.bench_run.specs.declared.boxes.ReplyBox.{ReplyBox}
use Rattle.bench_run.specs.declared.job.ReplyRoute.{ReplyRoute}
use Rattle.bench_run.specs.declared.job.BenchEnd.{BenchEnd}
use Rattle.bench_run.specs.Ends.{IsOwnReplies, IsReplicaOf, HasReplies, HasNotes, IsToldNotes, IsToldReplies, AreToldNotes, AreTakenReplies, replier_of}
use Rattle.bench_run.proofs.Gathered.{stands}

-- the inbox of a client is its own still
own_replies : (c : ClientEnd) (a b : ReplyBox) → HasReplies c a b → IsOwnReplies a → IsOwnReplies b
own_replies c a b has is = record { own = ap (λ w. w.box) has.whole ∙ (is.own ∙ ap (λ x. arc_value x) (sym has.post)) }

-- what a replica's end tells of its box, to which the clients' passes came back
told_of : (replica : ℕ) (clients : List ClientEnd) (a b : NoteBox) (e : BenchEnd) → HasNotes replica clients a b → IsToldNotes b e → AreToldNotes replica clients a e
told_of replica clients a b e has told = record {
  known = λ s some. subst (λ (ns : List ℕ). 0 < times s ns) has.numbers (told.known s some);
  taken = λ k c r at there.
      subst (λ (xs : List Note). IsPrefix (letters_of sender_of r.pass.number e.taker.taken) (letters_of sender_of r.pass.number xs)) has.sent
      (told.taken r.pass.number (has.gathered k c r at there));
}

-- what it tells of an inbox, to which the client's taker came back
taken_of : (c : ClientEnd) (a b : ReplyBox) (r : ReplyRoute) → HasReplies c a b → IsToldReplies b r → AreTakenReplies c r
taken_of c a b r has told = subst (λ (xs : List Reply). IsPrefix (letters_of replier_of r.pass.number xs) r.pass.sent) (ap (λ w. w.taken) has.whole) told

module _ (clients : List ClientEnd) (old_inboxes inboxes : List ReplyBox) (many : length clients ≡ length old_inboxes) (same : length inboxes ≡ length old_inboxes)
    (replies : (k : ℕ) (b : ReplyBox) (e : ClientEnd) → k < length old_inboxes → HasReplies (slice_index_or clients k e) (slice_index_or old_inboxes k b) (slice_index_or inboxes k b)) where
  pub inboxes_own : ((k : ℕ) (b : ReplyBox) → k < length old_inboxes → IsOwnReplies (slice_index_or old_inboxes k b))
      → (k : ℕ) (b : ReplyBox) → k < length inboxes → IsOwnReplies (slice_index_or inboxes k b)
  inboxes_own own k b low =
      let within : k < length old_inboxes = omega (arith, low, same) in
      let (e, at) = stands clients k (omega (arith, within, many)) in
      own_replies (slice_index_or clients k e) (slice_index_or old_inboxes k b) (slice_index_or inboxes k b) (replies k b e within) (own k b within)

  pub takers_back : (k : ℕ) (b : ReplyBox) → k < length inboxes → (slice_index_or inboxes k b).whole.takes ≡ true
  takers_back k b low =
      let within : k < length old_inboxes = omega (arith, low, same) in
      let (e, at) = stands clients k (omega (arith, within, many)) in
      ap (λ w. w.takes) (replies k b e within).whole

  pub replies_taken : (replicas : List BenchEnd) → ((k c : ℕ) (b : ReplyBox) (e : BenchEnd) (r : ReplyRoute) → k < length replicas → c < length old_inboxes
      → IsToldReplies (slice_index_or inboxes c b) (slice_index_or (slice_index_or replicas k e).routes.items c r))
      → (k c : ℕ) (d : ClientEnd) (e : BenchEnd) (r : ReplyRoute) → k < length replicas → c < length clients
      → AreTakenReplies (slice_index_or clients c d) (slice_index_or (slice_index_or replicas k e).routes.items c r)
  replies_taken replicas told k c d e r low few =
      let within : c < length old_inboxes = omega (arith, few, many) in
      let (b, at) = stands old_inboxes c within in
      taken_of (slice_index_or clients c d) (slice_index_or old_inboxes c b) (slice_index_or inboxes c b) (slice_index_or (slice_index_or replicas k e).routes.items c r)
      (replies c b d within) (told k c b e r low within)

  module _ (old_boxes boxes : List NoteBox) (notes : (k : ℕ) (b : NoteBox) → k < length old_boxes → HasNotes k clients (slice_index_or old_boxes k b) (slice_index_or boxes k b)) where
    pub notes_told : (replicas : List BenchEnd) → ((k : ℕ) (b : NoteBox) (e : BenchEnd) → k < length old_boxes → IsToldNotes (slice_index_or boxes k b) (slice_index_or replicas k e))
        → (k : ℕ) (b : NoteBox) (e : BenchEnd) → k < length old_boxes → AreToldNotes k clients (slice_index_or old_boxes k b) (slice_index_or replicas k e)
    notes_told replicas told k b e low =
        told_of k clients (slice_index_or old_boxes k b) (slice_index_or boxes k b) (slice_index_or replicas k e) (notes k b low) (told k b e low)

    -- the end of a replica fits the boxes still
    pub replica_still : (old_seat seat : SeatView) (k : ℕ) (b : NoteBox) (e : BenchEnd) → seat.clock ≡ old_seat.clock → k < length old_boxes
        → IsReplicaOf old_seat (slice_index_or old_boxes k b) old_inboxes e → IsReplicaOf seat (slice_index_or boxes k b) inboxes e
    replica_still old_seat seat k b e clock low is = record {
      seat_is = is.seat_is ∙ sym clock;
      taker = is.taker ∙ ap (λ x. arc_value x) (sym (notes k b low).post);
      routes = record {
        as_many = is.routes.as_many ∙ sym same;
        each = λ client r i within.
            let there : client < length old_inboxes = omega (arith, within, same) in
            let (c, at) = stands clients client (omega (arith, there, many)) in
            is.routes.each client r i there ∙ ap (λ x. arc_value x) (sym (replies client i c there).post);
      };
    }

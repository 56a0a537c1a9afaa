-- The end of one replica more.
use Rattle.std.proofs.Common.{rules, ◌≡◌, ℕ, ◌+◌, ◌<◌, ◌∷◌, [], ◌++◌, length, slice_index_or, ◌∙◌, ap, subst, arith, below_more}
use Rattle.std.proofs.lemmas.List.{length_push, get_or_default}
use Rattle.std.proofs.lemmas.Iterator.Adapters.{YieldsList-from_vec}
use Rattle.std.proofs.lemmas.Iterator.Consumers.{YieldsList-turn, YieldsList-from_enumerate}
use Rattle.bench_run.specs.declared.boxes.NoteBox.{NoteBox}
use Rattle.bench_run.specs.declared.job.BenchEnd.{BenchEnd}
use Rattle.bench_run.specs.Ends.{IsToldNotes, IsToldReplies}
use Rattle.bench_run.proofs.TakenIn.{IsNext, next_of, rest_more, tickets_more, same_then, told_before, items_more}
use Rattle.bench_run.proofs.ends.take_in_replicas.Goals as goal

pub loop-replica-preserved : goal.loop-replica-preserved
loop-replica-preserved g c =
    let i = c.loop-replica.invariant in
    let ends = c.args.ends.items in
    let end = c.in-Some.end in
    let n = length c.loop-replica.yielded in
    let own = c.index-boxes-replica.result in
    let step = c.take_in_replica.ensures in
    let next : IsNext ends n c.in-Some.replica end =
    next_of ends n c.in-Some.replica end
    (YieldsList-turn (YieldsList-from_enumerate (YieldsList-from_vec ends (cc) (cc)) (cc)) c.loop-replica.yielded c.loop-replica.replica-iterator c.loop-replica.yielded_by c.next.result c.next.new.self (c.in-Some.replica, end) c.in-Some.is c.next.ensures.steps)
    in
    let within : n < length c.loop-replica.boxes = omega (arith, next.inside, c.requires.many, c.loop-replica.auto.boxes, c.args.ends.ok.0) in
    let end_is : (e : BenchEnd) → end ≡ slice_index_or ends n e = λ e. next.is ∙ get_or_default ends n end e next.inside in
    let longer : length c.take_in_replica.new.journals.items ≡ length c.loop-replica.journals.items + 1 =
    ap length step.journals ∙ length_push c.loop-replica.journals.items end.replica.journal
    in
    let more : length (c.loop-replica.yielded ++ (c.in-Some.replica, end) ∷ []) ≡ n + 1 = length_push c.loop-replica.yielded (c.in-Some.replica, end) in
    rw more (record {
      can = search rules;
      finite = search rules;
      seat = tickets_more (λ (e : BenchEnd). e.seat.drawn) (λ (e : BenchEnd). e.seat.left) ends n end c.args.seat.now c.loop-replica.seat c.take_in_replica.new.seat next.inside next.is i.seat step.seat;
      rest = λ k b later. rest_more c.loop-replica.boxes c.args.boxes.now n c.in-Some.replica c.take_in_replica.new.inbox b next.place (λ j late. i.rest j b late) k later;
      notes = λ k b e less.
          let box_is : slice_index_or c.loop-replica.boxes c.in-Some.replica own ≡ slice_index_or c.args.boxes.now n b =
          ap (λ (m : ℕ). slice_index_or c.loop-replica.boxes m own) next.place ∙ (get_or_default c.loop-replica.boxes n own b within ∙ i.rest n b (omega arith))
          in
          below_more (λ (j : ℕ). IsToldNotes (slice_index_or c.args.boxes.now j b) (slice_index_or ends j e)) n (λ j before. i.notes j b e before)
          (subst (λ (x : BenchEnd). IsToldNotes (slice_index_or c.args.boxes.now n b) x) (end_is e)
          (subst (λ (x : NoteBox). IsToldNotes x end) box_is step.notes)) k less;
      same = λ k b inside.
          let there : k < length c.loop-replica.inboxes = omega (arith, inside, step.inboxes) in
          same_then (slice_index_or c.args.inboxes.now k b) (slice_index_or c.loop-replica.inboxes k b) (slice_index_or c.take_in_replica.new.inboxes k b) (i.same k b there) (step.same k b there);
      replies = λ k client b e r less inside.
          let there : client < length c.loop-replica.inboxes = omega (arith, inside, step.inboxes) in
          let old = slice_index_or c.args.inboxes.now client b in
          below_more (λ (j : ℕ). IsToldReplies old (slice_index_or (slice_index_or ends j e).routes.items client r)) n (λ j before. i.replies j client b e r before there)
          (subst (λ (x : BenchEnd). IsToldReplies old (slice_index_or x.routes.items client r)) (end_is e)
          (told_before old (slice_index_or c.loop-replica.inboxes client b) (slice_index_or end.routes.items client r) (i.same client b there) (step.replies client b r there))) k less;
      journals = items_more (λ (e : BenchEnd). e.replica.journal) ends n end c.args.journals.now.items c.loop-replica.journals.items c.take_in_replica.new.journals.items
          next.inside next.is i.journals step.journals;
      many = omega (arith, longer, i.many, c.loop-replica.journals.ok.0, c.take_in_replica.new.journals.ok.0);
      room = step.room ∙ i.room;
    })

-- The end of one client more.
use Rattle.std.proofs.Common.{rules, ◌≡◌, ℕ, ◌+◌, ◌<◌, ◌∷◌, [], ◌++◌, length, slice_index_or, ◌∙◌, ap, subst, arith}
use Rattle.std.proofs.lemmas.List.{length_push, get_or_default}
use Rattle.std.proofs.lemmas.Iterator.Adapters.{YieldsList-from_vec}
use Rattle.std.proofs.lemmas.Iterator.Consumers.{YieldsList-turn, YieldsList-from_enumerate}
use Rattle.quorum_client.specs.declared.client.ClientEnd.{ClientEnd}
use Rattle.bench_run.specs.declared.boxes.ReplyBox.{ReplyBox}
use Rattle.bench_run.specs.Ends.{HasReplies}
use Rattle.bench_run.proofs.TakenIn.{IsNext, next_of, each_more, rest_more, tickets_more, notes_more}
use Rattle.bench_run.proofs.ends.take_in_clients.Goals as goal

pub loop-client-preserved : goal.loop-client-preserved
loop-client-preserved g c =
    let i = c.loop-client.invariant in
    let ends = c.args.ends.items in
    let end = c.in-Some.end in
    let n = length c.loop-client.yielded in
    let inbox = c.index-inboxes-client.result in
    let step = c.take_in_client.ensures in
    let next : IsNext ends n c.in-Some.client end =
    next_of ends n c.in-Some.client end
    (YieldsList-turn (YieldsList-from_enumerate (YieldsList-from_vec ends (cc) (cc)) (cc)) c.loop-client.yielded c.loop-client.client-iterator c.loop-client.yielded_by c.next.result c.next.new.self (c.in-Some.client, end) c.in-Some.is c.next.ensures.steps)
    in
    let within : n < length c.loop-client.inboxes = omega (arith, next.inside, c.requires.many, c.loop-client.auto.inboxes, c.args.ends.ok.0) in
    let routes : length end.routes ≡ length c.args.boxes.now =
    ap (λ (x : ClientEnd). length x.routes) next.is ∙ (c.requires.ends n end inbox (omega (arith, next.inside, c.args.ends.ok.0))).routes.as_many
    in
    let more : length (c.loop-client.yielded ++ (c.in-Some.client, end) ∷ []) ≡ n + 1 = length_push c.loop-client.yielded (c.in-Some.client, end) in
    rw more (record {
      can = search rules;
      finite = search rules;
      seat = tickets_more (λ (e : ClientEnd). e.seat.drawn) (λ (e : ClientEnd). e.seat.left) ends n end c.args.seat.now c.loop-client.seat c.take_in_client.new.seat next.inside next.is i.seat step.seat;
      done = λ k b e less.
          let end_is : end ≡ slice_index_or ends n e = next.is ∙ get_or_default ends n end e next.inside in
          let inbox_is : slice_index_or c.loop-client.inboxes c.in-Some.client inbox ≡ slice_index_or c.args.inboxes.now n b =
          ap (λ (m : ℕ). slice_index_or c.loop-client.inboxes m inbox) next.place ∙ (get_or_default c.loop-client.inboxes n inbox b within ∙ i.rest n b (omega arith))
          in
          let here : HasReplies (slice_index_or ends n e) (slice_index_or c.args.inboxes.now n b) c.take_in_client.new.inbox =
          subst (λ (x : ClientEnd). HasReplies x (slice_index_or c.args.inboxes.now n b) c.take_in_client.new.inbox) end_is
          (subst (λ (x : ReplyBox). HasReplies end x c.take_in_client.new.inbox) inbox_is step.replies)
          in
          each_more (λ (j : ℕ) (x : ReplyBox). HasReplies (slice_index_or ends j e) (slice_index_or c.args.inboxes.now j b) x)
          c.loop-client.inboxes n c.in-Some.client c.take_in_client.new.inbox b next.place within (λ j before. i.done j b e before) here k less;
      rest = λ k b later. rest_more c.loop-client.inboxes c.args.inboxes.now n c.in-Some.client c.take_in_client.new.inbox b next.place (λ j late. i.rest j b late) k later;
      notes = λ k b inside.
          let there : k < length c.loop-client.boxes = omega (arith, inside, step.boxes) in
          notes_more k ends n end (slice_index_or c.args.boxes.now k b) (slice_index_or c.loop-client.boxes k b) (slice_index_or c.take_in_client.new.boxes k b)
          next.inside next.is (omega (arith, there, routes, c.loop-client.auto.boxes)) (i.notes k b there) (λ r. step.notes k b r there);
    })

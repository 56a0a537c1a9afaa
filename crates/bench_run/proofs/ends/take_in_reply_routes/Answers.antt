-- The sender to one inbox more.
use Rattle.std.proofs.Common.{rules, ◌≡◌, ℕ, ◌+◌, ◌<◌, ◌∷◌, [], ◌++◌, length, slice_index_or, ◌∙◌, ap, subst, arith, below_more}
use Rattle.std.proofs.lemmas.List.{length_push, get_or_default}
use Rattle.std.proofs.lemmas.Iterator.Adapters.{YieldsList-from_vec}
use Rattle.std.proofs.lemmas.Iterator.Consumers.{YieldsList-turn, YieldsList-from_enumerate}
use Rattle.bench_run.specs.declared.boxes.ReplyBox.{ReplyBox}
use Rattle.bench_run.specs.declared.job.ReplyRoute.{ReplyRoute}
use Rattle.bench_run.specs.Ends.{IsSameInbox, IsToldReplies}
use Rattle.bench_run.proofs.TakenIn.{IsNext, next_of, each_more, rest_more}
use Rattle.bench_run.proofs.ends.take_in_reply_routes.Goals as goal

pub loop-client-preserved : goal.loop-client-preserved
loop-client-preserved g c =
    let i = c.loop-client.invariant in
    let routes = c.args.routes.items in
    let route = c.in-Some.route in
    let n = length c.loop-client.yielded in
    let inbox = c.index-inboxes-client.result in
    let step = c.take_in_reply_route.ensures in
    let next : IsNext routes n c.in-Some.client route =
    next_of routes n c.in-Some.client route
    (YieldsList-turn (YieldsList-from_enumerate (YieldsList-from_vec routes (cc) (cc)) (cc)) c.loop-client.yielded c.loop-client.client-iterator c.loop-client.yielded_by c.next.result c.next.new.self (c.in-Some.client, route) c.in-Some.is c.next.ensures.steps)
    in
    let within : n < length c.loop-client.inboxes = omega (arith, next.inside, c.requires.routes.as_many, c.loop-client.auto.inboxes) in
    let inbox_is : (b : ReplyBox) → slice_index_or c.loop-client.inboxes c.in-Some.client inbox ≡ slice_index_or c.args.inboxes.now n b =
    λ b. ap (λ (m : ℕ). slice_index_or c.loop-client.inboxes m inbox) next.place ∙ (get_or_default c.loop-client.inboxes n inbox b within ∙ i.rest n b (omega arith))
    in
    let more : length (c.loop-client.yielded ++ (c.in-Some.client, route) ∷ []) ≡ n + 1 = length_push c.loop-client.yielded (c.in-Some.client, route) in
    rw more (record {
      can = search rules;
      finite = search rules;
      rest = λ k b later. rest_more c.loop-client.inboxes c.args.inboxes.now n c.in-Some.client c.take_in_reply_route.new.to b next.place (λ j late. i.rest j b late) k later;
      same = λ k b less.
          each_more (λ (j : ℕ) (x : ReplyBox). IsSameInbox (slice_index_or c.args.inboxes.now j b) x)
          c.loop-client.inboxes n c.in-Some.client c.take_in_reply_route.new.to b next.place within (λ j before. i.same j b before)
          (subst (λ (x : ReplyBox). IsSameInbox x c.take_in_reply_route.new.to) (inbox_is b) step.same) k less;
      replies = λ k b r less.
          let route_is : route ≡ slice_index_or routes n r = next.is ∙ get_or_default routes n route r next.inside in
          below_more (λ (j : ℕ). IsToldReplies (slice_index_or c.args.inboxes.now j b) (slice_index_or routes j r)) n (λ j before. i.replies j b r before)
          (subst (λ (x : ReplyRoute). IsToldReplies (slice_index_or c.args.inboxes.now n b) x) route_is
          (subst (λ (x : ReplyBox). IsToldReplies x route) (inbox_is b) step.told)) k less;
    })

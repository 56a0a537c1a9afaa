-- The lane of one client more.
use Rattle.std.proofs.Common.{◌≡◌, ℕ, [], length, get_or, ap, ◌∙◌, arith}
use Rattle.std.proofs.lemmas.List.{get_or_default}
use Rattle.ticket_clock.specs.Seats.{times}
use Rattle.post_box.specs.Boxes.{WholeView, SenderView}
use Rattle.key_recorder.specs.declared.letters.RecordLetter.{RecordLetter}
use Rattle.key_recorder.specs.Recorders.{LaneView}
use Rattle.key_recorder.specs.Prepared.{budget_on}
use Rattle.key_recorder.specs.Making.{first_lane, with_lane}
use Rattle.key_recorder.proofs.Making.{kept, none_more, given_more, left_more}
use Rattle.key_recorder.proofs.prepare.give_senders.Goals as goal

pub loop-client-preserved : goal.loop-client-preserved
loop-client-preserved g c =
    let i = c.loop-client.invariant in
    let client = c.loop-client.client in
    let plans = c.args.plans.now in
    let plan = c.index-plans-client.result in
    let cut = c.split_sender-sender.ensures in
    let budget : c.budget-budget.result ≡ budget_on c.args.shards c.args.shard (get_or plans client []) =
    c.budget-budget.ensures.budget
    ∙ ap (budget_on c.args.shards c.args.shard) (c.as_slice.ensures ∙ (c.index-plans-client.is ∙ get_or_default plans client plan [] c.loop-client-test.true))
    in
    let lane : first_lane c.split_sender-sender.result.box c.split_sender-sender.result.budget ≡ first_lane c.args.post.now (budget_on c.args.shards c.args.shard (get_or plans client [])) =
    ap (λ (s : SenderView RecordLetter). first_lane s.box s.budget) cut.sender ∙ ap (λ (n : ℕ). first_lane c.args.post.now n) budget
    in
    let before : c.index_mut.result.now ≡ get_or c.loop-client.passes.items client c.index_mut.result.now = c.index_mut.ensures.value in
    let after : c.add_lane.new.self ≡ with_lane (first_lane c.args.post.now (budget_on c.args.shards c.args.shard (get_or plans client []))) c.index_mut.result.now =
    c.in_ok-add_lane.ensures ∙ ap (λ (l : LaneView). with_lane l c.index_mut.result.now) lane
    in
    let ok = c.loop-client.passes.ok in
    let many : length c.loop-client.passes.items ≡ length plans = let m = i.many in omega arith in
    let places = given_more (λ (k : ℕ). first_lane c.args.post.now (budget_on c.args.shards c.args.shard (get_or plans k []))) c.args.passes.now.items c.loop-client.passes.items
    client (length plans) c.add_lane.new.self c.index_mut.result.now many c.loop-client-test.true before after i.done i.rest
    in
    record {
      many = i.many;
      whole = kept c.args.whole.now c.loop-client.whole c.split_sender-sender.new.whole _ _ i.whole cut.whole;
      numbers = λ s past.
          ap (λ (w : WholeView RecordLetter). times s w.numbers) cut.whole ∙ none_more client s c.loop-client.whole.numbers past (i.numbers s (omega arith));
      budget = left_more c.args.shards c.args.shard plans client c.loop-client.whole.budget c.split_sender-sender.new.whole.budget c.budget-budget.result
          c.loop-client-test.true i.budget budget (ap (λ (w : WholeView RecordLetter). w.budget) cut.whole);
      done = places.0;
      rest = places.1;
    }

-- One more letter for a quorum.
use Rattle.std.proofs.Common.{◌≡◌, ◌+◌, ◌≤◌, List, length, arith, ap, ◌∙◌}
use Rattle.stale_model.specs.declared.store.Took.{Took}
use Rattle.quorum_client.specs.FirstReplies.{with_reply, taken_of}
use Rattle.quorum_client.proofs.Replies.{gathered_more, length-with_reply}
use Rattle.quorum_client.proofs.gather.take_quorum.Goals as goal

pub loop-preserved-in-Some-take : goal.loop-preserved-in-Some-take
loop-preserved-in-Some-take g c =
    let i = c.loop.invariant in
    let took = c.in-Some-take.ensures.some in
    let added = c.add.ensures in
    let replies = with_reply c.args.seq c.args.replicas (taken_of c.loop.taken) c.in-Some-take.reply in
    let many : length (taken_of c.add.new.self) ≡ length replies = ap (λ (ts : List Took). length ts) added.taken in
    let few : length replies ≤ length (taken_of c.loop.taken) + 1 =
    length-with_reply c.args.seq c.args.replicas (taken_of c.loop.taken) c.in-Some-take.reply
    in
    record {
      own = ap (λ v. v.box) took ∙ i.own;
      most = grind (arith, few, many, added.filled.count, i.filled.count, i.most, c.if-taken-quorum.false);
      filled = added.filled;
      gathered = gathered_more c.args.seq c.args.replicas c.args.taker.now.taken c.loop.taker.taken c.take.new.pass.taken
          (taken_of c.loop.taken) (taken_of c.add.new.self) c.in-Some-take.reply i.gathered (ap (λ v. v.taken) took) added.taken;
    }

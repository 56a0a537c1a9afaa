-- The freshest of one more reply.
use Rattle.std.proofs.Common.{arith, ap, sym, ◌∙◌, slice_index_or}
use Rattle.stale_model.specs.declared.store.Took.{Took}
use Rattle.stale_model.specs.Calls.{no_took, fresher}
use Rattle.quorum_client.proofs.Replies.{freshest_more}
use Rattle.quorum_client.proofs.gather.freshest.Goals as goal

pub loop-k-preserved : goal.loop-k-preserved
loop-k-preserved c = record {
  inside = omega arith;
  best =
      c.fresher-best.ensures
      ∙ (ap (λ (t : Took). fresher t (slice_index_or c.args.taken.now c.loop-k.k no_took)) c.loop-k.invariant.best
      ∙ sym (freshest_more c.args.taken.now c.loop-k.k no_took (omega arith) (omega arith)));
}

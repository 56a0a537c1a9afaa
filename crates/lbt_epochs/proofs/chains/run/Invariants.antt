use Rattle.lbt_epochs.proofs.ChainSoFar.{IsChainSoFar}
use Rattle.lbt_epochs.proofs.chains.run.Given as goal

abbrev pub invariant-loop-end : goal.invariant-loop-end
invariant-loop-end l = IsChainSoFar l.d l.clusters l.room l.first l.fn.lists l.lists l.at l.more

abbrev pub decreases-loop-end : goal.decreases-loop-end
decreases-loop-end l = l.more

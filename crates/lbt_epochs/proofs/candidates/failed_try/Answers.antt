use Rattle.std.proofs.Common.{length}
use Rattle.std.proofs.lemmas.List.{take_rest}
use Rattle.lbt_epochs.proofs.CandidateTried.{try_so}
use Rattle.lbt_epochs.proofs.candidates.failed_try.Goals as goal

pub returns : goal.returns
returns c =
    let a = c.placed-before.ensures in
    let undo = rw a at c.undo_to.ensures in
    let chain = rw (a, c.placed.ensures, take_rest c.run.new.lists.placed (length c.args.lists.now.placed)) at c.in_ok-chain.ensures in
    try_so c.args.d c.args.clusters.now c.args.room c.args.at c.args.lists.now c.run.new.lists c.undo_to.new.lists c.in-Fails.end c.in_ok-chain.chain c.in-Fails.ensures undo chain

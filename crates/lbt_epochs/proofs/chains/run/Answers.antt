use Rattle.lbt_epochs.proofs.ChainSoFar.{chain_begins, chain_ends, chain_fails, chain_goes_on}
use Rattle.lbt_epochs.proofs.chains.run.Goals as goal

pub loop-end-init : goal.loop-end-init
loop-end-init c = chain_begins c.args.d c.args.clusters.now c.args.room c.args.first c.args.lists.now _ c.requires.ready c.requires.there c.place.ensures

pub returns-in-Nothing : goal.returns-in-Nothing
returns-in-Nothing c =
    chain_ends c.args.d c.args.clusters.now c.args.room c.args.first c.args.lists.now c.loop-end.lists c.loop-end.at c.requires.ready c.loop-end.more c.loop-end.invariant c.in-Nothing.ensures

pub returns-in-Impossible : goal.returns-in-Impossible
returns-in-Impossible c =
    chain_fails c.args.d c.args.clusters.now c.args.room c.args.first c.args.lists.now c.loop-end.lists c.loop-end.at c.requires.ready c.loop-end.more c.in-Impossible.end
    c.loop-end.invariant c.in-Impossible.ensures

pub loop-end-preserved : goal.loop-end-preserved
loop-end-preserved c =
    chain_goes_on c.args.d c.args.clusters.now c.args.room c.args.first c.args.lists.now c.loop-end.lists c.loop-end.at c.requires.ready c.loop-end.more c.in-One.next
    c.place-in-One.new.self c.if-more-eq0.false c.loop-end.invariant c.in-One.ensures c.place-in-One.ensures

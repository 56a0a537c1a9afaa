use Rattle.std.proofs.Common.{sym}
use Rattle.lbt_epochs.specs.Steps.{rounds_of, HasRefuted, HasRemoved}
use Rattle.lbt_epochs.proofs.EpochsSoFar.{some_there, none_there, epochs_end, epochs_go_on, epochs_stop, fewer_yet}
use Rattle.lbt_epochs.proofs.epochs.place_all.Goals as goal

pub loop-lists-smaller : goal.loop-lists-smaller
loop-lists-smaller c =
    let removed : HasRemoved c.args.clusters.now (rounds_of c.args.d c.args.clusters.now c.loop-lists.lists) c.loop-lists.lists c.rounds.new.lists = rw c.in_default.is at c.rounds.ensures in
    fewer_yet c.args.d c.args.clusters.now c.args.lists.now c.requires.ready c.loop-lists.lists c.loop-lists.invariant c.rounds.new.lists removed

pub loop-lists-preserved : goal.loop-lists-preserved
loop-lists-preserved c =
    let removed : HasRemoved c.args.clusters.now (rounds_of c.args.d c.args.clusters.now c.loop-lists.lists) c.loop-lists.lists c.rounds.new.lists = rw c.in_default.is at c.rounds.ensures in
    epochs_go_on c.args.d c.args.clusters.now c.args.lists.now c.requires.ready c.loop-lists.lists c.loop-lists.invariant
    (some_there c.first_candidate.result _ c.first_candidate.ensures (sym c.loop-lists-test.ensures)) c.rounds.new.lists removed

pub returns-in-Refutes : goal.returns-in-Refutes
returns-in-Refutes c =
    let refuted : HasRefuted c.args.d c.args.clusters.now c.in-Refutes.room c.loop-lists.lists c.rounds.new.lists = rw c.in-Refutes.is at c.rounds.ensures in
    epochs_stop c.args.d c.args.clusters.now c.args.lists.now c.requires.ready c.loop-lists.lists c.loop-lists.invariant
    (some_there c.first_candidate.result _ c.first_candidate.ensures (sym c.loop-lists-test.ensures)) c.in-Refutes.room c.rounds.new.lists refuted

pub returns : goal.returns
returns c =
    epochs_end c.args.d c.args.clusters.now c.args.lists.now c.requires.ready c.loop-lists.lists c.loop-lists.invariant
    (none_there c.first_candidate.result _ c.first_candidate.ensures (sym c.loop-lists-test.ensures))

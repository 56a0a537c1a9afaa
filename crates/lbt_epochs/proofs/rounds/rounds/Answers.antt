use Rattle.std.proofs.Common.{◌<◌, length, arith}
use Rattle.lbt_epochs.proofs.RoundsSoFar.{rounds_go_on, rounds_removed, rounds_stuck, rounds_over}
use Rattle.lbt_epochs.proofs.rounds.rounds.Goals as goal

pub returns-in-Removes : goal.returns-in-Removes
returns-in-Removes c =
    let removed = rw c.room_in-room.ensures at c.in-Removes.ensures in
    rounds_removed c.args.d c.args.clusters.now c.args.lists.now c.requires.ready c.requires.few c.loop-r.lists c.loop-r.r c.loop-r.invariant c.round.new.lists removed

pub returns-in-Refutes : goal.returns-in-Refutes
returns-in-Refutes c =
    let stuck = rw c.room_in-room.ensures at c.in-Refutes.ensures in
    rw c.room_in-room.ensures
    (rounds_stuck c.args.d c.args.clusters.now c.args.lists.now c.requires.ready c.requires.few c.loop-r.lists c.loop-r.r c.loop-r.invariant c.round.new.lists stuck)

pub loop-r-preserved : goal.loop-r-preserved
loop-r-preserved c =
    let repeated = rw c.room_in-room.ensures at c.in-Repeats.ensures in
    rounds_go_on c.args.d c.args.clusters.now c.args.lists.now c.requires.ready c.requires.few c.loop-r.lists c.loop-r.r c.loop-r.invariant c.round.new.lists repeated

pub unreachable-requires : goal.unreachable-requires
unreachable-requires c =
    let over : length c.args.clusters.now < c.loop-r.r = omega arith in
    rounds_over c.args.d c.args.clusters.now c.args.lists.now c.requires.ready c.requires.few c.loop-r.lists c.loop-r.r c.loop-r.invariant over

use Rattle.std.proofs.Common.{sym}
use Rattle.replica_node.proofs.Holding.{held_unchanged, held_older, held_newer}
use Rattle.replica_node.proofs.hold.Goals as goal
use Rattle.replica_node.proofs.hold.Goals.{else-changes-via-then-changes+else-held-key, else-changes-via-else-changes}

pub returns-then-held-key : goal.returns-then-held-key
returns-then-held-key c = λ key past within. held_newer c.args.held.now c.args.entry.now key past within (record { stamp = 0; value = 0 }) (sym c.if-changes.ensures) c.if-held-key.true

pub returns-else-changes : goal.returns-else-changes
returns-else-changes c = λ key past within. elim c.else-changes.branch [
  | else-changes-via-then-changes+else-held-key w ↦ held_older c.args.held.now c.args.entry.now key past within (record { stamp = 0; value = 0 }) (sym w.if-changes.ensures) w.if-held-key.false
  | else-changes-via-else-changes w ↦ held_unchanged c.args.held.now c.args.entry.now key past within (sym w.if-changes.ensures)
]

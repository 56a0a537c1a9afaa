-- Each turn took a byte at least, and what was taken is within the limit.
use Rattle.std.proofs.Common.{◌≤◌, length}
use Rattle.audit_commands.specs.Steps.{IsTaken}
use Rattle.audit_commands.proofs.input.take_file.Given as goal

abbrev pub invariant-loop-turn : goal.invariant-loop-turn
invariant-loop-turn g l = record {
  turns : l.turn ≤ length l.bytes.items;
  short : length l.bytes.items ≤ l.limit;
  taken : IsTaken l.fn.name l.bytes.items (g.S.Shelf.shown l.fn.shelf) (g.S.Shelf.shown l.shelf);
}

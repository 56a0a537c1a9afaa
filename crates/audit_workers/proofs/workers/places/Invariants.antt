use Rattle.std.proofs.Common.{◌≡◌, length}
use Rattle.audit_workers.proofs.workers.places.Given as goal

abbrev pub invariant-loop-key : goal.invariant-loop-key
invariant-loop-key l = length l.verdicts.items ≡ l._key

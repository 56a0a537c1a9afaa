use Rattle.std.proofs.Common.{◌≡◌, [], replicate}
use Rattle.history_csv.proofs.parts.empty_parts.Given as goal

abbrev pub invariant-loop-part : goal.invariant-loop-part
invariant-loop-part l = l.parts.items ≡ replicate l._part []

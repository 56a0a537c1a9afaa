use Rattle.std.proofs.Common.{◌≡◌, ◌+◌, length}
use Rattle.stale_model.specs.Operations.{operations}
use Rattle.cert_checker.specs.RefutationSteps.{AreSpans}
use Rattle.cert_checker.proofs.refutations.fill_spans.Given as goal

abbrev pub invariant-loop-op : goal.invariant-loop-op
invariant-loop-op l = record {
  size : length l.spans.items ≡ length l.key.values + 1;
  spans : AreSpans (operations l.key) (l.op-index + 1) l.spans.items;
}

use Rattle.std.proofs.Common.{◌≡◌, ◌<◌, ◌+◌, All, length}
use Rattle.cert_checker.specs.RefutationSteps.{case_ops}
use Rattle.cert_checker.proofs.Tries.{AreHeld}
use Rattle.cert_checker.proofs.refutations.Case.first_failed.Given as goal

abbrev pub invariant-loop-place : goal.invariant-loop-place
invariant-loop-place l = record {
  tries : l.attempt-items ≡ l.self.refutation.now.tries;
  size : length l.marks.items ≡ length l.self.key.now.values + 1;
  bound : All (λ m. m < l.place + 1) l.marks.items;
  held : AreHeld (case_ops l.self) l.self.d l.self.refutation.now l.place;
}

use Rattle.std.proofs.Common.{◌≡◌}
use Rattle.cert_checker.proofs.EachKey.{AreShownTo}
use Rattle.cert_checker.proofs.keys.check_all.Given as goal

abbrev pub invariant-loop-place : goal.invariant-loop-place
invariant-loop-place l = record {
  keys : l.key-items ≡ l.history.keys;
  shown : AreShownTo l.history.keys l.verdicts l.place;
}

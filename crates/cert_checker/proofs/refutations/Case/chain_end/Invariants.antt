use Rattle.std.proofs.Common.{◌≡◌, ◌+◌, ◌≤◌, All, length}
use Rattle.std.specs.Prelude.{Contains}
use Rattle.cert_checker.specs.RefutationSteps.{case_ops, case_stuck, HaveMark}
use Rattle.cert_checker.proofs.Marks.{IsGoodTo}
use Rattle.cert_checker.proofs.ChainWalks.{IsForcedTo, LastIs}
use Rattle.cert_checker.proofs.refutations.Case.chain_end.Given as goal

abbrev pub invariant-loop-rec : goal.invariant-loop-rec
invariant-loop-rec l = record {
  size : length l.marks ≡ length l.self.key.now.values + 1;
  bound : All (λ m. m ≤ l.mark) l.marks;
  good : IsGoodTo (Contains (case_stuck l.self)) l.chain l.rec-index;
  forced : IsForcedTo (case_ops l.self) l.self.d l.chain l.rec-index;
  marked : HaveMark (case_ops l.self) l.chain l.rec-index l.marks l.mark;
  last : LastIs (case_ops l.self) l.chain l.rec-index l.last;
}

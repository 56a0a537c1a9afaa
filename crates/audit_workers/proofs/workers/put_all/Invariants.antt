use Rattle.std.proofs.Common.{◌≡◌, ℕ, List, ◌++◌, length}
use Rattle.std.specs.Vec.Iter.{into_iter_items, into_iter_len}
use Rattle.stale_model.specs.PrintedVerdicts.{IsPrintedVerdict}
use Rattle.audit_workers.specs.Claims.{AreClaims, keys_of}
use Rattle.audit_workers.specs.Workers.{IsFilled}
use Rattle.audit_workers.proofs.workers.put_all.Given as goal

abbrev pub invariant-loop-claim : goal.invariant-loop-claim
invariant-loop-claim l = record {
  yielded : l.yielded ++ into_iter_items l.claim-iterator ≡ l.fn.claims.items;
  ends : into_iter_len l.claim-iterator ≡ length (into_iter_items l.claim-iterator);
  many : length l.verdicts.items ≡ length l.history.keys;
  are : AreClaims IsPrintedVerdict l.history.keys (into_iter_items l.claim-iterator);
  filled : (claimed : List ℕ) → IsFilled l.history.keys claimed l.fn.verdicts.items → IsFilled l.history.keys (claimed ++ keys_of l.yielded) l.verdicts.items;
}

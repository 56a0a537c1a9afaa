use Rattle.std.proofs.Common.{List, length, ap, arith}
use Rattle.stale_model.specs.declared.store.Request.{Request}
use Rattle.run_laws.proofs.examples.repair_that_was_not_needed.Goals as goal

pub returns : goal.returns
returns c run = let many = ap (λ (qs : List Request). length qs) (run.sent.requests 0 1 (omega arith) (omega arith)) in omega arith

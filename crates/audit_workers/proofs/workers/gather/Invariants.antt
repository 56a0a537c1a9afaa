use Rattle.std.proofs.Common.{◌≡◌, ℕ, ◌+◌, ◌*◌, length, All, IfOk}
use Rattle.audit_workers.specs.Workers.{IsDone, IsGathered}
use Rattle.audit_workers.proofs.workers.gather.Given as goal

abbrev pub invariant-loop-one : goal.invariant-loop-one
invariant-loop-one l = record {
  own : l.whole.clock ≡ l.clock.id;
  many : length l.verdicts.items ≡ length l.history.keys;
  left : length l.whole.drawn + l.whole.left + length l.done.items * (length l.history.keys + 1) ≡ length l.fn.done.items * (length l.history.keys + 1);
  gathered : (calls : ℕ) × (calls + length l.done.items ≡ length l.fn.done.items) × IsGathered l.history.keys calls l.whole.drawn l.verdicts.items;
  done : All (λ one. IfOk one (λ done. IsDone l.clock l.history.keys done.0 done.1)) l.done.items;
}

abbrev pub decreases-loop-one : goal.decreases-loop-one
decreases-loop-one l = length l.done.items

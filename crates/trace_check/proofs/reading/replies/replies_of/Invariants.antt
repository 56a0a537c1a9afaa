use Rattle.std.proofs.Common.{◌≡◌, ◌≤◌, ℕ, length, drop}
use Rattle.std.specs.BTreeMap as tree
use Rattle.std.specs.Ordering.{nat_cmp}
use Rattle.trace_check.specs.Reading.{reply_at}
use Rattle.trace_check.proofs.reading.replies.replies_of.Given as goal

abbrev pub invariant-loop-place : goal.invariant-loop-place
invariant-loop-place l = record {
  within : l.place ≤ length l.lines;
  found : (ticket : ℕ) → tree.get nat_cmp l.replies ticket ≡ reply_at (drop l.place l.lines) ticket;
}

abbrev pub decreases-loop-place : goal.decreases-loop-place
decreases-loop-place l = l.place

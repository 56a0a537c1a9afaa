use Rattle.std.proofs.Common.{ℕ, ◌<◌}
use Rattle.std.specs.Prelude.{All}
use Rattle.stale_model.specs.RecordedRuns.{journal_of}
use Rattle.trace_check.proofs.judging.sent.are_of_clients.Given as goal

abbrev pub invariant-loop-journal : goal.invariant-loop-journal
invariant-loop-journal l = (replica : ℕ) → replica < l.journal-index → All (λ j. j.request.client < l.clients) (journal_of l.journals replica)

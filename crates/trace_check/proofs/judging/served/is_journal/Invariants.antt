use Rattle.std.proofs.Common.{◌≡◌, ℕ, take}
use Rattle.stale_model.specs.Journals.{held, IsJournal}
use Rattle.trace_check.specs.JournalSteps.{held_in, IsLatest}
use Rattle.trace_check.proofs.judging.served.is_journal.Given as goal

abbrev pub invariant-loop-entry : goal.invariant-loop-entry
invariant-loop-entry l = record {
  journal : IsJournal l.replica (take l.entry-index l.journal);
  holds : (key : ℕ) → held_in l.held key ≡ held key (take l.entry-index l.journal);
  last : IsLatest l.last (take l.entry-index l.journal);
}

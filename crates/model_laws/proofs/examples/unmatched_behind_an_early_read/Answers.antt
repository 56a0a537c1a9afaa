use Rattle.std.proofs.Common.{refl, arith}
use Rattle.stale_model.specs.Faults.{IsUnmatched, IsUnmatchedKey}
use Rattle.model_laws.specs.Examples.{read, early_and_unmatched}
use Rattle.model_laws.proofs.FaultTest.{no_duplicate, unmatched_at_least, unwritten}
use Rattle.model_laws.proofs.examples.unmatched_behind_an_early_read.Goals as goal

unmatched : IsUnmatched early_and_unmatched (read 3 2 5 6)
unmatched = record { read = record { there = (3, omega arith, refl); kind = refl }; unwritten = unwritten early_and_unmatched 2 refl }

unmatched_key : IsUnmatchedKey early_and_unmatched 3
unmatched_key = record {
  no_duplicate = no_duplicate early_and_unmatched refl;
  unmatched = record { at = (read 3 2 5 6, unmatched, refl); least = unmatched_at_least early_and_unmatched 3 refl };
}

pub returns : goal.returns
returns c = record { truth = unmatched_key; shown = unmatched_key; printed = unmatched_key }

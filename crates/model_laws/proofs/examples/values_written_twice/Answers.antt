use Rattle.std.proofs.Common.{refl, arith}
use Rattle.stale_model.specs.Faults.{IsDuplicate, IsDuplicateKey}
use Rattle.model_laws.specs.Examples.{write, two_written_twice}
use Rattle.model_laws.proofs.FaultTest.{duplicate_at_least}
use Rattle.model_laws.proofs.examples.values_written_twice.Goals as goal

duplicate : IsDuplicate two_written_twice (write 3 1 5 6)
duplicate = record {
  there = (3, omega arith, refl);
  kind = refl;
  earlier = (write 2 1 3 4, record { there = (2, omega arith, refl); kind = refl; value_is = refl }, omega arith);
}

duplicate_key : IsDuplicateKey two_written_twice 3
duplicate_key = record { at = (write 3 1 5 6, duplicate, refl); least = duplicate_at_least two_written_twice 3 refl }

pub returns : goal.returns
returns c = record { truth = duplicate_key; shown = duplicate_key; printed = duplicate_key }

use Rattle.std.proofs.Common.{rules}
use Rattle.std.specs.List.{IsDistinct}
use Rattle.run_laws.specs.Examples.{repaired_read}
use Rattle.run_laws.proofs.Written.{recorded}
use Rattle.run_laws.proofs.examples.a_repaired_read_is_recorded.Goals as goal

pub returns : goal.returns
unfolding IsDistinct
returns c = recorded repaired_read (search rules)

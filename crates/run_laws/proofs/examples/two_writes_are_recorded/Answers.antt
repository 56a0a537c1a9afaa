use Rattle.std.proofs.Common.{rules}
use Rattle.std.specs.List.{IsDistinct}
use Rattle.run_laws.specs.Examples.{two_writes}
use Rattle.run_laws.proofs.Written.{recorded}
use Rattle.run_laws.proofs.examples.two_writes_are_recorded.Goals as goal

pub returns : goal.returns
unfolding IsDistinct
returns c = recorded two_writes (search rules)

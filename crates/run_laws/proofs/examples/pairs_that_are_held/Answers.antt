use Rattle.std.proofs.Common.{refl}
use Rattle.run_laws.proofs.examples.pairs_that_are_held.Goals as goal

pub returns-clause-greatest : goal.returns-clause-greatest
returns-clause-greatest c = refl

pub returns-clause-first : goal.returns-clause-first
returns-clause-first c = refl

pub returns-clause-another_key : goal.returns-clause-another_key
returns-clause-another_key c = refl

pub returns-clause-no_write : goal.returns-clause-no_write
returns-clause-no_write c = refl

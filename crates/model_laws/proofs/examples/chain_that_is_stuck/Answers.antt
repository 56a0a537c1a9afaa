use Rattle.std.proofs.Common.{refl}
use Rattle.std.specs.Prelude.{Some}
use Rattle.model_laws.specs.Examples.{cluster, stuck_chain}
use Rattle.model_laws.proofs.Worked.{worked_out}
use Rattle.model_laws.proofs.examples.chain_that_is_stuck.Goals as goal

pub returns : goal.returns
returns c =
    worked_out stuck_chain (assumption refl) (0, 1, cluster 0 0 0 (Some 8) 0 1, cluster 6 3 3 (Some 3) 4 4, assumption refl)
    (assumption refl)

use Rattle.std.proofs.Common.{refl}
use Rattle.std.specs.Prelude.{[], ◌∷◌}
use Rattle.model_laws.specs.Examples.{long_chain, chained_three, chained_four}
use Rattle.model_laws.proofs.Worked.{worked_out}
use Rattle.model_laws.proofs.examples.chain_of_four_clusters.Goals as goal

pub returns-clause-worked_out : goal.returns-clause-worked_out
returns-clause-worked_out c =
    worked_out long_chain (assumption refl) (2, 4, chained_four, chained_three, assumption refl)
    (0 ∷ 2 ∷ 4 ∷ 3 ∷ 1 ∷ [], assumption refl)

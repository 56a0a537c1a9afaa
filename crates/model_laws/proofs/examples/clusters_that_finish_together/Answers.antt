use Rattle.std.proofs.Common.{refl}
use Rattle.std.specs.Prelude.{Some}
use Rattle.model_laws.specs.Examples.{cluster, tied_finishes}
use Rattle.model_laws.proofs.Worked.{worked_out}
use Rattle.model_laws.proofs.examples.clusters_that_finish_together.Goals as goal

pub returns : goal.returns
returns c =
    worked_out tied_finishes (assumption refl) (0, 1, cluster 0 0 0 (Some 6) 0 5, cluster 1 3 2 (Some 4) 3 4, assumption refl)
    (assumption refl)

use Rattle.std.proofs.Common.{refl}
use Rattle.std.specs.Prelude.{[], ◌∷◌, Some, None}
use Rattle.model_laws.specs.Examples.{cluster, tied_starts}
use Rattle.model_laws.proofs.Worked.{worked_out}
use Rattle.model_laws.proofs.examples.reads_that_start_together.Goals as goal

pub returns : goal.returns
returns c =
    worked_out tied_starts (assumption refl) (0, 1, cluster 0 0 0 (Some 4) 0 2, cluster 1 2 2 None 1 1, assumption refl)
    (0 ∷ 1 ∷ [], assumption refl)

use Rattle.std.proofs.Common.{[], ◌∷◌, refl}
use Rattle.model_laws.proofs.Tests.{differ_once}
use Rattle.lbt_epochs.proofs.tests.stale_read.Goals as goal

pub returns : goal.returns
returns c = differ_once (0 ∷ 1 ∷ 2 ∷ 3 ∷ []) refl

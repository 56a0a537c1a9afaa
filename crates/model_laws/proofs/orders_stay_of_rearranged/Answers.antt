use Rattle.model_laws.proofs.Rearranged.{orders_stay_of_rearranged}
use Rattle.model_laws.proofs.orders_stay_of_rearranged.Goals as goal

pub returns : goal.returns
returns c = orders_stay_of_rearranged

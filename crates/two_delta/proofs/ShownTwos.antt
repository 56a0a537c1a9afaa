-- What shows delta for 2-atomicity makes it the least.
use Rattle.std.proofs.Common.{ℕ, ◌-◌, ◌<◌, Option, List, arith}
use Rattle.std.specs.Prelude.{Some, None}
use Rattle.stale_model.specs.declared.Op.{Op}
use Rattle.stale_model.specs.declared.Refutation.{Refutation}
use Rattle.stale_model.specs.Operations.{operations}
use Rattle.stale_model.specs.NamedWrites.{NamesItsWrites}
use Rattle.stale_model.specs.LeastDelta.{HasNoOrder}
use Rattle.model_laws.proofs.Refuted.{refutations_exclude_orders}
use Rattle.model_laws.proofs.Named.{matched_keys_name_their_writes}
use Rattle.two_delta.specs.LeastTwos.{RefutationShows, ShownTwosAreLeast, AcceptedTwosAreLeast}

none_less : (ops : List Op) (delta : ℕ) (refutation : Option Refutation) → NamesItsWrites ops → RefutationShows ops delta refutation → (e : ℕ) → e < delta → HasNoOrder ops e 2
none_less ops delta None names zero e less = absurd (omega arith)
none_less ops delta (Some refutation) names (above, holds) e less = refutations_exclude_orders ops (delta - 1) e refutation names holds (omega arith)

pub shown_twos_are_least : ShownTwosAreLeast
shown_twos_are_least ops delta order refutation names shown = record {
  there = (order, shown.is_order);
  least = none_less ops delta refutation names shown.below;
}

pub accepted_twos_are_least : AcceptedTwosAreLeast
accepted_twos_are_least key delta order refutation valid matched shown =
    shown_twos_are_least (operations key) delta order refutation (matched_keys_name_their_writes key valid matched) shown

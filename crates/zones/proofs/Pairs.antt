-- The pair: the first zone that crosses an earlier one, and the one that it crosses.
use Rattle.std.proofs.Common.{◌≡◌, ℕ, ◌<◌, ◌≤◌, List, length, refl, sym, inl, inr, arith}
use Rattle.std.specs.List.{AllWithin, HoldsAt}
use Rattle.std.proofs.lemmas.Bool.{cases_lt}
use Rattle.std.proofs.lemmas.Option.{slice_get_read, get_or_from_slice_get}
use Rattle.stale_model.specs.declared.Cluster.{Cluster}
use Rattle.stale_model.specs.Orders.{StandsAt}
use Rattle.stale_model.specs.Zones.{last_start, IsPair}
use Rattle.zones.specs.Sweeps.{IsLaterOfPair}

-- where the zones before a place have no s above f, a zone with s above f stands there or later
at_or_after : (d : ℕ) (zones : List Cluster) (f place a : ℕ) (x : Cluster) → AllWithin (λ z. last_start d z ≤ f) zones 0 place → StandsAt zones a x → f < last_start d x → place ≤ a
at_or_after d zones f place a x low at above = elim (cases_lt a place) [
  | inl before ↦
      let here = get_or_from_slice_get zones a x x at in
      let bound = low a x (omega arith) before in
      let s = rw here at bound in
      omega arith
  | inr after ↦ after
]

pub pair_from_first : (d : ℕ) (zones : List Cluster) (i j : Cluster) (place : ℕ) → IsLaterOfPair d zones j → place < length zones → HoldsAt (λ z. z ≡ i) zones place
    → j.f < last_start d i → AllWithin (λ z. last_start d z ≤ j.f) zones 0 place → IsPair d zones i j
pair_from_first d zones i j place (x, pair) within here above low =
    let c = pair.crosses in
    let at : StandsAt zones place i = slice_get_read zones (length zones) place i refl within (sym (here i)) in
    let known = at_or_after d zones j.f place pair.earlier x low c.first c.crosses in
    let rises = c.rises in
    record {
      earlier = place;
      later = pair.later;
      crosses = record { first = at; second = c.second; rises = omega arith; crosses = above };
      first = pair.first;
    }

-- In the zone order, conflicts are crossings.
use Rattle.std.proofs.Common.{◌≡◌, ℕ, List, Some, ap, inl, inr, sym, ◌∙◌, subst, arith}
use Rattle.std.specs.Prelude.{Contains}
use Rattle.std.specs.Option.{option_map}
use Rattle.std.proofs.lemmas.Bool.{cases_order}
use Rattle.std.proofs.lemmas.Option.{slice_get-map}
use Rattle.std.proofs.lemmas.List.Sorted.{IsPermutation-sym, Contains-permutation}
use Rattle.stale_model.specs.declared.Cluster.{Cluster}
use Rattle.stale_model.specs.Clusters.{WriteRecordsDiffer}
use Rattle.stale_model.specs.Orders.{StandsAt}
use Rattle.stale_model.specs.Zones.{HasNoConflict, IsZoneOrder, Crosses, HasNoCrossing, IsPair}
use Rattle.stale_model.proofs.Places.{contains_at, place_of, same_at}
use Rattle.stale_model.proofs.Sorted.{permuted_no_repeats}
use Rattle.stale_model.proofs.ZoneOrders.{not_before, crossing_conflicts}
use Rattle.zones.specs.Conflicts.{IsConflict}
use Rattle.zones.specs.Sweeps.{IsPairInConflict}

-- clusters with one write record stand at one place
same_place : (zones : List Cluster) (a b : ℕ) (i j : Cluster) → WriteRecordsDiffer zones → StandsAt zones a i → StandsAt zones b j → i.write ≡ j.write → a ≡ b
same_place zones a b i j differ first second same =
    differ a b i.write
    (slice_get-map (λ c. c.write) zones a ∙ ap (option_map (λ (c : Cluster). c.write)) first)
    (slice_get-map (λ c. c.write) zones b ∙ ap (option_map (λ (c : Cluster). c.write)) second ∙ ap Some (sym same))

-- the zone order repeats no write record
pub zones-differ : (d : ℕ) (clusters zones : List Cluster) → WriteRecordsDiffer clusters → IsZoneOrder d clusters zones → WriteRecordsDiffer zones
zones-differ d clusters zones differ order =
    permuted_no_repeats (λ c. c.write) clusters zones order.each_once differ

module _ (d : ℕ) (clusters zones : List Cluster) (differ : WriteRecordsDiffer clusters) (order : IsZoneOrder d clusters zones) where
  contained : (k : ℕ) (c : Cluster) → StandsAt zones k c → Contains clusters c
  contained k c at = Contains-permutation zones clusters c (IsPermutation-sym clusters zones order.each_once) (contains_at zones k c at)

  -- a zone that crosses an earlier one is in conflict with it
  pub crossing-is_conflict : (earlier later : ℕ) (i j : Cluster) → Crosses d zones earlier later i j → IsConflict d clusters i j
  crossing-is_conflict earlier later i j c = record {
    i_there = contained earlier i c.first;
    j_there = contained later j c.second;
    apart = λ same. let e = same_place zones earlier later i j (zones-differ d clusters zones differ order) c.first c.second same in let r = c.rises in omega arith;
    conflict = crossing_conflicts d i j (not_before d zones earlier later i j order.sorted c.first c.second c.rises) c.crosses;
  }

  pub pair_of_clusters : (i j : Cluster) → IsPair d zones i j → IsPairInConflict d clusters i j
  pair_of_clusters i j pair = record {
    pair = record { zones = zones; zone_order = order; pair = pair };
    conflict = crossing-is_conflict pair.earlier pair.later i j pair.crosses;
  }

  pub no_crossing-from_no_conflict : HasNoConflict d clusters → HasNoCrossing d zones
  no_crossing-from_no_conflict none earlier later i j c =
      let h = crossing-is_conflict earlier later i j c in
      none i j h.i_there h.j_there h.apart h.conflict

  -- of two clusters in conflict, the later one in the zone order crosses the earlier one
  pub no_conflict-from_no_crossing : HasNoCrossing d zones → HasNoConflict d clusters
  no_conflict-from_no_crossing none i j first second apart c =
      let (a, at) = place_of zones i (Contains-permutation clusters zones i order.each_once first) in
      let (b, bt) = place_of zones j (Contains-permutation clusters zones j order.each_once second) in
      elim (cases_order a b) [
        | inl e ↦ apart (ap (λ (x : Cluster). x.write) (same_at zones a i j at (subst (λ (n : ℕ). StandsAt zones n j) (sym e) bt)))
        | inr less ↦ elim less [
          | inl rises ↦ none a b i j (record { first = at; second = bt; rises = rises; crosses = c.back })
          | inr rises ↦ none b a j i (record { first = bt; second = at; rises = rises; crosses = c.there })
        ]
      ]

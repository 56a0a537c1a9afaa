-- What shows that candidates fail with themselves alone, by the places that are left in each order.
use Rattle.std.proofs.Common.{◌≡◌, ℕ, ◌+◌, ◌<◌, ◌≤◌, Bool, true, false, cond, List, map, drop, get_or, Option, Some, None, ltb, refl, sym, ◌∙◌, ap, inl, inr, arith}
use Rattle.std.specs.Prelude.{Contains, AllPairs, slice_get, is_some, option_map}
use Rattle.std.specs.Ordering.{nat_cmp, on, is_lt, ordering_then}
use Rattle.std.proofs.lemmas.Bool.{ltb-true, cases_eq}
use Rattle.std.proofs.lemmas.Bool.Decides.{nat_tests}
use Rattle.std.proofs.lemmas.Option.{slice_get-map, get_or_from_slice_get}
use Rattle.std.proofs.lemmas.List.{get_or-drop, length-drop}
use Rattle.std.proofs.lemmas.List.Kept.{AllPairs-filter}
use Rattle.std.proofs.lemmas.List.Sorted.{sorted_far, ranks_by}
use Rattle.stale_model.specs.declared.Cluster.{Cluster}
use Rattle.stale_model.specs.Chains.{candidate_order, round}
use Rattle.stale_model.specs.Zones.{reads_start}
use Rattle.stale_model.proofs.Places.{contains_at}
use Rattle.stale_model.proofs.Members.{mapped_from, before_mapped}
use Rattle.lbt_epochs.specs.Lists.{Lists, left, cluster_at}
use Rattle.lbt_epochs.specs.Steps.{clusters_left, if_late, IsReady, AllFailAlone, HasLateWrite, HasThreeLateReads, IsStuck}
use Rattle.lbt_epochs.proofs.TotalOrders.{candidate_order-total}
use Rattle.lbt_epochs.proofs.LeftPlaces.{is_left, writes_ranked, reads_ranked}
use Rattle.lbt_epochs.proofs.FailAlone.{late_write_fails, third_is_late, stuck_alone}

late_by : {X : Type 0} (start : X → ℕ) (bound : ℕ) (x : X) (b : Bool) → ltb bound (start x) ≡ b → is_some (cond b (Some x) None) ≡ true → bound < start x
late_by start bound x true e some = ltb-true bound (start x) e
late_by start bound x false e some = cc

-- what is late starts after the tick
late_some : {X : Type 0} (start : X → ℕ) (bound : ℕ) (o : Option X) → is_some (if_late start bound o) ≡ true → (x : X) × (o ≡ Some x) × (bound < start x)
late_some start bound None some = cc
late_some start bound (Some x) some = (x, refl, late_by start bound x (ltb bound (start x)) refl some)

same_by : {X : Type 0} (b : Bool) (y u : X) → Some u ≡ cond b (Some y) None → u ≡ y
same_by true y u f = cc
same_by false y u f = cc

late_same : {X : Type 0} (start : X → ℕ) (bound : ℕ) (o : Option X) (x u : X) → o ≡ Some x → Some u ≡ if_late start bound o → u ≡ x
late_same start bound None x u e f = cc
late_same start bound (Some y) x u e f = let same : y ≡ x = cc in same_by (ltb bound (start y)) y u f ∙ same

module _ (clusters : List Cluster) (lists : Lists) (ready : IsReady clusters lists) where
  -- the late write that was found
  pub late_write_there : (f : ℕ) (u : Cluster) → Some u ≡ if_late (λ c. c.w) f (slice_get (map (cluster_at clusters) (left lists.placed lists.writes)) 0)
      → u.w ≤ u.f → HasLateWrite f (clusters_left clusters lists)
  late_write_there f u e in_turn =
      let writes = map (cluster_at clusters) (left lists.placed lists.writes) in
      let start : Cluster → ℕ = λ c. c.w in
      let (x, is, late) = late_some start f (slice_get writes 0) (ap is_some (sym e)) in
      let same = late_same start f (slice_get writes 0) x u is e in
      record {
        u = u;
        there = rw same ((writes_ranked clusters lists ready).known x (contains_at writes 0 x is));
        late = rw same late;
        in_turn = in_turn;
      }

  -- the third late reader that was found
  pub third_late_there : (d f : ℕ) (third found : Option ℕ) → third ≡ slice_get (left lists.placed lists.reads) 2
      → found ≡ if_late (λ at. reads_start (cluster_at clusters at)) (f + d) third → is_some found ≡ true → HasThreeLateReads d f (clusters_left clusters lists)
  third_late_there d f third found third_is found_is some =
      let places = left lists.placed lists.reads in
      let (at, is, late) = late_some (λ (at : ℕ). reads_start (cluster_at clusters at)) (f + d) third (ap is_some (sym found_is) ∙ some) in
      let stands : slice_get (map (cluster_at clusters) places) 2 ≡ Some (cluster_at clusters at) = slice_get-map (cluster_at clusters) places 2 ∙ ap (option_map (cluster_at clusters)) (sym third_is ∙ is) in
      third_is_late d f (clusters_left clusters lists) (map (cluster_at clusters) places) (cluster_at clusters at) (reads_ranked clusters lists ready) stands late

  -- so all candidates from there on fail
  pub late_write_ends : (d f : ℕ) → HasLateWrite f (clusters_left clusters lists) → AllFailAlone d f (clusters_left clusters lists)
  late_write_ends d f has = late_write_fails d f (clusters_left clusters lists) (writes_ranked clusters lists ready).differ has

  -- ---- candidates by falling f

  falls_nat : (s t v w : ℕ) → is_lt (ordering_then (nat_cmp s t) (nat_cmp v w)) ≡ false → t ≤ s
  falls_nat s t v w h = grind (arith, nat_tests)

  candidates_fall : AllPairs (λ i j. (cluster_at clusters j).f ≤ (cluster_at clusters i).f) (left lists.placed lists.candidates)
  candidates_fall =
      AllPairs-filter (λ i j. (cluster_at clusters j).f ≤ (cluster_at clusters i).f) (is_left lists.placed) lists.candidates
      (λ i j d less within.
      let x = cluster_at clusters (get_or lists.candidates i d) in
      let y = cluster_at clusters (get_or lists.candidates j d) in
      let far = sorted_far (λ a b. is_lt (on (cluster_at clusters) candidate_order a b)) (ranks_by candidate_order-total (cluster_at clusters)) lists.candidates ready.lists_are.candidates.sorted i j d (omega arith) within in
      falls_nat x.f y.f x.write y.write far)

  -- from a candidate on, none has a greater f
  from_candidate : (count at p : ℕ) → slice_get (left lists.placed lists.candidates) count ≡ Some at → Contains (drop count (left lists.placed lists.candidates)) p
      → Contains (left lists.placed lists.candidates) p × ((cluster_at clusters p).f ≤ (cluster_at clusters at).f)
  from_candidate count at p stands (k, l, e) =
      let places = left lists.placed lists.candidates in
      let n = length-drop count places in
      let here : get_or places (count + k) p ≡ p = sym (get_or-drop count places k p) ∙ e in
      let first = get_or_from_slice_get places count at p stands in (
        (count + k, omega arith, here),
        elim (cases_eq k 0) [
          | inl z ↦ (let same : p ≡ at = sym here ∙ (let s : count + k ≡ count = omega arith in rw s first) in rw same (omega arith))
          | inr more ↦ (let fall = candidates_fall count (count + k) p (omega arith) (omega arith) in rw (here, first) at fall)
        ],
      )

  -- where all from a candidate on fail with themselves alone, the round over them is refuted
  pub stuck_from : (d room count at : ℕ) → slice_get (left lists.placed lists.candidates) count ≡ Some at
      → AllFailAlone d (cluster_at clusters at).f (clusters_left clusters lists)
      → IsStuck (round d room (clusters_left clusters lists) (map (cluster_at clusters) (drop count (left lists.placed lists.candidates))))
  stuck_from d room count at stands each =
      stuck_alone d room (clusters_left clusters lists) (map (cluster_at clusters) (drop count (left lists.placed lists.candidates)))
      (λ c there.
      let (p, there_p, is) = before_mapped (cluster_at clusters) (drop count (left lists.placed lists.candidates)) c there in
      let (known, low) = from_candidate count at p stands there_p in
      each c (rw is at (mapped_from (cluster_at clusters) (left lists.placed lists.candidates) p known)) (rw is at low))

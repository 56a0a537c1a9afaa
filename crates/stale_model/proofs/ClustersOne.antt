-- The clusters of a key are one list.
use Rattle.std.proofs.Common.{◌≡◌, ℕ, List, map, refl, sym, ◌∙◌, ap, subst, arith}
use Rattle.std.specs.Prelude.{Contains, Option, Some, None}
use Rattle.std.specs.declared.cmp.Ordering.TheVariants.{Equal}
use Rattle.std.specs.Ordering.{nat_cmp, on}
use Rattle.std.specs.Cmp.{nat_cmp_total}
use Rattle.std.proofs.lemmas.Cmp.{on_total, ranked}
use Rattle.stale_model.specs.declared.Op.{Op}
use Rattle.stale_model.specs.declared.Cluster.{Cluster}
use Rattle.stale_model.specs.Clusters.{IsLeastFinish, IsGreatestStart, AreReadsOf, IsClusterOf, AreClusters, WriteRecordsDiffer}
use Rattle.stale_model.proofs.Sorted.{sorted_one, rising_no_repeats, rising_sorted, no_repeats_from_map, one_by_number}

module _ (ops : List Op) (value : ℕ) where
  same_finish : (f first g other : ℕ) → IsLeastFinish ops value f first → IsLeastFinish ops value g other → (f ≡ g) × (first ≡ other)
  same_finish f first g other p q =
      let finish_p = p.finish_is in
      let finish_q = q.finish_is in
      let first_p = p.first_is in
      let first_q = q.first_is in
      let low = p.least q.op q.member in
      let high = q.least p.op p.member in
      let same : f ≡ g = omega arith in
      let before = p.least_record q.op q.member (omega arith) in
      let after = q.least_record p.op p.member (omega arith) in
      (same, omega arith)

  same_start : (s last t other : ℕ) → IsGreatestStart ops value s last → IsGreatestStart ops value t other → (s ≡ t) × (last ≡ other)
  same_start s last t other p q =
      let start_p = p.start_is in
      let start_q = q.start_is in
      let last_p = p.last_is in
      let last_q = q.last_is in
      let low = p.greatest q.op q.member in
      let high = q.greatest p.op p.member in
      let same : s ≡ t = omega arith in
      let before = p.least_record q.op q.member (omega arith) in
      let after = q.least_record p.op p.member (omega arith) in
      (same, omega arith)

same_reads : (ops : List Op) (w : Op) (s t : Option ℕ) (last other : ℕ) → AreReadsOf ops w s last → AreReadsOf ops w t other → (s ≡ t) × (last ≡ other)
same_reads ops w None None last other p q = (refl, sym p.last_is ∙ q.last_is)
same_reads ops w None (Some t) last other p q = absurd (p.none q.op q.member)
same_reads ops w (Some s) None last other p q = absurd (q.none p.op p.member)
same_reads ops w (Some s) (Some t) last other p q = let (e, f) = same_start ops w.value s last t other p q in (ap Some e, f)

-- a write has one cluster
pub cluster_is_one : (ops : List Op) (w : Op) (c e : Cluster) → IsClusterOf ops w c → IsClusterOf ops w e → c ≡ e
cluster_is_one ops w c e p q =
    let write : c.write ≡ e.write = sym p.record_is ∙ q.record_is in
    let start : c.w ≡ e.w = sym p.start_is ∙ q.start_is in
    let (f, first) = same_finish ops w.value c.f c.first e.f e.first p.finishes q.finishes in
    let (s, last) = same_reads ops w c.s e.s c.last e.last p.reads q.reads in
    λ i. record { write = write i; f = f i; w = start i; s = s i; first = first i; last = last i }

-- no write has two of the clusters
pub cluster_writes_differ : (ops : List Op) (clusters : List Cluster) → AreClusters ops clusters → WriteRecordsDiffer clusters
cluster_writes_differ ops clusters these = rising_no_repeats (map (λ (c : Cluster). c.write) clusters) these.rising

among_others : (ops : List Op) (xs ys : List Cluster) → AreClusters ops xs → AreClusters ops ys → (c : Cluster) → Contains xs c → Contains ys c
among_others ops xs ys these those c there =
    let (w, is) = these.each c there in
    let (e, among, is2) = those.whole w is.there is.kind in
    subst (λ (x : Cluster). Contains ys x) (sym (cluster_is_one ops w c e is is2)) among

pub clusters_are_one : (ops : List Op) (xs ys : List Cluster) → AreClusters ops xs → AreClusters ops ys → xs ≡ ys
clusters_are_one ops xs ys these those =
    let once = cluster_writes_differ ops xs these in
    sorted_one (on (λ (c : Cluster). c.write) nat_cmp) (on_total (λ (c : Cluster). c.write) nat_cmp_total) xs ys
    (no_repeats_from_map (λ c. c.write) xs once) (no_repeats_from_map (λ c. c.write) ys (cluster_writes_differ ops ys those))
    (among_others ops xs ys these those) (among_others ops ys xs those these)
    (λ x y cx cy e. one_by_number (λ c. c.write) xs x y once cx cy (ranked x.write y.write Equal (sym e)))
    (rising_sorted (λ c. c.write) xs these.rising) (rising_sorted (λ c. c.write) ys those.rising)

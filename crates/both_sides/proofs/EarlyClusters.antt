-- Early reads show as clusters whose f is before their write's start, also where finishes are later.
use Rattle.std.proofs.Common.{◌≡◌, ℕ, ◌+◌, ◌≤◌, List, refl, sym, ◌∙◌, ap, inl, inr, subst, arith}
use Rattle.std.specs.Prelude.{◌↔◌}
use Rattle.stale_model.specs.declared.Op.{Op}
use Rattle.stale_model.specs.declared.Cluster.{Cluster}
use Rattle.stale_model.specs.Operations.{operations, earliest_start, latest_finish}
use Rattle.stale_model.specs.Faults.{IsWriteOf, IsEarly, IsLeastRecord}
use Rattle.stale_model.specs.Clusters.{AreClusters}
use Rattle.stale_model.proofs.ReadsAndWrites.{reads_or_writes}
use Rattle.delta_score.specs.ZoneLaws.{AreOrderable}
use Rattle.delta_score.proofs.Ordered.{matched_keys_are_orderable}
use Rattle.both_sides.specs.Raised.{raised, raised_ops, raised_clusters, HasEarlyCluster}
use Rattle.both_sides.specs.LeastSides.{IsEarlyOnBothSides, EarlyReadsAreEarlyClusters}
use Rattle.both_sides.proofs.Kept.{read_changed, read_unchanged, write_changed, write_unchanged}
use Rattle.both_sides.proofs.LaterFinishes.{InitialIsFirst, initial_is_first, raised_keeps, finishes_before, precedes_at_zero, before_is_later_finish, raised_are_orderable, clusters_raised}

module _ (ops : List Op) (clusters : List Cluster) (able : AreOrderable ops) (are : AreClusters ops clusters) where
  -- the operation that finishes before the write starts is a read, since the write doesn't
  pub early_read_of_cluster : HasEarlyCluster clusters → (a : Op) × IsEarly ops a
  early_read_of_cluster (c, there, less) =
      let (w, is) = are.each c there in
      let op = is.finishes.op in
      let of = is.finishes.member in
      let finish = is.finishes.finish_is in
      let start = is.start_is in
      elim (reads_or_writes op) [
        | inl read ↦ (op, record { read = record { there = of.there; kind = read }; before = (w, record { there = is.there; kind = is.kind; value_is = sym of.value_is }, omega arith) })
        | inr write ↦
            let same : op ≡ w = able.names.once w.value op w (record { there = of.there; kind = write; value_is = of.value_is }) (record { there = is.there; kind = is.kind; value_is = refl }) in
            let one : earliest_start op ≡ earliest_start w = ap earliest_start same in
            let starts = able.finish op of.there in
            absurd (omega arith)
      ]

  pub early_cluster_of_read : (a : Op) → IsEarly ops a → HasEarlyCluster clusters
  early_cluster_of_read a early =
      let (w, ww, less) = early.before in
      let (c, there, is) = are.whole w ww.there ww.kind in
      let low = is.finishes.least a (record { there = early.read.there; value_is = sym ww.value_is }) in
      let start = is.start_is in
      (c, there, omega arith)

module _ (ops : List Op) (g : ℕ) (first : InitialIsFirst ops) where
  -- a read that is early on both sides is early once finishes are later
  pub early_when_raised : (a : Op) → IsEarlyOnBothSides ops g a → IsEarly (raised_ops (g + g) ops) (raised (g + g) a)
  early_when_raised a is =
      let (w, ww, before) = is.before in
      record {
        read = read_changed (raised (g + g)) (raised_keeps (g + g)) ops a is.read;
        before = (
          raised (g + g) w,
          write_changed (raised (g + g)) (raised_keeps (g + g)) ops a.value w ww,
          finishes_before (raised (g + g) a) (raised (g + g) w) ((before_is_later_finish ops g a w first is.read.there ww.there).0 before),
        );
      }

  -- and each that is early then was so
  pub early_before_raise : (b : Op) → IsEarly (raised_ops (g + g) ops) b → (a : Op) × IsEarlyOnBothSides ops g a × (raised (g + g) a ≡ b)
  early_before_raise b early =
      let (a, read, e) = read_unchanged (raised (g + g)) (raised_keeps (g + g)) ops b early.read in
      let (x, xx, less) = early.before in
      let (w, ww, ew) = write_unchanged (raised (g + g)) (raised_keeps (g + g)) ops b.value x xx in
      let value : b.value ≡ a.value = sym (ap (λ (z : Op). z.value) e) in
      let finish : latest_finish (raised (g + g) a) ≡ latest_finish b = ap latest_finish e in
      let start : earliest_start (raised (g + g) w) ≡ earliest_start x = ap earliest_start ew in
      let later = precedes_at_zero (raised (g + g) a) (raised (g + g) w) (omega arith) in
      (a, record { read = read; before = (w, subst (λ (v : ℕ). IsWriteOf ops v w) value ww, (before_is_later_finish ops g a w first read.there ww.there).1 later) }, e)

  -- so the least record of an early read is one
  pub least_early_when_raised : (rec : ℕ) → IsLeastRecord (IsEarlyOnBothSides ops g) rec ↔ IsLeastRecord (IsEarly (raised_ops (g + g) ops)) rec
  least_early_when_raised rec = (
    λ is.
        let (a, early, e) = is.at in
        record {
          at = (raised (g + g) a, early_when_raised a early, e);
          least = λ b of. let (c, was, same) = early_before_raise b of in subst (λ (x : Op). rec ≤ x.rec) same (is.least c was);
        },
    λ is.
        let (b, early, e) = is.at in
        let (a, was, same) = early_before_raise b early in
        record {
          at = (a, was, ap (λ (x : Op). x.rec) same ∙ e);
          least = λ c of. is.least (raised (g + g) c) (early_when_raised c of);
        },
  )

pub early_reads_are_early_clusters : EarlyReadsAreEarlyClusters
early_reads_are_early_clusters key clusters g valid matched are =
    let ops = operations key in
    let t = g + g in
    let first = initial_is_first key valid in
    let able = matched_keys_are_orderable key valid matched in
    let able_then = raised_are_orderable ops t first able in
    let are_then = clusters_raised ops t first able clusters are in (
      λ has. let (a, early) = has in early_cluster_of_read (raised_ops t ops) (raised_clusters t clusters) able_then are_then (raised t a) (early_when_raised ops g first a early),
      λ has.
          let (b, early) = early_read_of_cluster (raised_ops t ops) (raised_clusters t clusters) able_then are_then has in
          let (a, was, same) = early_before_raise ops g first b early in
          (a, was),
    )

-- In the clusters of a clear key the write starts no later than the first operation finishes.
use Rattle.std.proofs.Common.{◌≡◌, ◌≤◌, List, get_or, refl, sym, inl, inr, subst, arith}
use Rattle.std.specs.Prelude.{All, Contains}
use Rattle.std.proofs.lemmas.Bool.{cases_lt}
use Rattle.std.proofs.lemmas.List.{get_or_default}
use Rattle.stale_model.specs.declared.Op.{Op}
use Rattle.stale_model.specs.declared.Cluster.{Cluster}
use Rattle.stale_model.specs.declared.KeyOps.{KeyOps}
use Rattle.stale_model.specs.Operations.{operations, IsWrite, earliest_start, latest_finish}
use Rattle.stale_model.specs.Valid.{IsValidKey}
use Rattle.stale_model.specs.Faults.{IsWriteOf, IsClearKey}
use Rattle.stale_model.specs.Clusters.{AreClusters}
use Rattle.model_laws.proofs.Named.{matched_keys_name_their_writes}
use Rattle.stale_model.proofs.ReadsAndWrites.{reads_or_writes}
use Rattle.delta_score.proofs.Ordered.{starts_before_finish}

-- the write of a cluster starts no later than an operation of it finishes
starts_by : (key : KeyOps) (w a : Op) → IsValidKey key → IsClearKey (operations key) → Contains (operations key) w → IsWrite w → Contains (operations key) a → a.value ≡ w.value → earliest_start w ≤ latest_finish a
starts_by key w a valid clear there write there_a same = elim (reads_or_writes a) [
  | inl read ↦ elim (cases_lt (latest_finish a) (earliest_start w)) [
    | inl early ↦
        let is : IsWriteOf (operations key) a.value w = record { there = there; kind = write; value_is = sym same } in
        absurd (clear.no_early a (record { read = record { there = there_a; kind = read }; before = (w, is, early) }))
    | inr late ↦ late
  ]
  | inr other ↦
      let names = matched_keys_name_their_writes key valid clear.matched in
      let e : w ≡ a = names.once a.value w a (record { there = there; kind = write; value_is = sym same }) (record { there = there_a; kind = other; value_is = refl }) in
      let own = starts_before_finish key w valid there in
      subst (λ (x : Op). earliest_start w ≤ latest_finish x) e own
]

pub starts_by_finish : (key : KeyOps) (clusters : List Cluster) → IsValidKey key → IsClearKey (operations key) → AreClusters (operations key) clusters → All (λ c. c.w ≤ c.f) clusters
starts_by_finish key clusters valid clear are i d within =
    let c : Cluster = get_or clusters i d in
    let there : Contains clusters c = (i, within, get_or_default clusters i c d within) in
    let (w, of) = are.each c there in
    let least = of.finishes in
    let starts = starts_by key w least.op valid clear of.there of.kind least.member.there least.member.value_is in
    let start_is = of.start_is in
    let finish_is = least.finish_is in
    omega arith

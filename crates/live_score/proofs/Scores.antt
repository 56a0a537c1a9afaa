-- What the scores of clusters say of the operations.
use Rattle.std.proofs.Common.{◌≡◌, ℕ, ◌-◌, ◌<◌, ◌≤◌, List, max, inl, inr, sym, refl, ap, arith}
use Rattle.std.specs.Prelude.{◌↔◌, Contains}
use Rattle.std.proofs.lemmas.Bool.{cases_lt}
use Rattle.stale_model.specs.declared.Op.{Op}
use Rattle.stale_model.specs.declared.Cluster.{Cluster}
use Rattle.stale_model.specs.Operations.{latest_finish}
use Rattle.stale_model.specs.Faults.{IsEarly, HasNone}
use Rattle.stale_model.specs.Clusters.{AreClusters}
use Rattle.stale_model.specs.LeastDelta.{IsLeastDelta, HasNoDelta}
use Rattle.stale_model.specs.Zones.{AreInConflict, HasNoConflict}
use Rattle.stale_model.proofs.ReadsAndWrites.{reads_or_writes}
use Rattle.delta_score.specs.ZoneLaws.{AreOrderable}
use Rattle.delta_score.proofs.Theorem.{zone_theorem_of_any}
use Rattle.live_score.specs.declared.places.Place.{Place}
use Rattle.live_score.specs.Places.{unbounded, score}
use Rattle.live_score.specs.Scores.{place_of, IsTimely, AreWithin, IsGreatestScore}

-- each of two starts after the other's f exactly where d is less than their score
sides_are_scores : (d : ℕ) (a b : Place) → a.w ≤ a.f → b.w ≤ b.f → a.s ≤ unbounded → b.s ≤ unbounded → ((a.f < max b.w (b.s - d)) × (b.f < max a.w (a.s - d))) ↔ (d < score a b)
sides_are_scores d a b m n p q = (λ both. let there = both.0 in let back = both.1 in grind arith, λ less. (grind arith, grind arith))

-- the score of two clusters is the least d at which they are not in conflict
pub conflict_is_score : (d : ℕ) (i j : Cluster) → IsTimely i → IsTimely j → AreInConflict d i j ↔ (d < score (place_of i) (place_of j))
conflict_is_score d i j ti tj =
    let (to, from) = sides_are_scores d (place_of i) (place_of j) ti.begins tj.begins ti.fits tj.fits in
    (λ conflict. to (conflict.there, conflict.back), λ less. let (there, back) = from less in record { there = there; back = back })

-- where an operation of a cluster finishes before its write starts, no d has an order
pub early_has_no_delta : (ops : List Op) (clusters : List Cluster) (c : Cluster) → AreOrderable ops → AreClusters ops clusters → Contains clusters c → c.f < c.w → HasNoDelta ops 1
early_has_no_delta ops clusters c able are there early d order is =
    let free = (zone_theorem_of_any ops d clusters able are).0 (order, is) in
    let (w, of) = are.each c there in
    let start = of.start_is in
    let f = of.finishes in
    let finish = f.finish_is in
    let member = f.member in
    elim (reads_or_writes f.op) [
      | inl read ↦
          free.no_early f.op (record {
            read = record { there = member.there; kind = read };
            before = (w, record { there = of.there; kind = of.kind; value_is = sym member.value_is }, omega arith);
          })
      | inr write ↦
          let same : f.op ≡ w
          = able.names.once w.value f.op w (record { there = member.there; kind = write; value_is = member.value_is }) (record { there = of.there; kind = of.kind; value_is = refl }) in
          let ends : latest_finish f.op ≡ latest_finish w = ap latest_finish same in
          let begins = able.finish w of.there in
          omega arith
    ]

module _ (ops : List Op) (clusters : List Cluster) (d : ℕ) (able : AreOrderable ops) (are : AreClusters ops clusters) (timely : (c : Cluster) → Contains clusters c → IsTimely c)
    (greatest : IsGreatestScore clusters d) where
  none_is_early : HasNone (IsEarly ops)
  none_is_early r early =
      let (w, of, before) = early.before in
      let (c, there, is) = are.whole w of.there of.kind in
      let least = is.finishes.least r (record { there = early.read.there; value_is = sym of.value_is }) in
      let start = is.start_is in
      let begins = (timely c there).begins in
      omega arith

  none_conflict : HasNoConflict d clusters
  none_conflict i j ci cj apart conflict =
      let less = (conflict_is_score d i j (timely i ci) (timely j cj)).0 conflict in
      let most = (greatest d).0 (omega arith) i j ci cj apart in
      omega arith

  within_by : (e : ℕ) → HasNoConflict e clusters → AreWithin e clusters
  within_by e free i j ci cj apart = elim (cases_lt e (score (place_of i) (place_of j))) [
    | inl less ↦ absurd (free i j ci cj apart ((conflict_is_score e i j (timely i ci) (timely j cj)).1 less))
    | inr le ↦ le
  ]

  -- else the greatest score is the least d with an order
  pub greatest_is_least : IsLeastDelta ops 1 d
  greatest_is_least = record {
    there = (zone_theorem_of_any ops d clusters able are).1 (record { no_early = none_is_early; no_conflict = none_conflict });
    least = λ e low order is.
        let free = (zone_theorem_of_any ops e clusters able are).0 (order, is) in
        let most = (greatest e).1 (within_by e free.no_conflict) in
        omega arith;
  }

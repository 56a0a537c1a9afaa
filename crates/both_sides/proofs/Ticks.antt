-- The ticks of a valid key's operations and clusters.
use Rattle.std.proofs.Common.{◌≡◌, ℕ, ◌+◌, ◌-◌, ◌^◌, ◌<◌, ◌≤◌, max, List, length, get_or, refl, ap, arith}
use Rattle.std.specs.Prelude.{All, Contains, Option, Some, None, unwrap_or}
use Rattle.std.proofs.lemmas.List.Elements.{All-cons, All-contains, Contains-get_or}
use Rattle.stale_model.specs.declared.Op.{Op}
use Rattle.stale_model.specs.declared.KeyOps.{KeyOps}
use Rattle.stale_model.specs.declared.Cluster.{Cluster}
use Rattle.stale_model.specs.Operations.{initial_write, operations, earliest_start, latest_finish}
use Rattle.stale_model.specs.Valid.{IsValidOp, IsValidKey}
use Rattle.stale_model.specs.Clusters.{IsClusterOf, AreClusters, AreReadsOf}
use Rattle.both_sides.specs.Gaps.{HasTicks}
use Rattle.both_sides.proofs.LaterFinishes.{choice_above_zero}

-- the ticks of an operation, by whether it is recorded
pub record HasOpTicks (a : Op) : Type 0 where
  pub initial : a.rec ≡ 0 → a ≡ initial_write
  pub recorded : 0 < a.rec → 0 < earliest_start a
  pub start : earliest_start a < 2 ^ 62
  pub finish : latest_finish a < 2 ^ 63 + 2 ^ 62

initial_ticks : HasOpTicks initial_write
initial_ticks = record { initial = λ e. refl; recorded = λ above. absurd (omega arith); start = omega arith; finish = omega arith }

valid_ticks : (values : ℕ) (a : Op) → IsValidOp values a → HasOpTicks a
valid_ticks values a v =
    let numbered : 0 < a.rec = v.numbered in
    let tick = v.tick in
    let ends = v.ends in
    let slack = v.slack in
    let start : earliest_start a ≡ max 1 (a.start - a.slack) = choice_above_zero a.rec 0 (max 1 (a.start - a.slack)) numbered in
    record {
      initial = λ e. absurd (omega arith);
      recorded = λ above. rw start (omega arith);
      start = rw start (omega arith);
      finish = omega arith;
    }

pub op_ticks : (key : KeyOps) (a : Op) → IsValidKey key → Contains (operations key) a → HasOpTicks a
op_ticks key a valid there =
    All-contains HasOpTicks (operations key) a
    (All-cons HasOpTicks initial_write key.ops initial_ticks (λ k d within. valid_ticks (length key.values) (get_or key.ops k d) (valid.ops k d within))) there

module _ (key : KeyOps) (valid : IsValidKey key) where
  ticks_of : (w : Op) (c : Cluster) → IsClusterOf (operations key) w c → HasTicks c
  ticks_of w c is =
      let own = op_ticks key w valid is.there in
      let record_is : w.rec ≡ c.write = is.record_is in
      let start_is : earliest_start w ≡ c.w = is.start_is in
      let low : c.f ≤ latest_finish w = is.finishes.least w (record { there = is.there; value_is = refl }) in
      let finish = own.finish in
      let start = own.start in
      let reads = reads_start_low c.s c.last is.reads in
      record {
        initial = λ e.
            let same = own.initial (omega arith) in
            let zero_start : earliest_start w ≡ 0 = ap earliest_start same in
            let zero_finish : latest_finish w ≡ 0 = ap latest_finish same in
            (omega arith, omega arith);
        recorded = λ above. let h = own.recorded (omega arith) in omega arith;
        finish = omega arith;
        start = omega arith;
      } where
        reads_start_low : (s : Option ℕ) (last : ℕ) → AreReadsOf (operations key) w s last → unwrap_or s 0 < 2 ^ 62
        reads_start_low None last none = omega arith
        reads_start_low (Some s) last g =
            let t = op_ticks key g.op valid g.member.read.there in
            let start = t.start in
            let is = g.start_is in
            omega arith

  pub cluster_ticks : (clusters : List Cluster) → AreClusters (operations key) clusters → All HasTicks clusters
  cluster_ticks clusters are k d within =
      let (w, is) = are.each (get_or clusters k d) (Contains-get_or clusters k d within) in
      ticks_of w (get_or clusters k d) is

-- The precedence with both ends moved is that of greater slacks.
use Rattle.std.proofs.Common.{◌≡◌, ℕ, ◌+◌, ◌<◌, List, refl, ap, inl, inr, arith}
use Rattle.std.specs.Prelude.{◌-◌, max, ◌↔◌, Contains}
use Rattle.std.proofs.lemmas.Bool.{cases_lt}
use Rattle.stale_model.specs.declared.Op.{Op}
use Rattle.stale_model.specs.Operations.{operations, earliest_start, latest_finish}
use Rattle.stale_model.specs.Precedence.{Precedes}
use Rattle.stale_model.specs.Sides.{IsBeforeOnBothSides}
use Rattle.delta_score.specs.ZoneLaws.{FinishFromStart}
use Rattle.delta_score.proofs.Ordered.{starts_before_finish}
use Rattle.both_sides.specs.SideLaws.{widened, SidesAreSlack, SideOrdersAreOrdersOfSlack}
use Rattle.both_sides.proofs.Kept.{KeepsNames, side_orders_are_orders}
use Rattle.both_sides.proofs.LaterFinishes.{InitialIsFirst, initial_is_first, choice_at_zero, choice_above_zero, initial_start, recorded_start, precedes_at_zero, finishes_before}

widened_keeps : (g : ℕ) → KeepsNames (widened g)
widened_keeps g = record { record_is = λ a. refl; kind_is = λ a. refl; value_is = λ a. refl }

initial_widened : (g : ℕ) (a : Op) → a.rec ≡ 0 → latest_finish (widened g a) ≡ latest_finish a
initial_widened g a e = ap (λ (n : ℕ). a.finish + n) (choice_at_zero a.rec a.slack (a.slack + g) e)

recorded_widened : (g : ℕ) (a : Op) → 0 < a.rec → latest_finish (widened g a) ≡ latest_finish a + g
recorded_widened g a above = let e = choice_above_zero a.rec a.slack (a.slack + g) above in omega arith

-- an operation with greater slack starts earlier, and not before 1
start_widened : (g : ℕ) (a : Op) → 0 < a.rec → earliest_start (widened g a) ≡ max 1 (a.start - (a.slack + g))
start_widened g a above =
    let start = recorded_start (widened g a) above in
    let e = choice_above_zero a.rec a.slack (a.slack + g) above in
    omega arith

-- before on both sides exactly where it precedes once slacks are greater
before_is_slack : (ops : List Op) (g : ℕ) (a b : Op) → InitialIsFirst ops → FinishFromStart ops → Contains ops a → Contains ops b
    → IsBeforeOnBothSides g a b ↔ Precedes 0 (widened g a) (widened g b)
before_is_slack ops g a b first finish ca cb = (
  λ before.
      let start = recorded_start b before.recorded in
      let then = start_widened g b before.recorded in
      precedes_at_zero (widened g a) (widened g b) (elim (cases_lt 0 a.rec) [
        | inl above ↦
            let end = recorded_widened g a above in
            let begin = recorded_start a above in
            let ordered = finish a ca in
            let apart = before.apart above in
            omega arith
        | inr none ↦
            let end = initial_widened g a (omega arith) in
            let own = first.finish a ca (omega arith) in
            omega arith
      ]),
  λ precedes.
      let less = finishes_before (widened g a) (widened g b) precedes in
      elim (cases_lt 0 b.rec) [
        | inl recorded ↦
            let start = recorded_start b recorded in
            let then = start_widened g b recorded in
            record {
              recorded = recorded;
              apart = λ above.
                  let end = recorded_widened g a above in
                  let begin = recorded_start a above in
                  let ordered = finish a ca in
                  omega arith;
            }
        | inr none ↦ let start = initial_start (widened g b) (omega arith) in absurd (omega arith)
      ],
)

pub sides_are_slack : SidesAreSlack
sides_are_slack key g a b valid ca cb = before_is_slack (operations key) g a b (initial_is_first key valid) (λ x there. starts_before_finish key x valid there) ca cb

pub side_orders_are_orders_of_slack : SideOrdersAreOrdersOfSlack
side_orders_are_orders_of_slack key g order valid =
    side_orders_are_orders (widened g) (widened_keeps g) (operations key) g (λ a b ca cb. sides_are_slack key g a b valid ca cb) order

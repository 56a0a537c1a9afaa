use Rattle.std.proofs.Common.{◌≡◌, ◌∙◌, ◌-◌, suc, ℕ, get_or, sym, inl, inr, min, rules, arith}
use Rattle.std.proofs.lemmas.List.{length-set}
use Rattle.std.proofs.lemmas.Option.{slice_get-get_or}
use Rattle.stale_model.specs.declared.Op.{Op}
use Rattle.stale_model.specs.Operations.{latest_finish}
use Rattle.order_moments.specs.Moments.{IsLatest}
use Rattle.order_moments.proofs.Latest.{latest_more, least_from_latest}
use Rattle.order_moments.proofs.Grown.{past_end, stood_or_written}
use Rattle.order_moments.proofs.ticks.latest_finishes.Goals as goal

pub loop-place-preserved : goal.loop-place-preserved
loop-place-preserved c =
    let ordered = c.args.ordered.now in
    let place : ℕ = c.loop-place.place - 1 in
    let before = c.loop-place.latest.items in
    let inv = c.loop-place.invariant in
    let many = inv.many in
    let past = inv.past in
    let within = c.loop-place.auto.place in
    let some = c.loop-place-test.true in
    let a : Op = get_or ordered place past_end in
    let next : suc place ≡ c.loop-place.place = omega arith in
    let fits = c.requires place past_end (omega arith) in
    let lesser : c.min-least.result ≡ min c.loop-place.least (latest_finish a) = search rules in
    let is : IsLatest ordered place c.min-least.result =
    latest_more ordered place a c.loop-place.least c.min-least.result (slice_get-get_or ordered place past_end (omega arith)) (rw next inv.least) (λ h. omega arith) lesser in
    record {
      many = length-set before place c.min-least.result ∙ many;
      least = least_from_latest ordered place c.min-least.result is;
      past = λ h. absurd (omega arith);
      each = λ at tick low stands. elim (stood_or_written before c.min-least.result place at tick stands) [
        | inl stood ↦ let other = stood.0 in inv.each at tick (omega arith) stood.1
        | inr written ↦ rw (written.0, sym written.1) is
      ];
    }

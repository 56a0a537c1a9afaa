use Rattle.std.proofs.Common.{◌≡◌, ◌∙◌, ◌+◌, suc, ◌∷◌, [], ◌++◌, ℕ, length, get_or, min, refl, sym, ap, inl, inr, arith}
use Rattle.std.proofs.lemmas.List.{length_push}
use Rattle.std.proofs.lemmas.Option.{slice_get-get_or}
use Rattle.stale_model.specs.declared.Op.{Op}
use Rattle.stale_model.specs.Operations.{earliest_start}
use Rattle.order_moments.specs.Moments.{IsOwnTick, IsMoment}
use Rattle.order_moments.proofs.OwnTicks.{moment_more, greatest_from_moment}
use Rattle.order_moments.proofs.Grown.{past_end, stood_or_last}
use Rattle.order_moments.proofs.ticks.moments_by.Goals as goal

pub loop-place-preserved : goal.loop-place-preserved
loop-place-preserved c =
    let ordered = c.args.ordered.now in
    let latest = c.args.latest.now in
    let place = c.loop-place.place in
    let before = c.loop-place.moments.items in
    let inv = c.loop-place.invariant in
    let many = c.requires.as_many in
    let within = c.loop-place-test.true in
    let moment = c.next_moment-moment.result in
    let pushed : c.push.new.self.items ≡ before ++ moment ∷ [] = c.in_ok-push.ensures.items in
    let next : place + 1 ≡ suc place = omega arith in
    let a : Op = get_or ordered place past_end in
    let tick : ℕ = min (earliest_start a) (get_or latest place 0) in
    let own : IsOwnTick ordered place tick = record {
      op = a;
      stands = slice_get-get_or ordered place past_end within;
      latest = get_or latest place 0;
      latest_is = c.requires.each place (get_or latest place 0) (slice_get-get_or latest place 0 (omega arith));
      lesser = refl;
    } in
    let is : IsMoment ordered place moment = moment_more ordered place c.loop-place.moment tick moment inv.before own c.next_moment-moment.ensures in
    record {
      many = ap length pushed ∙ length_push before moment ∙ ap (λ (n : ℕ). n + 1) inv.many;
      before = rw next (greatest_from_moment ordered place moment is);
      each = λ at tick stands. elim (stood_or_last before moment at tick (rw pushed at stands)) [
        | inl stood ↦ inv.each at tick stood
        | inr last ↦ rw (last.0, inv.many, sym last.1) is
      ];
    }

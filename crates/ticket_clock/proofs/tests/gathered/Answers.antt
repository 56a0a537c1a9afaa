use Rattle.std.proofs.Common.{◌≡◌, ◌*◌, length, arith, ap, length-append}
use Rattle.ticket_clock.proofs.tests.gathered.Goals as goal

pub returns : goal.returns
returns c =
    let a = c.join.ensures.seat in let b = c.join-2.ensures.seat in let d = c.join-3.ensures.seat in let e = c.look-shown.ensures.seat in
    let len : length c.look-shown.new.seat.drawn ≡ 4 * c.args.quarter = rw (e, d, b, a) (simp length-append (omega arith)) in
    let left : c.join-3.new.seat.left ≡ 0 = rw (d, b, a) (omega arith) in
    let same : c.look-shown.new.seat.drawn ≡ c.join-3.new.seat.drawn = ap (λ v. v.drawn) e in
    let all = c.look-shown.ensures.all (omega (arith, ap length same)) in
    (len, rw same all.0, omega (arith, ap length same))

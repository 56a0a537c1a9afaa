use Rattle.std.proofs.Common.{ℕ, ◌+◌, ◌*◌, ◌<◌, ◌≤◌, ◌^◌, arith, lit<}
use Rattle.std.proofs.Math.Nat.{pow-le-pow_right}
use Rattle.audit_words.proofs.number.number_of.Goals as goal

-- a number of fewer than 20 digits, and one digit more
one_digit_more : (i n : ℕ) → i < 20 → n < 10 ^ i → 10 * n + 10 ≤ 10 ^ 20
one_digit_more i n short small =
    let i_short : i ≤ 19 = omega arith in
    let most : 10 ^ i ≤ 10 ^ 19 = pow-le-pow_right (lit< tt) i_short in
    omega (arith, most)

pub overflow_mul-number : goal.overflow_mul-number
overflow_mul-number c = omega (arith, one_digit_more c.loop-byte.byte-index c.loop-byte.number (omega arith) c.loop-byte.invariant.small)

pub overflow_add-number : goal.overflow_add-number
overflow_add-number c =
    let digit = c.if-not-is_ascii_digit.ensures.bound in
    omega (arith, digit, one_digit_more c.loop-byte.byte-index c.loop-byte.number (omega arith) c.loop-byte.invariant.small)

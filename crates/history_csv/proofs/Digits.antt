-- Digits, one more at a time.
use Rattle.std.proofs.Common.{ℕ, ◌+◌, ◌*◌, ◌<◌, ◌≤◌, ◌^◌, arith, lit<}
use Rattle.std.proofs.Math.Nat.{pow-le-pow_right}

-- a number of fewer than 19 digits, and one digit more, fit 64 bits
pub one_digit_more : (i n : ℕ) → i < 19 → n < 10 ^ i → 10 * n + 10 ≤ 10 ^ 19
one_digit_more i n short small =
    let i_short : i ≤ 18 = omega arith in
    let most : 10 ^ i ≤ 10 ^ 18 = pow-le-pow_right (lit< tt) i_short in
    omega (arith, most)

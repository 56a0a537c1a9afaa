use Rattle.std.proofs.Common.{arith}
use Rattle.history_csv.proofs.Digits.{one_digit_more}
use Rattle.history_csv.proofs.entry.number.Goals as goal

pub overflow_mul-number : goal.overflow_mul-number
overflow_mul-number c = omega (arith, one_digit_more c.loop-byte.byte-index c.loop-byte.number (omega arith) c.loop-byte.invariant.small)

pub overflow_add-number : goal.overflow_add-number
overflow_add-number c =
    let digit = c.if-not-is_ascii_digit.ensures.bound in
    omega (arith, digit, one_digit_more c.loop-byte.byte-index c.loop-byte.number (omega arith) c.loop-byte.invariant.small)

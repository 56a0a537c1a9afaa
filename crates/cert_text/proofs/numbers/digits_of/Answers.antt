use Rattle.std.proofs.Common.{◌≡◌, ◌<◌, ◌-◌, true, get_or, length, arith, rules}
use Rattle.std.specs.Char.{is_ascii_digit}
use Rattle.std.specs.Int.{IsInRange}
use Rattle.cert_text.proofs.Numerals.{few_digits, digits_more, one_digit_more}
use Rattle.cert_text.proofs.numbers.digits_of.Goals as goal

pub overflow_mul-number : goal.overflow_mul-number
overflow_mul-number c = omega (arith, c.loop-byte.invariant.number, few_digits c.args.word.now c.loop-byte.byte-index (omega arith) (omega arith) c.loop-byte.invariant.digits)

pub overflow_add-number : goal.overflow_add-number
overflow_add-number c =
    let digit = c.if-not-is_ascii_digit.ensures.bound in
    omega (arith, digit, c.loop-byte.invariant.number, few_digits c.args.word.now c.loop-byte.byte-index (omega arith) (omega arith) c.loop-byte.invariant.digits)

pub loop-byte-preserved : goal.loop-byte-preserved
loop-byte-preserved c =
    let within : c.loop-byte.byte-index < length c.args.word.now = omega arith in
    let digit : IsInRange 48 57 (get_or c.args.word.now c.loop-byte.byte-index 0) = search rules in
    let is : is_ascii_digit (get_or c.args.word.now c.loop-byte.byte-index 0) ≡ true = search rules in
    let value : c.from.result ≡ get_or c.args.word.now c.loop-byte.byte-index 0 - 48 = search rules in
    record {
      number = rw value (one_digit_more c.args.word.now c.loop-byte.byte-index c.loop-byte.number within digit c.loop-byte.invariant.number);
      digits = digits_more c.args.word.now c.loop-byte.byte-index within c.loop-byte.invariant.digits is;
      short = c.loop-byte.invariant.short;
    }

-- Numbers and their one text.
use Rattle.std.proofs.Common.{◌≡◌, ◌<◌, ◌≤◌, ◌^◌, ◌==◌, ◌+◌, ◌-◌, ◌*◌, ℕ, Bool, true, false, ◌&&◌, not, List, [], ◌∷◌, length, take, get_or, Some, None, Result, Err, refl, sym, ◌∙◌, ap, arith, rules, cond, nat_le, true≢false, subst, lit<, zero, suc, eq-eqb}
use Rattle.std.specs.List.{list_all}
use Rattle.std.specs.Char.{is_ascii_digit}
use Rattle.std.specs.Fmt.{decimal}
use Rattle.std.specs.Str.{IsUtf8}
use Rattle.std.specs.Str.Parse.{digits_value, ParsesUnsigned}
use Rattle.std.proofs.lemmas.Bool.Decides.{nat_tests}
use Rattle.std.proofs.lemmas.Bool.{leb-true, le-leb}
use Rattle.std.specs.Result.{OkIff}
use Rattle.std.proofs.lemmas.Str.{IsUtf8-from_ascii}
use Rattle.std.proofs.lemmas.Str.Parse.{IsNumeralModel, numerals_by_value, parse_digits, digits_value_short}
use Rattle.std.specs.Int.{IsInRange}
use Rattle.std.proofs.lemmas.Str.{digit_value_digit}
use Rattle.std.proofs.lemmas.Int.Digits.{digits_value_more}
use Rattle.std.proofs.lemmas.List.{length-take-le}
use Rattle.std.proofs.lemmas.List.Folds.{list_all_more}
use Rattle.std.proofs.lemmas.Fmt.{first_decimal, decimal-digits_value, digits_decimal, digits_value-decimal, IsAscii-from_digits, decimal_digit}
use Rattle.cert_text.specs.Numbers.{begins_well, is_numeral, number_of}

pub own : IsNumeralModel (λ ds. list_all is_ascii_digit ds ≡ true) (digits_value 10)
own = numerals_by_value _ (search rules)

pub both : (a b : Bool) → (a && b) ≡ true → (a ≡ true) × (b ≡ true)
both true b e = (refl, e)
both false b e = absurd (true≢false (sym e))

-- a numeral is a text
pub numeral_is_text : (word : List ℕ) → is_numeral word ≡ true → IsUtf8 word
numeral_is_text word e = IsUtf8-from_ascii word (IsAscii-from_digits word (own.to word (both _ _ e).1))

-- what begins well isn't empty
begins-some : (word : List ℕ) → begins_well word ≡ true → 0 < length word
begins-some [] e = absurd (true≢false (sym e))
begins-some (d ∷ ds) e = omega arith

-- a numeral that isn't read as 64 bits is greater than any of them
pub refused_numeral : {E : Type 0} (word : List ℕ) (most : ℕ) (r : Result ℕ E) (e : E) → most < 2 ^ 64 → is_numeral word ≡ true → ParsesUnsigned 64 10 word r → r ≡ Err e
    → number_of most word ≡ None
refused_numeral word most r e fits is parses err = go (nat_le (digits_value 10 word) most) refl
  where
    some : 0 < length word
    some = begins-some word (both (begins_well word) (list_all is_ascii_digit word) is).0

    none : ¬ ((0 < length word) × (digits_value 10 word < 2 ^ 64))
    none = subst (λ x. OkIff x ((0 < length word) × (digits_value 10 word < 2 ^ 64)) (digits_value 10 word)) err (parse_digits own 64 word r parses (both (begins_well word) (list_all is_ascii_digit word) is).1)

    go : (b : Bool) → nat_le (digits_value 10 word) most ≡ b → number_of most word ≡ None
    go true t = absurd (none (some, omega (arith, leb-true _ _ t)))
    go false t = rw (is, t) refl

-- the number of fewer than 19 digits
pub few_digits : (word : List ℕ) (i : ℕ) → i < length word → i < 19 → list_all is_ascii_digit (take i word) ≡ true → digits_value 10 (take i word) < 10 ^ 18
few_digits word i within few digits =
    let size : length (take i word) ≡ i = length-take-le i word (omega arith) in
    digits_value_short own (take i word) 18 digits (omega (arith, size))

-- one digit more, behind digits
pub digits_more : (word : List ℕ) (i : ℕ) → i < length word → list_all is_ascii_digit (take i word) ≡ true → is_ascii_digit (get_or word i 0) ≡ true
    → list_all is_ascii_digit (take (i + 1) word) ≡ true
digits_more word i within digits digit = list_all_more is_ascii_digit word i 0 within ∙ ap (λ b. b && is_ascii_digit (get_or word i 0)) digits ∙ digit

-- the number of one digit more
pub one_digit_more : (word : List ℕ) (i n : ℕ) → i < length word → IsInRange 48 57 (get_or word i 0) → n ≡ digits_value 10 (take i word)
    → 10 * n + (get_or word i 0 - 48) ≡ digits_value 10 (take (i + 1) word)
one_digit_more word i n within digit is =
    let value = digit_value_digit (get_or word i 0) digit in
    omega (arith, value, is, digits_value_more 10 word i within)

above_48 : (d : ℕ) → 48 < d → (d == 48) ≡ false
above_48 d h = grind (arith, nat_tests)

-- a text whose first byte isn't a zero begins well
begins-not_zero : (word : List ℕ) → 48 < get_or word 0 0 → begins_well word ≡ true
begins-not_zero [] h = absurd (omega arith)
begins-not_zero (d ∷ []) h = refl
begins-not_zero (d ∷ e ∷ ds) h =
    let apart : 48 < d = h in
    ap not (above_48 d apart)

-- what `decimal` writes begins well
decimal-begins : (n : ℕ) → n < 2 ^ 64 → begins_well (decimal n) ≡ true
decimal-begins zero fits = ap begins_well (decimal_digit 0 (lit< tt))
decimal-begins (suc n) fits = begins-not_zero (decimal (suc n)) (first_decimal (suc n) (omega arith) fits)

-- a number's text reads as it
pub number_of-decimal : (most n : ℕ) → n ≤ most → most < 2 ^ 64 → number_of most (decimal n) ≡ Some n
number_of-decimal most n small fits =
    let fits_n : n < 2 ^ 64 = omega arith in
    let begins = decimal-begins n fits_n in
    let digits : list_all is_ascii_digit (decimal n) ≡ true = digits_decimal own n fits_n in
    let value : digits_value 10 (decimal n) ≡ n = digits_value-decimal own n fits_n in
    rw (begins, digits, value, le-leb n most small) refl

-- a text that begins well has a first zero only where it is alone
lone_zero : (word : List ℕ) → begins_well word ≡ true → get_or word 0 0 ≡ 48 → length word ≡ 1
lone_zero [] e z = absurd (true≢false (sym e))
lone_zero (d ∷ []) e z = refl
lone_zero (d ∷ f ∷ ds) e z = absurd (true≢false (sym e ∙ ap not (eq-eqb d 48 z)))

-- what reads as a number is its text
pub decimal-number_of : (most n : ℕ) (word : List ℕ) → most < 2 ^ 64 → number_of most word ≡ Some n → (word ≡ decimal n) × (n ≤ most)
decimal-number_of most n word fits e = go (is_numeral word) (nat_le (digits_value 10 word) most) refl refl e
  where
    go : (a b : Bool) → is_numeral word ≡ a → nat_le (digits_value 10 word) most ≡ b → cond (a && b) (Some (digits_value 10 word)) None ≡ Some n → (word ≡ decimal n) × (n ≤ most)
    go true true is le some =
        let parts = both (begins_well word) (list_all is_ascii_digit word) is in
        let v_is : digits_value 10 word ≡ n = cc in
        let small = leb-true _ _ le in
        let fits_v : digits_value 10 word < 2 ^ 64 = omega (arith, small) in
        (sym (decimal-digits_value own word parts.1 (begins-some word parts.0) (lone_zero word parts.0) fits_v) ∙ ap decimal v_is, omega (arith, small, v_is))
    go true false is le some = absurd (cc)
    go false b is le some = absurd (cc)

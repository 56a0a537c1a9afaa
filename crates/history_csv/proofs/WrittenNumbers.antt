-- What the texts of numbers read as.
use Rattle.std.proofs.Common.{◌≡◌, ℕ, zero, suc, ◌+◌, ◌-◌, ◌*◌, ◌^◌, ◌<◌, ◌≤◌, List, [], ◌∷◌, length, Some, true, option_map, refl, ◌∙◌, ap, arith, rules, nat_le}
use Rattle.std.specs.Prelude.{fold}
use Rattle.std.specs.Fmt.{decimal}
use Rattle.std.specs.List.{list_all}
use Rattle.std.proofs.lemmas.Bool.{le-leb, ne_eqb}
use Rattle.std.proofs.lemmas.Fmt.{decimal_nonempty, digits_decimal, digits_value-decimal, length-decimal-le}
use Rattle.std.proofs.lemmas.Str.Parse.{IsNumeralModel, numerals_by_fold}
use Rattle.stale_model.specs.declared.Kind.{Kind}
use Rattle.stale_model.specs.declared.Kind.TheVariants.{Read, Write}
use Rattle.history_csv.specs.Entries.{client_of, finish_after, finish_of, greatest_tick, is_digit, key_of, kind_of, number_from_digits, number_of, number_within, text_of, tick_of, value_of}
use Rattle.stale_model.specs.Texts.{key_text, op_text, value_text}

-- the number that digits say after those of another
abbrev number_after : ℕ → List ℕ → ℕ
number_after number digits = fold (λ number digit. 10 * number + (digit - 48)) number digits

own : IsNumeralModel (λ ds. list_all is_digit ds ≡ true) (number_after 0)
own = numerals_by_fold _ (search rules) number_after (search rules)

-- a number reads as itself
number_of-decimal : (most n : ℕ) → n < 2 ^ 64 → length (decimal n) ≤ most → number_of most (decimal n) ≡ Some n
number_of-decimal most n fits short =
    let digits : list_all is_digit (decimal n) ≡ true = digits_decimal own n fits in
    let value : number_from_digits (decimal n) ≡ n = digits_value-decimal own n fits in
    let nonempty = decimal_nonempty n fits in
    let some : nat_le 1 (length (decimal n)) ≡ true = le-leb 1 (length (decimal n)) (omega arith) in
    let few : nat_le (length (decimal n)) most ≡ true = le-leb (length (decimal n)) most short in
    rw (some, few, digits, value) refl

within-bounds : (least most n : ℕ) → least ≤ n → n ≤ most → number_within least most (Some n) ≡ Some n
within-bounds least most n low high = rw (le-leb least n low, le-leb n most high) refl

-- a client
pub client_of-decimal : (n : ℕ) → n < 2 ^ 32 → client_of (decimal n) ≡ Some n
client_of-decimal n small =
    let fits : n < 2 ^ 64 = omega arith in
    let short = length-decimal-le 10 n (omega arith) (omega arith) fits in
    ap (number_within 0 4294967295) (number_of-decimal 10 n fits short) ∙ within-bounds 0 4294967295 n (omega arith) (omega arith)

-- a tick
pub tick_of-decimal : (n : ℕ) → 1 ≤ n → n ≤ greatest_tick → tick_of (decimal n) ≡ Some n
tick_of-decimal n low high =
    let fits : n < 2 ^ 64 = omega arith in
    let short = length-decimal-le 19 n (omega arith) (omega arith) fits in
    ap (number_within 1 greatest_tick) (number_of-decimal 19 n fits short) ∙ within-bounds 1 greatest_tick n low high

finish_of-some : (text : List ℕ) → 0 < length text → finish_of text ≡ option_map Some (tick_of text)
finish_of-some [] some = absurd (omega arith)
finish_of-some (b ∷ text) some = refl

-- a finish
pub finish_of-decimal : (n : ℕ) → 1 ≤ n → n ≤ greatest_tick → finish_of (decimal n) ≡ Some (Some n)
finish_of-decimal n low high = finish_of-some (decimal n) (decimal_nonempty n (omega arith)) ∙ ap (option_map Some) (tick_of-decimal n low high)

pub finish_after-start : (start finish : ℕ) → start ≤ finish → finish_after start (Some finish) ≡ Some (Some finish)
finish_after-start start finish order = rw (le-leb start finish order) refl

-- the word of a kind
pub kind_of-text : (kind : Kind) → kind_of (op_text kind) ≡ Some kind
kind_of-text Read = refl
kind_of-text Write = refl

text_of-within : (least most : ℕ) (text : List ℕ) → least ≤ length text → length text ≤ most → text_of least most text ≡ Some text
text_of-within least most text low high = rw (le-leb least (length text) low, le-leb (length text) most high) refl

length-name : (letter n : ℕ) → n < 2 ^ 32 → (1 ≤ length (letter ∷ decimal n)) × (length (letter ∷ decimal n) ≤ 11)
length-name letter n small =
    let short = length-decimal-le 10 n (omega arith) (omega arith) (omega arith) in
    (omega arith, omega arith)

-- the name of a key
pub key_of-text : (n : ℕ) → n < 2 ^ 32 → key_of (key_text n) ≡ Some (key_text n)
key_of-text n small =
    let (some, short) = length-name 107 n small in
    text_of-within 1 256 (key_text n) some (omega arith)

pub value_text-some : (n : ℕ) → 1 ≤ n → value_text n ≡ 118 ∷ decimal n
value_text-some n some = rw (ne_eqb n 0 (λ none. omega arith)) refl

-- a value
pub value_of-text : (kind : Kind) (n : ℕ) → n < 2 ^ 32 → (kind ≡ Write → 1 ≤ n) → value_of kind (value_text n) ≡ Some (value_text n)
value_of-text Write n small filled =
    let (some, short) = length-name 118 n small in
    rw (value_text-some n (filled refl)) (text_of-within 1 256 (118 ∷ decimal n) some (omega arith))
value_of-text Read zero small filled = refl
value_of-text Read (suc n) small filled =
    let (some, short) = length-name 118 (suc n) small in
    rw (value_text-some (suc n) (omega arith)) (text_of-within 0 256 (118 ∷ decimal (suc n)) (omega arith) (omega arith))

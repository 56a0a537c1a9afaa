-- Numbers in a text: decimal digits without a leading zero.
use Rattle.std.specs.Prelude.{ℕ, ◌==◌, ◌&&◌, not, nat_le, true, false, Bool, if◌then◌else◌, List, [], ◌∷◌, Option, Some, None, option_and_then, option_map}
use Rattle.std.specs.List.{list_all}
use Rattle.std.specs.Char.{is_ascii_digit}
use Rattle.std.specs.Str.Parse.{digits_value}

-- the greatest number of a record or of a key
abbrev pub most_record : ℕ
most_record = 4294967295

-- the greatest delta
abbrev pub most_delta : ℕ
most_delta = 18446744073709551615

-- whether there is a first digit, and it is a zero only where it is alone
abbrev pub begins_well : List ℕ → Bool
begins_well [] = false
begins_well (digit ∷ []) = true
begins_well (digit ∷ next ∷ rest) = not (digit == 48)

-- whether a word is digits without a leading zero
abbrev pub is_numeral : List ℕ → Bool
is_numeral word = begins_well word && list_all is_ascii_digit word

-- the number that a word is, where it is at most `most`
abbrev pub number_of : ℕ → List ℕ → Option ℕ
number_of most word =
    if is_numeral word && nat_le (digits_value 10 word) most then Some (digits_value 10 word) else None

-- the numbers that words are
abbrev pub numbers_of : ℕ → List (List ℕ) → Option (List ℕ)
numbers_of most [] = Some []
numbers_of most (word ∷ words) =
    option_and_then (λ n. option_map (λ ns. n ∷ ns) (numbers_of most words)) (number_of most word)

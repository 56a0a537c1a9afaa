-- The last line of a measure: how many keys there are, how many have the number 0, and the greatest number.
use Rattle.std.specs.Prelude.{ℕ, ◌==◌, max, Bool, false, List, ◌++◌, codes, length, count_by, fold, Option, Some, None}
use Rattle.std.specs.Fmt.{decimal}

-- whether a key's number is there and 0
abbrev pub is_zero : Option ℕ → Bool
is_zero None = false
is_zero (Some number) = number == 0

-- the greater of a key's number, if it has one, and of the greatest of the others
abbrev pub greater : Option ℕ → Option ℕ → Option ℕ
greater None greatest = greatest
greater (Some number) None = Some number
greater (Some number) (Some other) = Some (max number other)

-- the greatest of the keys' numbers, if there are any
abbrev pub greatest_of : List (Option ℕ) → Option ℕ
greatest_of numbers = fold (λ greatest number. greater number greatest) None numbers

-- a number, or that there is none
abbrev pub number_text : Option ℕ → List ℕ
number_text None = codes "none"
number_text (Some number) = decimal number

-- the last line, for the number of each key, if it has one
abbrev pub totals_line : List (Option ℕ) → List ℕ
totals_line numbers =
    codes "total keys " ++ decimal (length numbers)
    ++ codes " zero " ++ decimal (count_by is_zero numbers)
    ++ codes " worst " ++ number_text (greatest_of numbers) ++ codes "\n"

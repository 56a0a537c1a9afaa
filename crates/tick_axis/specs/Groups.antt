-- Numbers in groups of three digits.
use Rattle.std.specs.Prelude.{ℕ, ◌%◌, ◌==◌, ◌&&◌, nat_lt, if◌then◌else◌, List, [], ◌∷◌, ◌++◌, length, codes}
use Rattle.std.specs.Fmt.{decimal}

-- the blank that stands before so many last digits: there is one where they are whole groups
abbrev pub blank_before : ℕ → List ℕ
blank_before count = if nat_lt 0 count && (count % 3 == 0) then codes " " else []

-- digits in groups of three from the right, with a blank between
abbrev pub in_groups : List ℕ → List ℕ
in_groups [] = []
in_groups (digit ∷ digits) = digit ∷ (blank_before (length digits) ++ in_groups digits)

-- a number's decimal digits in groups of three
abbrev pub grouped : ℕ → List ℕ
grouped number = in_groups (decimal number)

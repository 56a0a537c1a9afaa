-- The numbers that words say.
use Rattle.std.specs.Prelude.{ℕ, ◌*◌, ◌+◌, ◌-◌, ◌&&◌, nat_le, Bool, if◌then◌else◌, length, fold, Option, Some, None, option_and_then}
use Rattle.std.specs.List.{list_all}
use Rattle.clap.specs.Words.{Text}

-- whether a byte is one of `0` to `9`
abbrev pub is_digit : ℕ → Bool
is_digit byte = nat_le 48 byte && nat_le byte 57

-- the number that digits say
abbrev pub decimal : Text → ℕ
decimal digits = fold (λ number digit. 10 * number + (digit - 48)) 0 digits

-- whether a text is 1 to 20 digits
abbrev pub is_number : Text → Bool
is_number text = nat_le 1 (length text) && nat_le (length text) 20 && list_all is_digit text

-- the number of a text of 1 to 20 digits
abbrev pub number_of : Text → Option ℕ
number_of text = if is_number text then Some (decimal text) else None

-- a number from least to most
abbrev pub within : ℕ → ℕ → ℕ → Option ℕ
within least most number = if nat_le least number && nat_le number most then Some number else None

-- the number of a text, if it is from least to most
abbrev pub number_within : ℕ → ℕ → Text → Option ℕ
number_within least most text = option_and_then (within least most) (number_of text)

-- the number of an option: this default where it is not given, and else from least to most
abbrev pub number_or : ℕ → ℕ → ℕ → Option Text → Option ℕ
number_or default least most None = Some default
number_or default least most (Some text) = number_within least most text

-- the number of workers: 1 where the words say none, and else 1 to 64
abbrev pub workers_of : Option Text → Option ℕ
workers_of = number_or 1 1 64

-- The words of a text, and the lines that they are.
use Rattle.std.specs.Prelude.{ℕ, ◌+◌, ◌-◌, ◌==◌, ◌&&◌, nat_le, false, Bool, if◌then◌else◌, List, [], ◌∷◌, length, take, drop, slice_get, Option, Some, None, Result, Ok, Err, codes}
use Rattle.std.specs.List.{slice_split}
use Rattle.std.specs.Str.{bytes_eq}
use Rattle.stale_model.specs.declared.End.TheVariants.{Hard, Soft}
use Rattle.cert_text.specs.declared.CertFault.{CertFault}
use Rattle.cert_text.specs.declared.CertFault.TheVariants as fault
use Rattle.cert_text.specs.declared.lines.CertLine.{CertLine}
use Rattle.cert_text.specs.declared.lines.CertLine.TheVariants as form
use Rattle.cert_text.specs.declared.lines.Keyword.{Keyword}
use Rattle.cert_text.specs.declared.lines.Keyword.TheVariants as word
use Rattle.cert_text.specs.Numbers.{most_record, most_delta, number_of, numbers_of}

-- what stands between the line feeds of a text; the last is not a line, but what stands after the last line
abbrev pub lines_of : List ℕ → List (List ℕ)
lines_of text = slice_split (λ b. b == 10) text

-- the words of a line, between single blanks
abbrev pub words_of : List ℕ → List (List ℕ)
words_of line = slice_split (λ b. b == 32) line

-- the words of the rest of a line, each of which stands after a blank
abbrev pub words_after : List ℕ → List (List ℕ)
words_after [] = []
words_after (blank ∷ text) = words_of text

-- whether a text has no byte
abbrev pub is_empty : List ℕ → Bool
is_empty text = length text == 0

-- the keyword that a word is
abbrev pub keyword_of : List ℕ → Option Keyword
keyword_of w =
    if bytes_eq w (codes "stale-cert") then Some word.StaleCert
    else if bytes_eq w (codes "key") then Some word.Key
    else if bytes_eq w (codes "duplicate") then Some word.Duplicate
    else if bytes_eq w (codes "unmatched") then Some word.Unmatched
    else if bytes_eq w (codes "infinite") then Some word.Infinite
    else if bytes_eq w (codes "delta") then Some word.Delta
    else if bytes_eq w (codes "order") then Some word.Order
    else if bytes_eq w (codes "pair") then Some word.Pair
    else if bytes_eq w (codes "two") then Some word.Two
    else if bytes_eq w (codes "stuck") then Some word.Stuck
    else if bytes_eq w (codes "try") then Some word.Try
    else if bytes_eq w (codes "end") then Some word.End
    else None

-- what follows from the value, or the fault that stands in its place
abbrev pub then_next : {X Y : Type 0} → Result X CertFault → (X → Result Y CertFault) → Result Y CertFault
then_next (Ok x) next = next x
then_next (Err f) next = Err f

-- the number or the numbers, or the fault `Number` of this line where there are none
abbrev pub or_number : {X : Type 0} → ℕ → Option X → Result X CertFault
or_number n (Some x) = Ok x
or_number n None = Err (fault.Number n)

-- the only word, if there is one and no other
abbrev pub only_word : List (List ℕ) → Option (List ℕ)
only_word (w ∷ []) = Some w
only_word _ = None

-- whether there is a word, and it is this one
abbrev pub is_word : List ℕ → Option (List ℕ) → Bool
is_word text None = false
is_word text (Some w) = bytes_eq w text

-- the number that a word is; it is the line that is at fault where there is no word
abbrev pub number_in : ℕ → ℕ → Option (List ℕ) → Result ℕ CertFault
number_in n most None = Err (fault.Line n)
number_in n most (Some w) = or_number n (number_of most w)

-- the number that the only word is
abbrev pub one_number : ℕ → ℕ → List (List ℕ) → Result ℕ CertFault
one_number n most ws = number_in n most (only_word ws)

-- the records that words are
abbrev pub records_of : ℕ → List (List ℕ) → Result (List ℕ) CertFault
records_of n ws = or_number n (numbers_of most_record ws)

-- a pair of four records
abbrev pub four_of : ℕ → List ℕ → Result CertLine CertFault
four_of n (p ∷ q ∷ q2 ∷ p2 ∷ []) = Ok (form.Pair (record { p = p; q = q; q2 = q2; p2 = p2 }))
four_of n _ = Err (fault.Line n)

-- the pair that words are: there are four of them
abbrev pub pair_of : ℕ → List (List ℕ) → Result CertLine CertFault
pair_of n ws = if length ws == 4 then then_next (records_of n ws) (four_of n) else Err (fault.Line n)

-- whether the key is 2-atomic, as the only word says
abbrev pub two_of : ℕ → List (List ℕ) → Result CertLine CertFault
two_of n ws =
    if is_word (codes "yes") (only_word ws) then Ok form.TwoYes
    else if is_word (codes "no") (only_word ws) then Ok form.TwoNo
    else Err (fault.Line n)

-- a try with the two records of a hard end
abbrev pub hard_of : ℕ → List ℕ → List ℕ → Result CertLine CertFault
hard_of n chain (p ∷ u ∷ []) = Ok (form.Try (record { chain = chain; end = Hard p u }))
hard_of n chain _ = Err (fault.Line n)

-- a try with the three records of a soft end
abbrev pub soft_of : ℕ → List ℕ → List ℕ → Result CertLine CertFault
soft_of n chain (p ∷ q ∷ q2 ∷ []) = Ok (form.Try (record { chain = chain; end = Soft p q q2 }))
soft_of n chain _ = Err (fault.Line n)

-- a try whose chain is the first so many words, and whose end stands after the word that follows them
abbrev pub try_at : ℕ → ℕ → (List ℕ → List ℕ → Result CertLine CertFault) → List (List ℕ) → Result CertLine CertFault
try_at n count with_end ws =
    then_next (records_of n (take count ws)) (λ chain. then_next (records_of n (drop (count + 1) ws)) (with_end chain))

-- a try: its third word from the end is `hard`, or else its fourth from the end is `soft`, and a record stands before
abbrev pub try_of : ℕ → List (List ℕ) → Result CertLine CertFault
try_of n ws =
    if nat_le 4 (length ws) && is_word (codes "hard") (slice_get ws (length ws - 3)) then try_at n (length ws - 3) (hard_of n) ws
    else if nat_le 5 (length ws) && is_word (codes "soft") (slice_get ws (length ws - 4)) then try_at n (length ws - 4) (soft_of n) ws
    else Err (fault.Line n)

-- the line that a keyword and the words after it are; n is the line's number, for its fault
abbrev pub line_of : ℕ → Keyword → List (List ℕ) → Result CertLine CertFault
line_of n word.StaleCert ws = if is_word (codes "1") (only_word ws) then Ok form.Header else Err (fault.Line n)
line_of n word.Key ws = then_next (one_number n most_record ws) (λ key. Ok (form.Key key))
line_of n word.Duplicate ws = then_next (one_number n most_record ws) (λ rec. Ok (form.Duplicate rec))
line_of n word.Unmatched ws = then_next (one_number n most_record ws) (λ rec. Ok (form.Unmatched rec))
line_of n word.Infinite ws = then_next (one_number n most_record ws) (λ rec. Ok (form.Infinite rec))
line_of n word.Delta ws = then_next (one_number n most_delta ws) (λ delta. Ok (form.Delta delta))
line_of n word.Order ws = then_next (records_of n ws) (λ order. Ok (form.Order order))
line_of n word.Pair ws = pair_of n ws
line_of n word.Two ws = two_of n ws
line_of n word.Stuck ws = then_next (records_of n ws) (λ stuck. Ok (form.Stuck stuck))
line_of n word.Try ws = try_of n ws
line_of n word.End [] = Ok form.End
line_of n word.End _ = Err (fault.Line n)

-- What a text is as a certificate, or its first fault.
use Rattle.std.specs.Prelude.{ℕ, ◌+◌, ◌&&◌, ◌||◌, true, false, Bool, if◌then◌else◌, List, [], ◌∷◌, Option, Some, None, Result, Ok, Err}
use Rattle.std.specs.List.{list_any}
use Rattle.stale_model.specs.declared.Verdict.{Verdict}
use Rattle.cert_text.specs.declared.CertFault.{CertFault}
use Rattle.cert_text.specs.declared.CertFault.TheVariants as fault
use Rattle.cert_text.specs.declared.lines.Keyword.{Keyword}
use Rattle.cert_text.specs.declared.parts.State.{State}
use Rattle.cert_text.specs.declared.parts.State.TheVariants as state
use Rattle.cert_text.specs.declared.parts.Reading.{Reading}
use Rattle.cert_text.specs.Words.{lines_of, words_of, is_empty, keyword_of, then_next, line_of}
use Rattle.cert_text.specs.Parts.{may_stand, advance}

-- the reading after a line that begins with this keyword
abbrev pub step_by : ℕ → ℕ → Reading → List (List ℕ) → Option Keyword → Result Reading CertFault
step_by keys n r rest None = Err (fault.Line n)
step_by keys n r rest (Some word) =
    if may_stand r.state word then then_next (line_of n word rest) (advance keys n r) else Err (fault.Line n)

-- the reading after the line of this number, of these words: the form of a line is looked at before its numbers,
-- and these before the order of keys
abbrev pub step : ℕ → ℕ → Reading → List (List ℕ) → Result Reading CertFault
step keys n r [] = Err (fault.Line n)
step keys n r (first ∷ rest) =
    if is_empty first || list_any is_empty rest then Err (fault.Line n) else step_by keys n r rest (keyword_of first)

-- whether the line `end` was read
abbrev pub is_ended : State → Bool
is_ended state.Ended = true
is_ended _ = false

-- what comes of what stands after the last line: nothing may stand there, and the end was read
abbrev pub at_end : ℕ → Reading → List ℕ → Result (List Verdict) CertFault
at_end n r rest = if is_ended r.state && is_empty rest then Ok r.verdicts else Err (fault.Line n)

-- what comes of the lines from this number on
unfoldable pub read_from : ℕ → ℕ → Reading → List (List ℕ) → Result (List Verdict) CertFault
read_from keys n r [] = Err (fault.Line n)
read_from keys n r (rest ∷ []) = at_end n r rest
read_from keys n r (text ∷ next ∷ texts) =
    then_next (step keys n r (words_of text)) (λ s. read_from keys (n + 1) s (next ∷ texts))

-- the verdicts of so many keys that a text is, or its first fault
unfoldable pub read_of : ℕ → List ℕ → Result (List Verdict) CertFault
read_of keys text = read_from keys 1 (record { state = state.Start; verdicts = [] }) (lines_of text)

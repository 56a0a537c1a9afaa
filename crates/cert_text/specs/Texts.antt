-- How a line is written.
use Rattle.std.specs.Prelude.{ℕ, List, [], ◌∷◌, ◌++◌, codes, map}
use Rattle.std.specs.List.{join_with_byte}
use Rattle.std.specs.Fmt.{decimal}
use Rattle.stale_model.specs.declared.End.{End}
use Rattle.stale_model.specs.declared.End.TheVariants.{Hard, Soft}
use Rattle.cert_text.specs.declared.lines.CertLine.{CertLine}
use Rattle.cert_text.specs.declared.lines.CertLine.TheVariants as form

-- numbers, each after a blank
abbrev pub numbers_text : List ℕ → List ℕ
numbers_text [] = []
numbers_text (n ∷ ns) = codes " " ++ decimal n ++ numbers_text ns

-- the words of the end of a try
abbrev pub end_words : End → List (List ℕ)
end_words (Hard p u) = codes "hard" ∷ map decimal (p ∷ u ∷ [])
end_words (Soft p q q2) = codes "soft" ∷ map decimal (p ∷ q ∷ q2 ∷ [])

-- the words of a line
abbrev pub line_words : CertLine → List (List ℕ)
line_words form.Header = codes "stale-cert" ∷ codes "1" ∷ []
line_words (form.Key key) = codes "key" ∷ map decimal (key ∷ [])
line_words (form.Duplicate rec) = codes "duplicate" ∷ map decimal (rec ∷ [])
line_words (form.Unmatched rec) = codes "unmatched" ∷ map decimal (rec ∷ [])
line_words (form.Infinite rec) = codes "infinite" ∷ map decimal (rec ∷ [])
line_words (form.Delta delta) = codes "delta" ∷ map decimal (delta ∷ [])
line_words (form.Order order) = codes "order" ∷ map decimal order
line_words (form.Pair four) = codes "pair" ∷ map decimal (four.p ∷ four.q ∷ four.q2 ∷ four.p2 ∷ [])
line_words form.TwoYes = codes "two" ∷ codes "yes" ∷ []
line_words form.TwoNo = codes "two" ∷ codes "no" ∷ []
line_words (form.Stuck stuck) = codes "stuck" ∷ map decimal stuck
line_words (form.Try attempt) = codes "try" ∷ (map decimal attempt.chain ++ end_words attempt.end)
line_words form.End = codes "end" ∷ []

-- a line is its words, with one blank between
abbrev pub line_text : CertLine → List ℕ
line_text l = join_with_byte 32 (line_words l)

-- lines, each ended by a line feed
abbrev pub lines_text : List CertLine → List ℕ
lines_text [] = []
lines_text (l ∷ ls) = line_text l ++ codes "\n" ++ lines_text ls

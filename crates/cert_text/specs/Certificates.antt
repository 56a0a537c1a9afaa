-- The lines of a certificate, and its text.
use Rattle.std.specs.Prelude.{ℕ, ◌+◌, nat_lt, Bool, true, List, [], ◌∷◌, ◌++◌, length, map, Option, Some, None}
use Rattle.std.specs.List.{list_all}
use Rattle.stale_model.specs.declared.Four.{Four}
use Rattle.stale_model.specs.declared.Refutation.{Refutation}
use Rattle.stale_model.specs.declared.Try.{Try}
use Rattle.stale_model.specs.declared.TwoPart.{TwoPart}
use Rattle.stale_model.specs.declared.TwoPart.TheVariants.{Yes, No}
use Rattle.stale_model.specs.declared.Verdict.{Verdict}
use Rattle.stale_model.specs.declared.Verdict.TheVariants as verdict
use Rattle.cert_text.specs.declared.lines.CertLine.{CertLine}
use Rattle.cert_text.specs.declared.lines.CertLine.TheVariants as form
use Rattle.cert_text.specs.Texts.{lines_text}

-- whether a try has a chain that is not empty
abbrev pub has_chain : Try → Bool
has_chain attempt = nat_lt 0 (length attempt.chain)

-- whether each try of a part has a chain
abbrev pub two_has_chains : TwoPart → Bool
two_has_chains (Yes order) = true
two_has_chains (No refutation) = list_all has_chain refutation.tries

-- whether each try of a verdict has a chain
abbrev pub has_chains : Verdict → Bool
has_chains (verdict.Judged judgement) = two_has_chains judgement.two
has_chains _ = true

-- the pair that excludes a lesser delta, where there is one
abbrev pub pair_lines : Option Four → List CertLine
pair_lines None = []
pair_lines (Some four) = form.Pair four ∷ []

-- the lines of a refutation: the clusters that are stuck, and a try for each
abbrev pub refutation_lines : Refutation → List CertLine
refutation_lines refutation = form.Stuck refutation.stuck ∷ map form.Try refutation.tries

-- whether the key is 2-atomic, and what shows it
abbrev pub two_lines : TwoPart → List CertLine
two_lines (Yes order) = form.TwoYes ∷ form.Order order ∷ []
two_lines (No refutation) = form.TwoNo ∷ refutation_lines refutation

-- the lines of a verdict
abbrev pub verdict_lines : Verdict → List CertLine
verdict_lines (verdict.Duplicate rec) = form.Duplicate rec ∷ []
verdict_lines (verdict.Unmatched rec) = form.Unmatched rec ∷ []
verdict_lines (verdict.Infinite rec) = form.Infinite rec ∷ []
verdict_lines (verdict.Judged judgement) =
    form.Delta judgement.delta ∷ form.Order judgement.order ∷ (pair_lines judgement.four ++ two_lines judgement.two)

-- the parts of the keys from this number on
abbrev pub parts_lines : ℕ → List Verdict → List CertLine
parts_lines key [] = []
parts_lines key (v ∷ vs) = form.Key key ∷ (verdict_lines v ++ parts_lines (key + 1) vs)

-- the lines of a certificate: a header, a part for each key, and an end
abbrev pub cert_lines : List Verdict → List CertLine
cert_lines verdicts = form.Header ∷ (parts_lines 1 verdicts ++ form.End ∷ [])

-- the text of a certificate
unfoldable pub cert_text : List Verdict → List ℕ
cert_text verdicts = lines_text (cert_lines verdicts)

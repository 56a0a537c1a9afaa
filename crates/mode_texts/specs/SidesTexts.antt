-- What `sides` writes: the least number of ticks by which both ends of a key's operations have to be moved, what shows it, and an order there.
use Rattle.std.specs.Prelude.{◌≡◌, ℕ, List, [], ◌∷◌, ◌++◌, codes, map, Option, Some, None}
use Rattle.std.specs.Fmt.{decimal}
use Rattle.stale_model.specs.declared.Op.{Op}
use Rattle.stale_model.specs.declared.KeyOps.{KeyOps}
use Rattle.stale_model.specs.declared.History.{History}
use Rattle.stale_model.specs.declared.Cluster.{Cluster}
use Rattle.stale_model.specs.Faults.{IsDuplicateKey, IsUnmatchedKey, IsMatchedKey}
use Rattle.stale_model.specs.Clusters.{AreClusters}
use Rattle.stale_model.specs.Truth.{EachKeyHas}
use Rattle.both_sides.specs.declared.least.Shown.{Shown}
use Rattle.both_sides.specs.declared.least.Shown.TheVariants.{Nothing, Early, Pair}
use Rattle.both_sides.specs.declared.least.Sides.{Sides}
use Rattle.both_sides.specs.LeastSides.{AreSides}
use Rattle.cert_text.specs.declared.lines.CertLine.{CertLine}
use Rattle.cert_text.specs.declared.lines.CertLine.TheVariants as form
use Rattle.cert_text.specs.Texts.{numbers_text}
use Rattle.mode_texts.specs.declared.sides.SidesVerdict.{SidesVerdict}
use Rattle.mode_texts.specs.declared.sides.SidesVerdict.TheVariants.{Duplicate, Unmatched, Least}
use Rattle.mode_texts.specs.Totals.{totals_line}
use Rattle.mode_texts.specs.Measures.{key_text, keys_text}

-- g is the least at which the key has a side order, and what shows it, of the key's own clusters
pub record IsLeastOf (ops : List Op) (sides : Sides) : Type 0 where
  pub matched : IsMatchedKey ops
  pub clusters : List Cluster
  pub are : AreClusters ops clusters
  pub sides_are : AreSides ops clusters sides

-- what is said of a key is true
abbrev pub IsSidesVerdict : List Op → SidesVerdict → Type 0
IsSidesVerdict ops (Duplicate rec) = IsDuplicateKey ops rec
IsSidesVerdict ops (Unmatched rec) = IsUnmatchedKey ops rec
IsSidesVerdict ops (Least sides) = IsLeastOf ops sides

-- what shows that nothing less will do
abbrev pub shown_text : Shown → List ℕ
shown_text Nothing = []
shown_text (Early rec) = codes " early " ++ decimal rec
shown_text (Pair four) = codes " pair" ++ numbers_text (four.p ∷ four.q ∷ four.q2 ∷ four.p2 ∷ [])

-- the end of a key's first line
abbrev pub verdict_text : SidesVerdict → List ℕ
verdict_text (Duplicate rec) = codes "duplicate " ++ decimal rec
verdict_text (Unmatched rec) = codes "unmatched " ++ decimal rec
verdict_text (Least sides) = codes "sides " ++ decimal sides.g ++ shown_text sides.shown

-- the line of the order, as a certificate has it
abbrev pub order_lines : SidesVerdict → List CertLine
order_lines (Least sides) = form.Order sides.order ∷ []
order_lines _ = []

-- the lines of a key
abbrev pub sides_key_text : KeyOps → SidesVerdict → List ℕ
sides_key_text key verdict = key_text key (verdict_text verdict) (order_lines verdict)

-- the number of a key, if it has one
abbrev pub g_of : SidesVerdict → Option ℕ
g_of (Least sides) = Some sides.g
g_of _ = None

-- what is written for these verdicts
abbrev pub sides_text : List KeyOps → List SidesVerdict → List ℕ
sides_text keys verdicts = keys_text sides_key_text keys verdicts ++ totals_line (map g_of verdicts)

-- the text is what `sides` writes of the history, and all that it says is true
pub record IsSidesText (history : History) (text : List ℕ) : Type 0 where
  pub verdicts : List SidesVerdict
  pub true_of : EachKeyHas IsSidesVerdict history.keys verdicts
  pub text_is : text ≡ sides_text history.keys verdicts

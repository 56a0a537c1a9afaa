-- What `two` writes: the least Δ for 2-atomicity of each key, an order there, and why there is none just below.
use Rattle.std.specs.Prelude.{◌≡◌, ℕ, List, [], ◌∷◌, ◌++◌, codes, map, Option, Some, None}
use Rattle.std.specs.Fmt.{decimal}
use Rattle.stale_model.specs.declared.Op.{Op}
use Rattle.stale_model.specs.declared.KeyOps.{KeyOps}
use Rattle.stale_model.specs.declared.History.{History}
use Rattle.stale_model.specs.declared.Cluster.{Cluster}
use Rattle.stale_model.specs.declared.Refutation.{Refutation}
use Rattle.stale_model.specs.Faults.{IsDuplicateKey, IsUnmatchedKey, IsClearKey}
use Rattle.stale_model.specs.LeastDelta.{IsLeastDelta}
use Rattle.stale_model.specs.Clusters.{AreClusters}
use Rattle.stale_model.specs.OperationOrders.{IsOperationOrder}
use Rattle.stale_model.specs.Truth.{IsNeverAtomic, EachKeyHas}
use Rattle.two_delta.specs.LeastTwos.{ShowsLeastTwo, IsPrintedLeast}
use Rattle.cert_text.specs.declared.lines.CertLine.{CertLine}
use Rattle.cert_text.specs.declared.lines.CertLine.TheVariants as form
use Rattle.cert_text.specs.Certificates.{refutation_lines}
use Rattle.mode_texts.specs.declared.two.LeastDelta.{LeastDelta}
use Rattle.mode_texts.specs.declared.two.TwoVerdict.{TwoVerdict}
use Rattle.mode_texts.specs.declared.two.TwoVerdict.TheVariants.{Duplicate, Unmatched, Infinite, Least}
use Rattle.mode_texts.specs.Totals.{totals_line}
use Rattle.mode_texts.specs.Measures.{key_text, keys_text}

-- which order and refutation are printed: those of the listing at the least Δ, and of the answer just below
pub record IsPrinted (ops : List Op) (least : LeastDelta) : Type 0 where
  pub clusters : List Cluster
  pub are : AreClusters ops clusters
  pub listing : List ℕ
  pub found : IsPrintedLeast clusters (record { delta = least.delta; listing = listing; refutation = least.refutation })
  pub operation_order : IsOperationOrder ops least.delta 2 listing least.order

-- delta is the least at which the key is 2-atomic, and what shows it
pub record IsLeastOf (ops : List Op) (least : LeastDelta) : Type 0 where
  pub clear : IsClearKey ops
  pub delta : IsLeastDelta ops 2 least.delta
  pub shown : ShowsLeastTwo ops least.delta least.order least.refutation
  pub printed : IsPrinted ops least

-- what is said of a key is true
abbrev pub IsTwoVerdict : List Op → TwoVerdict → Type 0
IsTwoVerdict ops (Duplicate rec) = IsDuplicateKey ops rec
IsTwoVerdict ops (Unmatched rec) = IsUnmatchedKey ops rec
IsTwoVerdict ops (Infinite rec) = IsNeverAtomic ops rec
IsTwoVerdict ops (Least least) = IsLeastOf ops least

-- the end of a key's first line
abbrev pub verdict_text : TwoVerdict → List ℕ
verdict_text (Duplicate rec) = codes "duplicate " ++ decimal rec
verdict_text (Unmatched rec) = codes "unmatched " ++ decimal rec
verdict_text (Infinite rec) = codes "infinite " ++ decimal rec
verdict_text (Least least) = codes "two " ++ decimal least.delta

-- the lines of the refutation just below, where there is one
abbrev pub below_lines : Option Refutation → List CertLine
below_lines None = []
below_lines (Some refutation) = refutation_lines refutation

-- the lines that show what is said, as a certificate has them
abbrev pub shown_lines : TwoVerdict → List CertLine
shown_lines (Least least) = form.Order least.order ∷ below_lines least.refutation
shown_lines _ = []

-- the lines of a key
abbrev pub two_key_text : KeyOps → TwoVerdict → List ℕ
two_key_text key verdict = key_text key (verdict_text verdict) (shown_lines verdict)

-- the number of a key, if it has one
abbrev pub delta_of : TwoVerdict → Option ℕ
delta_of (Least least) = Some least.delta
delta_of _ = None

-- what is written for these verdicts
abbrev pub two_text : List KeyOps → List TwoVerdict → List ℕ
two_text keys verdicts = keys_text two_key_text keys verdicts ++ totals_line (map delta_of verdicts)

-- the text is what `two` writes of the history, and all that it says is true
pub record IsTwoText (history : History) (text : List ℕ) : Type 0 where
  pub verdicts : List TwoVerdict
  pub true_of : EachKeyHas IsTwoVerdict history.keys verdicts
  pub text_is : text ≡ two_text history.keys verdicts

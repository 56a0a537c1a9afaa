-- What every measure writes: the lines of each key.
use Rattle.std.specs.Prelude.{ℕ, List, [], ◌∷◌, ◌++◌, codes}
use Rattle.stale_model.specs.declared.KeyOps.{KeyOps}
use Rattle.cert_text.specs.declared.lines.CertLine.{CertLine}
use Rattle.cert_text.specs.Texts.{lines_text}
use Rattle.staleness_report.specs.Escaped.{escaped}

-- the lines of a key: its name and what is said of it, and the lines that show it, as a certificate has them
abbrev pub key_text : KeyOps → List ℕ → List CertLine → List ℕ
key_text key said shown = codes "key " ++ escaped key.name ++ codes " " ++ said ++ codes "\n" ++ lines_text shown

-- the lines of all keys, in their order, by those of a key and its verdict
abbrev pub keys_text : {V : Type 0} → (KeyOps → V → List ℕ) → List KeyOps → List V → List ℕ
keys_text text [] verdicts = []
keys_text text (key ∷ keys) [] = []
keys_text text (key ∷ keys) (verdict ∷ verdicts) = text key verdict ++ keys_text text keys verdicts

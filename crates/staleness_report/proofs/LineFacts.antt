-- The lines of the keys from one place on.
use Rattle.std.proofs.Common.{◌≡◌, ℕ, ◌+◌, ◌<◌, List, ◌++◌, length, get_or, drop, refl, add-one, drop-cons}
use Rattle.stale_model.specs.declared.KeyOps.{KeyOps}
use Rattle.stale_model.specs.declared.Verdict.{Verdict}
use Rattle.staleness_report.specs.Report.{key_line, key_lines}

pub key_lines-drop : (keys : List KeyOps) (verdicts : List Verdict) (i : ℕ) (key : KeyOps) (verdict : Verdict) → i < length keys → i < length verdicts
    → key ≡ get_or keys i key → verdict ≡ get_or verdicts i verdict
    → key_lines (drop i keys) (drop i verdicts) ≡ key_line key verdict ++ key_lines (drop (i + 1) keys) (drop (i + 1) verdicts)
key_lines-drop keys verdicts i key verdict within_keys within_verdicts key_is verdict_is =
    rw (drop-cons keys i key within_keys, drop-cons verdicts i verdict within_verdicts, add-one, ← key_is, ← verdict_is) refl

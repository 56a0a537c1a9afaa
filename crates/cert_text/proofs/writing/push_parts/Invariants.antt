use Rattle.std.proofs.Common.{◌≡◌, ◌+◌, ◌++◌, drop}
use Rattle.std.specs.String.{string_bytes}
use Rattle.cert_text.specs.Texts.{lines_text}
use Rattle.cert_text.specs.Certificates.{parts_lines}
use Rattle.cert_text.proofs.writing.push_parts.Given as goal

abbrev pub invariant-loop-place : goal.invariant-loop-place
invariant-loop-place l = string_bytes l.text ++ lines_text (parts_lines (l.place + 1) (drop l.place l.verdicts)) ≡ string_bytes l.fn.text ++ lines_text (parts_lines 1 l.fn.verdicts)

use Rattle.std.proofs.Common.{◌≡◌, ◌++◌, map, drop}
use Rattle.std.specs.String.{string_bytes}
use Rattle.cert_text.specs.declared.lines.CertLine.TheVariants as form
use Rattle.cert_text.specs.Texts.{lines_text}
use Rattle.cert_text.proofs.writing.push_tries.Given as goal

abbrev pub invariant-loop-attempt : goal.invariant-loop-attempt
invariant-loop-attempt l = string_bytes l.text ++ lines_text (map form.Try (drop l.attempt-index l.tries)) ≡ string_bytes l.fn.text ++ lines_text (map form.Try l.fn.tries)

use Rattle.std.proofs.Common.{rules}
use Rattle.std.specs.String.{string_bytes}
use Rattle.cert_text.proofs.WrittenLines.{parts_behind}
use Rattle.cert_text.proofs.writing.push_parts.Goals as goal

pub loop-place-preserved : goal.loop-place-preserved
loop-place-preserved c =
    parts_behind (string_bytes c.loop-place.text) c.args.verdicts.now c.loop-place.place c.index-verdicts-place.result _ _ _ (search rules) (search rules)
    c.in_ok-push_number.ensures c.in_ok-push_verdict.ensures c.loop-place.invariant

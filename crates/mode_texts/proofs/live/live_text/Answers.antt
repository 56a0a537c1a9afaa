use Rattle.std.proofs.Common.{rules, arith, ◌≡◌, ◌++◌}
use Rattle.std.specs.String.{string_bytes}
use Rattle.mode_texts.specs.LiveTexts.{lines_line}
use Rattle.mode_texts.proofs.LiveLines.{whole_text}
use Rattle.mode_texts.proofs.live.live_text.Goals as goal

pub returns-in-Ok : goal.returns-in-Ok
returns-in-Ok c =
    let lines = c.in_ok-text.field-0 in
    let is : c.from_vec.result ≡ string_bytes lines.text ++ lines_line lines.count = first_of (search rules, cc (c.in-Ok.ensures, c.into_bytes.ensures.value), grind arith) in
    whole_text c.args.history.now (string_bytes lines.text) c.from_vec.result lines.count (rw c.as_slice.ensures at c.in_ok-text.ensures) is

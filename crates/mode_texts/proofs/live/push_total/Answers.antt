use Rattle.std.specs.Prelude.{codes}
use Rattle.std.specs.Fmt.{decimal}
use Rattle.std.specs.String.{string_bytes}
use Rattle.mode_texts.proofs.LiveLines.{three_pushed}
use Rattle.mode_texts.proofs.live.push_total.Goals as goal

pub returns : goal.returns
returns c =
    three_pushed (string_bytes c.args.text.now) (codes "total lines ") (decimal c.args.lines) (codes "\n") (string_bytes c.push_count.new.text) (string_bytes c.push_str.new.self)
    c.in_ok-push_count.ensures c.in_ok-push_str.ensures.bytes

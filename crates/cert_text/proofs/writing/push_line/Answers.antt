use Rattle.std.specs.String.{string_bytes}
use Rattle.cert_text.proofs.WrittenLines.{numbers_behind}
use Rattle.cert_text.proofs.writing.push_line.Goals as goal

pub returns : goal.returns
returns c = numbers_behind (string_bytes c.args.text.now) c.args.word.now c.args.numbers.now _ _ _ c.in_ok-push_str.ensures.bytes c.in_ok-push_numbers.ensures c.in_ok-push_str-2.ensures.bytes

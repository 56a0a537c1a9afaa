use Rattle.std.proofs.Common.{ℕ, List, ◌++◌, ◌∙◌, ap}
use Rattle.std.specs.String.{string_bytes}
use Rattle.cert_text.specs.Texts.{numbers_text}
use Rattle.cert_text.proofs.WrittenLines.{try_behind}
use Rattle.cert_text.proofs.writing.push_try.Goals as goal

pub returns : goal.returns
returns c =
    let chain = c.in_ok-push_numbers.ensures ∙ ap (λ (ns : List ℕ). string_bytes c.push_str.new.self ++ numbers_text ns) c.as_slice.ensures in
    try_behind (string_bytes c.args.text.now) c.args.attempt.now _ _ _ _ _ c.in_ok-push_str.ensures.bytes chain c.in_ok-push_str-2.ensures.bytes c.in_ok-push_end.ensures c.in_ok-push_str-3.ensures.bytes

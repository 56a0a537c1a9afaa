use Rattle.std.proofs.Common.{ℕ, List, ◌∷◌, ◌++◌, ◌∙◌, ap, map, codes}
use Rattle.std.specs.Fmt.{decimal}
use Rattle.std.specs.List.{join_with_byte}
use Rattle.std.specs.String.{string_bytes}
use Rattle.cert_text.proofs.WrittenLines.{judged_behind}
use Rattle.cert_text.proofs.writing.push_judgement.Goals as goal

pub returns : goal.returns
returns c =
    let order = c.in_ok-push_line.ensures ∙ ap (λ (ns : List ℕ). string_bytes c.push_number.new.text ++ join_with_byte 32 (codes "order" ∷ map decimal ns) ++ codes "\n") c.as_slice.ensures in
    judged_behind (string_bytes c.args.text.now) c.args.judgement.now _ _ _ _ c.in_ok-push_number.ensures order c.in_ok-push_pair.ensures c.in_ok-push_two.ensures

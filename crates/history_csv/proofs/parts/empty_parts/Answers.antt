use Rattle.std.proofs.Common.{◌≡◌, [], replicate, sym, ap, ◌∙◌, arith}
use Rattle.history_csv.specs.Parting.{part_count}
use Rattle.history_csv.proofs.PartsFacts.{parts-none}
use Rattle.history_csv.proofs.parts.empty_parts.Goals as goal

pub returns : goal.returns
unfolding part_count
returns c =
    let all : c.loop-part._part ≡ part_count = omega arith in
    c.loop-part.invariant ∙ ap (λ n. replicate n []) all ∙ sym parts-none

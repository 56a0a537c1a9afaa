use Rattle.std.proofs.Common.{◌≡◌, ◌==◌, take, ap, arith}
use Rattle.std.specs.List.{count_by}
use Rattle.std.proofs.lemmas.List.{take_all}
use Rattle.std.proofs.lemmas.List.Splits.{length-slice_split}
use Rattle.cert_text.proofs.words.count_parts.Goals as goal

pub returns : goal.returns
returns c =
    let all : take c.loop-byte.byte-index c.args.words.now ≡ c.args.words.now = take_all c.loop-byte.byte-index c.args.words.now (omega arith) in
    omega (arith, c.loop-byte.invariant.counted, ap (count_by (λ b. b == 32)) all, length-slice_split (λ b. b == 32) c.args.words.now)

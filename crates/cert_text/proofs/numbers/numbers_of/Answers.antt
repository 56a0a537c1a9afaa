use Rattle.std.proofs.Common.{◌≡◌, ◌++◌, ◌∷◌, [], rules, sym}
use Rattle.cert_text.proofs.NumberSteps.{number-more}
use Rattle.cert_text.proofs.numbers.numbers_of.Goals as goal

pub loop-left-preserved : goal.loop-left-preserved
loop-left-preserved c =
    let more : c.push.new.self.items ≡ c.loop-left.numbers.items ++ c.in-Some-number_of.number ∷ [] = search rules in
    rw more (number-more c.loop-left.numbers.items c.loop-left.left c.in-Some-number_of.number _ _ _ _ (search rules) c.in-Some.ensures.some (sym c.in-Some-number_of.ensures) c.loop-left.invariant)

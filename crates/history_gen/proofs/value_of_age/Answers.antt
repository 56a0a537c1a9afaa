use Rattle.std.proofs.Common.{◌≡◌, ℕ, ◌-◌, length, min, get_or, ap, arith, ◌∙◌}
use Rattle.history_gen.proofs.LastWrites.{get_or-last}
use Rattle.history_gen.proofs.value_of_age.Goals as goal

pub returns : goal.returns
returns c = λ values are.
    let oldest = c.oldest.ensures.place values are in
    let place : c.min.result ≡ min c.args.age (length values - 1) = let e = c.min.ensures in omega arith in
    get_or-last values c.args.last c.min.result are (let e = c.min.ensures in omega arith) ∙ ap (λ (j : ℕ). get_or values j 0) place

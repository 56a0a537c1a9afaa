-- A log that has taken nothing.
use Rattle.std.proofs.Common.{refl, ap, sym, ◌∙◌, arith}
use Rattle.key_recorder.proofs.Taking.{first_is_log}
use Rattle.key_recorder.proofs.prepare.first_log.Goals as goal

pub invariant_of-result : goal.invariant_of-result
invariant_of-result c =
    first_is_log _ c.args.taker refl (ap (λ t. t.taken) c.requires.taker) (ap (λ t. t.box) c.requires.taker ∙ sym c.requires.whole.0) c.requires.whole.0 c.requires.numbers
    c.in-Ok.ensures.items (let room = c.requires.room in let more = c.in-Ok.ensures.capacity in omega arith) c.in_ok-ended.ensures

use Rattle.std.proofs.Common.{arith, ap, sym, ◌∙◌, ◌≡◌, ◌+◌, ◌*◌, ◌<◌, ℕ, List, length}
use Rattle.stale_model.specs.declared.KeyOps.{KeyOps}
use Rattle.stale_model.specs.Truth.{IsTrueOf}
use Rattle.stale_model.specs.Shown.{IsShown}
use Rattle.audit_workers.proofs.Truth.{each_has, verdicts_are_true, verdicts_are_shown}
use Rattle.audit_workers.proofs.Filling.{all_filled}
use Rattle.audit_workers.proofs.workers.judge_all.Goals as goal

pub returns-clause-printed : goal.returns-clause-printed
returns-clause-printed g c =
    let gathered = c.in_ok-gather.ensures in
    let keys = c.args.history.now.keys in
    let as_many : length c.in_ok-done.done.items ≡ c.useful-workers.result = c.in_ok-done.ensures.many ∙ c.in_ok-seats.ensures.seats.1 in
    let some_call : 0 < length c.in_ok-done.done.items = omega (arith, as_many, c.useful-workers.ensures.0) in
    let full = gathered.left ∙ ap (λ (n : ℕ). n * (length keys + 1)) as_many
    ∙ sym (c.in_ok-clock.ensures.0 ∙ ap (λ (ks : List KeyOps). c.useful-workers.result * (length ks + 1)) c.as_slice.ensures) in
    rw c.from_vec.ensures (all_filled keys _ c.gather.new.whole.drawn c.gather.new.verdicts.items some_call (c.look.ensures.all full).0 gathered.gathered)

pub returns-clause-truth : goal.returns-clause-truth
returns-clause-truth g c = each_has IsTrueOf verdicts_are_true c.args.history.now.keys c.from_vec.result c.requires.valid.keys (returns-clause-printed g c)

pub returns-clause-shown : goal.returns-clause-shown
returns-clause-shown g c = each_has IsShown verdicts_are_shown c.args.history.now.keys c.from_vec.result c.requires.valid.keys (returns-clause-printed g c)

-- The sender of one shard more goes back.
use Rattle.std.proofs.Common.{◌≡◌, ℕ, ◌<◌, length, slice_index_or, below_more, ap, sym, ◌∙◌, subst, arith}
use Rattle.std.proofs.lemmas.List.{get_or_default}
use Rattle.key_recorder.specs.Letters.{AreEnded}
use Rattle.key_recorder.specs.Recorders.{LogView, IsSettled, IsTold}
use Rattle.bench_run.specs.Closing.{with_settled}
use Rattle.bench_run.proofs.Settling.{same_from_more, told_from, made_more}
use Rattle.bench_run.proofs.clients.settle_pass.Goals as goal

pub settle-requires-clause-ended : goal.settle-requires-clause-ended
settle-requires-clause-ended g c =
    let i = c.loop-log.log-index in
    let item = c.log-item.result in
    let less : i < length c.args.logs.now = omega arith in
    subst (λ (x : LogView). AreEnded x.clients x.taken) (sym (c.loop-log.invariant.rest i item (omega arith) less)) (c.requires.logs i item less).ended

pub loop-log-preserved : goal.loop-log-preserved
loop-log-preserved g c =
    let i = c.loop-log.log-index in
    let item = c.log-item.result in
    let logs = c.args.logs.now in
    let pass = c.args.pass.now in
    let inv = c.loop-log.invariant in
    let less : i < length logs = omega arith in
    let was : slice_index_or c.loop-log.logs i item ≡ slice_index_or logs i item = inv.rest i item (omega arith) less in
    let shard = (c.requires.logs i item less).shard_is in
    let shard_now : (slice_index_or c.loop-log.logs i item).shard ≡ i = ap (λ (x : LogView). x.shard) was ∙ shard in
    let settled = c.settle.ensures in
    let here : (x : LogView) → IsTold (slice_index_or logs i x) pass =
    λ x.
    told_from i pass c.loop-log.pass (slice_index_or logs i x) (c.requires.logs i x less).shard_is inv.pass (c.requires.pass.lanes i x less)
    (subst (λ (y : LogView). IsTold y c.loop-log.pass) (was ∙ get_or_default logs i item x less) settled.told)
    in
    let places = made_more (with_settled pass.client) logs c.loop-log.logs i c.settle.new.self (slice_index_or c.loop-log.logs i item) (omega arith) less
    (get_or_default c.loop-log.logs i item (slice_index_or c.loop-log.logs i item) (omega arith))
    (settled.log ∙ ap (λ (n : ℕ). with_settled n (slice_index_or c.loop-log.logs i item)) inv.pass.client) inv.done inv.rest in
    record {
      pass = same_from_more i pass c.loop-log.pass c.settle.new.pass inv.pass (subst (λ (n : ℕ). IsSettled n c.loop-log.pass c.settle.new.pass) shard_now settled.pass);
      told = λ k d within. below_more (λ (j : ℕ). (x : LogView) → IsTold (slice_index_or logs j x) pass) i (λ j low x. inv.told j x low) here k within d;
      done = places.0;
      rest = places.1;
    }

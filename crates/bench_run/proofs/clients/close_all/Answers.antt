-- One client more is closed.
use Rattle.std.proofs.Common.{◌≡◌, ℕ, ◌+◌, ◌<◌, List, [], ◌∷◌, ◌++◌, length, slice_index_or, below_more, ap, sym, ◌∙◌, subst, arith}
use Rattle.std.proofs.lemmas.Iterator.Adapters.{YieldsList-from_vec}
use Rattle.std.proofs.lemmas.Iterator.Consumers.{YieldsList-turn, YieldsList-end}
use Rattle.std.proofs.lemmas.List.{get_or_default, length_push}
use Rattle.quorum_client.specs.declared.client.ClientEnd.{ClientEnd}
use Rattle.key_recorder.specs.Recorders.{IsTold}
use Rattle.key_recorder.proofs.Making.{places_more}
use Rattle.bench_run.specs.declared.runner.Runner.{Runner}
use Rattle.bench_run.specs.Closing.{end_of}
use Rattle.bench_run.proofs.Settling.{kept_then, drained_still, told_before}
use Rattle.bench_run.proofs.clients.close_all.Goals as goal

pub close_one-requires-clause-logs : goal.close_one-requires-clause-logs
close_one-requires-clause-logs g c = drained_still c.args.logs.now c.loop-runner.logs c.loop-runner.invariant.kept c.requires.logs

pub loop-runner-preserved : goal.loop-runner-preserved
loop-runner-preserved g c =
    let inv = c.loop-runner.invariant in
    let logs = c.args.logs.now in
    let runners = c.args.runners.items in
    let runner = c.in-Some.runner in
    let done = length c.loop-runner.yielded in
    let began = c.into_iter-runner-iterator.ensures.into_iter_gives in
    let turn = YieldsList-turn (YieldsList-from_vec {s = c.into_iter-runner-iterator.result} runners began.0 (began.1 ∙ c.args.runners.ok.0)) c.loop-runner.yielded c.loop-runner.runner-iterator c.loop-runner.yielded_by c.next.result c.next.new.self runner c.in-Some.is c.next.ensures.steps in
    let one_more : length (c.loop-runner.yielded ++ runner ∷ []) ≡ done + 1 = length_push c.loop-runner.yielded runner in
    let here : (r : Runner) → runner ≡ slice_index_or runners done r = λ r. turn.1 ∙ get_or_default runners done runner r turn.0 in
    let put = c.push_reserved.ensures in
    let long : length c.loop-runner.ends.items ≡ done = sym c.loop-runner.ends.ok.0 ∙ inv.many in
    let IsEnd : ℕ → ClientEnd → Type 0 = λ j e. (r : Runner) → e ≡ end_of (slice_index_or runners j r).client in
    record {
      many = put.len ∙ (ap (λ (n : ℕ). n + 1) inv.many ∙ sym one_more);
      room = omega (arith, inv.room, put.capacity);
      kept = kept_then logs c.loop-runner.logs c.close_one.new.logs inv.kept c.close_one.ensures.logs;
      ends = λ j r e less.
          subst (λ (xs : List ClientEnd). slice_index_or xs j e ≡ end_of (slice_index_or runners j r).client) (sym put.items)
          (places_more IsEnd c.loop-runner.ends.items c.close_one.result done long (λ k d below x. inv.ends k x d below)
          (λ x. c.close_one.ensures.end ∙ ap (λ (y : Runner). end_of y.client) (here x)) j e (subst (λ (n : ℕ). j < n) one_more less) r);
      told = λ j k r d less within.
          let many = inv.kept.as_many in
          below_more (λ (i : ℕ). (x : Runner) → IsTold (slice_index_or logs k d) (slice_index_or runners i x).pass) done (λ i below x. inv.told i k x d below within)
          (λ x. subst (λ (y : Runner). IsTold (slice_index_or logs k d) y.pass) (here x)
          (told_before logs c.loop-runner.logs runner.pass inv.kept k d within (c.close_one.ensures.told k d (omega arith)))) j (subst (λ (n : ℕ). j < n) one_more less) r;
    }

pub returns-clause-told : goal.returns-clause-told
returns-clause-told g c = λ j k r d less within.
    let runners = c.args.runners.items in
    let began = c.into_iter-runner-iterator.ensures.into_iter_gives in
    let all = YieldsList-end (YieldsList-from_vec {s = c.into_iter-runner-iterator.result} runners began.0 (began.1 ∙ c.args.runners.ok.0)) c.loop-runner.yielded c.loop-runner.runner-iterator c.loop-runner.yielded_by c.next.result c.next.new.self c.in-None.is c.next.ensures.steps in
    let long : length c.loop-runner.yielded ≡ length runners = all.1 in
    let many = c.args.runners.ok.0 in
    c.loop-runner.invariant.told j k r d (omega arith) within

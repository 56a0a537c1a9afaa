-- A request that was admitted: what its reply needs.
use Rattle.std.proofs.Common.{arith, ◌≡◌, length, sym, ◌∙◌, ap}
use Rattle.stale_model.specs.Serving.{answered_to}
use Rattle.bench_run.specs.declared.job.Caller.{Caller}
use Rattle.bench_run.specs.JobSteps.{served_by}
use Rattle.bench_run.proofs.Served.{is_admitted, few_calls}
use Rattle.bench_run.proofs.job.JobParts.serve.Goals as goal

pub send_reply-requires-clause-few : goal.send_reply-requires-clause-few
send_reply-requires-clause-few g c =
    let p = c.args.self.now in
    let q = c.args.request in
    let caller = c.index_mut-then-not-is_repair.result.now in
    let admitted = is_admitted p.settings p.replica.places (served_by p) q c.requires.admitted in
    let few = few_calls p.settings c.requires.ready.limits in
    let below = admitted.calls (sym c.is_repair.ensures ∙ c.if-not-is_repair.true) in
    let answered : caller.answered ≡ length (answered_to q.client (served_by p)) =
    ap (λ (x : Caller). x.answered) c.index_mut-then-not-is_repair.ensures.value ∙ c.requires.ready.answered q.client caller admitted.client
    in
    omega arith

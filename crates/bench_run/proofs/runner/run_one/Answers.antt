-- One more call, and its entry.
use Rattle.bench_run.proofs.ClientRuns.{ready_after, run_push}
use Rattle.bench_run.proofs.runner.run_one.Goals as goal

pub loop-runner-preserved : goal.loop-runner-preserved
loop-runner-preserved g c =
    let s = c.loop-runner.runner in
    let i = c.loop-runner.invariant in
    let clock = c.args.clock.now in
    let recorder = c.args.recorder.now in
    let client = c.call-entry.new.self in
    let entry = c.call-entry.result in
    let called = c.call-entry.ensures.called in
    record {
      ready = ready_after clock recorder s client c.record.new.pass entry i.ready called c.record.ensures;
      so_far = run_push clock recorder s client c.record.new.pass entry i.ready called c.args.runner.now i.so_far c.record.ensures;
    }

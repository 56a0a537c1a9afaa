-- One more job is started, or refused.
use Rattle.std.proofs.Common.{rules}
use Rattle.bench_run.proofs.Started.{next_is, came_more, started_more, stopped_at}
use Rattle.bench_run.proofs.starts.start_all.Goals as goal

pub loop-parts-preserved : goal.loop-parts-preserved
loop-parts-preserved g c =
    let i = c.loop-parts.invariant in
    let all = c.args.replicas.items in
    let done = c.loop-parts.yielded in
    let left = c.next.new.self.rest.items in
    let p = c.in-Some.parts in
    let job = c.new-job.result in
    let next = next_is all done c.loop-parts.parts-iterator.rest.items left p job c.args.replicas.len (search rules) c.requires.numbers i.came c.in-Some.ensures.steps.0 c.new-job.ensures in
    record {
      came = came_more all done left p job next;
      started = started_more all done left p job next c.args.crew.now c.loop-parts.crew c.start.new.self i.started c.in-Ok.ensures.ok;
    }

pub returns-in-Err-clause-stopped : goal.returns-in-Err-clause-stopped
returns-in-Err-clause-stopped g c =
    let i = c.loop-parts.invariant in
    let all = c.args.replicas.items in
    let done = c.loop-parts.yielded in
    let left = c.next.new.self.rest.items in
    let p = c.in-Some.parts in
    let job = c.new-job.result in
    let next = next_is all done c.loop-parts.parts-iterator.rest.items left p job c.args.replicas.len (search rules) c.requires.numbers i.came c.in-Some.ensures.steps.0 c.new-job.ensures in
    stopped_at all done left p job next c.args.crew.now c.loop-parts.crew c.start.new.self i.started c.mark-replica.result c.mark-replica.ensures c.in-Err.ensures.failed

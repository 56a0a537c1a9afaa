-- One more note, and the end.
use Rattle.std.proofs.Common.{sym, ◌∙◌}
use Rattle.bench_run.specs.JobSteps.{view_of}
use Rattle.bench_run.proofs.Served.{serving_none, serving_request, serving_done, serving_empty, served_out}
use Rattle.bench_run.proofs.job.JobParts.run.Goals as goal

pub loop-init : goal.loop-init
loop-init g c = serving_none c.args.self c.requires.fresh c.requires.can

pub loop-preserved-in-Some-Ask : goal.loop-preserved-in-Some-Ask
loop-preserved-in-Some-Ask g c =
    serving_request (view_of c.args.self) c.loop.self c.take_request.new.self c.take.new.pass c.in-Some-Ask.field-0 c.in-Some-Ask.request
    c.loop.invariant c.in-Some-Ask.ensures.some c.in-Some-Ask.field-0-is c.take_request.ensures.served c.take_request.ensures.dropped

pub returns-then-is_all_done : goal.returns-then-is_all_done
returns-then-is_all_done g c =
    let done = serving_done (view_of c.args.self) c.loop.self c.mark_done.new.self c.take.new.pass c.in-Some-Done.field-0 c.in-Some-Done.client
    c.loop.invariant c.in-Some-Done.ensures.some c.in-Some-Done.field-0-is c.mark_done.ensures in
    served_out (view_of c.args.self) c.mark_done.new.self c.end.result done (sym c.is_all_done.ensures ∙ c.if-is_all_done.true) c.end.ensures

pub loop-preserved-else-is_all_done : goal.loop-preserved-else-is_all_done
loop-preserved-else-is_all_done g c =
    serving_done (view_of c.args.self) c.loop.self c.mark_done.new.self c.take.new.pass c.in-Some-Done.field-0 c.in-Some-Done.client
    c.loop.invariant c.in-Some-Done.ensures.some c.in-Some-Done.field-0-is c.mark_done.ensures

pub loop-preserved : goal.loop-preserved
loop-preserved g c = serving_empty (view_of c.args.self) c.loop.self c.take.new.pass c.loop.invariant c.in-None-take.ensures.none

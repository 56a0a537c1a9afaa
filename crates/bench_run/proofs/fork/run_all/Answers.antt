-- The clients may go to other threads.
use denote.Param.Send.{sendable}
use Rattle.bench_run.proofs.Sent.{runner_send}
use Rattle.bench_run.proofs.fork.run_all.Goals as goal

pub for_each_mut-requires-send-T : goal.for_each_mut-requires-send-T
for_each_mut-requires-send-T g c κs within = let sent = runner_send in search sendable depth 40
